-- Propagation ends in one way, in whatever order unit clauses are taken.
use Rattle.std.proofs.Common.{◌≡◌, ◌⊎◌, inl, inr, Bool, true, false, not, List, Option, Some, None, refl, ◌∙◌, ap}
use Rattle.wb_gate.specs.declared.gates.Lit.{Lit}
use Rattle.wb_derive.specs.Partial.{Partial, assume}
use Rattle.wb_solve.specs.Descent.{SomeFalsified, SomeUnit, IsStable, Propagates, rests, goes_on}
use Rattle.wb_solve.specs.Laws.{PropagationIsConfluent}
use Rattle.wb_solve.proofs.Partials.{Below, below_self, below_trans, below_assume, assume_below, false_below, but_below, but_falsified, same_from_below}

two : (a b : Bool) → (a ≡ not b) ⊎ (a ≡ b)
two true true = inr refl
two true false = inl refl
two false true = inl refl
two false false = inr refl

-- below a stable assignment, a literal that a unit clause gives is true in it
pub unit_below : (clauses : List (List Lit)) (p q : Partial) (l : Lit) → Below p q → IsStable clauses q → SomeUnit clauses p l → q l.var ≡ Some (not l.neg)
unit_below clauses p q l h stable unit = by (q l.var) refl
  where
    valued : (b : Bool) → q l.var ≡ Some b → (b ≡ not l.neg) ⊎ (b ≡ l.neg) → q l.var ≡ Some (not l.neg)
    valued b e (inl is) = e ∙ ap (λ (a : Bool). Some a) is
    valued b e (inr is) =
        absurd (stable.no_falsified (unit.0, unit.1.0, unit.1.1, but_falsified l q unit.1.0 (but_below l p q unit.1.0 h unit.1.2.others) (e ∙ ap (λ (a : Bool). Some a) is)))

    by : (o : Option Bool) → q l.var ≡ o → q l.var ≡ Some (not l.neg)
    by None e = absurd (stable.no_unit l (unit.0, (unit.1.0, unit.1.1, record { there = unit.1.2.there; still_open = e; others = but_below l p q unit.1.0 h unit.1.2.others })))
    by (Some b) e = valued b e (two b l.neg)

pub propagates_below : (clauses : List (List Lit)) (p q : Partial) → Propagates clauses p q → Below p q
propagates_below clauses p q (rests r) = below_self r
propagates_below clauses p q (goes_on r s l unit rest) =
    below_trans r (assume r l) s (below_assume r l unit.1.2.still_open) (propagates_below clauses (assume r l) s rest)

-- propagation from below a stable assignment stays below it
pub stays_below : (clauses : List (List Lit)) (q : Partial) → IsStable clauses q → (p r : Partial) → Propagates clauses p r → Below p q → Below r q
stays_below clauses q stable p r (rests s) h = h
stays_below clauses q stable p r (goes_on s t l unit rest) h =
    stays_below clauses q stable (assume s l) t rest (assume_below s q l h (unit_below clauses s q l h stable unit))

pub no_conflict : (clauses : List (List Lit)) (p q r : Partial) → Propagates clauses p q → IsStable clauses q → Propagates clauses p r → SomeFalsified clauses r → ⊥
no_conflict clauses p q r first stable other found =
    stable.no_falsified (found.0, found.1, found.2, false_below r q found.1 (stays_below clauses q stable p r other (propagates_below clauses p q first)) found.3)

pub same_values : (clauses : List (List Lit)) (p q r : Partial) → Propagates clauses p q → IsStable clauses q → Propagates clauses p r → IsStable clauses r → q ≡ r
same_values clauses p q r first stable other also =
    same_from_below q r
    (stays_below clauses r also p q first (propagates_below clauses p r other))
    (stays_below clauses q stable p r other (propagates_below clauses p q first))

pub one_more : (clauses : List (List Lit)) (p q : Partial) (l : Lit) → Propagates clauses p q → SomeUnit clauses q l → Propagates clauses p (assume q l)
one_more clauses p q l (rests r) unit = goes_on r (assume r l) l unit (rests (assume r l))
one_more clauses p q l (goes_on r s m first rest) unit = goes_on r (assume s l) m first (one_more clauses (assume r m) s l rest unit)

pub propagation_is_confluent : PropagationIsConfluent
propagation_is_confluent = record { same_values = same_values; no_conflict = no_conflict }
