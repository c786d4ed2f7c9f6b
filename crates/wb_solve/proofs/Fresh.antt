-- The assumptions of a descent: their clause is new.
use Rattle.std.proofs.Common.{◌≡◌, ℕ, ◌+◌, ◌<◌, ◌≤◌, ◌⊎◌, inl, inr, Bool, true, false, not, ◌&&◌, nat_le, if◌then◌else◌, eqb, List, [], ◌∷◌, ◌++◌, Some, None, refl, sym, ap, subst, arith, eq-eqb}
use Rattle.std.proofs.lemmas.Bool.Decides.{nat_tests}
use Rattle.wb_gate.specs.declared.gates.Lit.{Lit}
use Rattle.wb_gate.specs.Circuit.{minus, variable}
use Rattle.wb_derive.specs.Clause.{rises_from, rises}
use Rattle.wb_derive.specs.Partial.{Partial, nothing, assume, IsFalse, IsOpen, IsFalsified, Occurs, AreFalseBut, IsUnit}
use Rattle.wb_solve.specs.Descent.{IsStable, IsFirstOpen, Conflict, Values, clause_of, conflicts, propagates, assumes, gives, DescendsInSomeOrder}
use Rattle.wb_solve.specs.Laws.{IsWithin}
use Rattle.wb_solve.specs.Course.{AllBelow, NoneWithin, IsPending}
use Rattle.wb_solve.proofs.Partials.{below_assume, assume_at, false_below}
use Rattle.wb_solve.proofs.Units.{unit_or_false}

below_more : (n : ℕ) (xs : List ℕ) (x : ℕ) → AllBelow n xs → x < n → AllBelow n (xs ++ (x ∷ []))
below_more n [] x all h = (h, tt)
below_more n (y ∷ xs) x all h = (all.0, below_more n xs x all.1 h)

rises_more : (n : ℕ) (xs : List ℕ) (x : ℕ) → rises_from n (clause_of xs) ≡ true → AllBelow x xs → n ≤ x → rises_from n (clause_of (xs ++ (x ∷ []))) ≡ true
rises_more n [] x h all least = grind (arith, nat_tests)
rises_more n (y ∷ xs) x h all least = by (rises_more (y + 1) xs x) (nat_le n y) refl h
  where
    by : (rises_from (y + 1) (clause_of xs) ≡ true → AllBelow x xs → y + 1 ≤ x → rises_from (y + 1) (clause_of (xs ++ (x ∷ []))) ≡ true) → (b : Bool) → nat_le n y ≡ b → (b && rises_from (y + 1) (clause_of xs)) ≡ true → (nat_le n y && rises_from (y + 1) (clause_of (xs ++ (x ∷ [])))) ≡ true
    by later true e h = rw e (later h all.1 (omega (arith, all.0)))
    by later false e h = absurd (cc)

falsified_more : (p : Partial) (xs : List ℕ) (x : ℕ) → IsFalsified p (clause_of xs) → p x ≡ Some false → IsFalsified p (clause_of (xs ++ (x ∷ [])))
falsified_more p [] x all h = (h, tt)
falsified_more p (y ∷ xs) x all h = (all.0, falsified_more p xs x all.1 h)

-- a literal of the clause with one more is false, or the new one
false_or_last : (p : Partial) (xs : List ℕ) (x : ℕ) (l : Lit) → IsFalsified p (clause_of xs) → Occurs l (clause_of (xs ++ (x ∷ []))) → (l ≡ variable x) ⊎ IsFalse p l
false_or_last p [] x l all (inl here) = inl (sym here)
false_or_last p [] x l all (inr there) = absurd there
false_or_last p (y ∷ xs) x l all (inl here) = inr (subst (IsFalse p) here all.0)
false_or_last p (y ∷ xs) x l all (inr there) = false_or_last p xs x l all.1 there

false_within : (p : Partial) (xs : List ℕ) (x : ℕ) (known : List Lit) → IsFalsified p (clause_of xs) → IsWithin known (clause_of (xs ++ (x ∷ []))) → AreFalseBut (variable x) p known
false_within p xs x [] all within = tt
false_within p xs x (l ∷ ls) all within =
    (false_or_last p xs x l all (within l (inl refl)), false_within p xs x ls all (λ m o. within m (inr o)))

-- no clause lies within that of the assumptions with one more, which is made where none is falsified or unit
none_within : (clauses : List (List Lit)) (p : Partial) (xs : List ℕ) (x : ℕ) → IsStable clauses p → p x ≡ None → IsFalsified p (clause_of xs) → NoneWithin clauses (clause_of (xs ++ (x ∷ [])))
none_within clauses p xs x stable still all number known at within =
    by (unit_or_false (variable x) p known still (false_within p xs x known all within))
  where
    by : IsUnit p known (variable x) ⊎ IsFalsified p known → ⊥
    by (inl unit) = stable.no_unit (variable x) (number, (known, at, unit))
    by (inr f) = stable.no_falsified (number, known, at, f)

pub open_before : (p : Partial) (l : Lit) (x : ℕ) → assume p l x ≡ None → (eqb x l.var ≡ false) × (p x ≡ None)
open_before p l x e = by (eqb x l.var) refl e
  where
    by : (b : Bool) → eqb x l.var ≡ b → (if b then Some (not l.neg) else p x) ≡ None → (eqb x l.var ≡ false) × (p x ≡ None)
    by true is e = absurd (cc)
    by false is e = (is, e)

pub pending_first : (inputs : ℕ) (clauses : List (List Lit)) → IsPending inputs clauses nothing []
pending_first inputs clauses = record {
  falsified = tt;
  below = tt;
  under = λ x e. tt;
  rises = refl;
  fresh = inl refl;
}

pub pending_unit : (inputs : ℕ) (clauses : List (List Lit)) (p : Partial) (assumed : List ℕ) (l : Lit) → IsOpen p l → IsPending inputs clauses p assumed → IsPending inputs clauses (assume p l) assumed
pending_unit inputs clauses p assumed l still is = record {
  falsified = false_below p (assume p l) (clause_of assumed) (below_assume p l still) is.falsified;
  below = is.below;
  under = λ x e. is.under x ((open_before p l x e).1);
  rises = is.rises;
  fresh = is.fresh;
}

first_less : (n : ℕ) (p : Partial) (y x : ℕ) → IsFirstOpen n p y → p x ≡ None → eqb x y ≡ false → y < x
first_less n p y x first still ne = by (split y x)
  where
    split : (a b : ℕ) → (a < b) ⊎ (a ≡ b) ⊎ (b < a)
    split a b = grind arith

    by : (y < x) ⊎ (y ≡ x) ⊎ (x < y) → y < x
    by (inl less) = less
    by (inr (inl same)) = let e : eqb x y ≡ true = eq-eqb x y (sym same) in absurd (cc)
    by (inr (inr more)) = let has = first.valued x more in absurd (cc)

pub pending_assume : (inputs : ℕ) (clauses : List (List Lit)) (p : Partial) (assumed : List ℕ) (y : ℕ) → IsStable clauses p → IsFirstOpen inputs p y → IsPending inputs clauses p assumed → IsPending inputs clauses (assume p (minus (variable y))) (assumed ++ (y ∷ []))
pending_assume inputs clauses p assumed y stable first is =
    let l = minus (variable y) in
    record {
      falsified = falsified_more (assume p l) assumed y (false_below p (assume p l) (clause_of assumed) (below_assume p l first.still_open) is.falsified) (assume_at p l);
      below = below_more inputs assumed y is.below first.below;
      under = λ x e. let before = open_before p l x e in below_more x assumed y (is.under x before.1) (first_less inputs p y x first before.1 before.0);
      rises = rises_more 0 assumed y is.rises (is.under y first.still_open) (omega arith);
      fresh = inr (none_within clauses p assumed y stable first.still_open is.falsified);
    }

-- what holds of the clause with which a descent ends
pub record IsFresh (inputs : ℕ) (clauses : List (List Lit)) (clause : List Lit) : Type 0 where
  pub assumed : List ℕ
  pub is : clause ≡ clause_of assumed
  pub below : AllBelow inputs assumed
  pub rises : rises clause ≡ true
  pub fresh : (clause ≡ []) ⊎ NoneWithin clauses clause

empty_clause : (assumed : List ℕ) (clauses : List (List Lit)) → (assumed ≡ []) ⊎ NoneWithin clauses (clause_of assumed) → (clause_of assumed ≡ []) ⊎ NoneWithin clauses (clause_of assumed)
empty_clause assumed clauses (inl e) = inl (ap clause_of e)
empty_clause assumed clauses (inr new) = inr new

pub pending_fresh : (inputs : ℕ) (clauses : List (List Lit)) (p : Partial) (assumed : List ℕ) → IsPending inputs clauses p assumed → IsFresh inputs clauses (clause_of assumed)
pending_fresh inputs clauses p assumed is = record {
  assumed = assumed;
  is = refl;
  below = is.below;
  rises = is.rises;
  fresh = empty_clause assumed clauses is.fresh;
}

conflict_one : (clause other : List Lit) → Conflict clause ≡ Conflict other → other ≡ clause
conflict_one clause other e = cc

conflict_values : (clause : List Lit) (p : Partial) → Conflict clause ≡ Values p → ⊥
conflict_values clause p e = cc

pub descent_fresh : (inputs : ℕ) (clauses : List (List Lit)) (clause : List Lit) (p : Partial) (assumed : List ℕ) → DescendsInSomeOrder inputs clauses (Conflict clause) p assumed → IsPending inputs clauses p assumed → IsFresh inputs clauses clause
descent_fresh inputs clauses clause p assumed (conflicts q a found e) is =
    subst (IsFresh inputs clauses) (conflict_one clause (clause_of a) e) (pending_fresh inputs clauses q a is)
descent_fresh inputs clauses clause p assumed (propagates q a l none unit rest) is =
    descent_fresh inputs clauses clause (assume q l) a rest (pending_unit inputs clauses q a l unit.1.2.still_open is)
descent_fresh inputs clauses clause p assumed (assumes q a y stable first rest) is =
    descent_fresh inputs clauses clause (assume q (minus (variable y))) (a ++ (y ∷ [])) rest (pending_assume inputs clauses q a y stable first is)
descent_fresh inputs clauses clause p assumed (gives q a stable all e) is = absurd (conflict_values clause q e)
