-- A descent ends in one way, in whatever order unit clauses are taken.
use Rattle.std.proofs.Common.{◌≡◌, ℕ, ◌<◌, ◌⊎◌, inl, inr, List, [], ◌∷◌, ◌++◌, None, sym, ◌∙◌, ap, subst, arith}
use Rattle.wb_gate.specs.declared.gates.Lit.{Lit}
use Rattle.wb_gate.specs.Circuit.{minus, variable}
use Rattle.wb_derive.specs.Partial.{Partial, assume}
use Rattle.wb_solve.specs.Descent.{SomeFalsified, IsStable, AreValued, IsFirstOpen, Ended, Conflict, Values, clause_of, conflicts, propagates, assumes, gives, Descends, DescendsInSomeOrder, Propagates, rests}
use Rattle.wb_solve.specs.Laws.{OrderIsFree}
use Rattle.wb_solve.proofs.Confluence.{no_conflict, same_values, one_more}

trichotomy : (x y : ℕ) → (x ≡ y) ⊎ (x < y) ⊎ (y < x)
trichotomy x y = grind arith

open_valued : (n : ℕ) (p : Partial) (x : ℕ) → x < n → p x ≡ None → AreValued n p → ⊥
open_valued n p x below still valued = let has = valued x below in cc

first_open_one : (n : ℕ) (p : Partial) (x y : ℕ) → IsFirstOpen n p x → IsFirstOpen n p y → x ≡ y
first_open_one n p x y is also = by (trichotomy x y)
  where
    by : (x ≡ y) ⊎ (x < y) ⊎ (y < x) → x ≡ y
    by (inl same) = same
    by (inr (inl less)) = absurd (open_valued y p x less is.still_open also.valued)
    by (inr (inr more)) = absurd (open_valued x p y more also.still_open is.valued)

module _ (inputs : ℕ) (clauses : List (List Lit)) (end other : Ended) where
  -- what is said of the rest of a descent, and any rest of another one from the same values
  abbrev Alike : Partial → List ℕ → Type 0
  Alike q assumed = (p r : Partial) → Propagates clauses p q → Propagates clauses p r → DescendsInSomeOrder inputs clauses other r assumed → end ≡ other

  conflict_alike : (q : Partial) (assumed : List ℕ) → SomeFalsified clauses q → end ≡ Conflict (clause_of assumed) → Alike q assumed
  conflict_alike q assumed found e p r to_q to_r (conflicts s a also f) = e ∙ sym f
  conflict_alike q assumed found e p r to_q to_r (propagates s a l none unit rest) =
      conflict_alike q assumed found e p (assume s l) to_q (one_more clauses p s l to_r unit) rest
  conflict_alike q assumed found e p r to_q to_r (assumes s a x stable first rest) =
      absurd (no_conflict clauses p s q to_r stable to_q found)
  conflict_alike q assumed found e p r to_q to_r (gives s a stable valued f) =
      absurd (no_conflict clauses p s q to_r stable to_q found)

  assume_alike : (q : Partial) (assumed : List ℕ) (x : ℕ) → IsStable clauses q → IsFirstOpen inputs q x → Alike (assume q (minus (variable x))) (assumed ++ (x ∷ [])) → Alike q assumed
  assume_alike q assumed x stable is later p r to_q to_r (conflicts s a found f) =
      absurd (no_conflict clauses p q s to_q stable to_r found)
  assume_alike q assumed x stable is later p r to_q to_r (propagates s a l none unit rest) =
      assume_alike q assumed x stable is later p (assume s l) to_q (one_more clauses p s l to_r unit) rest
  assume_alike q assumed x stable is later p r to_q to_r (assumes s a y also first rest) =
      let same : s ≡ q = sym (same_values clauses p q s to_q stable to_r also) in
      let open_q : IsFirstOpen inputs q y = subst (λ t. IsFirstOpen inputs t y) same first in
      let one : y ≡ x = first_open_one inputs q y x open_q is in
      let there : DescendsInSomeOrder inputs clauses other (assume q (minus (variable y))) (a ++ (y ∷ [])) = subst (λ t. DescendsInSomeOrder inputs clauses other (assume t (minus (variable y))) (a ++ (y ∷ []))) same rest in
      let here : DescendsInSomeOrder inputs clauses other (assume q (minus (variable x))) (a ++ (x ∷ [])) = subst (λ z. DescendsInSomeOrder inputs clauses other (assume q (minus (variable z))) (a ++ (z ∷ []))) one there in
      later (assume q (minus (variable x))) (assume q (minus (variable x))) (rests (assume q (minus (variable x)))) (rests (assume q (minus (variable x)))) here
  assume_alike q assumed x stable is later p r to_q to_r (gives s a also valued f) =
      let same : s ≡ q = sym (same_values clauses p q s to_q stable to_r also) in
      absurd (open_valued inputs q x is.below is.still_open (subst (AreValued inputs) same valued))

  give_alike : (q : Partial) (assumed : List ℕ) → IsStable clauses q → AreValued inputs q → end ≡ Values q → Alike q assumed
  give_alike q assumed stable all e p r to_q to_r (conflicts s a found f) =
      absurd (no_conflict clauses p q s to_q stable to_r found)
  give_alike q assumed stable all e p r to_q to_r (propagates s a l none unit rest) =
      give_alike q assumed stable all e p (assume s l) to_q (one_more clauses p s l to_r unit) rest
  give_alike q assumed stable all e p r to_q to_r (assumes s a y also first rest) =
      let same : s ≡ q = sym (same_values clauses p q s to_q stable to_r also) in
      let open_q : IsFirstOpen inputs q y = subst (λ t. IsFirstOpen inputs t y) same first in
      absurd (open_valued inputs q y open_q.below open_q.still_open all)
  give_alike q assumed stable all e p r to_q to_r (gives s a also valued f) =
      e ∙ ap (λ (t : Partial). Values t) (same_values clauses p q s to_q stable to_r also) ∙ sym f

  pub alike : (q : Partial) (assumed : List ℕ) → DescendsInSomeOrder inputs clauses end q assumed → Alike q assumed
  alike q assumed (conflicts s a found e) = conflict_alike s a found e
  alike q assumed (propagates s a l none unit rest) =
      λ p r to_q to_r descent. alike (assume s l) a rest p r (one_more clauses p s l to_q unit) to_r descent
  alike q assumed (assumes s a x stable is rest) =
      assume_alike s a x stable is (alike (assume s (minus (variable x))) (a ++ (x ∷ [])) rest)
  alike q assumed (gives s a stable all e) = give_alike s a stable all e

pub one_end : (inputs : ℕ) (clauses : List (List Lit)) (end other : Ended) (p : Partial) (assumed : List ℕ) → DescendsInSomeOrder inputs clauses end p assumed → DescendsInSomeOrder inputs clauses other p assumed → end ≡ other
one_end inputs clauses end other p assumed first second =
    alike inputs clauses end other p assumed first p p (rests p) (rests p) second

pub some_order : (inputs : ℕ) (clauses : List (List Lit)) (end : Ended) (p : Partial) (assumed : List ℕ) → Descends inputs clauses end p assumed → DescendsInSomeOrder inputs clauses end p assumed
some_order inputs clauses end p assumed (conflicts s a found e) = conflicts s a found e
some_order inputs clauses end p assumed (propagates s a l none unit rest) =
    propagates s a l none (unit.0, unit.1) (some_order inputs clauses end (assume s l) a rest)
some_order inputs clauses end p assumed (assumes s a x stable is rest) =
    assumes s a x stable is (some_order inputs clauses end (assume s (minus (variable x))) (a ++ (x ∷ [])) rest)
some_order inputs clauses end p assumed (gives s a stable all e) = gives s a stable all e

pub order_is_free : OrderIsFree
order_is_free = record { one_end = one_end; some_order = some_order }
