-- Where no clause is falsified or unit.
use Rattle.std.proofs.Common.{◌≡◌, ℕ, ◌+◌, ◌<◌, ◌≤◌, ◌⊎◌, inl, inr, Bool, List, length, Some, ◌∙◌, ap, arith}
use Rattle.std.proofs.lemmas.Option.{slice_get_within}
use Rattle.wb_gate.specs.declared.gates.Lit.{Lit}
use Rattle.wb_derive.specs.Partial.{Partial}
use Rattle.wb_solve.specs.Descent.{SomeFalsified, IsStable, AreValued}
use Rattle.wb_solve.specs.Course.{NoneFalsifiedBelow, NoneUnitBelow}

pub valued_more : (p : Partial) (n : ℕ) (b : Bool) → AreValued n p → p n ≡ Some b → AreValued (n + 1) p
valued_more p n b before e x h = by (split x n)
  where
    split : (x n : ℕ) → (x < n) ⊎ (n ≤ x)
    split x n = grind arith

    by : (x < n) ⊎ (n ≤ x) → (b : Bool) × (p x ≡ Some b)
    by (inl less) = before x less
    by (inr here) = let same : x ≡ n = omega arith in (b, ap p same ∙ e)

pub none_falsified : (known : List (List Lit)) (p : Partial) → NoneFalsifiedBelow known p (length known) → SomeFalsified known p → ⊥
none_falsified known p none some = none some.0 some.1 (slice_get_within known some.0 some.1 some.2) some.2 some.3

pub stable_from : (known : List (List Lit)) (p : Partial) → NoneFalsifiedBelow known p (length known) → NoneUnitBelow known p (length known) → IsStable known p
stable_from known p none no_unit = record {
  no_falsified = none_falsified known p none;
  no_unit = λ l some. no_unit some.0 l (slice_get_within known some.0 some.1.0 some.1.1) some.1;
}
