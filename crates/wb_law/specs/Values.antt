-- Values of any type, and numbers.
use Rattle.std.specs.Prelude.{◌≡◌, ◌≢◌, ℕ, ◌<◌, ◌≤◌, Bool, true, false, List, length, All, AllPairs, Contains}

-- Values that differ from one another and stand in a list are no more than this list has.
abbrev pub DifferentValuesAreNoMore : Type 0 → Type 0
DifferentValuesAreNoMore A =
    (xs ys : List A)
    → AllPairs (λ x y. x ≢ y) xs → All (Contains ys) xs → length xs ≤ length ys

-- the test passes the number, and none below it
pub record IsLeast (passes : ℕ → Bool) (n : ℕ) : Type 0 where
  pub itself : passes n ≡ true
  pub none_below : (i : ℕ) → i < n → passes i ≡ false

-- Where a test passes a number, there is a least one that it passes, no greater than that.
abbrev pub LeastNumbersExist : Type 0
LeastNumbersExist =
    (passes : ℕ → Bool) (n : ℕ) → passes n ≡ true → (m : ℕ) × IsLeast passes m × (m ≤ n)
