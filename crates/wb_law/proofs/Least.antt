-- Where a test passes a number, there is a least one that it passes.
use Rattle.std.proofs.Common.{◌≡◌, ℕ, zero, suc, ◌+◌, ◌<◌, ◌≤◌, Bool, true, false, refl, arith}
use borrow.Author.Count.{below_more}
use Rattle.wb_law.specs.Values.{IsLeast, LeastNumbersExist}

-- upwards from a number below which none passes
least_from : (passes : ℕ → Bool) (j i n : ℕ) → passes n ≡ true → i + j ≡ n → ((h : ℕ) → h < i → passes h ≡ false) → (m : ℕ) × IsLeast passes m × (m ≤ n)
least_from passes zero i n itself e none =
    let same : i ≡ n = omega arith in
    (n, record { itself = itself; none_below = λ h less. none h (omega arith) }, omega arith)
least_from passes (suc j) i n itself e none = by_test (passes i) refl (least_from passes j (i + 1) n itself (omega arith))
  where
    by_test : (b : Bool) → passes i ≡ b → (((h : ℕ) → h < i + 1 → passes h ≡ false) → (m : ℕ) × IsLeast passes m × (m ≤ n)) → (m : ℕ) × IsLeast passes m × (m ≤ n)
    by_test true p later = (i, record { itself = p; none_below = none }, omega arith)
    by_test false p later = later (below_more (λ (h : ℕ). passes h ≡ false) i none p)

pub least_numbers_exist : LeastNumbersExist
least_numbers_exist passes n itself = least_from passes n zero n itself (omega arith) (λ h less. absurd (omega arith))
