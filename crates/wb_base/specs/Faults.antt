-- Counts that rise up to the greatest u64, and stand still there.
use Rattle.std.specs.Prelude.{ℕ, ◌+◌, ◌-◌, ◌^◌, ◌≤◌, min}

-- one more, where a u64 can hold it
abbrev pub raised : ℕ → ℕ
raised n = min (n + 1) (2 ^ 64 - 1)

-- the count rose, or it stands at the greatest u64
abbrev pub Rose : ℕ → ℕ → Type 0
Rose before now = raised before ≤ now
