-- Words of entries that are moved and repeated.
use Rattle.std.proofs.Common.{◌≡◌, ℕ, ◌+◌, ◌-◌, ◌*◌, ◌<◌, ◌≤◌, List, [], ◌∷◌, length, set, ap, inl, inr, arith}
use Rattle.std.proofs.lemmas.Bool.{cases_lt}
use Rattle.wb_gate.specs.Circuit.{Assignment}
use Rattle.wb_term.specs.Numbers.{bit}
use Rattle.wb_equal.specs.declared.entries.Entry.{Entry}
use Rattle.wb_blast.specs.Doubles.{extended, cut_double}
use Rattle.wb_equal.specs.Entries.{entry_value}
use Rattle.wb_blast.specs.Words.{number, entry_at}
use Rattle.wb_blast.proofs.Bits.{number_bit}
use Rattle.wb_blast.proofs.Sums.{number_small}
use Rattle.wb_blast.proofs.Multiples.{extended_small, extended_great}

-- the lowest entry is replaced
pub number_replaced : (v : Assignment) (es : List Entry) (e : Entry) → 0 < length es →
    number v (set es 0 e) + bit (entry_value v (entry_at es 0)) ≡ number v es + bit (entry_value v e)
number_replaced v [] e h = absurd (omega (arith, h))
number_replaced v (x ∷ xs) e h = grind arith

-- one entry sixteen times
repeated : (b : ℕ) → b + 2 * (b + 2 * (b + 2 * (b + 2 * (b + 2 * (b + 2 * (b + 2 * (b + 2 * (b + 2 * (b + 2 * (b + 2 * (b + 2 * (b + 2 * (b + 2 * (b + 2 * (b + 2 * 0))))))))))))))) ≡ 65535 * b
repeated b = grind arith

pub extended_number : (v : Assignment) (es : List Entry) → length es ≡ 16 → let e = entry_at es 15 in
    number v es + 65536 * number v (e ∷ e ∷ e ∷ e ∷ e ∷ e ∷ e ∷ e ∷ e ∷ e ∷ e ∷ e ∷ e ∷ e ∷ e ∷ e ∷ []) ≡ extended (number v es)
extended_number v es full =
    let small = number_small v es full in
    let sign = number_bit v es 15 (omega (arith, full)) in
    let all = repeated (bit (entry_value v (entry_at es 15))) in
    elim (cases_lt (number v es) 32768) [
      | inl plus ↦ (let is = extended_small (number v es) plus in omega (arith, small, sign, all, is))
      | inr minus ↦ (let is = extended_great (number v es) minus in omega (arith, small, sign, all, is))
    ]

-- the complement and one are added
pub double_subtracted : (s r m i : ℕ) → r ≤ 4294967295 → i ≡ 4294967295 - r → r ≡ m → cut_double (s + i + 1) ≡ cut_double (s + 4294967296 - m)
double_subtracted s r m i few is same = ap cut_double (omega (arith, few, is, same))
