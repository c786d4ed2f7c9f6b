-- The flags of each operation, by whether it adds or takes away.
use Rattle.std.proofs.Common.{◌≡◌, ◌≢◌, ℕ, Bool, true, false, true≢false, refl, sym}
use Rattle.wb_word.specs.declared.codes.Alu.{Alu}
use Rattle.wb_word.specs.declared.codes.Alu.TheVariants.{Nop, Or, And, Xor, Sub, Add, Sbb, Adc, Dec, Inc, Cmp, Shr1, Shl1, Shl2, Shl4, Xchg}
use Rattle.wb_alu.specs.declared.flags.Flags.{Flags}
use Rattle.wb_alu.specs.Operation.{alu_result, alu_carry, alu_overflow, alu_flags, is_arithmetic, flags_after}

pub alu_flags_arithmetic : (op : Alu) (q p : ℕ) (c : Bool) (old : Flags) → is_arithmetic op ≡ true →
    alu_flags op q p c old ≡ flags_after true (alu_result op q p c) (alu_carry op q p c) (alu_overflow op q p c) old
alu_flags_arithmetic Nop q p c old h = absurd (true≢false (sym h))
alu_flags_arithmetic Or q p c old h = absurd (true≢false (sym h))
alu_flags_arithmetic And q p c old h = absurd (true≢false (sym h))
alu_flags_arithmetic Xor q p c old h = absurd (true≢false (sym h))
alu_flags_arithmetic Sub q p c old h = refl
alu_flags_arithmetic Add q p c old h = refl
alu_flags_arithmetic Sbb q p c old h = refl
alu_flags_arithmetic Adc q p c old h = refl
alu_flags_arithmetic Dec q p c old h = refl
alu_flags_arithmetic Inc q p c old h = refl
alu_flags_arithmetic Cmp q p c old h = absurd (true≢false (sym h))
alu_flags_arithmetic Shr1 q p c old h = absurd (true≢false (sym h))
alu_flags_arithmetic Shl1 q p c old h = absurd (true≢false (sym h))
alu_flags_arithmetic Shl2 q p c old h = absurd (true≢false (sym h))
alu_flags_arithmetic Shl4 q p c old h = absurd (true≢false (sym h))
alu_flags_arithmetic Xchg q p c old h = absurd (true≢false (sym h))

pub alu_flags_other : (op : Alu) (q p : ℕ) (c : Bool) (old : Flags) → is_arithmetic op ≡ false → op ≢ Nop →
    alu_flags op q p c old ≡ flags_after false (alu_result op q p c) (alu_carry op q 0 false) false old
alu_flags_other Nop q p c old h n = absurd (n refl)
alu_flags_other Or q p c old h n = refl
alu_flags_other And q p c old h n = refl
alu_flags_other Xor q p c old h n = refl
alu_flags_other Sub q p c old h n = absurd (true≢false h)
alu_flags_other Add q p c old h n = absurd (true≢false h)
alu_flags_other Sbb q p c old h n = absurd (true≢false h)
alu_flags_other Adc q p c old h n = absurd (true≢false h)
alu_flags_other Dec q p c old h n = absurd (true≢false h)
alu_flags_other Inc q p c old h n = absurd (true≢false h)
alu_flags_other Cmp q p c old h n = refl
alu_flags_other Shr1 q p c old h n = refl
alu_flags_other Shl1 q p c old h n = refl
alu_flags_other Shl2 q p c old h n = refl
alu_flags_other Shl4 q p c old h n = refl
alu_flags_other Xchg q p c old h n = refl
