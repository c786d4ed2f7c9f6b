-- What each operation of the ALU makes of an accumulator: its result and its flags.
--
-- `q` is the accumulator and `p` the operand, each from 0 to 65535. `c` is the carry flag of the other
-- accumulator, and `old` has the flags of this one before the operation.
use Rattle.std.specs.Prelude.{ℕ, ◌+◌, ◌-◌, ◌*◌, ◌/◌, ◌%◌, ℤ, pos, negsuc, ◌+ℤ◌, ◌-ℤ◌, Bool, true, false, if◌then◌else◌, ◌&&◌, ◌||◌, ◌==◌, nat_lt, nat_le, int_lt, bit_and, bit_or, bit_xor}
use Rattle.std.specs.Bool.{beq}
use Rattle.wb_word.specs.declared.codes.Alu.{Alu}
use Rattle.wb_word.specs.declared.codes.Alu.TheVariants.{Nop, Or, And, Xor, Sub, Add, Sbb, Adc, Dec, Inc, Cmp, Shr1, Shl1, Shl2, Shl4, Xchg}
use Rattle.wb_alu.specs.declared.flags.Flags.{Flags}

-- a flag as 0 or 1
abbrev pub bit : Bool → ℕ
bit b = if b then 1 else 0

-- the low 16 bits of a number
abbrev pub cut : ℕ → ℕ
cut n = n % 65536

-- the low 16 bits of `q` less `n`, where `n` is at most 65536
abbrev pub less : ℕ → ℕ → ℕ
less q n = cut (q + 65536 - n)

-- 16 bits as a signed number: from 32768 upwards they stand for 65536 less
abbrev pub signed : ℕ → ℤ
signed n = if nat_lt n 32768 then pos n else (pos n -ℤ pos 65536)

-- no signed number of 16 bits: below -32768 or over 32767
abbrev pub is_outside : ℤ → Bool
is_outside z = int_lt z (negsuc 32767) || int_lt (pos 32767) z

-- The result, 16 bits. CMP inverts each bit; SHR1 keeps bit 15; SHL1 shifts `c` in, SHL2 and SHL4
-- shift ones in; XCHG exchanges the two bytes.
abbrev pub alu_result : Alu → ℕ → ℕ → Bool → ℕ
alu_result Nop q p c = q
alu_result Or q p c = bit_or q p
alu_result And q p c = bit_and q p
alu_result Xor q p c = bit_xor q p
alu_result Sub q p c = less q p
alu_result Add q p c = cut (q + p)
alu_result Sbb q p c = less q (p + bit c)
alu_result Adc q p c = cut (q + p + bit c)
alu_result Dec q p c = less q 1
alu_result Inc q p c = cut (q + 1)
alu_result Cmp q p c = 65535 - q
alu_result Shr1 q p c = q / 32768 * 32768 + q / 2
alu_result Shl1 q p c = cut (q * 2 + bit c)
alu_result Shl2 q p c = cut (q * 4 + 3)
alu_result Shl4 q p c = cut (q * 16 + 15)
alu_result Xchg q p c = q % 256 * 256 + q / 256

-- C: the exact sum of the numbers from 0 to 65535 is over 65535, their exact difference is below 0,
-- or the bit that a shift by one drops is 1
abbrev pub alu_carry : Alu → ℕ → ℕ → Bool → Bool
alu_carry Sub q p c = nat_lt q p
alu_carry Add q p c = nat_lt 65535 (q + p)
alu_carry Sbb q p c = nat_lt q (p + bit c)
alu_carry Adc q p c = nat_lt 65535 (q + p + bit c)
alu_carry Dec q p c = nat_lt q 1
alu_carry Inc q p c = nat_lt 65535 (q + 1)
alu_carry Shr1 q p c = q % 2 == 1
alu_carry Shl1 q p c = q / 32768 == 1
alu_carry _ q p c = false

-- OV0: the exact sum or difference of the signed numbers is none of 16 bits
abbrev pub alu_overflow : Alu → ℕ → ℕ → Bool → Bool
alu_overflow Sub q p c = is_outside (signed q -ℤ signed p)
alu_overflow Add q p c = is_outside (signed q +ℤ signed p)
alu_overflow Sbb q p c = is_outside (signed q -ℤ signed p -ℤ pos (bit c))
alu_overflow Adc q p c = is_outside (signed q +ℤ signed p +ℤ pos (bit c))
alu_overflow Dec q p c = is_outside (signed q -ℤ pos 1)
alu_overflow Inc q p c = is_outside (signed q +ℤ pos 1)
alu_overflow _ q p c = false

-- the six operations that add or take away
abbrev pub is_arithmetic : Alu → Bool
is_arithmetic Sub = true
is_arithmetic Add = true
is_arithmetic Sbb = true
is_arithmetic Adc = true
is_arithmetic Dec = true
is_arithmetic Inc = true
is_arithmetic _ = false

-- S0: bit 15 of a result
abbrev pub sign : ℕ → Bool
sign n = nat_le 32768 n

-- S1 takes the new S0 where the old OV1 is 0, and stays where it is 1
abbrev pub next_s1 : Bool → Flags → Bool
next_s1 s0 old = if old.ov1 then old.s1 else s0

-- OV1 after an arithmetic operation with the new OV0 and S0: where both OV0 and the old OV1 are 1, it is
-- whether the new S1 equals the new S0, else whether one of the two is 1
abbrev pub next_ov1 : Bool → Bool → Flags → Bool
next_ov1 ov0 s0 old = if ov0 && old.ov1 then beq (next_s1 s0 old) s0 else (ov0 || old.ov1)

-- the flags after an operation of a kind, with its result, carry and overflow
abbrev pub flags_after : Bool → ℕ → Bool → Bool → Flags → Flags
flags_after arithmetic value carry overflow old = record {
  c = carry;
  z = value == 0;
  s0 = sign value;
  s1 = next_s1 (sign value) old;
  ov0 = overflow;
  ov1 = if arithmetic then next_ov1 overflow (sign value) old else false;
}

-- The flags. NOP leaves them.
abbrev pub alu_flags : Alu → ℕ → ℕ → Bool → Flags → Flags
alu_flags Nop q p c old = old
alu_flags op q p c old =
    flags_after (is_arithmetic op) (alu_result op q p c) (alu_carry op q p c) (alu_overflow op q p c) old
