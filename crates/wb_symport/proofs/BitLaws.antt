-- Words put together from halves and bits by masks.
use Rattle.std.proofs.Common.{◌≡◌, ℕ, ◌+◌, ◌*◌, ◌/◌, ◌%◌, ◌<◌, Bool, true, false, ap, sym, ◌∙◌, refl, arith, lit<, bit_and, bit_or}
use Rattle.std.proofs.lemmas.Nat.{and_mask, and_block, and_assoc, or_disjoint, or_shifted, shr_split, mod_below}
use Rattle.std.proofs.lemmas.Nat.Bits.{and_high_mask}
use lib.Bits.{and_zero_r}
use Rattle.wb_term.specs.Numbers.{bit}
use Rattle.wb_symstep.specs.State.{status}

-- a word with another low half
pub low_replaced : (v byte : ℕ) → v < 65536 → byte < 256 → bit_or (bit_and v 65280) byte ≡ v / 256 * 256 + byte
low_replaced v byte h l =
    ap (λ (n : ℕ). bit_or n byte) (and_high_mask 16 8 (lit< tt) v h) ∙ or_shifted (v / 256) 8 byte l

-- a word with another high half
pub high_replaced : (v byte : ℕ) → bit_or (byte * 256) (bit_and v 255) ≡ byte * 256 + v % 256
high_replaced v byte =
    ap (bit_or (byte * 256)) (and_mask v 8) ∙ or_shifted byte 8 (v % 256) (mod_below v 256 (lit< tt))

-- the bits of the status byte but RQM and DRS
others : (n : ℕ) → n < 256 → bit_and n 111 ≡ n / 32 % 4 * 32 + n % 16
others n h =
    let whole : bit_and n 111 ≡ bit_and (n / 16) 6 * 16 + bit_and (n % 16) 15 =
    ap (λ (m : ℕ). bit_and m 111) (sym (shr_split n 4)) ∙ and_block 4 (n / 16) 6 (n % 16) 15 (mod_below n 16 (lit< tt)) (lit< tt) in
    let top : bit_and (n / 16) 6 ≡ bit_and (n / 16 / 2) 3 * 2 + bit_and (n / 16 % 2) 0 =
    ap (λ (m : ℕ). bit_and m 6) (sym (shr_split (n / 16) 1)) ∙ and_block 1 (n / 16 / 2) 3 (n / 16 % 2) 0 (mod_below (n / 16) 2 (lit< tt)) (lit< tt) in
    let two : bit_and (n / 16 / 2) 3 ≡ n / 16 / 2 % 4 = and_mask (n / 16 / 2) 2 in
    let none : bit_and (n / 16 % 2) 0 ≡ 0 = and_zero_r (n / 16 % 2) in
    let low : bit_and (n % 16) 15 ≡ n % 16 % 16 = and_mask (n % 16) 4 in
    omega (arith, whole, top, two, none, low)

-- RQM and DRS in their bits of the status byte
abbrev pub requests : Bool → Bool → ℕ
requests rqm drs = bit rqm * 128 + bit drs * 16

pub status_byte_is : (rqm drs : Bool) (n : ℕ) → n < 65536 → bit_or (bit_and (n / 256) 111) (bit rqm * 128 + bit drs * 16) ≡ status rqm drs n / 256
status_byte_is rqm drs n h =
    let o = others (n / 256) (omega (arith, h)) in
    let sum = or_disjoint (bit_and (n / 256) 111) (requests rqm drs) (and_assoc (requests rqm drs) (n / 256) 111 ∙ ap (bit_and (n / 256)) (free rqm drs) ∙ and_zero_r (n / 256)) in
    bits rqm drs (bit_and (n / 256) 111) (bit_or (bit_and (n / 256) 111) (requests rqm drs)) o sum where
      free : (rqm drs : Bool) → bit_and 111 (requests rqm drs) ≡ 0
      free true true = refl
      free true false = refl
      free false true = refl
      free false false = refl

      bits : (rqm drs : Bool) (x y : ℕ) → x ≡ n / 256 / 32 % 4 * 32 + n / 256 % 16 → y ≡ x + requests rqm drs → y ≡ status rqm drs n / 256
      bits true true x y e f = omega (arith, e, f, h)
      bits true false x y e f = omega (arith, e, f, h)
      bits false true x y e f = omega (arith, e, f, h)
      bits false false x y e f = omega (arith, e, f, h)
