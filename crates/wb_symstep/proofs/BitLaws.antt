-- Words put together from fields by masks.
use Rattle.std.proofs.Common.{◌≡◌, ℕ, ◌+◌, ◌*◌, ◌/◌, ◌%◌, ◌<◌, ◌^◌, Bool, true, false, ap, sym, ◌∙◌, refl, arith, lit<, add-zero, bit_and, bit_or, bit_xor}
use Rattle.std.proofs.lemmas.Nat.{and_mask, and_block, and_comm, and_assoc, or_disjoint, or_shifted, shr_split, xor_lt, xor_shr, xor_block, mod_below, pow_pos}
use Rattle.std.proofs.lemmas.Nat.Bits.{and_high_mask}
use lib.Bits.{and_zero_l, and_zero_r, xor_zero_r}
use Rattle.wb_term.specs.Numbers.{bit}
use Rattle.wb_word.specs.declared.codes.Dpl.{Dpl}
use Rattle.wb_word.specs.declared.codes.Dpl.TheVariants as dpl
use Rattle.wb_machine.specs.Next.{dp_stepped, low_stepped, merged}
use Rattle.wb_symstep.specs.State.{status}

-- the high bits of DP with some of them turned over
pub turned : (v high : ℕ) → v < 65536 → high < 16 → bit_and (bit_xor v (high * 16)) 65520 ≡ bit_xor (v / 16) high * 16
turned v high h l =
    let below : high * 16 < 2 ^ 16 = omega (arith, l) in
    let exact : high * 16 / 16 ≡ high = omega arith in
    and_high_mask 16 4 (lit< tt) (bit_xor v (high * 16)) (xor_lt 16 v (high * 16) h below)
    ∙ ap (λ (n : ℕ). n * 16) (xor_shr v (high * 16) 4 ∙ ap (bit_xor (v / 16)) exact)

pub turned_alone : (v high : ℕ) → bit_xor v (high * 16) ≡ dp_stepped dpl.DpNop high v
unfolding dp_stepped
turned_alone v high =
    ap (λ (n : ℕ). bit_xor n (high * 16)) (sym (shr_split v 4))
    ∙ ap (bit_xor (v / 16 * 16 + v % 16)) (sym (add-zero (high * 16)))
    ∙ xor_block 4 (v / 16) high (v % 16) 0 (mod_below v 16 (lit< tt)) (lit< tt)
    ∙ ap (λ (n : ℕ). bit_xor (v / 16) high * 16 + n) (xor_zero_r (v % 16))

low_below : (change : Dpl) (low : ℕ) → low < 16 → low_stepped change low < 16
low_below dpl.DpNop low h = h
low_below dpl.DpInc low h = mod_below (low + 1) 16 (lit< tt)
low_below dpl.DpDec low h = mod_below (low + 15) 16 (lit< tt)
low_below dpl.DpClr low h = lit< tt

-- DP from its two halves
pub halves_told : (change : Dpl) (high v above low : ℕ) → above ≡ bit_xor (v / 16) high * 16 → low ≡ low_stepped change (v % 16) → bit_or above low ≡ dp_stepped change high v
unfolding dp_stepped
halves_told change high v above low e f =
    ap (λ (n : ℕ). bit_or n low) e ∙ ap (bit_or (bit_xor (v / 16) high * 16)) f
    ∙ or_shifted (bit_xor (v / 16) high) 4 (low_stepped change (v % 16)) (low_below change (v % 16) (mod_below v 16 (lit< tt)))

-- the mask over two fields of a number
split : (k n high low : ℕ) → low < 2 ^ k → bit_and n (high * 2 ^ k + low) ≡ bit_and (n / 2 ^ k) high * 2 ^ k + bit_and (n % 2 ^ k) low
split k n high low h =
    ap (λ (m : ℕ). bit_and m (high * 2 ^ k + low)) (sym (shr_split n k))
    ∙ and_block k (n / 2 ^ k) high (n % 2 ^ k) low (mod_below n (2 ^ k) (pow_pos k)) h

-- numbers whose masks share no bit
apart : (a m b n : ℕ) → bit_and m n ≡ 0 → bit_or (bit_and a m) (bit_and b n) ≡ bit_and a m + bit_and b n
apart a m b n none = or_disjoint (bit_and a m) (bit_and b n)
    (and_assoc (bit_and b n) a m ∙ ap (bit_and a) (ap (bit_and m) (and_comm b n) ∙ sym (and_assoc b m n) ∙ ap (λ (x : ℕ). bit_and x b) none ∙ and_zero_l b) ∙ and_zero_r a)

-- the bits of SR but RQM and DRS
pub others : (n : ℕ) → n < 65536 → bit_and n 28671 ≡ n / 8192 % 4 * 8192 + n % 4096
others n h =
    let top : bit_and (n / 4096) 6 ≡ n / 4096 / 2 % 4 * 2 = split 1 (n / 4096) 3 0 (lit< tt) ∙ ap (λ (x : ℕ). x * 2 + bit_and (n / 4096 % 2) 0) (and_mask (n / 4096 / 2) 2) ∙ ap (λ (x : ℕ). n / 4096 / 2 % 4 * 2 + x) (and_zero_r (n / 4096 % 2)) ∙ add-zero (n / 4096 / 2 % 4 * 2) in
    let low : bit_and (n % 4096) 4095 ≡ n % 4096 % 4096 = and_mask (n % 4096) 12 in
    let whole : bit_and n 28671 ≡ bit_and (n / 4096) 6 * 4096 + bit_and (n % 4096) 4095 = split 12 n 6 4095 (lit< tt) in
    omega (arith, top, low, whole)

-- the bits that a move to SR writes
written : (n : ℕ) → n < 65536 → bit_and n 28547 ≡ n / 8192 % 4 * 8192 + n / 128 % 32 * 128 + n % 4
written n h =
    let r = n % 4096 in
    let top : bit_and (n / 4096) 6 ≡ n / 4096 / 2 % 4 * 2 = split 1 (n / 4096) 3 0 (lit< tt) ∙ ap (λ (x : ℕ). x * 2 + bit_and (n / 4096 % 2) 0) (and_mask (n / 4096 / 2) 2) ∙ ap (λ (x : ℕ). n / 4096 / 2 % 4 * 2 + x) (and_zero_r (n / 4096 % 2)) ∙ add-zero (n / 4096 / 2 % 4 * 2) in
    let middle : bit_and (r / 128) 31 ≡ r / 128 % 32 = and_mask (r / 128) 5 in
    let low : bit_and (r % 128) 3 ≡ r % 128 % 4 = and_mask (r % 128) 2 in
    let rest : bit_and r 3971 ≡ bit_and (r / 128) 31 * 128 + bit_and (r % 128) 3 = split 7 r 31 3 (lit< tt) in
    let whole : bit_and n 28547 ≡ bit_and (n / 4096) 6 * 4096 + bit_and r 3971 = split 12 n 6 3971 (lit< tt) in
    omega (arith, top, middle, low, rest, whole)

-- the bits that it keeps
kept : (n : ℕ) → n < 65536 → bit_and n 36988 ≡ n / 32768 * 32768 + n / 4096 % 2 * 4096 + n / 4 % 32 * 4
kept n h =
    let r = n % 4096 in
    let t = n / 4096 in
    let one : bit_and (t / 8) 1 ≡ t / 8 % 2 = and_mask (t / 8) 1 in
    let other : bit_and (t % 8) 1 ≡ t % 8 % 2 = and_mask (t % 8) 1 in
    let top : bit_and t 9 ≡ bit_and (t / 8) 1 * 8 + bit_and (t % 8) 1 = split 3 t 1 1 (lit< tt) in
    let middle : bit_and (r / 4) 31 ≡ r / 4 % 32 = and_mask (r / 4) 5 in
    let low : bit_and (r % 4) 0 ≡ 0 = and_zero_r (r % 4) in
    let rest : bit_and r 124 ≡ bit_and (r / 4) 31 * 4 + bit_and (r % 4) 0 = split 2 r 31 0 (lit< tt) in
    let whole : bit_and n 36988 ≡ bit_and t 9 * 4096 + bit_and r 124 = split 12 n 9 124 (lit< tt) in
    omega (arith, one, other, top, middle, low, rest, whole)

pub merged_is : (bus sr : ℕ) → bus < 65536 → sr < 65536 → bit_or (bit_and bus 28547) (bit_and sr 36988) ≡ merged bus sr
merged_is bus sr h l =
    let w = written bus h in
    let k = kept sr l in
    let sum = apart bus 28547 sr 36988 refl in
    omega (arith, w, k, sum)

pub merged_told : (bus sr w k : ℕ) → bus < 65536 → sr < 65536 → w ≡ bit_and bus 28547 → k ≡ bit_and sr 36988 → bit_or w k ≡ merged bus sr
merged_told bus sr w k h l e f = ap (λ (n : ℕ). bit_or n k) e ∙ ap (bit_or (bit_and bus 28547)) f ∙ merged_is bus sr h l

-- RQM and DRS in their bits
abbrev pub requests : Bool → Bool → ℕ
requests rqm drs = bit rqm * 32768 + bit drs * 4096

pub status_is : (rqm drs : Bool) (n : ℕ) → n < 65536 → bit_or (bit_and n 28671) (requests rqm drs) ≡ status rqm drs n
status_is rqm drs n h =
    let o = others n h in
    let sum = or_disjoint (bit_and n 28671) (requests rqm drs) (and_assoc (requests rqm drs) n 28671 ∙ ap (bit_and n) (free rqm drs) ∙ and_zero_r n) in
    omega (arith, o, sum) where
      free : (rqm drs : Bool) → bit_and 28671 (requests rqm drs) ≡ 0
      free true true = refl
      free true false = refl
      free false true = refl
      free false false = refl
