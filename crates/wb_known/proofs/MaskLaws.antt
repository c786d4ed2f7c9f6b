-- The laws of masks: which bits a word keeps, and what two masks leave.
use Rattle.std.proofs.Common.{◌≡◌, ℕ, ◌+◌, ◌-◌, ◌*◌, ◌/◌, ◌%◌, ◌≤◌, ◌<◌, ◌^◌, Bool, true, false, if◌then◌else◌, min, sym, ap, ◌∙◌, arith, bit_and, bit_or, bit_xor, add-zero, subst}
use Rattle.std.specs.Int.{bit_at}
use Rattle.std.proofs.lemmas.Nat.{and_assoc, and_shr, and_mod, and_mask, and_le_l, and_le_r, pow_pos, field_of, shl-shr}
use Rattle.std.proofs.lemmas.Nat.Bits.{bit_at_and, bit_at_or, bit_at_xor, bit_at-lt, same_from_bits, and_high_mask, ones_shl, ones_shr}
use Rattle.std.proofs.Math.Nat.{mod-eq_of_lt}
use lib.Bits.{and_self, and_comm, and_zero_l, and_zero_r, and_block, or_disjoint, or_add_and, xor_add_and}
use Rattle.wb_term.specs.Numbers.{cut}

-- a word that a mask keeps has no bit that the mask lacks
pub bits_within : (v p : ℕ) → bit_and v p ≡ v → (i : ℕ) → bit_at v i ≤ bit_at p i
bits_within v p h i =
    let a : bit_at v i ≡ min (bit_at v i) (bit_at p i) = ap (λ (n : ℕ). bit_at n i) (sym h) ∙ bit_at_and v p i in
    omega (arith, a)

pub kept_from_bits : (v p : ℕ) → ((i : ℕ) → bit_at v i ≤ bit_at p i) → bit_and v p ≡ v
kept_from_bits v p h = same_from_bits (bit_and v p) v (λ i. let a = h i in let b = bit_at_and v p i in omega (arith, a, b))

-- a mask that holds the bits of another keeps what that keeps
pub keeps_more : (v p q : ℕ) → bit_and v p ≡ v → bit_and p q ≡ p → bit_and v q ≡ v
keeps_more v p q h k = ap (λ (n : ℕ). bit_and n q) (sym h) ∙ and_assoc q v p ∙ ap (bit_and v) k ∙ h

-- a mask that shares no bit with another clears what that keeps
pub clears_apart : (v p q : ℕ) → bit_and v p ≡ v → bit_and p q ≡ 0 → bit_and v q ≡ 0
clears_apart v p q h k = ap (λ (n : ℕ). bit_and n q) (sym h) ∙ and_assoc q v p ∙ ap (bit_and v) k ∙ and_zero_r v

-- words that masks apart keep are apart
pub words_apart : (v w p q : ℕ) → bit_and v p ≡ v → bit_and w q ≡ w → bit_and p q ≡ 0 → bit_and v w ≡ 0
words_apart v w p q h k apart =
    let a : bit_and v q ≡ 0 = clears_apart v p q h apart in
    let b : bit_and q v ≡ 0 = and_comm q v ∙ a in
    and_comm v w ∙ clears_apart w q v k b

pub and_keeps : (v w p q : ℕ) → bit_and v p ≡ v → bit_and w q ≡ w → bit_and (bit_and v w) (bit_and p q) ≡ bit_and v w
and_keeps v w p q h k = kept_from_bits (bit_and v w) (bit_and p q)
    (λ i. let a = bits_within v p h i in let b = bits_within w q k i in let c = bit_at_and v w i in let d = bit_at_and p q i in omega (arith, a, b, c, d))

pub or_keeps : (v w p q : ℕ) → bit_and v p ≡ v → bit_and w q ≡ w → bit_and (bit_or v w) (bit_or p q) ≡ bit_or v w
or_keeps v w p q h k = kept_from_bits (bit_or v w) (bit_or p q)
    (λ i. let a = bits_within v p h i in let b = bits_within w q k i in let c = bit_at_or v w i in let d = bit_at_or p q i in omega (arith, a, b, c, d))

pub xor_keeps : (v w p q : ℕ) → bit_and v p ≡ v → bit_and w q ≡ w → bit_and (bit_xor v w) (bit_or p q) ≡ bit_xor v w
xor_keeps v w p q h k = kept_from_bits (bit_xor v w) (bit_or p q)
    (λ i. let a = bits_within v p h i in let b = bits_within w q k i in let c = bit_at_xor v w i in let d = bit_at_or p q i in
    let e = bit_at-lt p i in let f = bit_at-lt q i in omega (arith, a, b, c, d, e, f))

pub first_keeps : (v p q : ℕ) → bit_and v p ≡ v → bit_and v (bit_or p q) ≡ v
first_keeps v p q h = kept_from_bits v (bit_or p q) (λ i. let a = bits_within v p h i in let d = bit_at_or p q i in omega (arith, a, d))

pub second_keeps : (v p q : ℕ) → bit_and v q ≡ v → bit_and v (bit_or p q) ≡ v
second_keeps v p q h = kept_from_bits v (bit_or p q) (λ i. let a = bits_within v q h i in let d = bit_at_or p q i in omega (arith, a, d))

pub shr_keeps : (v p m : ℕ) → bit_and v p ≡ v → bit_and (v / 2 ^ m) (p / 2 ^ m) ≡ v / 2 ^ m
shr_keeps v p m h = sym (and_shr v p m) ∙ ap (λ (n : ℕ). n / 2 ^ m) h

shifted_and : (v p m : ℕ) → bit_and (v * 2 ^ m) (p * 2 ^ m) ≡ bit_and v p * 2 ^ m
shifted_and v p m =
    ap (λ (n : ℕ). bit_and n (p * 2 ^ m)) (sym (add-zero (v * 2 ^ m))) ∙ ap (bit_and (v * 2 ^ m + 0)) (sym (add-zero (p * 2 ^ m)))
    ∙ and_block m v p 0 0 (pow_pos m) (pow_pos m) ∙ add-zero (bit_and v p * 2 ^ m)

pub shl_keeps : (v p m : ℕ) → bit_and v p ≡ v → bit_and (cut (v * 2 ^ m)) (cut (p * 2 ^ m)) ≡ cut (v * 2 ^ m)
shl_keeps v p m h = sym (and_mod (v * 2 ^ m) (p * 2 ^ m) 16) ∙ ap cut (shifted_and v p m ∙ ap (λ (n : ℕ). n * 2 ^ m) h)

pub byte_keeps : (v : ℕ) → v < 256 → bit_and v 255 ≡ v
byte_keeps v h = and_mask v 8 ∙ omega arith

pub word_keeps : (v : ℕ) → v < 65536 → bit_and v 65535 ≡ v
word_keeps v h = and_mask v 16 ∙ omega arith

-- a word that is shifted to the right and back keeps its high bits
pub high_bits : (v m : ℕ) → v < 65536 → m < 16 → cut (v / 2 ^ m * 2 ^ m) ≡ bit_and v (cut (65535 * 2 ^ m))
high_bits v m h k =
    let masked : bit_and v (2 ^ 16 - 2 ^ m) ≡ v / 2 ^ m * 2 ^ m = and_high_mask 16 m (omega arith) v h in
    let fits : v / 2 ^ m * 2 ^ m < 65536 = (let most = and_le_l v (2 ^ 16 - 2 ^ m) in omega (arith, masked, most)) in
    mod-eq_of_lt fits ∙ sym masked ∙ ap (bit_and v) (sym (ones_shl 16 m (omega arith)))

-- a word that is shifted to the left and back keeps its low bits
pub low_bits : (v m : ℕ) → v < 65536 → m < 16 → cut (v * 2 ^ m) / 2 ^ m ≡ bit_and v (65535 / 2 ^ m)
low_bits v m h k =
    let sixteen : (16 - m) + m ≡ 16 = omega arith in
    let field : v * 2 ^ m % 2 ^ 16 / 2 ^ m ≡ v * 2 ^ m / 2 ^ m % 2 ^ (16 - m) =
    subst (λ (j : ℕ). v * 2 ^ m % 2 ^ j / 2 ^ m ≡ v * 2 ^ m / 2 ^ m % 2 ^ (16 - m)) sixteen (field_of (v * 2 ^ m) (16 - m) m) in
    field ∙ ap (λ (n : ℕ). n % 2 ^ (16 - m)) (shl-shr v m) ∙ sym (and_mask v (16 - m)) ∙ ap (bit_and v) (sym (ones_shr 16 m (omega arith)))

-- a word is at most the mask that keeps it
pub at_most : (v p : ℕ) → bit_and v p ≡ v → v ≤ p
at_most v p h = let most = and_le_r v p in omega (arith, h, most)

pub choice_keeps : (b : Bool) (v w p q : ℕ) → bit_and v p ≡ v → bit_and w q ≡ w → bit_and (if b then v else w) (bit_or p q) ≡ (if b then v else w)
choice_keeps true v w p q h k = first_keeps v p q h
choice_keeps false v w p q h k = second_keeps w p q k

pub ruleset mask_views = (and_comm, high_bits, low_bits)

-- a shift of a word whose bits it pushes out
pub shr_clears : (v p m : ℕ) → bit_and v p ≡ v → p / 2 ^ m ≡ 0 → v / 2 ^ m ≡ 0
shr_clears v p m h e = sym (shr_keeps v p m h) ∙ ap (bit_and (v / 2 ^ m)) e ∙ and_zero_r (v / 2 ^ m)

pub shl_clears : (v p m : ℕ) → bit_and v p ≡ v → cut (p * 2 ^ m) ≡ 0 → cut (v * 2 ^ m) ≡ 0
shl_clears v p m h e = sym (shl_keeps v p m h) ∙ ap (bit_and (cut (v * 2 ^ m))) e ∙ and_zero_r (cut (v * 2 ^ m))

pub ruleset shift_laws = (shl_clears, shr_clears)
