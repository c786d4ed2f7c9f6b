-- The laws of comparisons: what bounds decide, and differences compared with zero.
use Rattle.std.proofs.Common.{◌≡◌, ℕ, ◌+◌, ◌≤◌, ◌<◌, ◌==◌, nat_lt, Bool, true, false, refl, sym, ap, ◌∙◌, arith, bit_and, bit_xor}
use lib.Bits.{xor_self, xor_zero_r}
use Rattle.wb_term.specs.Numbers.{less}
use Rattle.wb_known.proofs.PartLaws.{xor_twice}

-- a word is none whose bits a mask that keeps it lacks
pub excluded : (v p w : ℕ) → bit_and v p ≡ v → (bit_and w p == w) ≡ false → (v == w) ≡ false
excluded v p w h e = by (v == w) refl where
  by : (b : Bool) → (v == w) ≡ b → (v == w) ≡ false
  by true same = let s : v ≡ w = grind arith in absurd (cc)
  by false other = other

same_tests : (a b c d : ℕ) → (a ≡ b → c ≡ d) → (c ≡ d → a ≡ b) → (a == b) ≡ (c == d)
same_tests a b c d f g = by (a == b) (c == d) refl refl where
  by : (p q : Bool) → (a == b) ≡ p → (c == d) ≡ q → (a == b) ≡ (c == d)
  by true true e h = e ∙ sym h
  by false false e h = e ∙ sym h
  by true false e h =
      let same : a ≡ b = grind arith in
      let set : (c == d) ≡ true = (let t = f same in grind arith) in
      e ∙ sym set
  by false true e h =
      let same : c ≡ d = grind arith in
      let set : (a == b) ≡ true = (let t = g same in grind arith) in
      set ∙ sym h

pub xor_is_zero : (v w : ℕ) → (v == w) ≡ (bit_xor v w == 0)
xor_is_zero v w = same_tests v w (bit_xor v w) 0
    (λ e. ap (bit_xor v) (sym e) ∙ xor_self v)
    (λ e. sym (sym (xor_twice v w) ∙ ap (bit_xor v) e ∙ xor_zero_r v))

pub less_is_zero : (v w : ℕ) → v < 65536 → w < 65536 → (v == w) ≡ (less v (w + 0) == 0)
less_is_zero v w h k = same_tests v w (less v (w + 0)) 0 (λ e. omega arith) (λ e. omega arith)

pub below_never : (v w b p q r : ℕ) → v ≤ p → w ≤ q → b ≤ r → p + q + r ≤ 65535 → nat_lt 65535 (v + w + b) ≡ false
below_never v w b p q r h k l m = grind arith

pub ruleset bound_laws = (below_never)

pub ruleset difference_laws = (xor_is_zero, less_is_zero)
