-- Numbers in a range are the same where their values are.
use Rattle.std.proofs.Common.{◌≡◌, ℕ, ◌^◌, ◌<◌, false, ap, ap₂, subst}
use mathlib.Core.Bool.{Bool-set}
use Rattle.std.specs.Coded.{le_prop}
use Rattle.wb_word.specs.Named.{is_named}
use Rattle.wb_word.specs.declared.numbers.Word.{Word}
use Rattle.wb_word.specs.declared.numbers.Addr.{Addr}
use Rattle.wb_word.specs.declared.numbers.Nibble.{Nibble}
use Rattle.wb_word.specs.declared.numbers.Spare.{Spare}
use Rattle.wb_word.specs.declared.numbers.OtherCode.{OtherCode}

-- what is built of a value and a fact on it, of which there is one proof at most
pub same_by : (A : Type 0) (B : ℕ → Type 0) → ((n : ℕ) (h k : B n) → h ≡ k) → (f : (n : ℕ) → B n → A) (v w : ℕ) (h : B v) (k : B w) → v ≡ w → f v h ≡ f w k
same_by A B one f v w h k e =
    let P : ℕ → Type 0 = λ n. (m : B n) → f v h ≡ f n m in
    subst P e (λ m. ap (f v) (one v h m)) k

pub same_word : (x y : Word) → x.value ≡ y.value → x ≡ y
same_word x y e =
    same_by Word (λ n. n < 2 ^ 24) (λ n h k. le_prop h k) (λ n h. record { value = n; in_range = h }) x.value y.value x.in_range y.in_range e

pub same_addr : (x y : Addr) → x.value ≡ y.value → x ≡ y
same_addr x y e =
    same_by Addr (λ n. n < 2048) (λ n h k. le_prop h k) (λ n h. record { value = n; in_range = h }) x.value y.value x.in_range y.in_range e

pub same_nibble : (x y : Nibble) → x.value ≡ y.value → x ≡ y
same_nibble x y e =
    same_by Nibble (λ n. n < 16) (λ n h k. le_prop h k) (λ n h. record { value = n; in_range = h }) x.value y.value x.in_range y.in_range e

pub same_spare : (x y : Spare) → x.value ≡ y.value → x ≡ y
same_spare x y e =
    same_by Spare (λ n. n < 4) (λ n h k. le_prop h k) (λ n h. record { value = n; in_range = h }) x.value y.value x.in_range y.in_range e

pub same_other : (x y : OtherCode) → x.value ≡ y.value → x ≡ y
same_other x y e =
    same_by
    OtherCode
    (λ n. (n < 512) × (is_named n ≡ false))
    (λ n (a, b) (c, d). ap₂ (λ h k. (h, k)) (le_prop a c) (Bool-set (is_named n) false b d))
    (λ n h. record { value = n; in_range = h.0; unnamed = h.1 })
    x.value
    y.value
    (x.in_range, x.unnamed)
    (y.in_range, y.unnamed)
    e
