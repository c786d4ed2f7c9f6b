-- The laws of shifts: one after another, and past the width.
use Rattle.std.proofs.Common.{◌≡◌, ℕ, ◌+◌, ◌*◌, ◌/◌, ◌<◌, ◌^◌, ap, ◌∙◌, arith}
use Rattle.std.proofs.lemmas.Nat.{pow-add, shr-shr, mul-mod_first}
use Rattle.wb_term.specs.Numbers.{cut}

cut_times : (n b : ℕ) → cut (cut n * b) ≡ cut (n * b)
cut_times n b = mul-mod_first n b 65536

pub shl_shl : (v k m : ℕ) → cut (cut (v * 2 ^ k) * 2 ^ m) ≡ cut (v * 2 ^ (k + m))
shl_shl v k m = cut_times (v * 2 ^ k) (2 ^ m) ∙ ap cut (grind (arith, pow-add 2 k m))

pub shr_shr : (v k m : ℕ) → v / 2 ^ k / 2 ^ m ≡ v / 2 ^ (k + m)
shr_shr v k m = shr-shr v k m

pub no_shl : (v : ℕ) → v < 65536 → cut (v * 2 ^ 0) ≡ v
no_shl v h = omega arith

pub no_shr : (v : ℕ) → v / 2 ^ 0 ≡ v
no_shr v = omega arith

pub ruleset shl_laws = (no_shl, shl_shl)

pub ruleset shr_laws = (no_shr, shr_shr)
