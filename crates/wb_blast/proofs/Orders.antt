-- Products of two words in either order.
use Rattle.std.proofs.Common.{◌≡◌, ℕ, ◌^◌, ℤ, pos, ap}
use Rattle.std.specs.Prelude.{◌*ℤ◌, unsigned_abs}
use Rattle.std.specs.Int.{int_rem_euclid}
use Rattle.std.proofs.Math.IntN.{*ℤ_comm}
use Rattle.wb_term.specs.Numbers.{product, signed}

pub product_comm : (x y : ℕ) → product x y ≡ product y x
unfolding product
product_comm x y = ap (λ (z : ℤ). unsigned_abs (int_rem_euclid (z *ℤ pos 2) (pos (2 ^ 32)))) (*ℤ_comm (signed x) (signed y))
