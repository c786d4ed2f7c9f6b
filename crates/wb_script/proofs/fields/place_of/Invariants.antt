use Rattle.std.proofs.Common.{◌≡◌, ℕ, ◌<◌, false, get_or, nat_eq}
use Rattle.wb_script.proofs.fields.place_of.Given as goal

abbrev pub invariant-loop-place : goal.invariant-loop-place
invariant-loop-place l = (k : ℕ) → k < l.place → nat_eq (get_or l.bytes k 0) l.byte ≡ false
