use Rattle.wb_fold.proofs.AddressLaws.{AreFirst}
use Rattle.wb_fold.proofs.addresses.address_bits.Given as goal

abbrev pub invariant-loop-place : goal.invariant-loop-place
invariant-loop-place l = AreFirst l.fn.graph l.graph l.dp l.bits.items l.place
