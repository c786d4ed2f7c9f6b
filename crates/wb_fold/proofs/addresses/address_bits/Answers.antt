use Rattle.std.proofs.Common.{◌+◌, List, subst, sym}
use Rattle.wb_fold.specs.declared.address.AddressBit.{AddressBit}
use Rattle.wb_fold.proofs.AddressLaws.{AreFirst, AreFirst-more}
use Rattle.wb_fold.proofs.addresses.address_bits.Goals as goal

pub loop-place-preserved : goal.loop-place-preserved
loop-place-preserved c =
    let bit = c.in_ok-bit.ensures in
    subst (λ (bits : List AddressBit). AreFirst c.args.graph.now c.address_bit.new.graph c.args.dp bits (c.loop-place.place + 1))
    (sym c.in_ok-push.ensures.items)
    (AreFirst-more c.args.graph.now c.loop-place.graph c.address_bit.new.graph c.args.dp c.loop-place.bits.items c.loop-place.place
    c.in_ok-bit.bit c.loop-place.invariant c.loop-place-test.true c.requires.dp c.address_bit.ensures.grown c.address_bit.ensures.adds
    bit.bit bit.value bit.inputs)
