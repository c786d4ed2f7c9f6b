use Rattle.wb_symstep.proofs.Jumping.{returned}
use Rattle.wb_symstep.proofs.jumps.popped.Goals as goal

pub returns : goal.returns
returns c g op image is =
    returned g c.args.state.now c.args.next op image c.address_at.result c.level_down-sp.result is
    c.level_down-sp.ensures.value c.level_down-sp.ensures.below c.address_at.ensures
