use Rattle.wb_symstep.proofs.Assembling.{assembled}
use Rattle.wb_symstep.proofs.operate.assembled.Goals as goal

pub returns : goal.returns
returns c g step is =
    assembled g c.next_address.result c.args.state.now c.args.registers c.args.memory c.args.plain c.args.flags step is
    c.next_address.ensures.value c.next_address.ensures.below
