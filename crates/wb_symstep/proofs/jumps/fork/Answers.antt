use Rattle.wb_symstep.proofs.Jumping.{two_ways}
use Rattle.wb_symstep.proofs.jumps.fork.Goals as goal

pub returns-clause-after : goal.returns-clause-after
returns-clause-after c g cond image spare other is part =
    rw (c.in_ok-yes.ensures, c.in_ok-no.ensures)
    (two_ways g c.args.state.now is cond c.args.na spare image c.args.says c.next_address.result other part
    c.next_address.ensures.value c.next_address.ensures.below)
