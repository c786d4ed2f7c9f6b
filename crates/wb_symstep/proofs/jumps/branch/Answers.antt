use Rattle.wb_symstep.proofs.Meanings.{from_one}
use Rattle.wb_symstep.proofs.Jumping.{plain_decides}
use Rattle.wb_symstep.proofs.jumps.branch.Goals as goal

pub returns-in-Some-clause-after : goal.returns-in-Some-clause-after
returns-in-Some-clause-after c =
    from_one _ _ c.plain_branch.result
    (λ r h image spare. h c.args.graph.now c.args.cond image spare c.requires.jump c.requires.state
    (plain_decides c.args.graph.now c.args.state.now c.args.cond c.in-Some.taken c.in-Some.ensures.some))
    c.plain_branch.ensures.after
