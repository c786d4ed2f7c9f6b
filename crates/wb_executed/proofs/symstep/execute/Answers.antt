use Rattle.wb_symstep.proofs.States.{IsSymState-kept}
use Rattle.wb_executed.proofs.symstep.execute.Goals as goal

pub returns-clause-state : goal.returns-clause-state
returns-clause-state g c =
    IsSymState-kept c.args.graph.now c.sym_step.new.graph c.sym_step.ensures.grown c.args.state.now c.requires.state
