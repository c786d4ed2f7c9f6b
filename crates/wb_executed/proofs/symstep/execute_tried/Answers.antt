use Rattle.wb_symstep.proofs.States.{IsSymState-kept}
use Rattle.wb_symstep.proofs.Stepping.{stepped_kept}
use Rattle.wb_executed.proofs.symstep.execute_tried.Goals as goal

pub returns-in_err-last-clause-state : goal.returns-in_err-last-clause-state
returns-in_err-last-clause-state g c =
    IsSymState-kept c.execute.new.graph c.mk_const.new.graph c.mk_const.ensures.grown c.args.state.now c.execute.ensures.state

pub returns-clause-next : goal.returns-clause-next
returns-clause-next g c =
    stepped_kept c.execute.new.graph c.mk_const.new.graph c.mk_const.ensures.grown c.in_ok-next.next c.in_ok-next.ensures.next

pub returns-clause-state : goal.returns-clause-state
returns-clause-state g c =
    IsSymState-kept c.execute.new.graph c.mk_const.new.graph c.mk_const.ensures.grown c.args.state.now c.execute.ensures.state
