use Rattle.std.proofs.Common.{◌%◌, ◌==◌}
use Rattle.wb_symstep.proofs.Growth.{◌▸◌}
use Rattle.wb_symstep.proofs.Meanings.{from_two}
use Rattle.wb_symstep.proofs.States.{IsSymState-kept}
use Rattle.wb_symstep.proofs.Testing.{inverted}
use Rattle.wb_symstep.proofs.conditions.low_is_not.Goals as goal

pub returns-clause-part : goal.returns-clause-part
returns-clause-part c =
    let old = c.args.graph.now in
    let mid = c.low_is.new.graph in
    let s = c.args.state.now in
    from_two _ _ _ c.mk_notb.result
    (λ id. inverted mid c.mk_notb.new.graph c.mk_notb.ensures.grown s (IsSymState-kept old mid c.low_is.ensures.grown s c.requires.state)
    c.in_ok-is.is' id (λ m. m.regs.dp % 16 == c.args.low) c.in_ok-is.ensures.part)
    c.mk_notb.ensures.value c.mk_notb.ensures.inputs

pub returns-clause-grown : goal.returns-clause-grown
returns-clause-grown c = c.low_is.ensures.grown ▸ c.mk_notb.ensures.grown
