use Rattle.wb_solve.proofs.Ending.{halted_rises, halted_named, conflict_is}
use Rattle.wb_solve.proofs.decisions.Descents.conflict_step.Goals as goal

pub write_hints-requires-clause-named : goal.write_hints-requires-clause-named
write_hints-requires-clause-named c = halted_named c.args.formula.now c.args.steps.now c.args.self.now c.requires.steps c.args.number c.requires.halted

pub make_step-requires : goal.make_step-requires
make_step-requires c = halted_rises c.args.formula.now c.args.steps.now c.args.self.now c.requires.steps c.args.number c.as_slice.result.now c.requires.halted c.as_slice.ensures.value

pub returns-clause-conflict : goal.returns-clause-conflict
returns-clause-conflict c =
    conflict_is c.args.formula.now c.args.steps.now c.args.self.now c.requires.steps c.args.number c.as_slice.result.now c.write_hints.new.hints.items c.as_slice-2.result.now c.make_step.result
    c.requires.halted c.in_ok-write_hints.ensures.hints c.as_slice.ensures.value c.as_slice-2.ensures.value c.make_step.ensures.clause c.make_step.ensures.hints
