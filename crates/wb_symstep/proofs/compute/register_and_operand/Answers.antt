use Rattle.wb_machine.specs.Next.{bus_of}
use Rattle.wb_symstep.proofs.Growth.{◌▸◌}
use Rattle.wb_symstep.proofs.Parts.{part_kept}
use Rattle.wb_symstep.proofs.States.{IsSymState-kept}
use Rattle.wb_symstep.proofs.compute.register_and_operand.Goals as goal

pub returns-in_err-operand-clause-grown : goal.returns-in_err-operand-clause-grown
returns-in_err-operand-clause-grown c = c.register_source.ensures.grown ▸ c.plain_operand.ensures.grown

pub returns-clause-word : goal.returns-clause-word
returns-clause-word c =
    part_kept c.register_source.new.graph c.plain_operand.new.graph c.plain_operand.ensures.grown c.args.state.now
    (IsSymState-kept c.args.graph.now c.register_source.new.graph c.register_source.ensures.grown c.args.state.now c.requires.state)
    c.in_ok-word.word (bus_of c.args.src c.args.image.now) c.in_ok-word.ensures.part

pub returns-clause-operand : goal.returns-clause-operand
returns-clause-operand c = c.in_ok-operand.ensures.part (bus_of c.args.src c.args.image.now)

pub returns-clause-grown : goal.returns-clause-grown
returns-clause-grown c = c.register_source.ensures.grown ▸ c.plain_operand.ensures.grown
