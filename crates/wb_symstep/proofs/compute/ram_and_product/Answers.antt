use Rattle.wb_word.specs.declared.codes.Src.TheVariants.{Mem}
use Rattle.wb_machine.specs.Next.{bus_of}
use Rattle.wb_symstep.proofs.Growth.{◌▸◌}
use Rattle.wb_symstep.proofs.Parts.{part_kept}
use Rattle.wb_symstep.proofs.States.{IsSymState-kept}
use Rattle.wb_symstep.proofs.compute.ram_and_product.Goals as goal

pub returns-in_err-operand-clause-grown : goal.returns-in_err-operand-clause-grown
returns-in_err-operand-clause-grown c = c.ram_word.ensures.grown ▸ c.product_half.ensures.grown

pub returns-clause-word : goal.returns-clause-word
unfolding bus_of
returns-clause-word c =
    part_kept c.ram_word.new.graph c.product_half.new.graph c.product_half.ensures.grown c.args.state.now
    (IsSymState-kept c.args.graph.now c.ram_word.new.graph c.ram_word.ensures.grown c.args.state.now c.requires.state)
    c.in_ok-word.word (bus_of Mem c.args.image.now) c.in_ok-word.ensures.part

pub returns-clause-operand : goal.returns-clause-operand
returns-clause-operand c = c.in_ok-operand.ensures.part (bus_of Mem c.args.image.now)

pub returns-clause-grown : goal.returns-clause-grown
returns-clause-grown c = c.ram_word.ensures.grown ▸ c.product_half.ensures.grown
