use Rattle.std.proofs.Common.{bit_and}
use Rattle.wb_symstep.proofs.Growth.{◌▸◌}
use Rattle.wb_symstep.proofs.Meanings.{from_two}
use Rattle.wb_symstep.proofs.States.{IsSymState-kept}
use Rattle.wb_symstep.proofs.Parts.{of_one}
use Rattle.wb_symstep.proofs.Reading.{dp_part}
use Rattle.wb_symstep.proofs.Testing.{low_equal}
use Rattle.wb_symstep.proofs.conditions.low_is.Goals as goal

pub returns-clause-part : goal.returns-clause-part
returns-clause-part c =
    let old = c.args.graph.now in
    let mid = c.masked.new.graph in
    let s = c.args.state.now in
    let bits = of_one old mid c.masked.ensures.grown s c.requires.state s.dp c.in_ok-bits.bits (λ m. m.regs.dp) (λ n. bit_and n 15)
    (dp_part old s c.requires.state) c.in_ok-bits.ensures.value c.in_ok-bits.ensures.inputs in
    from_two _ _ _ c.equals.result
    (λ id. low_equal mid c.equals.new.graph c.equals.ensures.grown s (IsSymState-kept old mid c.masked.ensures.grown s c.requires.state)
    c.in_ok-bits.bits id (λ m. m.regs.dp) c.args.low bits)
    c.equals.ensures.value c.equals.ensures.inputs

pub returns-clause-grown : goal.returns-clause-grown
returns-clause-grown c = c.masked.ensures.grown ▸ c.equals.ensures.grown
