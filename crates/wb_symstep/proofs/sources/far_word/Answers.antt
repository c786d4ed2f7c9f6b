use Rattle.wb_machine.specs.Next.{far_address}
use Rattle.wb_symstep.proofs.Growth.{◌▸◌}
use Rattle.wb_symstep.proofs.Meanings.{from_two}
use Rattle.wb_symstep.proofs.States.{IsSymState-kept}
use Rattle.wb_symstep.proofs.Parts.{of_one}
use Rattle.wb_symstep.proofs.Reading.{dp_part, far_below, read}
use Rattle.wb_symstep.proofs.sources.far_word.Goals as goal

pub returns-clause-part : goal.returns-clause-part
returns-clause-part c =
    let old = c.args.graph.now in
    let mid = c.far_pointer.new.graph in
    let s = c.args.state.now in
    let dp = dp_part old s c.requires.state in
    let far = of_one old mid c.far_pointer.ensures.grown s c.requires.state s.dp c.in_ok-far.far (λ m. m.regs.dp) far_address dp
    c.in_ok-far.ensures.value c.in_ok-far.ensures.inputs in
    from_two _ _ _ c.pages_select.result
    (λ id. read mid c.pages_select.new.graph c.pages_select.ensures.grown s (IsSymState-kept old mid c.far_pointer.ensures.grown s c.requires.state)
    c.in_ok-far.far id (λ m. far_address m.regs.dp) (λ m is. far_below m.regs.dp is.regs_in.dp_in) far)
    c.pages_select.ensures.value c.pages_select.ensures.inputs

pub returns-clause-grown : goal.returns-clause-grown
returns-clause-grown c = c.far_pointer.ensures.grown ▸ c.pages_select.ensures.grown
