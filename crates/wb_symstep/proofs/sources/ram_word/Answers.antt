use Rattle.wb_symstep.proofs.Meanings.{from_two}
use Rattle.wb_symstep.proofs.Reading.{dp_part, read}
use Rattle.wb_symstep.proofs.sources.ram_word.Goals as goal

pub returns-clause-part : goal.returns-clause-part
returns-clause-part c =
    from_two _ _ _ c.pages_select.result
    (λ id. read c.args.graph.now c.pages_select.new.graph c.pages_select.ensures.grown c.args.state.now c.requires.state
    c.args.state.now.dp id (λ m. m.regs.dp) (λ m is. is.regs_in.dp_in) (dp_part c.args.graph.now c.args.state.now c.requires.state))
    c.pages_select.ensures.value c.pages_select.ensures.inputs
