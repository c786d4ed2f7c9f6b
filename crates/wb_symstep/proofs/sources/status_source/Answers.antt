use Rattle.wb_symstep.proofs.Meanings.{from_two}
use Rattle.wb_symstep.proofs.Reading.{status_read}
use Rattle.wb_symstep.proofs.sources.status_source.Goals as goal

pub returns-clause-part : goal.returns-clause-part
returns-clause-part c =
    from_two _ _ _ c.status_word.result
    (λ id. status_read c.args.graph.now c.status_word.new.graph c.status_word.ensures.grown c.args.state.now c.requires.state id)
    c.status_word.ensures.value c.status_word.ensures.inputs
