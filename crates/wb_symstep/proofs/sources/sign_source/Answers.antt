use Rattle.wb_symstep.proofs.Meanings.{from_two}
use Rattle.wb_symstep.proofs.Reading.{sign_read}
use Rattle.wb_symstep.proofs.sources.sign_source.Goals as goal

pub returns-clause-part : goal.returns-clause-part
returns-clause-part c =
    from_two _ _ _ c.sign_limit.result
    (λ id. sign_read c.args.graph.now c.sign_limit.new.graph c.sign_limit.ensures.grown c.args.state.now c.requires.state id 0x7FFF 0x8000)
    c.sign_limit.ensures.value c.sign_limit.ensures.inputs
