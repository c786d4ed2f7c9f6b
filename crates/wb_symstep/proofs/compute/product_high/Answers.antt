use Rattle.wb_symstep.proofs.Meanings.{from_two}
use Rattle.wb_symstep.proofs.Working.{high}
use Rattle.wb_symstep.proofs.compute.product_high.Goals as goal

pub returns-clause-part : goal.returns-clause-part
returns-clause-part c =
    from_two _ _ _ c.mk_high.result
    (λ id. high c.args.graph.now c.mk_high.new.graph c.mk_high.ensures.grown c.args.state.now c.requires.state id)
    c.mk_high.ensures.value c.mk_high.ensures.inputs
