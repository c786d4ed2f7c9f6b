use Rattle.wb_symstep.proofs.Meanings.{from_two}
use Rattle.wb_symstep.proofs.Working.{low}
use Rattle.wb_symstep.proofs.compute.product_low.Goals as goal

pub returns-clause-part : goal.returns-clause-part
returns-clause-part c =
    from_two _ _ _ c.mk_low.result
    (λ id. low c.args.graph.now c.mk_low.new.graph c.mk_low.ensures.grown c.args.state.now c.requires.state id)
    c.mk_low.ensures.value c.mk_low.ensures.inputs
