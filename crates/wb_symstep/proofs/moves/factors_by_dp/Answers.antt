use Rattle.wb_symstep.proofs.Parts.{part_kept}
use Rattle.wb_symstep.proofs.moves.factors_by_dp.Goals as goal

pub returns-clause-k : goal.returns-clause-k
returns-clause-k c p h = c.in_ok-k.ensures.part

pub returns-clause-l : goal.returns-clause-l
returns-clause-l c p drom =
    part_kept c.args.graph.now c.far_word.new.graph c.far_word.ensures.grown c.args.state.now c.requires.state c.args.bus p
