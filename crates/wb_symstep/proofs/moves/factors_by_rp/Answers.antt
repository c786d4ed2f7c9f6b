use Rattle.wb_symstep.proofs.Parts.{part_kept}
use Rattle.wb_symstep.proofs.moves.factors_by_rp.Goals as goal

pub returns-clause-k : goal.returns-clause-k
returns-clause-k c p =
    part_kept c.args.graph.now c.rom_word.new.graph c.rom_word.ensures.grown c.args.state.now c.requires.state c.args.bus p

pub returns-clause-l : goal.returns-clause-l
returns-clause-l c p h = c.in_ok-l.ensures.part
