use Rattle.std.proofs.Common.{sym}
use Rattle.wb_symstep.proofs.Meanings.{from_two}
use Rattle.wb_symstep.proofs.Reading.{looked}
use Rattle.wb_symstep.proofs.sources.rom_word.Goals as goal

pub returns-clause-part : goal.returns-clause-part
returns-clause-part c =
    from_two _ _ _ c.mk_look.result
    (λ id is_id. looked c.args.graph.now c.mk_look.new.graph c.mk_look.ensures.grown c.args.state.now c.requires.state
    id c.args.image.now.drom (rw (sym c.requires.words) is_id))
    c.mk_look.ensures.value c.mk_look.ensures.inputs
