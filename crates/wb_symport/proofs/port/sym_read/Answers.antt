use Rattle.std.proofs.Common.{◌∙◌, sym}
use Rattle.wb_symport.proofs.Growth.{◌▸◌}
use Rattle.wb_symport.proofs.Moves.{drc_told, byte_told, read_stands, forks_told}
use Rattle.wb_symport.proofs.port.sym_read.Goals as goal

pub returns-in_err-byte-clause-grown : goal.returns-in_err-byte-clause-grown
returns-in_err-byte-clause-grown c = c.mk_pick.ensures.grown ▸ c.half_by.ensures.grown

pub returns-in_err-stepped-clause-grown : goal.returns-in_err-stepped-clause-grown
returns-in_err-stepped-clause-grown c = c.mk_pick.ensures.grown ▸ c.half_by.ensures.grown

pub returns-clause-grown : goal.returns-clause-grown
returns-clause-grown c = c.mk_pick.ensures.grown ▸ c.half_by.ensures.grown

pub returns-clause-value : goal.returns-clause-value
returns-clause-value c = record {
  there = c.in_ok-byte.ensures.value.there;
  value = λ i a m st.
      byte_told i c.args.graph.now c.args.state.now m st _ _ _
      (c.in_ok-drc.ensures.value.value i a ∙ sym (drc_told i c.args.graph.now c.args.state.now m st))
      (c.mk_pick.ensures.grown.word_values i c.args.state.now.dr c.requires.state.dr)
      (c.in_ok-byte.ensures.value.value i a);
}

pub returns-clause-stands : goal.returns-clause-stands
returns-clause-stands c i a m st =
    let stays = c.states_stay.ensures _ _ (c.mk_pick.ensures.grown ▸ c.half_by.ensures.grown) in
    read_stands i c.half_by.new.graph c.args.state.now m (stays.stands i c.args.state.now m c.requires.state st) _
    (c.half_by.ensures.grown.bit_values i c.in_ok-drc.drc c.in_ok-drc.ensures.value.there
    ∙ c.in_ok-drc.ensures.value.value i a ∙ sym (drc_told i c.args.graph.now c.args.state.now m st))
    _ (c.in_ok-stepped.ensures.chosen i)

pub returns-clause-forks : goal.returns-clause-forks
returns-clause-forks c =
    forks_told c.args.graph.now c.half_by.new.graph c.args.state.now c.in_ok-drc.drc
    (λ i a m st.
    c.half_by.ensures.grown.bit_values i c.in_ok-drc.drc c.in_ok-drc.ensures.value.there
    ∙ c.in_ok-drc.ensures.value.value i a ∙ sym (drc_told i c.args.graph.now c.args.state.now m st))
    c.in_ok-stepped.stepped c.in_ok-stepped.ensures.forks
