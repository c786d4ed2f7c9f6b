use Rattle.std.proofs.Common.{◌≡◌, Bool, if◌then◌else◌, slice_index, ◌∙◌, sym, subst}
use Rattle.std.proofs.lemmas.Result.{IfOk-weaker}
use Rattle.wb_term.specs.Values.{word_value}
use Rattle.wb_port.specs.Port.{half_replaced}
use Rattle.wb_symport.proofs.Growth.{◌▸◌}
use Rattle.wb_symport.proofs.Moves.{drc_told, write_stands, forks_told}
use Rattle.wb_symport.proofs.port.sym_write.Goals as goal

pub returns-in_err-dr-clause-grown : goal.returns-in_err-dr-clause-grown
returns-in_err-dr-clause-grown c = c.mk_pick.ensures.grown ▸ c.written.ensures.grown

pub returns-clause-grown : goal.returns-clause-grown
returns-clause-grown c = c.mk_pick.ensures.grown ▸ c.written.ensures.grown

pub returns-clause-stands : goal.returns-clause-stands
returns-clause-stands c =
    IfOk-weaker c.after_transfer.result _ _
    (λ r chooses i a m st.
    let stays = c.states_stay.ensures _ _ (c.mk_pick.ensures.grown ▸ c.written.ensures.grown) in
    let same = c.written.ensures.grown.bit_values i c.in_ok-drc.drc c.in_ok-drc.ensures.value.there in
    write_stands i c.written.new.graph c.args.state.now m (stays.stands i c.args.state.now m c.requires.state st) _
    (same ∙ c.in_ok-drc.ensures.value.value i a ∙ sym (drc_told i c.args.graph.now c.args.state.now m st))
    _ _ _ (sym (c.written.ensures.grown.word_values i c.args.state.now.dr (c.mk_pick.ensures.grown.words c.args.state.now.dr c.requires.state.dr)))
    (subst (λ (b : Bool). word_value i c.written.new.graph (if b then c.in_ok-dr.dr.alone else c.in_ok-dr.dr.other) ≡ half_replaced b c.args.state.now.drs (slice_index i.bytes c.args.place) (word_value i c.mk_pick.new.graph c.args.state.now.dr)) (sym same) (c.in_ok-dr.ensures.value i a))
    _ (chooses i))
    c.after_transfer.ensures.chosen

pub returns-clause-forks : goal.returns-clause-forks
returns-clause-forks c =
    IfOk-weaker c.after_transfer.result _ _
    (λ r by.
    forks_told c.args.graph.now c.written.new.graph c.args.state.now c.in_ok-drc.drc
    (λ i a m st.
    c.written.ensures.grown.bit_values i c.in_ok-drc.drc c.in_ok-drc.ensures.value.there
    ∙ c.in_ok-drc.ensures.value.value i a ∙ sym (drc_told i c.args.graph.now c.args.state.now m st))
    r by)
    c.after_transfer.ensures.forks
