use Rattle.std.proofs.Common.{◌≡◌, ◌++◌, ◌∷◌, [], List, refl, ap, sym, ◌∙◌, subst}
use Rattle.wb_term.specs.Inputs.{Assignment}
use Rattle.wb_port.specs.declared.points.Point.{Point}
use Rattle.wb_point.specs.Dialogues.{dialogue_under}
use Rattle.wb_explore.specs.declared.entries.Entry.{Entry}
use Rattle.wb_explore.specs.declared.reached.ReachedPoint.{ReachedPoint}
use Rattle.wb_explore.specs.Entries.{Covered}
use Rattle.wb_explore.specs.Plans.{runs_of}
use Rattle.wb_explore.specs.Layers.{AddsPassed}
use Rattle.wb_explore.specs.Pending.{entry_view, ArePending, AreAllFound, AreAhead, IsUnnoted, IsUnput}
use Rattle.wb_explore.specs.Starts.{start_point, zero_inputs}
use Rattle.wb_explore.proofs.Starting.{start_noted, start_passed, start_unput, start_pending, start_found, start_covers}
use Rattle.wb_explore.proofs.Refusals.{handed_on}
use Rattle.wb_explore.proofs.Serving.{found_ahead}
use Rattle.wb_explore.proofs.starts.begin.Goals as goal

pub returns-in_err-note-clause-fault : goal.returns-in_err-note-clause-fault
returns-in_err-note-clause-fault c =
    let p = c.args.plan.now in
    handed_on (IsUnput c.args.image.now p c.args.purse.now) c.from_residual-in_err-note.result c.in_err-note.field-0.0 c.from_residual-in_err-note.ensures.1
    (start_unput c.args.image.now p c.requires.empty c.held_laws.ensures c.dialogues_are_of_their_kinds.ensures c.states_stay.ensures c.args.purse.now.reached c.args.purse.now refl c.points-points.ensures.purse c.requires.fresh c.in_err-note.field-0.0
    (subst (λ (y : Point). IsUnnoted c.args.purse.now (record { point = y; dialogue = dialogue_under p.kinds zero_inputs p.power }) c.in_err-note.field-0.0) c.in_ok-key.ensures
    (subst (λ (w : Assignment). IsUnnoted c.args.purse.now (record { point = c.in_ok-key.key; dialogue = dialogue_under p.kinds w p.power }) c.in_err-note.field-0.0) c.in_ok-inputs.ensures c.in_err-note.ensures.fault)))

pub returns-in_err-entry-clause-passed : goal.returns-in_err-entry-clause-passed
returns-in_err-entry-clause-passed c =
    let p = c.args.plan.now in
    let noted = start_noted p c.in_ok-key.key c.in_ok-inputs.inputs c.args.purse.now c.note.new.purse c.in_ok-key.ensures c.in_ok-inputs.ensures c.in_ok-note.ensures.ok in
    subst (AddsPassed c.args.image.now p c.args.purse.now.reached) (sym noted) (start_passed c.args.image.now p c.requires.empty c.held_laws.ensures c.dialogues_are_of_their_kinds.ensures c.states_stay.ensures c.args.purse.now.reached)

pub returns-in_err-push-clause-passed : goal.returns-in_err-push-clause-passed
returns-in_err-push-clause-passed c =
    let p = c.args.plan.now in
    let noted = start_noted p c.in_ok-key.key c.in_ok-inputs.inputs c.args.purse.now c.note.new.purse c.in_ok-key.ensures c.in_ok-inputs.ensures c.in_ok-note.ensures.ok in
    subst (AddsPassed c.args.image.now p c.args.purse.now.reached) (sym noted) (start_passed c.args.image.now p c.requires.empty c.held_laws.ensures c.dialogues_are_of_their_kinds.ensures c.states_stay.ensures c.args.purse.now.reached)

pub returns-clause-passed : goal.returns-clause-passed
returns-clause-passed c =
    let p = c.args.plan.now in
    let noted = start_noted p c.in_ok-key.key c.in_ok-inputs.inputs c.args.purse.now c.note.new.purse c.in_ok-key.ensures c.in_ok-inputs.ensures c.in_ok-note.ensures.ok in
    subst (AddsPassed c.args.image.now p c.args.purse.now.reached) (sym noted) (start_passed c.args.image.now p c.requires.empty c.held_laws.ensures c.dialogues_are_of_their_kinds.ensures c.states_stay.ensures c.args.purse.now.reached)

pub returns-clause-pending : goal.returns-clause-pending
returns-clause-pending c =
    let p = c.args.plan.now in
    let e = c.in_ok-entry.entry in
    let noted = start_noted p c.in_ok-key.key c.in_ok-inputs.inputs c.args.purse.now c.note.new.purse c.in_ok-key.ensures c.in_ok-inputs.ensures c.in_ok-note.ensures.ok in
    let listed : c.push.new.self.items ≡ e ∷ [] = c.in_ok-push.ensures.items ∙ ap (λ (es : List Entry). es ++ e ∷ []) c.new-pending.ensures.items in
    subst (λ (es : List Entry). ArePending c.start_entry.new.graph c.args.image.now p c.note.new.purse.reached es) (sym listed)
    (subst (λ (rs : List ReachedPoint). ArePending c.start_entry.new.graph c.args.image.now p rs (e ∷ [])) (sym noted)
    (start_pending c.args.image.now p c.requires.empty c.held_laws.ensures c.dialogues_are_of_their_kinds.ensures c.states_stay.ensures c.args.purse.now.reached c.start_entry.new.graph e c.in_ok-entry.ensures.start))

pub returns-clause-ahead : goal.returns-clause-ahead
returns-clause-ahead c =
    let p = c.args.plan.now in
    let e = c.in_ok-entry.entry in
    let noted = start_noted p c.in_ok-key.key c.in_ok-inputs.inputs c.args.purse.now c.note.new.purse c.in_ok-key.ensures c.in_ok-inputs.ensures c.in_ok-note.ensures.ok in
    let listed : c.push.new.self.items ≡ e ∷ [] = c.in_ok-push.ensures.items ∙ ap (λ (es : List Entry). es ++ e ∷ []) c.new-pending.ensures.items in
    subst (λ (es : List Entry). AreAhead c.args.image.now p c.note.new.purse.reached es 0) (sym listed)
    (found_ahead c.args.image.now p c.note.new.purse.reached (e ∷ [])
    (subst (λ (rs : List ReachedPoint). AreAllFound p rs (e ∷ [])) (sym noted)
    (start_found c.args.image.now p c.requires.empty c.held_laws.ensures c.dialogues_are_of_their_kinds.ensures c.states_stay.ensures c.args.purse.now.reached c.start_entry.new.graph e c.in_ok-entry.ensures.start c.requires.fresh)))

pub returns-clause-covered : goal.returns-clause-covered
returns-clause-covered c =
    let p = c.args.plan.now in
    let e = c.in_ok-entry.entry in
    let listed : c.push.new.self.items ≡ e ∷ [] = c.in_ok-push.ensures.items ∙ ap (λ (es : List Entry). es ++ e ∷ []) c.new-pending.ensures.items in
    subst (λ (es : List Entry). Covered (entry_view c.start_entry.new.graph) (runs_of c.args.image.now p) es (λ i d. ⊥)) (sym listed)
    (start_covers c.args.image.now p c.requires.empty c.start_entry.new.graph e c.in_ok-entry.ensures.start)
