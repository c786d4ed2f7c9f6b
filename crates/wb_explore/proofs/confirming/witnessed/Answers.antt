use Rattle.std.proofs.Common.{sym, subst, rules}
use Rattle.wb_explore.specs.Pending.{IsWitness}
use Rattle.wb_explore.proofs.Confirmed.{normal_witness, found_passes, found_unput}
use Rattle.wb_explore.proofs.confirming.witnessed.Goals as goal

pub returns-in_err-note-clause-fault : goal.returns-in_err-note-clause-fault
returns-in_err-note-clause-fault c =
    let t = subst (IsWitness c.args.graph.now c.args.plan.now c.args.entry.cond) (sym c.in_ok-normal.ensures) (normal_witness c.normalised_inputs_keep_the_dialogue.ensures c.normalised_inputs_give_the_values.ensures c.args.graph.now c.len-nodes.ensures.graph c.args.image.now c.args.plan.now c.requires.few c.args.entry c.requires.entry c.args.inputs c.requires.inputs c.requires.holds) in
    let u = found_unput c.held_laws.ensures c.dialogues_are_of_their_kinds.ensures c.states_stay.ensures c.args.image.now c.args.plan.now c.args.graph.now c.args.entry c.in_ok-normal.normal c.requires.entry c.requires.sound t c.args.purse.now c.is_full-full.ensures.purse c.requires.fresh _ c.in_err-note.ensures.fault in
    search rules

pub returns-clause-passed : goal.returns-clause-passed
returns-clause-passed c =
    let t = subst (IsWitness c.args.graph.now c.args.plan.now c.args.entry.cond) (sym c.in_ok-normal.ensures) (normal_witness c.normalised_inputs_keep_the_dialogue.ensures c.normalised_inputs_give_the_values.ensures c.args.graph.now c.len-nodes.ensures.graph c.args.image.now c.args.plan.now c.requires.few c.args.entry c.requires.entry c.args.inputs c.requires.inputs c.requires.holds) in
    found_passes c.held_laws.ensures c.dialogues_are_of_their_kinds.ensures c.states_stay.ensures c.args.image.now c.args.plan.now c.args.graph.now c.args.entry c.in_ok-normal.normal c.requires.entry c.requires.sound t c.args.purse.now c.note.new.purse c.in_ok-note.ensures.ok
