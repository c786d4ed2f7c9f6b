use Rattle.std.proofs.Common.{◌≡◌, ◌++◌, ◌∷◌, [], List, Option, None, sym, ap, subst, ◌∙◌}
use Rattle.wb_term.specs.Inputs.{Assignment}
use Rattle.wb_explore.specs.declared.entries.Entry.{Entry}
use Rattle.wb_explore.specs.declared.reached.ReachedPoint.{ReachedPoint}
use Rattle.wb_explore.specs.Purses.{Holding}
use Rattle.wb_explore.specs.Pending.{IsPut, newly, with_noted}
use Rattle.wb_explore.proofs.Putting.{put_alone, newly_first}
use Rattle.wb_explore.proofs.Refusals.{if_err, on_ok_two, newly_none, fresh_alone, noted_or_not, same_budget, unput}
use Rattle.wb_explore.proofs.arrivals.arrive_alone.Goals as goal

pub push_noted-requires-clause-fresh : goal.push_noted-requires-clause-fresh
push_noted-requires-clause-fresh c = λ _. fresh_alone c.args.purse.now.reached c.args.pending.now.items c.args.entry c.requires.fresh c.requires.alone

pub returns-clause-put : goal.returns-clause-put
returns-clause-put c = on_ok_two c.push_noted.result (λ put noted. whole put noted) c.push_noted.ensures.put c.push_noted.ensures.noted
  where
    at : (o : Option Assignment) → newly c.args.entry.witness None ≡ o → (after : Holding) → after ≡ record c.args.purse.now { reached = with_noted c.args.plan.now c.args.entry.key (newly c.args.entry.witness None) c.args.purse.now.reached }
        → after.reached ≡ with_noted c.args.plan.now c.args.entry.key o c.args.purse.now.reached
    at o q after e = ap (λ (h : Holding). h.reached) e ∙ ap (λ (n : Option Assignment). with_noted c.args.plan.now c.args.entry.key n c.args.purse.now.reached) q

    whole : c.push_noted.new.pending.items ≡ c.args.pending.now.items ++ c.args.entry ∷ []
        → c.push_noted.new.purse ≡ record c.args.purse.now { reached = with_noted c.args.plan.now c.args.entry.key (newly c.args.entry.witness None) c.args.purse.now.reached }
        → IsPut c.args.image.now c.args.plan.now c.args.graph.now c.args.graph.now c.args.purse.now.reached c.push_noted.new.purse.reached c.args.pending.now.items c.args.entry c.push_noted.new.pending.items
    whole put noted =
        let here = put_alone c.held_laws.ensures c.dialogues_are_of_their_kinds.ensures c.states_stay.ensures c.args.image.now c.args.plan.now c.args.graph.now c.args.purse.now.reached c.args.pending.now.items c.args.entry c.requires.pending c.requires.entry c.requires.sound c.requires.alone in
        let listed : IsPut c.args.image.now c.args.plan.now c.args.graph.now c.args.graph.now c.args.purse.now.reached (with_noted c.args.plan.now c.args.entry.key c.args.entry.witness c.args.purse.now.reached) c.args.pending.now.items c.args.entry c.push_noted.new.pending.items =
        subst (λ (fs : List Entry). IsPut c.args.image.now c.args.plan.now c.args.graph.now c.args.graph.now c.args.purse.now.reached (with_noted c.args.plan.now c.args.entry.key c.args.entry.witness c.args.purse.now.reached) c.args.pending.now.items c.args.entry fs) (sym put) here in
        subst (λ (rs : List ReachedPoint). IsPut c.args.image.now c.args.plan.now c.args.graph.now c.args.graph.now c.args.purse.now.reached rs c.args.pending.now.items c.args.entry c.push_noted.new.pending.items) (sym (at c.args.entry.witness (newly_none c.args.entry.witness) c.push_noted.new.purse noted)) listed

pub returns-clause-fault : goal.returns-clause-fault
returns-clause-fault c = if_err c.push_noted.result (unput c.held_laws.ensures c.dialogues_are_of_their_kinds.ensures c.states_stay.ensures c.args.image.now c.args.plan.now c.args.graph.now c.args.entry c.requires.entry c.requires.sound (newly c.args.entry.witness None) c.args.purse.now c.is_full-full.ensures.purse (newly_first c.held_laws.ensures c.dialogues_are_of_their_kinds.ensures c.states_stay.ensures c.args.image.now c.args.plan.now c.args.entry.witness None) (λ _. fresh_alone c.args.purse.now.reached c.args.pending.now.items c.args.entry c.requires.fresh c.requires.alone)) c.push_noted.ensures.fault

pub returns-clause-passed : goal.returns-clause-passed
returns-clause-passed c = noted_or_not c.held_laws.ensures c.dialogues_are_of_their_kinds.ensures c.states_stay.ensures c.args.image.now c.args.plan.now c.args.graph.now c.args.entry c.requires.entry c.requires.sound (newly c.args.entry.witness None) c.args.purse.now c.push_noted.new.purse (newly_first c.held_laws.ensures c.dialogues_are_of_their_kinds.ensures c.states_stay.ensures c.args.image.now c.args.plan.now c.args.entry.witness None) c.push_noted.ensures.purse

pub returns-clause-budget : goal.returns-clause-budget
returns-clause-budget c = same_budget c.held_laws.ensures c.dialogues_are_of_their_kinds.ensures c.states_stay.ensures c.args.image.now c.args.plan.now c.args.graph.now c.args.entry c.requires.entry c.requires.sound (newly c.args.entry.witness None) c.args.purse.now c.push_noted.new.purse c.push_noted.ensures.purse
