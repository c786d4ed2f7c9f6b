use Rattle.std.proofs.Common.{◌≡◌, List, sym, ap, subst}
use Rattle.wb_explore.specs.declared.entries.Entry.{Entry}
use Rattle.wb_explore.specs.declared.reached.ReachedPoint.{ReachedPoint}
use Rattle.wb_explore.specs.Entries.{Taken}
use Rattle.wb_explore.specs.Purses.{Holding}
use Rattle.wb_explore.specs.Pending.{IsPut, IsMet, newly, with_noted}
use Rattle.wb_explore.proofs.Putting.{put_met, newly_first}
use Rattle.wb_explore.proofs.Lists.{taken_itself}
use Rattle.wb_explore.proofs.Refusals.{if_err, on_ok_two, fresh_met, noted_or_not, same_budget, unput, found_key, taken_from}
use Rattle.wb_explore.proofs.arrivals.arrive_met.Goals as goal

pub push_joined-requires-clause-other : goal.push_joined-requires-clause-other
push_joined-requires-clause-other c =
    c.requires.pending.each c.remove-other.result (taken_itself c.args.pending.now.items c.remove-other.new.self.items c.remove-other.result (taken_from c.args.pending.now.items c.remove-other.new.self.items c.args.place c.remove-other.result c.requires.place c.remove-other.ensures.value c.remove-other.ensures.items))

pub push_joined-requires-clause-same : goal.push_joined-requires-clause-same
push_joined-requires-clause-same c = found_key c.args.pending.now.items c.args.place c.remove-other.result c.args.entry c.requires.place c.remove-other.ensures.value c.requires.same

pub push_joined-requires-clause-fresh : goal.push_joined-requires-clause-fresh
push_joined-requires-clause-fresh c = fresh_met c.args.graph.now c.args.image.now c.args.plan.now c.args.purse.now.reached c.args.pending.now.items c.remove-other.new.self.items c.args.entry c.remove-other.result c.requires.pending (taken_from c.args.pending.now.items c.remove-other.new.self.items c.args.place c.remove-other.result c.requires.place c.remove-other.ensures.value c.remove-other.ensures.items) (found_key c.args.pending.now.items c.args.place c.remove-other.result c.args.entry c.requires.place c.remove-other.ensures.value c.requires.same) c.requires.fresh

pub returns-clause-put : goal.returns-clause-put
returns-clause-put c = on_ok_two c.push_joined.result (λ met noted. whole met noted) c.push_joined.ensures.met c.push_joined.ensures.noted
  where
    other : Entry
    other = c.remove-other.result

    rest : List Entry
    rest = c.remove-other.new.self.items

    whole : IsMet c.push_joined.new.graph c.args.image.now c.args.plan.now c.args.entry c.remove-other.result c.remove-other.new.self.items c.push_joined.new.pending.items
        → c.push_joined.new.purse ≡ record c.args.purse.now { reached = with_noted c.args.plan.now c.args.entry.key (newly c.args.entry.witness c.remove-other.result.witness) c.args.purse.now.reached }
        → IsPut c.args.image.now c.args.plan.now c.args.graph.now c.push_joined.new.graph c.args.purse.now.reached c.push_joined.new.purse.reached c.args.pending.now.items c.args.entry c.push_joined.new.pending.items
    whole met noted =
        let taken : Taken c.args.pending.now.items c.remove-other.new.self.items c.remove-other.result = taken_from c.args.pending.now.items c.remove-other.new.self.items c.args.place c.remove-other.result c.requires.place c.remove-other.ensures.value c.remove-other.ensures.items in
        let key = found_key c.args.pending.now.items c.args.place c.remove-other.result c.args.entry c.requires.place c.remove-other.ensures.value c.requires.same in
        let here = put_met c.held_laws.ensures c.dialogues_are_of_their_kinds.ensures c.states_stay.ensures c.args.image.now c.args.plan.now c.args.graph.now c.push_joined.new.graph c.push_joined.ensures.grown c.args.purse.now.reached c.args.pending.now.items c.remove-other.new.self.items c.args.entry c.remove-other.result met.joined c.requires.pending c.requires.entry c.requires.sound taken key met.entry met.joins met.witness in
        let listed : IsPut c.args.image.now c.args.plan.now c.args.graph.now c.push_joined.new.graph c.args.purse.now.reached (with_noted c.args.plan.now c.args.entry.key (newly c.args.entry.witness c.remove-other.result.witness) c.args.purse.now.reached) c.args.pending.now.items c.args.entry c.push_joined.new.pending.items =
        subst (λ (fs : List Entry). IsPut c.args.image.now c.args.plan.now c.args.graph.now c.push_joined.new.graph c.args.purse.now.reached (with_noted c.args.plan.now c.args.entry.key (newly c.args.entry.witness c.remove-other.result.witness) c.args.purse.now.reached) c.args.pending.now.items c.args.entry fs) (sym met.put) here in
        subst (λ (rs : List ReachedPoint). IsPut c.args.image.now c.args.plan.now c.args.graph.now c.push_joined.new.graph c.args.purse.now.reached rs c.args.pending.now.items c.args.entry c.push_joined.new.pending.items) (sym (ap (λ (h : Holding). h.reached) noted)) listed

pub returns-clause-fault : goal.returns-clause-fault
returns-clause-fault c = if_err c.push_joined.result (unput c.held_laws.ensures c.dialogues_are_of_their_kinds.ensures c.states_stay.ensures c.args.image.now c.args.plan.now c.args.graph.now c.args.entry c.requires.entry c.requires.sound (newly c.args.entry.witness c.remove-other.result.witness) c.args.purse.now c.is_full-full.ensures.purse (newly_first c.held_laws.ensures c.dialogues_are_of_their_kinds.ensures c.states_stay.ensures c.args.image.now c.args.plan.now c.args.entry.witness c.remove-other.result.witness) (fresh_met c.args.graph.now c.args.image.now c.args.plan.now c.args.purse.now.reached c.args.pending.now.items c.remove-other.new.self.items c.args.entry c.remove-other.result c.requires.pending (taken_from c.args.pending.now.items c.remove-other.new.self.items c.args.place c.remove-other.result c.requires.place c.remove-other.ensures.value c.remove-other.ensures.items) (found_key c.args.pending.now.items c.args.place c.remove-other.result c.args.entry c.requires.place c.remove-other.ensures.value c.requires.same) c.requires.fresh)) c.push_joined.ensures.fault

pub returns-clause-passed : goal.returns-clause-passed
returns-clause-passed c = noted_or_not c.held_laws.ensures c.dialogues_are_of_their_kinds.ensures c.states_stay.ensures c.args.image.now c.args.plan.now c.args.graph.now c.args.entry c.requires.entry c.requires.sound (newly c.args.entry.witness c.remove-other.result.witness) c.args.purse.now c.push_joined.new.purse (newly_first c.held_laws.ensures c.dialogues_are_of_their_kinds.ensures c.states_stay.ensures c.args.image.now c.args.plan.now c.args.entry.witness c.remove-other.result.witness) c.push_joined.ensures.purse

pub returns-clause-budget : goal.returns-clause-budget
returns-clause-budget c = same_budget c.held_laws.ensures c.dialogues_are_of_their_kinds.ensures c.states_stay.ensures c.args.image.now c.args.plan.now c.args.graph.now c.args.entry c.requires.entry c.requires.sound (newly c.args.entry.witness c.remove-other.result.witness) c.args.purse.now c.push_joined.new.purse c.push_joined.ensures.purse
