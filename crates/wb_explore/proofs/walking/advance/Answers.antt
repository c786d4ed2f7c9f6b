use Rattle.std.proofs.Common.{◌+◌, length, refl, sym, ap, subst, arith}
use Rattle.wb_explore.specs.declared.budget.Budget.{Budget}
use Rattle.wb_explore.specs.Purses.{Holding}
use Rattle.wb_explore.specs.Pending.{found_in}
use Rattle.wb_explore.specs.Walk.{IsConfirmed, IsUnderWay, found_of}
use Rattle.wb_explore.proofs.Refusals.{if_err, on_ok, on_ok_two}
use Rattle.wb_explore.proofs.Up.{up_says, up_fresh, dropped}
use Rattle.wb_explore.proofs.Confirmed.{confirmed_up}
use Rattle.wb_explore.proofs.Causes.{stopped_cause, cause_later}
use Rattle.wb_explore.proofs.Onward.{adds_passed}
use Rattle.wb_explore.proofs.Turning.{grows_none, grows_one, room_here, room_next, adds_longer, confirmed_length, nearer_by, counted_by, spent_by}
use Rattle.wb_explore.proofs.walking.advance.Goals as goal

pub confirm-requires-clause-says : goal.confirm-requires-clause-says
confirm-requires-clause-says g c = up_says c.held_laws.ensures c.args.image.now c.args.plan.now c.args.graph.now c.args.purse.now.reached c.args.entry c.args.pending.now.items c.args.findings.now.requests.items c.args.findings.now.overrun c.requires.up

pub confirm-requires-clause-fresh : goal.confirm-requires-clause-fresh
confirm-requires-clause-fresh g c = up_fresh c.held_laws.ensures c.args.image.now c.args.plan.now c.args.graph.now c.args.purse.now.reached c.args.entry c.args.pending.now.items c.args.findings.now.requests.items c.args.findings.now.overrun c.requires.up

pub confirm-requires-clause-light : goal.confirm-requires-clause-light
confirm-requires-clause-light g c =
    let within = c.is_full-full.ensures.purse.within in
    room_here c.args.graph.now (length c.args.purse.now.reached) c.args.purse.now.budget.points (found_in c.args.pending.now.items + found_of c.args.entry) c.requires.room (omega arith)

pub returns-in_err-entry-clause-grows : goal.returns-in_err-entry-clause-grows
returns-in_err-entry-clause-grows g c =
    let l = adds_longer c.args.image.now c.args.plan.now c.args.purse.now.reached c.confirm.new.purse.reached c.confirm.ensures.passed in
    grows_none c.args.graph.now (length c.args.purse.now.reached) (length c.confirm.new.purse.reached) (found_in c.args.pending.now.items + found_of c.args.entry) (omega arith)

pub visit-requires-clause-up : goal.visit-requires-clause-up
visit-requires-clause-up g c = confirmed_up c.held_laws.ensures c.dialogues_are_of_their_kinds.ensures c.states_stay.ensures c.args.image.now c.args.plan.now c.args.graph.now c.args.purse.now c.confirm.new.purse c.args.entry c.in-Some.entry c.args.pending.now.items c.args.findings.now.requests.items c.args.findings.now.overrun c.requires.up (subst (IsConfirmed c.args.graph.now c.args.image.now c.args.plan.now c.args.purse.now c.confirm.new.purse c.args.entry) c.in-Some.is c.in_ok-entry.ensures.confirmed)

pub visit-requires-clause-room : goal.visit-requires-clause-room
visit-requires-clause-room g c =
    let within = c.is_full-full-in-Some.ensures.purse.within in
    let same = ap (λ (b : Budget). b.points) c.confirm.ensures.budget in
    let counted = confirmed_length c.held_laws.ensures c.dialogues_are_of_their_kinds.ensures c.states_stay.ensures c.args.graph.now c.args.image.now c.args.plan.now c.args.purse.now c.confirm.new.purse c.args.entry c.in-Some.entry (subst (IsConfirmed c.args.graph.now c.args.image.now c.args.plan.now c.args.purse.now c.confirm.new.purse c.args.entry) c.in-Some.is c.in_ok-entry.ensures.confirmed) in
    room_next c.args.graph.now (length c.args.purse.now.reached) c.args.purse.now.budget.points (found_in c.args.pending.now.items + found_of c.args.entry) c.requires.room (omega arith)

pub returns-in-Some-clause-nearer : goal.returns-in-Some-clause-nearer
returns-in-Some-clause-nearer g c = on_ok_two c.visit.result (nearer_by (length c.args.purse.now.reached) (length c.confirm.new.purse.reached) (length c.visit.new.purse.reached) (found_in c.visit.new.pending.items) (found_in c.args.pending.now.items) (found_of c.args.entry) (length c.args.pending.now.items) (length c.visit.new.pending.items) (confirmed_length c.held_laws.ensures c.dialogues_are_of_their_kinds.ensures c.states_stay.ensures c.args.graph.now c.args.image.now c.args.plan.now c.args.purse.now c.confirm.new.purse c.args.entry c.in-Some.entry (subst (IsConfirmed c.args.graph.now c.args.image.now c.args.plan.now c.args.purse.now c.confirm.new.purse c.args.entry) c.in-Some.is c.in_ok-entry.ensures.confirmed))) c.visit.ensures.count c.visit.ensures.longer

pub returns-in-Some-clause-counted : goal.returns-in-Some-clause-counted
returns-in-Some-clause-counted g c = on_ok c.visit.result (λ count. grows_one c.args.graph.now c.visit.new.graph ((length c.args.purse.now.reached) + (found_in c.visit.new.pending.items)) (length c.visit.new.purse.reached) (found_in c.args.pending.now.items + found_of c.args.entry) (counted_by (length c.args.purse.now.reached) (length c.confirm.new.purse.reached) (length c.visit.new.purse.reached) (found_in c.visit.new.pending.items) (found_in c.args.pending.now.items) (found_of c.args.entry) (confirmed_length c.held_laws.ensures c.dialogues_are_of_their_kinds.ensures c.states_stay.ensures c.args.graph.now c.args.image.now c.args.plan.now c.args.purse.now c.confirm.new.purse c.args.entry c.in-Some.entry (subst (IsConfirmed c.args.graph.now c.args.image.now c.args.plan.now c.args.purse.now c.confirm.new.purse c.args.entry) c.in-Some.is c.in_ok-entry.ensures.confirmed)) count) c.visit.ensures.adds) c.visit.ensures.count

pub returns-in-Some-clause-cause : goal.returns-in-Some-clause-cause
returns-in-Some-clause-cause g c = if_err c.visit.result (λ f s. cause_later c.args.image.now c.args.plan.now (g.O.Oracle.is_sound c.args.oracle.now) (g.O.Oracle.is_sound c.args.oracle.now) c.args.purse.now c.confirm.new.purse c.confirm.ensures.passed c.confirm.ensures.budget refl f (stopped_cause c.args.image.now c.args.plan.now (g.O.Oracle.is_sound c.args.oracle.now) c.confirm.new.purse f s)) c.visit.ensures.fault

pub returns-in-Some-clause-passed : goal.returns-in-Some-clause-passed
returns-in-Some-clause-passed g c = adds_passed c.args.image.now c.args.plan.now c.args.purse.now.reached c.confirm.new.purse.reached c.visit.new.purse.reached c.confirm.ensures.passed c.visit.ensures.passed

pub returns-in-Some-clause-grows : goal.returns-in-Some-clause-grows
returns-in-Some-clause-grows g c = grows_one c.args.graph.now c.visit.new.graph (length c.args.purse.now.reached) (length c.visit.new.purse.reached) (found_in c.args.pending.now.items + found_of c.args.entry) (spent_by (length c.args.purse.now.reached) (length c.confirm.new.purse.reached) (length c.visit.new.purse.reached) (found_in c.args.pending.now.items) (found_of c.args.entry) (confirmed_length c.held_laws.ensures c.dialogues_are_of_their_kinds.ensures c.states_stay.ensures c.args.graph.now c.args.image.now c.args.plan.now c.args.purse.now c.confirm.new.purse c.args.entry c.in-Some.entry (subst (IsConfirmed c.args.graph.now c.args.image.now c.args.plan.now c.args.purse.now c.confirm.new.purse c.args.entry) c.in-Some.is c.in_ok-entry.ensures.confirmed)) (adds_longer c.args.image.now c.args.plan.now c.confirm.new.purse.reached c.visit.new.purse.reached c.visit.ensures.passed)) c.visit.ensures.adds

pub returns-in-None-clause-under_way : goal.returns-in-None-clause-under_way
returns-in-None-clause-under_way g c =
    let none = subst (IsConfirmed c.args.graph.now c.args.image.now c.args.plan.now c.args.purse.now c.confirm.new.purse c.args.entry) c.in-None.is c.in_ok-entry.ensures.confirmed in
    subst (λ (h : Holding). IsUnderWay c.args.graph.now c.args.image.now c.args.plan.now h.reached c.args.pending.now.items c.args.findings.now.requests.items c.args.findings.now.overrun) (sym none.1)
    (dropped c.held_laws.ensures c.args.image.now c.args.plan.now c.args.graph.now c.args.purse.now.reached c.args.entry c.args.pending.now.items c.args.findings.now.requests.items c.args.findings.now.overrun c.requires.up none.0)

pub returns-in-None-clause-counted : goal.returns-in-None-clause-counted
returns-in-None-clause-counted g c =
    let l = adds_longer c.args.image.now c.args.plan.now c.args.purse.now.reached c.confirm.new.purse.reached c.confirm.ensures.passed in
    grows_none c.args.graph.now ((length c.args.purse.now.reached) + (found_in c.args.pending.now.items)) (length c.confirm.new.purse.reached) (found_in c.args.pending.now.items + found_of c.args.entry) (omega arith)

pub returns-in-None-clause-grows : goal.returns-in-None-clause-grows
returns-in-None-clause-grows g c =
    let l = adds_longer c.args.image.now c.args.plan.now c.args.purse.now.reached c.confirm.new.purse.reached c.confirm.ensures.passed in
    grows_none c.args.graph.now (length c.args.purse.now.reached) (length c.confirm.new.purse.reached) (found_in c.args.pending.now.items + found_of c.args.entry) (omega arith)
