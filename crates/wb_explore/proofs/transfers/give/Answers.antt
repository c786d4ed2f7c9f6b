use Rattle.std.proofs.Common.{sym, subst, arith}
use Rattle.wb_term.specs.Terms.{Terms}
use Rattle.wb_term.specs.Growth.{AddsAtMost}
use Rattle.wb_explore.specs.Pending.{list_of}
use Rattle.wb_explore.proofs.Growth.{◌▸◌}
use Rattle.wb_explore.proofs.Growing.{pending_grown}
use Rattle.wb_explore.proofs.Refusals.{on_ok}
use Rattle.wb_explore.proofs.Onward.{adds_on, adds_raised}
use Rattle.wb_explore.proofs.Ended.{longer_few}
use Rattle.wb_explore.proofs.Serving.{given_served, given_entries, given_sounds, put_carries, adds_nil}
use Rattle.wb_explore.proofs.transfers.give.Goals as goal

pub put_given-requires-clause-pending : goal.put_given-requires-clause-pending
put_given-requires-clause-pending c = pending_grown c.states_stay.ensures c.args.image.now c.args.longer.now c.args.graph.now c.given.new.graph c.given.ensures.grown c.args.purse.now.reached c.args.pending.now.items c.requires.pending

pub put_given-requires-clause-entries : goal.put_given-requires-clause-entries
put_given-requires-clause-entries c = given_entries c.held_laws.ensures c.dialogues_grow_at_the_end.ensures c.states_stay.ensures c.args.image.now c.args.kind c.args.plan.now c.args.longer.now c.requires.longer c.given.new.graph c.args.request.now c.in_ok-arrivals.arrivals c.in_ok-arrivals.ensures.given

pub put_given-requires-clause-sound : goal.put_given-requires-clause-sound
put_given-requires-clause-sound c = given_sounds c.held_laws.ensures c.dialogues_grow_at_the_end.ensures c.states_stay.ensures c.args.image.now c.args.kind c.args.plan.now c.args.longer.now c.requires.longer c.args.graph.now c.given.new.graph c.given.ensures.grown c.args.request.now c.in_ok-arrivals.arrivals c.requires.request c.requires.asked c.in_ok-arrivals.ensures.given

pub put_given-requires-clause-few : goal.put_given-requires-clause-few
put_given-requires-clause-few c = longer_few c.args.plan.now c.args.kind c.args.longer.now c.requires.longer c.requires.short

pub returns-in_err-arrivals-clause-passed : goal.returns-in_err-arrivals-clause-passed
returns-in_err-arrivals-clause-passed c = adds_nil c.args.image.now c.args.longer.now c.args.purse.now.reached

pub returns-in_err-arrivals-clause-adds : goal.returns-in_err-arrivals-clause-adds
returns-in_err-arrivals-clause-adds c = adds_raised 19 621 258 10260 (omega arith) (omega arith) c.given.ensures.adds

pub returns-clause-pending : goal.returns-clause-pending
returns-clause-pending c = on_ok c.put_given.result (λ x. x.pending) c.put_given.ensures.put

pub returns-clause-found : goal.returns-clause-found
returns-clause-found c = on_ok c.put_given.result (λ x. x.found) c.put_given.ensures.put

pub returns-clause-count : goal.returns-clause-count
returns-clause-count c = on_ok c.put_given.result (λ x. x.count) c.put_given.ensures.put

pub returns-clause-served : goal.returns-clause-served
returns-clause-served c =
    on_ok c.put_given.result
    (given_served c.held_laws.ensures c.dialogues_grow_at_the_end.ensures c.states_stay.ensures c.args.image.now c.args.kind c.args.plan.now c.args.longer.now c.requires.longer c.args.graph.now c.given.new.graph c.put_given.new.graph c.given.ensures.grown c.args.request.now (list_of c.in_ok-arrivals.arrivals) c.args.purse.now.reached c.put_given.new.purse.reached c.args.pending.now.items c.put_given.new.pending.items c.requires.request c.requires.asked c.in_ok-arrivals.ensures.given)
    c.put_given.ensures.put

pub returns-clause-carries : goal.returns-clause-carries
returns-clause-carries c =
    on_ok c.put_given.result
    (put_carries c.args.image.now c.args.longer.now c.states_stay.ensures c.args.graph.now c.given.new.graph c.put_given.new.graph c.given.ensures.grown c.args.purse.now.reached c.put_given.new.purse.reached c.args.pending.now.items (list_of c.in_ok-arrivals.arrivals) c.put_given.new.pending.items c.requires.pending.each)
    c.put_given.ensures.put

pub returns-clause-grown : goal.returns-clause-grown
returns-clause-grown c = c.given.ensures.grown ▸ c.put_given.ensures.grown

pub returns-clause-adds : goal.returns-clause-adds
returns-clause-adds c = adds_on 19 602 258 10002 c.given.ensures.adds c.put_given.ensures.adds

pub returns-clause-still : goal.returns-clause-still
returns-clause-still c = λ none same. subst (λ (g : Terms). AddsAtMost c.args.graph.now g 19 258) (sym (c.put_given.ensures.still none same)) c.given.ensures.adds
