use Rattle.wb_explore.specs.Plans.{is_chosen}
use Rattle.wb_explore.proofs.Following.{yes_comes, no_comes, two_arrive, not_equal}
use Rattle.wb_explore.proofs.going.fork.Goals as goal

pub returns-clause-arrivals : goal.returns-clause-arrivals
returns-clause-arrivals c =
    let busy = not_equal c.args.entry.now.key.count c.args.plan.now.pace c.requires.goes in
    let only = c.in_ok-first.ensures.inputs (is_chosen c.args.plan.now.kinds c.args.plan.now.power) c.requires.entry.cond_inputs c.requires.cond_inputs in
    let yes = yes_comes c.args.image.now c.args.plan.now c.args.entry.now c.states_stay.ensures c.args.graph.now c.branches.new.graph c.branches.ensures.grown c.requires.entry busy c.args.cond c.args.yes c.args.no c.requires.stands c.in_ok-first.first c.in_ok-first.second c.in_ok-first.ensures.first.value c.in_ok-first.ensures.second.value c.in_ok-heir.heir c.in_ok-heir.other c.in_ok-heir.ensures c.requires.yes c.requires.yes_inputs c.in_ok-first.ensures.first.there only.0 in
    let no = no_comes c.args.image.now c.args.plan.now c.args.entry.now c.states_stay.ensures c.args.graph.now c.branches.new.graph c.branches.ensures.grown c.requires.entry busy c.args.cond c.args.yes c.args.no c.requires.stands c.in_ok-first.first c.in_ok-first.second c.in_ok-first.ensures.first.value c.in_ok-first.ensures.second.value c.in_ok-heir.heir c.in_ok-heir.other c.in_ok-heir.ensures c.requires.no c.requires.no_inputs c.in_ok-first.ensures.second.there only.1 in
    two_arrive c.args.image.now c.args.plan.now c.args.entry.now c.states_stay.ensures c.args.graph.now c.branches.new.graph c.branches.ensures.grown c.requires.entry busy c.args.cond c.args.yes c.args.no c.requires.stands c.in_ok-first.first c.in_ok-first.second c.in_ok-first.ensures.first.value c.in_ok-first.ensures.second.value c.in_ok-heir.heir c.in_ok-heir.other c.in_ok-heir.ensures c.in_ok-one.one c.in_ok-two.two yes no c.in_ok-one.ensures c.in_ok-two.ensures
