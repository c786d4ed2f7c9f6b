use Rattle.wb_explore.proofs.Visited.{visited}
use Rattle.wb_explore.proofs.visiting.visit.Goals as goal

pub returns-clause-under_way : goal.returns-clause-under_way
returns-clause-under_way c = visited c.held_laws.ensures c.dialogues_are_of_their_kinds.ensures c.states_stay.ensures c.args.image.now c.args.plan.now c.args.graph.now c.pass.new.graph c.pass.ensures.grown c.args.purse.now.reached c.pass.new.purse.reached c.pass.ensures.passed c.args.entry c.args.pending.now.items c.pass.new.pending.items c.args.findings.now.requests.items c.keep_request.new.requests.items c.args.findings.now.overrun c.pass.new.overrun c.requires.up c.requires.found c.in_ok-pass.ensures.done c.in_ok-keep_request.ensures
