use Rattle.std.proofs.Common.{arith, ◌<◌}
use Rattle.wb_explore.proofs.Refusals.{on_ok}
use Rattle.wb_explore.proofs.Onward.{ahead_fresh, left_out, put_ahead}
use Rattle.wb_explore.proofs.going.arrive_ahead.Goals as goal

pub arrive-requires-clause-fresh : goal.arrive-requires-clause-fresh
arrive-requires-clause-fresh c =
    let less : c.args.bound < c.args.entry.rank = grind (arith, c.if-bound-entry.true) in
    ahead_fresh c.args.image.now c.args.plan.now c.args.graph.now c.args.purse.now.reached c.args.pending.now.items c.args.bound c.args.entry c.requires.entry c.requires.ahead less

pub returns-clause-put : goal.returns-clause-put
returns-clause-put c = left_out c.args.image.now c.args.plan.now c.args.graph.now c.args.purse.now.reached c.args.pending.now.items c.args.bound c.args.entry c.requires.pending c.requires.ahead c.requires.above (λ (l : c.args.bound < c.args.entry.rank). grind (arith, l, c.if-bound-entry.false))

pub returns-then-bound-entry-clause-put : goal.returns-then-bound-entry-clause-put
returns-then-bound-entry-clause-put c =
    let less : c.args.bound < c.args.entry.rank = grind (arith, c.if-bound-entry.true) in
    on_ok c.arrive.result (put_ahead c.args.image.now c.args.plan.now c.args.graph.now c.arrive.new.graph c.args.purse.now.reached c.arrive.new.purse.reached c.args.pending.now.items c.arrive.new.pending.items c.args.entry c.args.bound c.requires.ahead less) c.arrive.ensures.put
