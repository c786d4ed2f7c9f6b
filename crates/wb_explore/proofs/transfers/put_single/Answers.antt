use Rattle.wb_explore.proofs.Refusals.{on_ok}
use Rattle.wb_explore.proofs.Serving.{found_fresh, put_single, none_alone}
use Rattle.wb_explore.proofs.transfers.put_single.Goals as goal

pub arrive-requires-clause-fresh : goal.arrive-requires-clause-fresh
arrive-requires-clause-fresh c = found_fresh c.args.image.now c.args.plan.now c.args.graph.now c.args.purse.now.reached c.args.pending.now.items c.args.one c.requires.one c.requires.found

pub returns-clause-put : goal.returns-clause-put
returns-clause-put c = on_ok c.arrive.result (put_single c.args.image.now c.args.plan.now c.args.graph.now c.arrive.new.graph c.args.purse.now.reached c.arrive.new.purse.reached c.args.pending.now.items c.arrive.new.pending.items c.args.one c.requires.found) c.arrive.ensures.put

pub returns-clause-still : goal.returns-clause-still
returns-clause-still c = λ none. c.arrive.ensures.alone (none_alone c.args.pending.now.items c.args.one.key none)
