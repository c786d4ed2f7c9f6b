use Rattle.wb_query.specs.Asking.{IsFound}
use Rattle.wb_explore.proofs.Wondering.{fault_through, found_through}
use Rattle.wb_explore.proofs.questions.ask_point.Goals as goal

pub returns-clause-found : goal.returns-clause-found
returns-clause-found g c = found_through (IsFound c.args.graph.now c.args.entry.now.cond) c.in_ok-query.query c.ask-found.result c.answer_of.result c.answer_of.ensures c.ask-found.ensures.found

pub returns-clause-fault : goal.returns-clause-fault
returns-clause-fault g c = fault_through c.held_laws.ensures c.dialogues_are_of_their_kinds.ensures c.states_stay.ensures c.args.image.now c.args.plan.now c.args.graph.now c.args.entry.now c.requires.entry c.requires.says c.len-nodes.ensures.graph _ _ c.in_ok-query.query c.ask-found.result c.answer_of.result c.in_ok-query.ensures c.answer_of.ensures c.ask-found.ensures.fault
