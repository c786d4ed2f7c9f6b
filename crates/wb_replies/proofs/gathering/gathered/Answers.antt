use Rattle.std.proofs.Common.{arith}
use Rattle.wb_replies.proofs.Gathered.{gathering_first, gathering_more, gathering_all, request_at, next_state, next_cond}
use Rattle.wb_replies.proofs.gathering.gathered.Goals as goal

pub replies_at-requires-clause-state : goal.replies_at-requires-clause-state
replies_at-requires-clause-state c = (request_at c.args.graph.now c.args.layer.now c.requires.each 0 c.request_at.result.now c.request_at.ensures).state

pub loop-at-init : goal.loop-at-init
loop-at-init c = gathering_first c.args.layer.now.plan c.args.graph.now c.replies_at.new.graph c.args.layer.now.requests c.request_at.result.now c.in_ok-circuit.circuit (request_at c.args.graph.now c.args.layer.now c.requires.each 0 c.request_at.result.now c.request_at.ensures) c.request_at.ensures
    c.in_ok-circuit.ensures.there c.in_ok-circuit.ensures.inputs c.in_ok-circuit.ensures.present c.in_ok-circuit.ensures.status c.in_ok-circuit.ensures.read c.replies_at.ensures.grown c.replies_at.ensures.adds

pub with_request-requires-clause-state : goal.with_request-requires-clause-state
with_request-requires-clause-state c = next_state c.states_stay.ensures c.args.layer.now.plan c.args.graph.now c.loop-at.graph _ c.args.layer.now.requests c.loop-at.at c.request_at-in-loop-at.result.now c.loop-at.circuit c.loop-at.invariant (request_at c.args.graph.now c.args.layer.now c.requires.each c.loop-at.at c.request_at-in-loop-at.result.now c.request_at-in-loop-at.ensures)

pub with_request-requires-clause-cond : goal.with_request-requires-clause-cond
with_request-requires-clause-cond c = next_cond c.args.layer.now.plan c.args.graph.now c.loop-at.graph _ c.args.layer.now.requests c.loop-at.at c.request_at-in-loop-at.result.now c.loop-at.circuit c.loop-at.invariant (request_at c.args.graph.now c.args.layer.now c.requires.each c.loop-at.at c.request_at-in-loop-at.result.now c.request_at-in-loop-at.ensures)

pub loop-at-preserved : goal.loop-at-preserved
loop-at-preserved c = gathering_more c.states_stay.ensures c.args.layer.now.plan c.args.graph.now c.loop-at.graph c.with_request.new.graph c.args.layer.now.requests c.loop-at.at c.request_at-in-loop-at.result.now c.loop-at.circuit c.in_ok-circuit-2.circuit
    (request_at c.args.graph.now c.args.layer.now c.requires.each c.loop-at.at c.request_at-in-loop-at.result.now c.request_at-in-loop-at.ensures) c.request_at-in-loop-at.ensures c.loop-at.invariant c.in_ok-circuit-2.ensures.there c.in_ok-circuit-2.ensures.inputs c.in_ok-circuit-2.ensures.also c.with_request.ensures.grown c.with_request.ensures.adds

pub returns-clause-gathers : goal.returns-clause-gathers
returns-clause-gathers c = gathering_all c.args.graph.now c.loop-at.graph _ c.args.layer.now.requests c.loop-at.at c.loop-at.circuit c.loop-at.invariant (omega arith)
