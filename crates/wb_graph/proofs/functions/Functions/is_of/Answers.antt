use Rattle.wb_graph.proofs.Boards.{function_found, only_within}
use Rattle.wb_graph.proofs.functions.Functions.is_of.Goals as goal

pub returns-then-is_told-clause-function : goal.returns-then-is_told-clause-function
returns-then-is_told-clause-function c = λ _.
    function_found c.args.self.now c.args.number c.in-Some.summary c.args.function c.in-Some.ensures (c.is_told.ensures c.if-is_told.true)

pub returns-then-is_told-clause-inputs : goal.returns-then-is_told-clause-inputs
returns-then-is_told-clause-inputs c = λ within.
    only_within c.args.self.now c.args.number c.in-Some.summary c.args.places.now c.in-Some.ensures (c.are_within.ensures.cells within) (c.are_within.ensures.bytes within)
