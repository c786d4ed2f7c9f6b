use Rattle.std.proofs.Common.{rules}
use Rattle.wb_graph.proofs.Boards.{keeps}
use Rattle.wb_graph.proofs.Names.{own_bit_is}
use Rattle.wb_graph.proofs.functions.Functions.own_bit.Goals as goal

pub returns-clause-function : goal.returns-clause-function
returns-clause-function c = own_bit_is c.variable.new.self c.args.number c.in_ok-variable.variable c.ok.result c.in_ok-variable.ensures.0 (search rules)

pub returns-clause-keeps : goal.returns-clause-keeps
returns-clause-keeps c = keeps c.args.self.now c.self.inside.diagrams c.variable.new.self c.self.inside.summaries.items c.self.view_is c.variable.ensures.grown
