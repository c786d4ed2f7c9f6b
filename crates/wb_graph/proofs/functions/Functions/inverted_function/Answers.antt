use Rattle.wb_graph.proofs.Boards.{keeps}
use Rattle.wb_graph.proofs.functions.Functions.inverted_function.Goals as goal

pub returns-clause-keeps : goal.returns-clause-keeps
returns-clause-keeps c = keeps c.args.self.now c.self.inside.diagrams c.inverted.new.diagrams c.self.inside.summaries.items c.self.view_is c.inverted.ensures.grown
