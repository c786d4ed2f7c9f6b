use Rattle.std.proofs.Common.{rules, ◌∙◌}
use Rattle.wb_graph.specs.declared.summaries.Function.TheVariants.{Bit}
use Rattle.wb_graph.proofs.Boards.{function_found}
use Rattle.wb_graph.proofs.functions.Functions.bit.Goals as goal

pub returns-in-Bit : goal.returns-in-Bit
returns-in-Bit c = λ g right. (function_found c.args.self.now c.args.c.number c.in_ok-summary.field-0 (Bit c.in-Bit.bit) (search rules) (c.in_ok-branch.was ∙ search rules) g right).1
