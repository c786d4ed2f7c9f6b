use Rattle.std.proofs.Common.{rules, ◌∙◌}
use Rattle.wb_graph.specs.declared.summaries.Function.TheVariants.{Word}
use Rattle.wb_graph.proofs.Boards.{function_found}
use Rattle.wb_graph.proofs.functions.Functions.word.Goals as goal

pub returns-in-Word : goal.returns-in-Word
returns-in-Word c = λ g right. (function_found c.args.self.now c.args.x.number c.in_ok-summary.field-0 (Word c.in-Word.word) (search rules) (c.in_ok-word.was ∙ search rules) g right).1
