use Rattle.std.specs.Option.{option_map}
use Rattle.wb_syntax.specs.Separators.{parts_left}
use Rattle.wb_syntax.specs.declared.separators.Separator.TheVariants.{LineEnd}
use Rattle.wb_syntax.proofs.OneClause.{tokens_left}
use Rattle.wb_syntax.proofs.Lines.{Progress}
use Rattle.wb_syntax.proofs.parser.parse.Given as goal

-- the lines so far say the statements so far
abbrev pub invariant-loop-rest : goal.invariant-loop-rest
invariant-loop-rest l = Progress l.text l.tokens (parts_left LineEnd (option_map (λ rest. rest.now) l.rest)) l.statements.items

abbrev pub decreases-loop-rest : goal.decreases-loop-rest
decreases-loop-rest l = tokens_left (option_map (λ rest. rest.now) l.rest)
