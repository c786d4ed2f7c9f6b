use Rattle.std.specs.Option.{option_map}
use Rattle.wb_syntax.specs.Separators.{parts_left}
use Rattle.wb_syntax.specs.declared.separators.Separator.TheVariants.{Comma}
use Rattle.wb_syntax.proofs.OneClause.{tokens_left}
use Rattle.wb_syntax.proofs.Operands.{ListsOn}
use Rattle.wb_syntax.proofs.instructions.expressions.Given as goal

-- the expressions that are left go on with those so far
abbrev pub invariant-loop-rest : goal.invariant-loop-rest
invariant-loop-rest l = ListsOn l.text l.tokens (parts_left Comma (option_map (λ rest. rest.now) l.rest)) l.items.items

abbrev pub decreases-loop-rest : goal.decreases-loop-rest
decreases-loop-rest l = tokens_left (option_map (λ rest. rest.now) l.rest)
