use Rattle.std.specs.Option.{option_map}
use Rattle.wb_syntax.specs.Separators.{parts_left}
use Rattle.wb_syntax.specs.declared.separators.Separator.TheVariants.{Bar}
use Rattle.wb_syntax.proofs.OneClause.{Reads, tokens_left}
use Rattle.wb_syntax.proofs.fields.fields.Given as goal

-- the clauses that are left make of the word so far what all clauses make
abbrev pub invariant-loop-rest : goal.invariant-loop-rest
invariant-loop-rest l = Reads l.text l.tokens (parts_left Bar (option_map (λ rest. rest.now) l.rest)) l.seen l.word

abbrev pub decreases-loop-rest : goal.decreases-loop-rest
decreases-loop-rest l = tokens_left (option_map (λ rest. rest.now) l.rest)
