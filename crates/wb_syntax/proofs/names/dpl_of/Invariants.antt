use Rattle.std.proofs.Common.{◌≢◌, ◌<◌}
use Rattle.wb_word.specs.Codes.{dpl_code}
use Rattle.wb_word.specs.Names.{dpl_name}
use Rattle.wb_word.specs.declared.codes.Dpl.{Dpl}
use Rattle.wb_syntax.proofs.names.dpl_of.Given as goal

-- no code so far has the name
abbrev pub invariant-loop-code : goal.invariant-loop-code
invariant-loop-code l = (dpl : Dpl) → dpl_code dpl < l.code → dpl_name dpl ≢ l.name
