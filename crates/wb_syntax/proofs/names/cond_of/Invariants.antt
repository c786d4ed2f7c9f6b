use Rattle.std.proofs.Common.{◌≢◌, ◌<◌, Some}
use Rattle.wb_word.specs.Conditions.{cond_code}
use Rattle.wb_word.specs.Names.{cond_name}
use Rattle.wb_word.specs.declared.conditions.Cond.{Cond}
use Rattle.wb_syntax.proofs.names.cond_of.Given as goal

-- no code so far has the name
abbrev pub invariant-loop-code : goal.invariant-loop-code
invariant-loop-code l = (cond : Cond) → cond_code cond < l.code → cond_name cond ≢ Some l.name
