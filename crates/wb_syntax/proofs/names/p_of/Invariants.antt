use Rattle.std.proofs.Common.{◌≢◌, ◌<◌}
use Rattle.wb_word.specs.Codes.{p_code}
use Rattle.wb_word.specs.Names.{p_name}
use Rattle.wb_word.specs.declared.codes.P.{P}
use Rattle.wb_syntax.proofs.names.p_of.Given as goal

-- no code so far has the name
abbrev pub invariant-loop-code : goal.invariant-loop-code
invariant-loop-code l = (p : P) → p_code p < l.code → p_name p ≢ l.name
