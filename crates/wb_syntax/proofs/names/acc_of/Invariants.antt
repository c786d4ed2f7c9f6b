use Rattle.std.proofs.Common.{◌≢◌, ◌<◌}
use Rattle.wb_word.specs.Codes.{acc_code}
use Rattle.wb_word.specs.Names.{acc_name}
use Rattle.wb_word.specs.declared.codes.Acc.{Acc}
use Rattle.wb_syntax.proofs.names.acc_of.Given as goal

-- no code so far has the name
abbrev pub invariant-loop-code : goal.invariant-loop-code
invariant-loop-code l = (acc : Acc) → acc_code acc < l.code → acc_name acc ≢ l.name
