use Rattle.std.proofs.Common.{◌≢◌, ◌<◌}
use Rattle.wb_word.specs.Codes.{alu_code}
use Rattle.wb_word.specs.Names.{alu_name}
use Rattle.wb_word.specs.declared.codes.Alu.{Alu}
use Rattle.wb_syntax.proofs.names.alu_of.Given as goal

-- no code so far has the name
abbrev pub invariant-loop-code : goal.invariant-loop-code
invariant-loop-code l = (alu : Alu) → alu_code alu < l.code → alu_name alu ≢ l.name
