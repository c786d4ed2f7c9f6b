use Rattle.std.proofs.Common.{◌≢◌, ◌<◌}
use Rattle.wb_word.specs.Codes.{src_code}
use Rattle.wb_word.specs.Names.{src_name}
use Rattle.wb_word.specs.declared.codes.Src.{Src}
use Rattle.wb_syntax.proofs.names.src_of.Given as goal

-- no code so far has the name
abbrev pub invariant-loop-code : goal.invariant-loop-code
invariant-loop-code l = (src : Src) → src_code src < l.code → src_name src ≢ l.name
