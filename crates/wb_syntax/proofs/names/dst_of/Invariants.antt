use Rattle.std.proofs.Common.{◌≢◌, ◌<◌}
use Rattle.wb_word.specs.Codes.{dst_code}
use Rattle.wb_word.specs.Names.{dst_name}
use Rattle.wb_word.specs.declared.codes.Dst.{Dst}
use Rattle.wb_syntax.proofs.names.dst_of.Given as goal

-- no code so far has the name
abbrev pub invariant-loop-code : goal.invariant-loop-code
invariant-loop-code l = (dst : Dst) → dst_code dst < l.code → dst_name dst ≢ l.name
