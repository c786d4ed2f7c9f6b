use Rattle.std.proofs.Common.{take, map, string_bytes}
use Rattle.wb_options.specs.Options.{values, IsGiven}
use Rattle.wb_options.proofs.options.given_to.Given as goal

abbrev pub invariant-loop-word : goal.invariant-loop-word
invariant-loop-word l = IsGiven (values l.key (map string_bytes (take l.word-index l.words))) l.found
