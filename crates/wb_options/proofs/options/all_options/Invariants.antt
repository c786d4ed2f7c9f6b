use Rattle.std.proofs.Common.{◌≡◌, drop, map, string_bytes}
use Rattle.std.specs.List.{list_all}
use Rattle.wb_options.specs.Options.{is_option}
use Rattle.wb_options.proofs.options.all_options.Given as goal

abbrev pub invariant-loop-word : goal.invariant-loop-word
invariant-loop-word l =
    list_all is_option (map string_bytes l.words) ≡ list_all is_option (map string_bytes (drop l.word-index l.words))
