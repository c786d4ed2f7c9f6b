use Rattle.std.proofs.Common.{◌≡◌, ◌<◌, take}
use Rattle.wb_word.specs.Table.{IsTable}
use Rattle.wb_term.proofs.graph.data_words.Given as goal

abbrev pub invariant-loop-at : goal.invariant-loop-at
invariant-loop-at l = record {
  so_far : l.words.items ≡ take l.at l.rom;
  table : 0 < l.at → IsTable 1024 16 l.rom;
}
