use Rattle.std.proofs.Common.{◌≡◌, length}
use Rattle.wb_blast.specs.Operations.{Combined}
use Rattle.wb_blast.proofs.bitwise.combine_words.Given as goal

abbrev pub invariant-loop-at : goal.invariant-loop-at
invariant-loop-at l = record {
  count : length l.done ≡ 16;
  combined : Combined l.fn.formula l.formula l.operation l.x l.y l.done l.at;
}
