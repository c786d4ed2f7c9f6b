use Rattle.std.proofs.Common.{◌≡◌, length}
use Rattle.wb_blast.specs.Words.{Added}
use Rattle.wb_blast.proofs.words.add_words.Given as goal

abbrev pub invariant-loop-at : goal.invariant-loop-at
invariant-loop-at l = record {
  count : length l.sum ≡ 16;
  added : Added l.fn.formula l.formula l.x l.y l.fn.c l.sum l.carry l.at;
}
