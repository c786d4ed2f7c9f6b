use Rattle.std.proofs.Common.{◌≡◌, ℕ, ◌<◌, length, slice_index}
use Rattle.wb_blast.proofs.number.clear.Given as goal

abbrev pub invariant-loop-at : goal.invariant-loop-at
invariant-loop-at l = record {
  covers : length l.scratch ≡ length l.fn.scratch;
  clear : (k : ℕ) → k < l.at → slice_index l.scratch k ≡ 0;
}
