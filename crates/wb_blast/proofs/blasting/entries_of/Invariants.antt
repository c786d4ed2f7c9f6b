use Rattle.std.proofs.Common.{◌≡◌, ℕ, ◌<◌, length, Some, slice_get}
use Rattle.wb_term.specs.declared.nodes.BitId.{BitId}
use Rattle.wb_blast.specs.Rows.{bit_row}
use Rattle.wb_blast.specs.Words.{entry_at}
use Rattle.wb_blast.proofs.blasting.entries_of.Given as goal

abbrev pub invariant-loop-at : goal.invariant-loop-at
invariant-loop-at l = record {
  counted : length l.entries.items ≡ l.at;
  same : (k : ℕ) (bit : BitId) → k < l.at → slice_get l.bits k ≡ Some bit → entry_at l.entries.items k ≡ bit_row l.rows bit.number;
}
