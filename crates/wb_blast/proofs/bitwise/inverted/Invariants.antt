use Rattle.std.proofs.Common.{◌≡◌, ℕ, ◌<◌, not, length}
use Rattle.wb_gate.specs.Circuit.{Assignment}
use Rattle.wb_equal.specs.Entries.{entry_value}
use Rattle.wb_blast.specs.Words.{entry_at, AreBelow}
use Rattle.wb_blast.proofs.bitwise.inverted.Given as goal

abbrev pub invariant-loop-at : goal.invariant-loop-at
invariant-loop-at l = record {
  count : length l.done ≡ 16;
  there : (n : ℕ) → AreBelow n l.x → AreBelow n l.done;
  value : (v : Assignment) (k : ℕ) → k < l.at → entry_value v (entry_at l.done k) ≡ not (entry_value v (entry_at l.x k));
}
