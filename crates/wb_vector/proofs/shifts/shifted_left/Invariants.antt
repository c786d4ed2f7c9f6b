use Rattle.std.proofs.Common.{◌≡◌, ℕ, ◌<◌, ◌*◌, ◌%◌, ◌^◌, ◌==◌, Bool, length}
use Rattle.std.specs.Int.{bit_at}
use Rattle.wb_diagram.specs.Values.{value}
use Rattle.wb_vector.specs.Vectors.{number, diagram_at, AreThere}
use Rattle.wb_vector.proofs.shifts.shifted_left.Given as goal

abbrev pub invariant-loop-at : goal.invariant-loop-at
invariant-loop-at l = record {
  count : length l.done ≡ 16;
  there : AreThere l.diagrams l.done;
  value : (v : ℕ → Bool) (k : ℕ) → k < l.at → value v l.diagrams (diagram_at l.done k) ≡ (bit_at (number v l.diagrams l.x * 2 ^ l.count % 65536) k == 1);
}
