use Rattle.std.proofs.Common.{◌≡◌, ◌==◌, ◌<◌, ℕ, Bool, length}
use Rattle.std.specs.Int.{bit_at}
use Rattle.wb_diagram.specs.Values.{value}
use Rattle.wb_vector.specs.Vectors.{diagram_at, AreThere}
use Rattle.wb_vector.proofs.bitwise.constant_word.Given as goal

abbrev pub invariant-loop-at : goal.invariant-loop-at
invariant-loop-at l = record {
  count : length l.done ≡ 16;
  there : AreThere l.diagrams l.done;
  value : (v : ℕ → Bool) (k : ℕ) → k < l.at → value v l.diagrams (diagram_at l.done k) ≡ (bit_at l.word k == 1);
}
