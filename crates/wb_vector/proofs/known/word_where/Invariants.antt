use Rattle.std.proofs.Common.{◌≡◌, ℕ, ◌<◌, ◌^◌, Bool, true, take}
use Rattle.wb_diagram.specs.Values.{value}
use Rattle.wb_vector.specs.Vectors.{number}
use Rattle.wb_vector.proofs.known.word_where.Given as goal

abbrev pub invariant-loop-at : goal.invariant-loop-at
invariant-loop-at l = record {
  same : l.diagrams ≡ l.fn.diagrams;
  small : l.word < 2 ^ l.at;
  value : (v : ℕ → Bool) → value v l.fn.diagrams l.condition ≡ true → number v l.fn.diagrams (take l.at l.x) ≡ l.word;
}
