use Rattle.std.proofs.Common.{◌≡◌, ℕ, ◌<◌, ◌^◌, Bool, take}
use Rattle.wb_vector.specs.Vectors.{number}
use Rattle.wb_vector.proofs.known.known_word.Given as goal

abbrev pub invariant-loop-at : goal.invariant-loop-at
invariant-loop-at l = record {
  small : l.word < 2 ^ l.at;
  value : (v : ℕ → Bool) → number v l.diagrams (take l.at l.x) ≡ l.word;
}
