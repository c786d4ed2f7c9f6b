use Rattle.std.proofs.Common.{◌≡◌, ◌<◌, ◌≤◌, ℕ, List, take, length, slice_index_or, All}
use Rattle.wb_explore.specs.declared.entries.Entry.{Entry}
use Rattle.wb_explore.proofs.entries.least_place.Given as goal

pub record Best (es : List Entry) (best rank place : ℕ) : Type 0 where
  pub within : best < length es
  pub value : (d : Entry) → (slice_index_or es best d).rank ≡ rank
  pub least : All (λ (f : Entry). rank ≤ f.rank) (take place es)

abbrev pub invariant-loop-place : goal.invariant-loop-place
invariant-loop-place l = Best l.pending l.best l.rank l.place
