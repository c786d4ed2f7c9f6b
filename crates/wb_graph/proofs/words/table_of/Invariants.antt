use Rattle.std.proofs.Common.{◌≡◌, ◌<◌, ℕ, length, slice_index}
use Rattle.wb_term.specs.Terms.{table_words}
use Rattle.wb_graph.proofs.words.table_of.Given as goal

abbrev pub invariant-loop-at : goal.invariant-loop-at
invariant-loop-at l = (length l.words.items ≡ l.at) × ((k : ℕ) → k < l.at → slice_index l.words.items k ≡ slice_index (table_words l.terms.tables l.table) k)
