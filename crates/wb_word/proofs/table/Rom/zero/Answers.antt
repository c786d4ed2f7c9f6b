-- A list of zeros is a table of any width.
use Rattle.std.proofs.Common.{rules, ◌≡◌, ℕ, replicate}
use Rattle.std.proofs.lemmas.List.{length-replicate, get_or-replicate}
use Rattle.std.proofs.lemmas.Nat.{pow_pos}
use Rattle.wb_word.specs.Table.{IsTable}
use Rattle.wb_word.proofs.table.Rom.zero.Goals as goal

zeros_are_table : (n bits : ℕ) → IsTable n bits (replicate n 0)
zeros_are_table n bits = record {
  len = length-replicate n 0;
  each = λ k h. rw (get_or-replicate {A = ℕ} n k 0 0 h) (pow_pos bits);
}

pub invariant_of-result : goal.invariant_of-result
invariant_of-result g c =
    let zeros : c.in_ok-items.items.items ≡ replicate g.row.N 0 = search rules in
    rw zeros (zeros_are_table g.row.N g.row.BITS)

pub returns-clause-table : goal.returns-clause-table
returns-clause-table g c =
    let zeros : c.in_ok-items.items.items ≡ replicate g.row.N 0 = search rules in
    rw zeros (zeros_are_table g.row.N g.row.BITS)
