use Rattle.std.proofs.Common.{◌≡◌, ℕ, ◌<◌, ◌≤◌, ◌+◌, ◌-◌, ◌^◌, ◌==◌, length}
use Rattle.std.specs.Int.{bit_at}
use Rattle.wb_gate.specs.Circuit.{Assignment}
use Rattle.wb_term.specs.Numbers.{bit}
use Rattle.wb_equal.specs.Entries.{entry_value}
use Rattle.wb_blast.specs.Words.{entry_at, AreBelow}
use Rattle.wb_blast.proofs.inputs.input_word.Given as goal

abbrev pub invariant-loop-at : goal.invariant-loop-at
invariant-loop-at l = record {
  full : length l.done ≡ 16;
  there : (n : ℕ) → l.first + l.count ≤ n → AreBelow n l.done;
  value : (v : Assignment) (word : ℕ) → word < 2 ^ l.count → ((k : ℕ) → k < l.count → v (l.first + (l.count - 1 - k)) ≡ (bit_at word k == 1)) →
      (k : ℕ) → k < l.at → bit (entry_value v (entry_at l.done k)) ≡ bit_at word k;
}
