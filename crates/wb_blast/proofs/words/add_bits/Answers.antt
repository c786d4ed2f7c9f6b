use Rattle.std.proofs.Common.{◌+◌, ◌*◌, ◌∙◌, ap, ap₂}
use Rattle.wb_gate.specs.Circuit.{xor}
use Rattle.wb_term.specs.Numbers.{bit}
use Rattle.wb_equal.specs.Entries.{entry_value}
use Rattle.wb_blast.proofs.Sums.{below_kept, full_adder}
use Rattle.wb_blast.proofs.words.add_bits.Goals as goal

pub returns-clause-means : goal.returns-clause-means
returns-clause-means c =
    let last = c.in_ok-carry.ensures in
    let sum = c.in_ok-sum.ensures in
    let half = c.in_ok-half.ensures in
    record {
      low_there = below_kept _ _ 1 c.in_ok-sum.sum last.extends sum.means.there;
      high_there = last.means.there;
      value = λ v o.
          let before = last.extends.obeys v o in
          let z = entry_value v c.args.z in
          ap₂ (λ l h. bit l + 2 * bit h)
          (sum.means.value v before ∙ ap (λ h. xor h z) (half.means.value v (sum.extends.obeys v before)))
          (last.means.value v o)
          ∙ full_adder (entry_value v c.args.x) (entry_value v c.args.y) z;
    }
