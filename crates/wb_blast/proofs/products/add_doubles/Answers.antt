use Rattle.std.proofs.Common.{arith}
use Rattle.wb_blast.proofs.Sums.{below_kept, number_small, bit_few}
use Rattle.wb_equal.specs.Entries.{entry_value}
use Rattle.wb_blast.specs.Words.{number, entry_at}
use Rattle.wb_blast.proofs.Multiples.{sum_of_halves}
use Rattle.wb_blast.proofs.products.add_doubles.Goals as goal

pub returns-clause-means : goal.returns-clause-means
returns-clause-means c =
    let first = c.in_ok-low.ensures in
    let second = c.in_ok-high.ensures in
    record {
      there = (λ k. below_kept _ _ 48 (entry_at c.in_ok-low.low k) second.extends (first.sum.there k), second.sum.there);
      value = λ v o.
          let before = second.extends.obeys v o in
          sum_of_halves (number v c.args.x.now.low) (number v c.args.y.now.low) _ (number v c.args.x.now.high) (number v c.args.y.now.high)
          (number v c.in_ok-low.low) (number v c.in_ok-high.high) (entry_value v c.in_ok-low.carry)
          (number_small v c.args.x.now.low (omega arith)) (number_small v c.args.y.now.low (omega arith)) (bit_few (entry_value v c.args.c))
          (first.sum.value v before) (first.carry.value v before) (second.sum.value v o);
    }
