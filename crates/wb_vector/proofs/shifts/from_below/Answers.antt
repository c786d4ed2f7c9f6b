use Rattle.std.proofs.Common.{◌-◌, ◌∙◌}
use Rattle.wb_vector.specs.Vectors.{number}
use Rattle.wb_vector.proofs.Moves.{left_low, left_high}
use Rattle.wb_vector.proofs.shifts.from_below.Goals as goal

pub returns-then-at-count : goal.returns-then-at-count
returns-then-at-count c = record {
  there = c.leaf.ensures.leaf.there;
  value = λ v. c.leaf.ensures.leaf.value v ∙ left_low (number v c.args.diagrams.now c.args.x.now) c.args.count c.args.at c.requires.at_in c.if-at-count.true;
}

pub returns-else-at-count : goal.returns-else-at-count
returns-else-at-count c = record {
  there = c.requires.there (c.args.at - c.args.count);
  value = λ v. left_high v c.args.diagrams.now c.args.x.now c.args.count c.args.at c.told-x c.requires.at_in c.if-at-count.false;
}
