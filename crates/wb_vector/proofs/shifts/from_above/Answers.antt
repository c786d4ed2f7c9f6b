use Rattle.std.proofs.Common.{◌+◌, ◌∙◌}
use Rattle.wb_vector.proofs.Moves.{right_low, right_high}
use Rattle.wb_vector.proofs.shifts.from_above.Goals as goal

pub returns-then-at-count-lt16 : goal.returns-then-at-count-lt16
returns-then-at-count-lt16 c = record {
  there = c.requires.there (c.args.at + c.args.count);
  value = λ v. right_low v c.args.diagrams.now c.args.x.now c.args.count c.args.at c.told-x c.if-at-count-lt16.true;
}

pub returns-else-at-count-lt16 : goal.returns-else-at-count-lt16
returns-else-at-count-lt16 c = record {
  there = c.leaf.ensures.leaf.there;
  value = λ v. c.leaf.ensures.leaf.value v ∙ right_high v c.args.diagrams.now c.args.x.now c.args.count c.args.at c.told-x c.if-at-count-lt16.false;
}
