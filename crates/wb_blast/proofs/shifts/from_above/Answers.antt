use Rattle.wb_blast.proofs.Moves.{right_low, right_high}
use Rattle.wb_blast.proofs.shifts.from_above.Goals as goal

pub returns-then-at-count-lt16-clause-value : goal.returns-then-at-count-lt16-clause-value
returns-then-at-count-lt16-clause-value c v = right_low v c.args.x.now c.args.count c.args.at c.told-x c.if-at-count-lt16.true

pub returns-else-at-count-lt16-clause-value : goal.returns-else-at-count-lt16-clause-value
returns-else-at-count-lt16-clause-value c v = right_high v c.args.x.now c.args.count c.args.at c.told-x c.if-at-count-lt16.false
