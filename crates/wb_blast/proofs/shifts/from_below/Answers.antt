use Rattle.wb_blast.specs.Words.{number}
use Rattle.wb_blast.proofs.Moves.{left_low, left_high}
use Rattle.wb_blast.proofs.shifts.from_below.Goals as goal

pub returns-then-at-count-clause-value : goal.returns-then-at-count-clause-value
returns-then-at-count-clause-value c v = left_low (number v c.args.x.now) c.args.count c.args.at c.requires c.if-at-count.true

pub returns-else-at-count-clause-value : goal.returns-else-at-count-clause-value
returns-else-at-count-clause-value c v = left_high v c.args.x.now c.args.count c.args.at c.told-x c.requires c.if-at-count.false
