use Rattle.std.proofs.Common.{◌-◌}
use Rattle.wb_compare.proofs.Underway.{IsDown}
use Rattle.wb_compare.proofs.levels.settle_all.Given as goal

abbrev pub invariant-levels : goal.invariant-levels
invariant-levels g l = IsDown l.fn.a l.fn.b l.fn.question l.work l.level (g.O.Oracle.is_sound l.fn.oracle) (g.O.Oracle.is_sound l.oracle) (g.O.Oracle.limit_of l.fn.oracle) (g.O.Oracle.limit_of l.oracle) (g.O.Oracle.held l.fn.oracle) (g.O.Oracle.held l.oracle) (g.O.Oracle.given l.fn.oracle) (g.O.Oracle.given l.oracle)

abbrev pub decreases-levels : goal.decreases-levels
decreases-levels g l = l.fn.question.n - l.level.depth
