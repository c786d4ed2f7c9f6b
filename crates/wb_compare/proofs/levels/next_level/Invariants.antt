use Rattle.wb_compare.proofs.Underway.{IsBetween}
use Rattle.wb_compare.proofs.levels.next_level.Given as goal

abbrev pub invariant-loop-at : goal.invariant-loop-at
invariant-loop-at g l = IsBetween l.fn.a l.fn.b l.fn.question l.fn.level l.fn.work l.work l.at l.pairs.items (g.O.Oracle.is_sound l.fn.oracle) (g.O.Oracle.is_sound l.oracle) (g.O.Oracle.limit_of l.fn.oracle) (g.O.Oracle.limit_of l.oracle) (g.O.Oracle.held l.fn.oracle) (g.O.Oracle.held l.oracle) (g.O.Oracle.given l.fn.oracle) (g.O.Oracle.given l.oracle)
