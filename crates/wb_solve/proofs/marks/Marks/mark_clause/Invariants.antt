use Rattle.std.proofs.Common.{◌≡◌, true, take, drop, length}
use Rattle.wb_gate.specs.Clauses.{names_only}
use Rattle.wb_solve.specs.Trails.{marked, MarksAll, MarksMore}
use Rattle.wb_solve.proofs.marks.Marks.mark_clause.Given as goal

abbrev pub invariant-loop-lit : goal.invariant-loop-lit
invariant-loop-lit l = record {
  so_far : MarksAll (marked l.self) (take l.lit-index l.clause);
  named : names_only (length l.self.stamps) (drop l.lit-index l.clause) ≡ true;
  more : MarksMore (marked l.initial.self) (marked l.self);
  stamps : length l.self.stamps ≡ length l.initial.self.stamps;
}
