use Rattle.std.proofs.Common.{◌≡◌, length}
use Rattle.wb_solve.specs.Search.{clauses_in}
use Rattle.wb_solve.specs.Turns.{IsSearching}
use Rattle.wb_solve.specs.Halting.{IsHalted}
use Rattle.wb_solve.proofs.search.solve.Given as goal

abbrev pub invariant-loop-count : goal.invariant-loop-count
invariant-loop-count l = record {
  searching : IsSearching l.formula l.derivation;
  count : length l.derivation ≡ l._count;
  halted : IsHalted l.formula (clauses_in l.derivation) l.descents l.halt;
}
