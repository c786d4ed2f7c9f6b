use Rattle.std.proofs.Common.{◌≡◌, ◌≤◌, length, reverse}
use Rattle.wb_solve.specs.Course.{known_to}
use Rattle.wb_solve.specs.Trails.{marked, HintsFrom}
use Rattle.wb_solve.proofs.hints.write_hints.Given as goal

abbrev pub invariant-loop-place : goal.invariant-loop-place
invariant-loop-place l = record {
  from : HintsFrom (known_to l.formula l.steps) l.trail.entries (marked l.marks) l.place (reverse l.hints.items);
  stamps : length l.marks.stamps ≡ length l.initial.marks.stamps;
  within : l.place ≤ length l.trail.entries;
}

abbrev pub decreases-loop-place : goal.decreases-loop-place
decreases-loop-place l = l.place
