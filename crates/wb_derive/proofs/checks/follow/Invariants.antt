use Rattle.std.proofs.Common.{◌≡◌, drop, vec_len}
use Rattle.wb_gate.specs.Clauses.{clauses_of}
use Rattle.wb_derive.specs.Course.{partial_of, run, known_from, StampsWithin}
use Rattle.wb_derive.proofs.checks.follow.Given as goal

abbrev pub invariant-loop-place : goal.invariant-loop-place
invariant-loop-place l = record {
  value : run (known_from (clauses_of l.formula) l.earlier) (drop l.place l.hints) (partial_of l.marks.items l.stamp) ≡ run (known_from (clauses_of l.formula) l.earlier) l.hints (partial_of l.initial.marks.items l.stamp);
  stamps : StampsWithin l.stamp l.initial.marks.items → StampsWithin l.stamp l.marks.items;
  length : vec_len l.marks ≡ vec_len l.initial.marks;
}
