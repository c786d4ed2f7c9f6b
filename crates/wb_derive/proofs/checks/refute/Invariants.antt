use Rattle.std.proofs.Common.{◌≡◌, true, drop, vec_len}
use Rattle.wb_gate.specs.Clauses.{names_only}
use Rattle.wb_derive.specs.Partial.{refute}
use Rattle.wb_derive.specs.Course.{partial_of, StampsWithin}
use Rattle.wb_derive.proofs.checks.refute.Given as goal

abbrev pub invariant-loop-lit : goal.invariant-loop-lit
invariant-loop-lit l = record {
  partial : refute (drop l.lit-index l.clause) (partial_of l.marks.items l.stamp) ≡ refute l.clause (partial_of l.initial.marks.items l.stamp);
  named : names_only (vec_len l.marks) (drop l.lit-index l.clause) ≡ true;
  stamps : StampsWithin l.stamp l.initial.marks.items → StampsWithin l.stamp l.marks.items;
  length : vec_len l.marks ≡ vec_len l.initial.marks;
}
