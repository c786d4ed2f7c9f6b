use Rattle.std.proofs.Common.{◌≡◌, vec_len}
use Rattle.wb_derive.specs.Verdict.{AreLawful}
use Rattle.wb_derive.specs.Course.{StampsWithin}
use Rattle.wb_derive.proofs.checks.judge.Given as goal

abbrev pub invariant-loop-place : goal.invariant-loop-place
invariant-loop-place l = record {
  lawful : AreLawful l.formula l.steps l.place;
  stamps : StampsWithin l.place l.marks.items;
  length : vec_len l.marks ≡ vec_len l.initial.marks;
}
