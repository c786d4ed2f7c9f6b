use Rattle.std.proofs.Common.{◌≡◌, ◌≤◌, ◌^◌, drop}
use Rattle.wb_derive.specs.Clause.{rises_from, rises}
use Rattle.wb_derive.proofs.rising.rises.Given as goal

abbrev pub invariant-loop-lit : goal.invariant-loop-lit
invariant-loop-lit l = record {
  rest : rises_from l.least (drop l.lit-index l.lits) ≡ rises l.lits;
  small : l.least ≤ 2 ^ 32;
}
