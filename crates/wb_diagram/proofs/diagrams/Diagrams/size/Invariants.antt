use Rattle.std.proofs.Common.{◌≤◌, ◌-◌, length}
use Rattle.wb_diagram.specs.Sizes.{AreUnder, IsMember}
use Rattle.wb_diagram.proofs.Seen.{IsClosed}
use Rattle.wb_diagram.proofs.diagrams.Diagrams.size.Given as goal

abbrev pub invariant-across : goal.invariant-across
invariant-across l = record {
  are : AreUnder l.self l.fn.d l.seen.keys;
  start : IsMember l.fn.d l.seen.keys;
  closed : IsClosed l.self l.seen.keys l.at;
  some : l.at ≤ length l.seen.keys;
  within : l.at ≤ l.limit;
}

abbrev pub decreases-across : goal.decreases-across
decreases-across l = l.limit - l.at
