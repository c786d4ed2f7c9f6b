use Rattle.std.proofs.Common.{◌+◌, ◌≤◌, length}
use Rattle.wb_script.proofs.ReadLemmas.{Progress}
use Rattle.wb_script.proofs.reader.read_lines.Given as goal

abbrev pub invariant-loop-rest : goal.invariant-loop-rest
invariant-loop-rest l = record {
  progress : Progress l.text l.rest l.line l.reader.items.items l.reader.opening;
  short : l.line + length l.rest ≤ length l.text;
}

abbrev pub decreases-loop-rest : goal.decreases-loop-rest
decreases-loop-rest l = length l.rest
