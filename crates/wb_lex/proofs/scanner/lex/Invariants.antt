use Rattle.std.proofs.Common.{length, ◌-◌}
use Rattle.wb_lex.proofs.ScanLemmas.{Progress}
use Rattle.wb_lex.proofs.scanner.lex.Given as goal

abbrev pub invariant-loop-at : goal.invariant-loop-at
invariant-loop-at l = Progress l.text l.at l.line l.line_start l.tokens.items

abbrev pub decreases-loop-at : goal.decreases-loop-at
decreases-loop-at l = length l.text - l.at
