use Rattle.std.proofs.lemmas.List.{take_rest}
use Rattle.wb_lex.proofs.ScanLemmas.{advance_skipped, advance_token, advance_line, wide_there}
use Rattle.wb_lex.proofs.scanner.lex.Goals as goal

pub loop-at-preserved-in-Skipped : goal.loop-at-preserved-in-Skipped
loop-at-preserved-in-Skipped c = advance_skipped _ _ _ _ _ c.loop-at.invariant c.in-Skipped.size (rw take_rest at c.in-Skipped.ensures)

pub loop-at-preserved-in-Continue-1 : goal.loop-at-preserved-in-Continue-1
loop-at-preserved-in-Continue-1 c =
    advance_token _ _ _ _ _ c.loop-at.invariant c.in-Token.kind c.in-Token.size _ (rw take_rest at c.in-Token.ensures) c.in_ok-push-in-Token.ensures.items

pub loop-at-preserved : goal.loop-at-preserved
loop-at-preserved c = advance_line _ _ _ _ _ c.loop-at.invariant _ (rw take_rest at c.in-LineEnd.ensures) c.in_ok-push-in-LineEnd.ensures.items

pub returns-in-Wide-clause-fault : goal.returns-in-Wide-clause-fault
returns-in-Wide-clause-fault c = wide_there _ _ _ _ _ c.loop-at.invariant (rw take_rest at c.in-Wide.ensures)
