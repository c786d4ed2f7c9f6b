use Rattle.wb_equal.proofs.Gates.{choice_minus}
use Rattle.wb_equal.proofs.Meanings.{IsEntry-not}
use Rattle.wb_equal.proofs.entries.mux_gate.Goals as goal

pub returns-in_ok-base-clause-means : goal.returns-in_ok-base-clause-means
returns-in_ok-base-clause-means c =
    IsEntry-not c.gate.new.self c.in_ok-base.base c.negation.result _ _ c.in_ok-base.ensures.means c.negation.ensures.value c.negation.ensures.there
    (λ v. choice_minus v c.args.c c.args.x c.args.y c.minus.result c.minus-then-x.result c.minus.ensures c.minus-then-x.ensures)
