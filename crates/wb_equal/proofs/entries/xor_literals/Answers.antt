use Rattle.std.proofs.Common.{arith}
use Rattle.wb_equal.proofs.Meanings.{IsEntry-not}
use Rattle.wb_equal.proofs.entries.xor_literals.Goals as goal

pub returns-then-differs-clause-means : goal.returns-then-differs-clause-means
returns-then-differs-clause-means c =
    IsEntry-not c.xor_variables.new.formula _ c.negation.result _ _ c.in_ok-base.ensures.means c.negation.ensures.value c.negation.ensures.there
    (λ v. let d = c.if-differs.true in grind (arith, d))
