use Rattle.std.proofs.Common.{[], ◌∷◌}
use Rattle.wb_solve.proofs.Quiet.{joined_true}
use Rattle.wb_solve.proofs.judging.two.Goals as goal

pub returns-in-True : goal.returns-in-True
returns-in-True c = λ p x y. joined_true p c.args.x.lit (c.args.y.lit ∷ []) c.args.x.truth c.in-True.is x

pub returns : goal.returns
returns c = λ p x y. c.joined-2.ensures p (c.args.y.lit ∷ []) x (c.joined.ensures p [] y tt)
