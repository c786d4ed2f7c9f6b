use Rattle.std.proofs.Common.{[], ◌∷◌}
use Rattle.wb_solve.proofs.Quiet.{joined_true}
use Rattle.wb_solve.proofs.judging.three.Goals as goal

pub returns-in-True : goal.returns-in-True
returns-in-True c = λ p x y z. joined_true p c.args.x.lit (c.args.y.lit ∷ c.args.z.lit ∷ []) c.args.x.truth c.in-True.is x

pub returns : goal.returns
returns c = λ p x y z. c.joined.ensures p (c.args.y.lit ∷ c.args.z.lit ∷ []) x (c.two.ensures p y z)
