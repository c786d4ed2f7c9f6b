use Rattle.wb_solve.proofs.Stable.{stable_values_satisfy}
use Rattle.wb_solve.proofs.laws.stable_values_satisfy.Goals as goal

pub returns : goal.returns
returns c = stable_values_satisfy c.clauses_say_the_gates.ensures
