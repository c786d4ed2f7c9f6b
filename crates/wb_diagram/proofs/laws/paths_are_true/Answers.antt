use Rattle.wb_diagram.proofs.Walks.{paths-true, paths-rise}
use Rattle.wb_diagram.proofs.laws.paths_are_true.Goals as goal

pub returns-clause-true_there : goal.returns-clause-true_there
returns-clause-true_there c = paths-true

pub returns-clause-rise : goal.returns-clause-rise
returns-clause-rise c = paths-rise
