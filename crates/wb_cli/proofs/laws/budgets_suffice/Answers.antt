use Rattle.wb_cli.proofs.Demos.{suffice}
use Rattle.wb_cli.proofs.laws.budgets_suffice.Goals as goal

pub returns : goal.returns
returns c = suffice
