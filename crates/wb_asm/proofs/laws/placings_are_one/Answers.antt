use Rattle.wb_asm.proofs.Once.{names_once}
use Rattle.wb_asm.proofs.OnePlacing.{one_placing}
use Rattle.wb_asm.proofs.laws.placings_are_one.Goals as goal

pub returns-clause-one : goal.returns-clause-one
returns-clause-one c = one_placing

pub returns-clause-names : goal.returns-clause-names
returns-clause-names c = names_once
