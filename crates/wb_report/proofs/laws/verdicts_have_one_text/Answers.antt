use Rattle.wb_report.proofs.Sole.{one_said, one_text}
use Rattle.wb_report.proofs.laws.verdicts_have_one_text.Goals as goal

pub returns-clause-runs : goal.returns-clause-runs
returns-clause-runs c = one_said

pub returns-clause-verdicts : goal.returns-clause-verdicts
returns-clause-verdicts c = one_text
