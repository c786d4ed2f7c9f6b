use Rattle.wb_session.proofs.Sole.{some_one, one_alone}
use Rattle.wb_session.proofs.laws.each_script_has_one_transcript.Goals as goal

pub returns-clause-some : goal.returns-clause-some
returns-clause-some c = some_one

pub returns-clause-only : goal.returns-clause-only
returns-clause-only c = one_alone
