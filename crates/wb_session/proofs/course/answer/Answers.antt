use Rattle.wb_session.proofs.Runs.{waited, silent, stepped_on}
use Rattle.wb_session.proofs.course.answer.Goals as goal

pub returns-in-Some : goal.returns-in-Some
returns-in-Some c = λ chip e. rw c.in-Wait.is (waited _ chip _ _ _ _ e c.in-Some.ensures)

pub returns-in-None : goal.returns-in-None
returns-in-None c = λ chip e. rw c.in-Wait.is (silent _ chip _ _ _ e c.in-None.ensures)

pub returns-in-Step : goal.returns-in-Step
returns-in-Step c = λ chip e. rw c.in-Step.is (stepped_on _ chip _ _ _ e c.execute.ensures)
