use Rattle.wb_replies.proofs.Shown.{differences_say_questions}
use Rattle.wb_replies.proofs.laws.differences_say_questions.Goals as goal

pub returns : goal.returns
returns c = differences_say_questions c.differences_are_shown.ensures
