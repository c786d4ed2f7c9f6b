use Rattle.wb_point.proofs.Valued.{bits_say}
use Rattle.wb_point.proofs.laws.bits_say_questions.Goals as goal

pub returns : goal.returns
returns c = bits_say
