use Rattle.wb_trace.proofs.OneAnswer.{each_text_has_one_answer}
use Rattle.wb_trace.proofs.laws.each_text_has_one_answer.Goals as goal

pub returns : goal.returns
returns c = each_text_has_one_answer
