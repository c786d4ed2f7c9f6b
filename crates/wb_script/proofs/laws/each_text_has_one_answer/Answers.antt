use Rattle.wb_script.proofs.AnswerLemmas.{some_answer, never_both, one_script, one_line}
use Rattle.wb_script.proofs.laws.each_text_has_one_answer.Goals as goal

pub returns-clause-some : goal.returns-clause-some
returns-clause-some c = some_answer

pub returns-clause-never_both : goal.returns-clause-never_both
returns-clause-never_both c = never_both

pub returns-clause-one_script : goal.returns-clause-one_script
returns-clause-one_script c = one_script

pub returns-clause-one_line : goal.returns-clause-one_line
returns-clause-one_line c = one_line
