use Rattle.wb_dis.proofs.Apart.{lines_apart}
use Rattle.wb_dis.proofs.laws.lines_tell_words_apart.Goals as goal

pub returns : goal.returns
returns c = lines_apart c.coding_laws.ensures.word c.each_text_has_one_answer.ensures.one_list c.statements_are_read_in_one_way.ensures.one_statement
