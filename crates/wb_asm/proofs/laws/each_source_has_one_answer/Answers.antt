use Rattle.wb_asm.proofs.Sole.{Below, image_once, fault_once, image_or_fault}
use Rattle.wb_asm.proofs.laws.each_source_has_one_answer.Goals as goal

below : goal.After-files_pair_with_images → Below
below c = record {
  one_list = c.each_text_has_one_answer.ensures.one_list;
  one_byte = c.each_text_has_one_answer.ensures.one_fault;
  not_both = c.each_text_has_one_answer.ensures.never_both;
  one_source = c.statements_are_read_in_one_way.ensures.one_source;
  one_line = c.statements_are_read_in_one_way.ensures.one_line;
  not_bad = c.statements_are_read_in_one_way.ensures.never_both;
  some_file = c.files_pair_with_images.ensures.some_file;
  one_image = c.files_pair_with_images.ensures.one_image;
}

pub returns-clause-one_image : goal.returns-clause-one_image
returns-clause-one_image c = λ text first second. image_once (below c) text first second

pub returns-clause-one_fault : goal.returns-clause-one_fault
returns-clause-one_fault c = λ text first second. fault_once (below c) text first second

pub returns-clause-never_both : goal.returns-clause-never_both
returns-clause-never_both c = λ text image fault. image_or_fault (below c) text image fault
