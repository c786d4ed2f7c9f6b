use Rattle.wb_cli.proofs.Once.{answer_once}
use Rattle.wb_cli.proofs.laws.calls_have_one_answer.Goals as goal

pub returns : goal.returns
returns c = answer_once (record {
  kinds = record {
    one_image = c.files_pair_with_images.ensures.one_image;
    one_script = c.each_text_has_one_answer.ensures.one_script;
    one_line = c.each_text_has_one_answer.ensures.one_line;
    script_never_both = c.each_text_has_one_answer.ensures.never_both;
    moves = c.each_text_has_one_answer-2.ensures;
    one_source_image = c.each_source_has_one_answer.ensures.one_image;
    one_source_fault = c.each_source_has_one_answer.ensures.one_fault;
    source_never_both = c.each_source_has_one_answer.ensures.never_both;
  };
  one_file = c.files_pair_with_images.ensures.one_file;
  one_text = c.verdicts_have_one_text.ensures.verdicts;
  one_transcript = c.each_script_has_one_transcript.ensures.only;
})
