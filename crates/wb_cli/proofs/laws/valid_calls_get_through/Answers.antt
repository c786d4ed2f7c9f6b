use Rattle.wb_cli.proofs.Deciding.{DemoLaws}
use Rattle.wb_cli.proofs.Holding.{KindLaws}
use Rattle.wb_cli.proofs.Valid.{done_is_expected, valid_is_done}
use Rattle.wb_cli.proofs.laws.valid_calls_get_through.Goals as goal

pub returns : goal.returns
returns c =
    let laws : KindLaws = record {
      one_image = c.files_pair_with_images.ensures.one_image;
      one_script = c.each_text_has_one_answer.ensures.one_script;
      one_line = c.each_text_has_one_answer.ensures.one_line;
      script_never_both = c.each_text_has_one_answer.ensures.never_both;
      moves = c.each_text_has_one_answer-2.ensures;
      one_source_image = c.each_source_has_one_answer.ensures.one_image;
      one_source_fault = c.each_source_has_one_answer.ensures.one_fault;
      source_never_both = c.each_source_has_one_answer.ensures.never_both;
    } in
    let demo : DemoLaws = record {
      bodies = c.numbers_have_bodies.ensures;
      points = c.pairs_reach_few_points.ensures;
      going = c.pairs_keep_going.ensures;
      same = c.pairs_say_the_same.ensures;
    } in
    record { done = valid_is_done laws; expected = done_is_expected demo }
