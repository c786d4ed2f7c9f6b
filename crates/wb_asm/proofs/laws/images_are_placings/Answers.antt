use Rattle.wb_asm.proofs.Placed.{text_placed, placed_text}
use Rattle.wb_asm.proofs.Sole.{says_once}
use Rattle.wb_asm.proofs.laws.images_are_placings.Goals as goal

pub returns : goal.returns
returns c = λ text statements says image.
    let one = says_once c.each_text_has_one_answer.ensures.one_list c.statements_are_read_in_one_way.ensures.one_source text in
    (text_placed text statements says one image, placed_text text statements says one image)
