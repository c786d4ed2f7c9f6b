use Rattle.wb_asm.proofs.Filled.{words_outcome}
use Rattle.wb_asm.proofs.filling.fill.Goals as goal

pub returns-in-Words : goal.returns-in-Words
returns-in-Words c =
    words_outcome c.args.text.now c.args.names.now c.args.at c.args.body.now c.in-Words.xs c.args.image.now c.put_program.new.image
    c.put_program.result c.in-Words.is (rw c.as_slice.ensures at c.put_program.ensures)
