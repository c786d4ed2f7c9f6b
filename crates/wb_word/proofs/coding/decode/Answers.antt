-- The instruction read from a word has that word, and `instr_of` gives the one that has it.
use Rattle.wb_word.proofs.Inverse.{instr_of_word, same_number}
use Rattle.wb_word.proofs.coding.decode.Goals as goal

pub returns-clause-value : goal.returns-clause-value
returns-clause-value c =
    instr_of_word c.instruction.result c.args.word.value c.instruction.ensures c.args.word.in_range

pub returns-clause-only : goal.returns-clause-only
returns-clause-only c =
    λ i e. same_number i c.instruction.result c.args.word.value e c.instruction.ensures c.args.word.in_range
