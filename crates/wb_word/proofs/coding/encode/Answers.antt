-- A word below 2 ^ 24 stands for one instruction, and a word is known by its value.
use Rattle.std.proofs.Common.{sym}
use Rattle.wb_word.proofs.Inverse.{instr_of_word, word_of_instr}
use Rattle.wb_word.proofs.coding.encode.Goals as goal

pub returns-clause-instr : goal.returns-clause-instr
returns-clause-instr c =
    sym (instr_of_word c.args.instr.now _ (sym c.instruction_bits.ensures.value) c.instruction_bits.ensures.below)

pub returns-clause-only : goal.returns-clause-only
returns-clause-only c =
    λ w e. word_of_instr w _ c.args.instr.now c.instruction_bits.ensures.value e
