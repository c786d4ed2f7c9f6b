use Rattle.std.proofs.Common.{◌≡◌, ◌+◌, map, drop}
use Rattle.wb_asm.specs.Words.{data_fault, data_word, first_of, with_words_at}
use Rattle.wb_asm.proofs.filling.put_data.Given as goal

abbrev pub invariant-loop-x : goal.invariant-loop-x
invariant-loop-x l =
    record {
      place : l.place ≡ l.at + l.x-index;
      fault : first_of (map (data_fault l.text l.names l.at) (drop l.x-index l.xs))
          ≡ first_of (map (data_fault l.text l.names l.at) l.xs);
      drom : with_words_at l.image.drom l.place (map (data_word l.text l.names l.at) (drop l.x-index l.xs))
          ≡ with_words_at l.initial.image.drom l.at (map (data_word l.text l.names l.at) l.xs);
      prog : l.image.prog ≡ l.initial.image.prog;
    }
