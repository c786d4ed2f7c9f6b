use Rattle.std.proofs.Common.{◌≡◌, ◌+◌, map, drop}
use Rattle.wb_asm.specs.Words.{Plain, content_fault, content_word, first_of, with_words_at}
use Rattle.wb_asm.proofs.filling.put_program.Given as goal

abbrev pub invariant-loop-x : goal.invariant-loop-x
invariant-loop-x l =
    record {
      place : l.place ≡ l.at + l.x-index;
      fault : first_of (map (content_fault l.text l.names l.at) (map Plain (drop l.x-index l.xs)))
          ≡ first_of (map (content_fault l.text l.names l.at) (map Plain l.xs));
      prog : with_words_at l.image.prog l.place (map (content_word l.text l.names l.at) (map Plain (drop l.x-index l.xs)))
          ≡ with_words_at l.initial.image.prog l.at (map (content_word l.text l.names l.at) (map Plain l.xs));
      drom : l.image.drom ≡ l.initial.image.drom;
    }
