use Rattle.std.proofs.Common.{◌≡◌, ◌-◌}
use Rattle.wb_asm.specs.Space.{with_words, words_fault}
use Rattle.wb_asm.proofs.spaces.Space.place_all.Given as goal

abbrev pub invariant-loop : goal.invariant-loop
invariant-loop l =
    record {
      fault : words_fault (l.count - l.counter) l.self ≡ words_fault l.count l.initial.self;
      space : with_words (l.count - l.counter) l.self ≡ with_words l.count l.initial.self;
    }
