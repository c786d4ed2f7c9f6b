use Rattle.std.proofs.Common.{◌≡◌, ◌+◌, drop}
use Rattle.std.specs.List.{prefix_len}
use Rattle.wb_lex.specs.Characters.{is_word_character}
use Rattle.wb_lex.proofs.words.word_length.Given as goal

abbrev pub invariant-loop-place : goal.invariant-loop-place
invariant-loop-place l = l.place + prefix_len is_word_character (drop l.place l.bytes) ≡ prefix_len is_word_character l.bytes
