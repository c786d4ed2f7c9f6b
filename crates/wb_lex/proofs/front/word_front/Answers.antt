use Rattle.std.proofs.Common.{sym, ◌∙◌}
use Rattle.std.proofs.lemmas.List.{take_rest}
use Rattle.wb_lex.proofs.FrontLemmas.{word_token, word_wide}
use Rattle.wb_lex.proofs.front.word_front.Goals as goal

pub returns-in-Some : goal.returns-in-Some
returns-in-Some c =
    word_token c.args.rest.now c.word_length-size.result c.in-Some.kind c.requires.some c.requires.word (rw take_rest at c.word_length-size.ensures.length) (sym c.word_kind.ensures ∙ c.in-Some.is)

pub returns-in-None : goal.returns-in-None
returns-in-None c =
    word_wide c.args.rest.now c.word_length-size.result c.requires.some c.requires.word (rw take_rest at c.word_length-size.ensures.length) (sym c.word_kind.ensures ∙ c.in-None.is)
