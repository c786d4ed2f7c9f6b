use Rattle.std.proofs.Common.{sym, ◌∙◌}
use Rattle.std.proofs.lemmas.List.{take_rest}
use Rattle.wb_lex.proofs.FrontLemmas.{mark_token, comment_there, blank_there, return_there}
use Rattle.wb_lex.proofs.front.front_of.Goals as goal
use Rattle.wb_lex.proofs.front.front_of.Goals.{then-is_blank, else-is_blank}

pub returns-then-is_mark : goal.returns-then-is_mark
returns-then-is_mark c = mark_token c.args.rest.now c.requires (sym c.is_mark.ensures ∙ c.if-is_mark.true)

pub returns-then-first-eq59 : goal.returns-then-first-eq59
returns-then-first-eq59 c = comment_there c.args.rest.now c.line_length.result c.requires c.if-first-eq59.true (rw take_rest at c.line_length.ensures.length)

pub returns-then-is_return : goal.returns-then-is_return
returns-then-is_return c =
    elim c.if-is_blank.branch [
      | then-is_blank w ↦ blank_there c.args.rest.now c.requires (sym c.is_blank.ensures ∙ w.if-is_blank.true)
      | else-is_blank w ↦ return_there c.args.rest.now c.requires (rw take_rest at (sym w.is_return.ensures ∙ (sym w.value-is ∙ c.if-is_return.true)))
    ]
