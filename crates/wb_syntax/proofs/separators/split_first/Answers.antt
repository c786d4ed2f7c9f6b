use Rattle.std.proofs.Common.{sym, ◌∙◌, take_all}
use Rattle.std.proofs.lemmas.List.{take_rest}
use Rattle.std.proofs.lemmas.List.Splits.{slice_split_none}
use Rattle.wb_syntax.specs.Separators.{is_separator}
use Rattle.wb_syntax.proofs.Cuts.{cut_at, cut_more}
use Rattle.wb_syntax.proofs.separators.split_first.Goals as goal

pub returns-then-is-clause-parts : goal.returns-then-is-clause-parts
returns-then-is-clause-parts c =
    rw take_rest (cut_at c.args.separator c.args.tokens.now c.loop-place.place _ c.loop-place-test.true c.loop-place.invariant (sym c.is.ensures ∙ c.if-is.true))

pub loop-place-preserved : goal.loop-place-preserved
loop-place-preserved c =
    cut_more c.args.separator c.args.tokens.now c.loop-place.place _ c.loop-place-test.true c.loop-place.invariant (sym c.is.ensures ∙ c.if-is.false)

pub returns-clause-parts : goal.returns-clause-parts
returns-clause-parts c =
    let whole = take_all c.loop-place.place c.args.tokens.now c.loop-place-test.false in
    slice_split_none (λ token. is_separator c.args.separator token.kind) c.args.tokens.now (rw whole at c.loop-place.invariant)
