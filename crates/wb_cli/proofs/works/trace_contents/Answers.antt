use Rattle.std.proofs.Common.{[], ◌∷◌, ◌∙◌}
use Rattle.std.proofs.lemmas.Result.{err_from_is_err_and}
use Rattle.wb_cli.specs.declared.files.Kind.TheVariants as kind
use Rattle.wb_cli.specs.Checks.{AnImage, SomeMoves}
use Rattle.wb_cli.specs.Plan.{Trace}
use Rattle.wb_cli.proofs.Checked.{second_refused, third_refused}
use Rattle.wb_cli.proofs.works.trace_contents.Goals as goal

pub returns-in_err-second : goal.returns-in_err-second
returns-in_err-second c =
    let p = err_from_is_err_and c.from_residual-in_err-second.result c.from_residual-in_err-second.ensures.1 in
    rw (p.1, p.2) (second_refused (Trace c.args.depth.value) kind.Image kind.Image (kind.Moves ∷ [])
    c.args.first_bytes.now c.args.second_bytes.now (c.args.moves_text.now ∷ [])
    (AnImage c.in_ok-first.first) _ c.in_ok-first.ensures c.in_err-second.ensures)

pub returns-in_err-moves : goal.returns-in_err-moves
returns-in_err-moves c =
    let p = err_from_is_err_and c.from_residual-in_err-moves.result c.from_residual-in_err-moves.ensures.1 in
    rw (p.1, p.2) (third_refused (Trace c.args.depth.value) kind.Image kind.Image kind.Moves
    c.args.first_bytes.now c.args.second_bytes.now c.args.moves_text.now
    (AnImage c.in_ok-first.first) (AnImage c.in_ok-second.second) _
    c.in_ok-first.ensures c.in_ok-second.ensures c.in_err-moves.ensures)

pub returns : goal.returns
returns c = record {
  held = AnImage c.in_ok-first.first ∷ AnImage c.in_ok-second.second ∷ SomeMoves c.in_ok-moves.moves ∷ [];
  holds = (c.in_ok-first.ensures, (c.in_ok-second.ensures, (c.in_ok-moves.ensures, tt)));
  makes = c.from_vec.ensures ∙ c.in_ok-text.ensures;
}
