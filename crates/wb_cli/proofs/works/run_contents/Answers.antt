use Rattle.std.proofs.Common.{[], ◌∷◌}
use Rattle.std.proofs.lemmas.Result.{err_from_is_err_and}
use Rattle.wb_cli.specs.declared.files.Kind.TheVariants as kind
use Rattle.wb_cli.specs.Checks.{AnImage, AScript}
use Rattle.wb_cli.specs.Plan.{Run}
use Rattle.wb_cli.proofs.Checked.{second_refused}
use Rattle.wb_cli.proofs.works.run_contents.Goals as goal

pub returns-in_err-script : goal.returns-in_err-script
returns-in_err-script c =
    let p = err_from_is_err_and c.from_residual-in_err-script.result c.from_residual-in_err-script.ensures.1 in
    rw (p.1, p.2) (second_refused Run kind.Image kind.Script [] c.args.image_bytes.now c.args.script_text.now []
    (AnImage c.in_ok-image.image) _ c.in_ok-image.ensures c.in_err-script.ensures)

pub returns : goal.returns
returns c = record {
  held = AnImage c.in_ok-image.image ∷ AScript c.in_ok-script.script ∷ [];
  holds = (c.in_ok-image.ensures, (c.in_ok-script.ensures, tt));
  makes = c.in_ok-transcript.ensures;
}
