use Rattle.std.proofs.Common.{[], ◌∷◌}
use Rattle.std.proofs.lemmas.Result.{err_from_is_err_and}
use Rattle.wb_cli.specs.declared.files.Kind.TheVariants as kind
use Rattle.wb_cli.specs.Checks.{AnImage}
use Rattle.wb_cli.specs.Plan.{Compare}
use Rattle.wb_cli.proofs.Checked.{second_refused}
use Rattle.wb_cli.proofs.works.compare_contents.Goals as goal

pub returns-in_err-second : goal.returns-in_err-second
returns-in_err-second c =
    let p = err_from_is_err_and c.from_residual-in_err-second.result c.from_residual-in_err-second.ensures.1 in
    rw (p.1, p.2) (second_refused (Compare c.args.comparison.question) kind.Image kind.Image []
    c.args.first_bytes.now c.args.second_bytes.now []
    (AnImage c.in_ok-first.first) _ c.in_ok-first.ensures c.in_err-second.ensures)

pub returns : goal.returns
returns c = record {
  held = AnImage c.in_ok-first.first ∷ AnImage c.in_ok-second.second ∷ [];
  holds = (c.in_ok-first.ensures, (c.in_ok-second.ensures, tt));
  makes = c.in_ok-compared.ensures;
}
