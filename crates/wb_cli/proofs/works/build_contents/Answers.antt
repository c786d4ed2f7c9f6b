use Rattle.std.proofs.Common.{[], ◌∷◌, refl}
use Rattle.wb_cli.specs.Checks.{AnImage}
use Rattle.wb_cli.proofs.works.build_contents.Goals as goal

pub returns : goal.returns
returns c = record {
  held = AnImage c.in_ok-image.image ∷ [];
  holds = (c.in_ok-image.ensures, tt);
  makes = refl;
}
