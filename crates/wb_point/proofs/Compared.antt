-- Lists of kinds, compared one by one.
use Rattle.std.proofs.Common.{◌≡◌, Bool, true, false, List, refl}
use Rattle.std.specs.Bool.{Decides}
use Rattle.std.proofs.lemmas.Slice.Eq.{slice_eq-Decides}
use lib.Pointwise.{pointwise}
use Rattle.wb_port.specs.declared.accesses.Kind.{Kind}
use Rattle.wb_port.specs.declared.accesses.Kind.TheVariants as kind

pub kinds_decide : (E : Kind → Kind → Bool) → E kind.Read kind.Read ≡ true → E kind.Write kind.Write ≡ true → E kind.Read kind.Write ≡ false → E kind.Write kind.Read ≡ false
    → (xs ys : List Kind) (r : Bool) → r ≡ pointwise E xs ys → Decides r (xs ≡ ys)
kinds_decide E rr ww rw_ wr xs ys r is = slice_eq-Decides decides xs ys r is where
  decides : (a b : Kind) → Decides (E a b) (a ≡ b)
  decides kind.Read kind.Read = (λ _. refl, λ _. rr)
  decides kind.Write kind.Write = (λ _. refl, λ _. ww)
  decides kind.Read kind.Write = (λ e. absurd (cc), λ e. absurd (cc))
  decides kind.Write kind.Read = (λ e. absurd (cc), λ e. absurd (cc))
