use Rattle.std.proofs.Common.{refl, ◌≡◌, true, subst}
use Rattle.wb_point.proofs.Compared.{kinds_decide}
use Rattle.wb_point.proofs.keys.same_kinds.Goals as goal

pub returns : goal.returns
returns c =
    subst (λ xs. (c.eq.result ≡ true → xs ≡ c.args.other.now) × (xs ≡ c.args.other.now → c.eq.result ≡ true)) c.list.ensures
    (subst (λ ys. (c.eq.result ≡ true → c.list.result.now ≡ ys) × (c.list.result.now ≡ ys → c.eq.result ≡ true)) c.list-2.ensures
    (kinds_decide _ refl refl refl refl c.list.result.now c.list-2.result.now c.eq.result c.eq.ensures))
