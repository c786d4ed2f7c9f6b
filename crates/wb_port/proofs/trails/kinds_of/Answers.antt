use Rattle.std.proofs.Common.{◌∙◌, ◌++◌, ◌∷◌, [], List, get_or, ap, sym, arith}
use Rattle.wb_port.specs.declared.accesses.Access.TheVariants as access
use Rattle.wb_port.specs.declared.accesses.Kind.{Kind}
use Rattle.wb_port.specs.Talk.{kinds}
use Rattle.wb_port.proofs.Passing.{kinds_more}
use Rattle.wb_port.proofs.trails.kinds_of.Goals as goal

pub loop-place-preserved : goal.loop-place-preserved
loop-place-preserved c =
    let other = c.if-place-given.false in
    let most = c.loop-place.invariant.1 in (
      c.in_ok-add_kind.ensures
          ∙ ap (λ (ks : List Kind). ks ++ kinds (get_or c.args.accesses.now c.loop-place.place access.Status ∷ [])) c.loop-place.invariant.0
          ∙ sym (kinds_more c.args.accesses.now c.loop-place.place access.Status c.loop-place-test.true),
      omega arith,
    )
