use Rattle.std.proofs.Common.{◌<◌, length, arith, rules, inl, inr}
use Rattle.std.proofs.lemmas.Option.{slice_get_within}
use Rattle.wb_diagram.proofs.Seen.{AreUnder-start, IsClosed-none, IsClosed-more, IsSize-end}
use Rattle.wb_diagram.proofs.diagrams.Diagrams.size.Goals as goal
use Rattle.wb_diagram.proofs.diagrams.Diagrams.size.Goals.{then-across-test+else-at-limit, else-across-test}

pub across-init : goal.across-init
across-init c = record {
  are = AreUnder-start _ _ c.new-seen.result.keys _ (search rules) c.requires c.in_ok-see.ensures;
  start = c.in_ok-see.ensures.member;
  closed = IsClosed-none _ _;
  some = omega arith;
  within = omega arith;
}

pub across-preserved : goal.across-preserved
across-preserved c =
    let sees = c.in_ok-see_children.ensures in
    let before = c.across.invariant in
    let here = c.index-next.ensures in
    let below : c.across.at < length c.across.seen.keys = slice_get_within _ _ _ here in
    record {
      are = sees.under _ before.are (before.are.under _ _ here);
      start = (before.start.0, sees.kept _ _ before.start.1);
      closed = IsClosed-more _ _ _ _ _ before.closed here sees;
      some = omega (arith, below, sees.longer);
      within = omega (arith, c.if-at-limit.true);
    }

pub returns : goal.returns
returns c =
    let after = c.across.invariant in
    IsSize-end _ _ _ _ _ after.are after.start after.closed after.some after.within
    (elim c.across-test.branch [
      | then-across-test+else-at-limit w ↦ inr (omega (arith, w.if-at-limit))
      | else-across-test w ↦ inl (omega (arith, c.len.ensures.len, w.across-test))
    ])
