-- Each read goes on where the bytes so far end, and the first one that gives nothing is at the end.
use Rattle.std.proofs.Common.{rules, arith, ◌≡◌, ◌≤◌, ◌<◌, ◌++◌, length, take}
use Rattle.std.proofs.lemmas.Grind.{common_steps}
use Rattle.wb_base.proofs.Pieces.{gives_at, so_far_more, whole_at_end}
use Rattle.wb_base.proofs.reading.read_into.Goals as goal

pub returns-then-count-eq0-clause-read : goal.returns-then-count-eq0-clause-read
returns-then-count-eq0-clause-read g c =
    let here = gives_at _ (g.S.Shelf.content c.args.shelf.now c.args.name.now) _ (length c.reading.bytes.items) _ _ _
    (c.reading.invariant.0 c.args.name.now) (search rules) c.in_ok-count.ensures.read.0 in
    let room : 0 < length c.read_at.new.buf = grind (arith, common_steps) in
    let within : length c.reading.bytes.items ≤ c.args.limit = search rules in (
      whole_at_end _ _ _ _ _ _ c.reading.invariant.4 here c.if-count-eq0.true room within,
      cc (c.in_ok-count.ensures.read.1, c.reading.invariant.1),
    )

pub reading-preserved : goal.reading-preserved
reading-preserved g c =
    let here = gives_at _ (g.S.Shelf.content c.args.shelf.now c.args.name.now) _ (length c.reading.bytes.items) _ _ _
    (c.reading.invariant.0 c.args.name.now) (search rules) c.in_ok-count.ensures.read.0 in
    let bound : c.in_ok-count.count ≤ length c.read_at.new.buf = search (rules, here.bound) in
    let grown : c.extend_from_slice.new.self.items ≡ c.reading.bytes.items ++ take c.in_ok-count.count c.read_at.new.buf =
    grind (arith, common_steps) in
    let more = so_far_more _ _ _ _ _ c.reading.invariant.4 here bound in
    (search rules, search rules, search rules, search rules, rw grown more)
