use Rattle.std.proofs.Common.{◌≡◌, ◌∙◌, arith}
use Rattle.wb_script.proofs.CopyLemmas.{one_more, all_copies, no_copies, room_for_one}
use Rattle.wb_script.proofs.reader.repeat.Goals as goal

pub unwrap-requires : goal.unwrap-requires
unwrap-requires c =
    let room = room_for_one c.args.items.now.items c.loop.items.items c.args.start c.len-end.result c.loop.counter c.args.times c.requires.start_in (omega arith) (omega arith) (omega arith) c.loop.invariant.0 in
    let more = c.loop.invariant.1 in
    let asked = c.requires.room in
    c.extend_from_within.ensures.succeeds (omega (arith, room, more, asked))

pub loop-preserved : goal.loop-preserved
loop-preserved c =
    let items = rw c.unwrap.ensures at c.extend_from_within.ensures.items in
    let capacity = c.extend_from_within.ensures.capacity in
    let more = c.loop.invariant.1 in (
      items
          ∙ one_more c.args.items.now.items c.loop.items.items c.args.start c.len-end.result c.loop.counter c.requires.start_in (omega arith) (omega arith) c.loop.invariant.0,
      omega (arith, capacity, more),
    )

pub returns-after-loop-clause-items : goal.returns-after-loop-clause-items
returns-after-loop-clause-items c =
    let times : c.loop.counter ≡ c.args.times = omega arith in
    all_copies c.args.items.now.items c.loop.items.items c.args.start c.args.times c.requires.some (rw times at c.loop.invariant.0)

pub returns-else-start-end-clause-items : goal.returns-else-start-end-clause-items
returns-else-start-end-clause-items c = no_copies c.args.items.now.items c.args.start c.args.times (omega arith)
