use Rattle.std.proofs.Common.{◌∙◌, ap, sym, arith}
use Rattle.std.proofs.lemmas.Bool.{both_ways}
use Rattle.wb_port.specs.Wait.{is_test}
use Rattle.wb_port.proofs.Circles.{poll_plain}
use Rattle.wb_port.proofs.Gates.{way_begins, way_goes_on, way_nearer, way_ends, way_short}
use Rattle.wb_port.proofs.loops.to_gate.Goals as goal

pub loop-here-init : goal.loop-here-init
loop-here-init c = way_begins c.args.image.now c.args.at.value c.requires

pub loop-here-smaller : goal.loop-here-smaller
loop-here-smaller c =
    way_nearer c.args.image.now c.args.at.value c.loop-here.here.value c.in-Some.next.value c.loop-here.words
    c.loop-here.invariant (ap is_test (sym c.word_at.ensures) ∙ sym c.loop-here-test.ensures) c.in-Some.ensures.next

pub loop-here-preserved : goal.loop-here-preserved
loop-here-preserved c =
    way_goes_on c.args.image.now c.args.at.value c.loop-here.here.value c.in-Some.next.value c.loop-here.words
    c.loop-here.invariant (ap is_test (sym c.word_at.ensures) ∙ sym c.loop-here-test.ensures) c.in-Some.ensures.next

pub unreachable-requires : goal.unreachable-requires
unreachable-requires c =
    both_ways _ (sym c.in_default.ensures.plain) (poll_plain c.args.image.now c.loop-here.here.value c.loop-here.invariant.poll)

pub overflow_add-words : goal.overflow_add-words
overflow_add-words c =
    let few = way_short c.args.image.now c.args.at.value c.loop-here.here.value c.loop-here.words c.loop-here.invariant in
    omega arith

pub returns-clause-value : goal.returns-clause-value
returns-clause-value c =
    way_ends c.args.image.now c.args.at.value c.loop-here.here.value c.loop-here.words
    c.loop-here.invariant (ap is_test (sym c.word_at.ensures) ∙ sym c.loop-here-test.ensures)

pub returns-clause-near : goal.returns-clause-near
returns-clause-near c =
    way_short c.args.image.now c.args.at.value c.loop-here.here.value c.loop-here.words c.loop-here.invariant
