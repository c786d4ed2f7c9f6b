use Rattle.std.proofs.Common.{◌≡◌, ◌∙◌, ap, sym, arith, cond, Bool, true, false}
use Rattle.std.proofs.lemmas.Bool.{eqb-false}
use mir.Val.{bool_byte}
use Rattle.wb_port.specs.Wait.{is_test}
use Rattle.wb_port.proofs.Walks.{poll_is_sought, sought_turn}
use Rattle.wb_port.proofs.loops.is_poll.Goals as goal

pub loop-walked-init : goal.loop-walked-init
loop-walked-init c = (poll_is_sought c.args.image.now c.args.at.value, omega arith)

byte_of : (s t : Bool) → s ≡ t → bool_byte s ≡ cond t 1 0
byte_of s true e = ap bool_byte e
byte_of s false e = ap bool_byte e

pub loop-walked-preserved : goal.loop-walked-preserved
loop-walked-preserved c =
    sought_turn c.args.image.now c.args.at.value c.loop-walked.here.value c.in-Some.next.value
    c.loop-walked.tests c.from-tests.result c.loop-walked._walked
    c.loop-walked-test.true c.loop-walked.invariant.0 c.loop-walked.invariant.1
    (sym c.in-Some.ensures.plain) c.in-Some.ensures.next
    (eqb-false _ _ (sym c.if-eq.ensures))
    (c.from-tests.ensures ∙ byte_of _ _ (c.is_test.ensures ∙ ap is_test c.word_at.ensures))
