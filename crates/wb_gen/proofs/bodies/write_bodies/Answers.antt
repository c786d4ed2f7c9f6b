use Rattle.wb_gen.proofs.BodyWords.{none_written, one_written, all_written_first, all_written_second}
use Rattle.wb_gen.proofs.bodies.write_bodies.Goals as goal

pub loop-init : goal.loop-init
loop-init c = none_written c.args.number c.args.first.now c.args.second.now

pub loop-preserved : goal.loop-preserved
loop-preserved c =
    one_written c.args.number c.loop.counter c.args.first.now c.args.second.now c.loop.first c.loop.second c.push.new.self c.push_padded.new.self c.loop.drawn c.draw_after-drawn.result c.loop.followed c.body_word-word.result.value
    c.loop-test.true c.loop.invariant c.draw_after-drawn.ensures c.body_word-word.ensures c.push.ensures c.push_padded.ensures

pub returns-clause-first : goal.returns-clause-first
returns-clause-first c =
    all_written_first c.args.number c.loop.counter c.args.first.now c.args.second.now c.loop.first c.loop.second c.loop.drawn c.loop.followed c.loop-test.false c.loop.invariant

pub returns-clause-second : goal.returns-clause-second
returns-clause-second c =
    all_written_second c.args.number c.loop.counter c.args.first.now c.args.second.now c.loop.first c.loop.second c.loop.drawn c.loop.followed c.loop-test.false c.loop.invariant
