use Rattle.wb_asm.proofs.Placing.{fault_peeled, words_peeled}
use Rattle.wb_asm.proofs.spaces.Space.place_all.Goals as goal

pub loop-preserved : goal.loop-preserved
loop-preserved c =
    record {
      fault = fault_peeled c.args.count c.loop.counter c.loop.self c.place.new.self _ c.loop-test.true c.in_ok-place.ensures.0 c.in_ok-place.ensures.1 c.loop.invariant.fault;
      space = words_peeled c.args.count c.loop.counter c.loop.self c.place.new.self _ c.loop-test.true c.in_ok-place.ensures.1 c.loop.invariant.space;
    }
