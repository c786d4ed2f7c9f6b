use Rattle.wb_machine.specs.Next.{bus_of, computed, computed_flags, operand, worked, worked_flags}
use Rattle.wb_symstep.proofs.Growth.{◌▸◌}
use Rattle.wb_symstep.proofs.States.{IsSymState-kept}
use Rattle.wb_symstep.proofs.Parts.{part_kept}
use Rattle.wb_symstep.proofs.operate.work.Goals as goal

pub returns-in_err-result-clause-grown : goal.returns-in_err-result-clause-grown
returns-in_err-result-clause-grown c = c.bus_and_operand.ensures.grown ▸ c.compute.ensures.grown

pub returns-clause-bus : goal.returns-clause-bus
returns-clause-bus c =
    part_kept c.bus_and_operand.new.graph c.compute.new.graph c.compute.ensures.grown c.args.state.now
    (IsSymState-kept c.args.graph.now c.bus_and_operand.new.graph c.bus_and_operand.ensures.grown c.args.state.now c.requires.state)
    c.in_ok-bus.bus.word (bus_of c.args.op.now.src c.args.image.now) c.in_ok-bus.ensures.word

pub returns-clause-a : goal.returns-clause-a
unfolding worked computed
returns-clause-a c =
    let op = c.args.op.now in
    let image = c.args.image.now in
    c.accumulated.ensures.a c.compute.new.graph (λ m. computed op (bus_of op.src image m) m)
    (IsSymState-kept c.args.graph.now c.compute.new.graph (c.bus_and_operand.ensures.grown ▸ c.compute.ensures.grown) c.args.state.now c.requires.state)
    (c.in_ok-result.ensures.value (λ m. operand op.p (bus_of op.src image m) m) c.in_ok-bus.ensures.operand)

pub returns-clause-b : goal.returns-clause-b
unfolding worked computed
returns-clause-b c =
    let op = c.args.op.now in
    let image = c.args.image.now in
    c.accumulated.ensures.b c.compute.new.graph (λ m. computed op (bus_of op.src image m) m)
    (IsSymState-kept c.args.graph.now c.compute.new.graph (c.bus_and_operand.ensures.grown ▸ c.compute.ensures.grown) c.args.state.now c.requires.state)
    (c.in_ok-result.ensures.value (λ m. operand op.p (bus_of op.src image m) m) c.in_ok-bus.ensures.operand)

pub returns-clause-flags_a : goal.returns-clause-flags_a
unfolding worked_flags computed_flags
returns-clause-flags_a c =
    let op = c.args.op.now in
    let image = c.args.image.now in
    c.accumulated.ensures.flags_a c.compute.new.graph (λ m. computed_flags op (bus_of op.src image m) m)
    (IsSymState-kept c.args.graph.now c.compute.new.graph (c.bus_and_operand.ensures.grown ▸ c.compute.ensures.grown) c.args.state.now c.requires.state)
    (c.in_ok-result.ensures.flags (λ m. operand op.p (bus_of op.src image m) m) c.in_ok-bus.ensures.operand)

pub returns-clause-flags_b : goal.returns-clause-flags_b
unfolding worked_flags computed_flags
returns-clause-flags_b c =
    let op = c.args.op.now in
    let image = c.args.image.now in
    c.accumulated.ensures.flags_b c.compute.new.graph (λ m. computed_flags op (bus_of op.src image m) m)
    (IsSymState-kept c.args.graph.now c.compute.new.graph (c.bus_and_operand.ensures.grown ▸ c.compute.ensures.grown) c.args.state.now c.requires.state)
    (c.in_ok-result.ensures.flags (λ m. operand op.p (bus_of op.src image m) m) c.in_ok-bus.ensures.operand)

pub returns-clause-grown : goal.returns-clause-grown
returns-clause-grown c = c.bus_and_operand.ensures.grown ▸ c.compute.ensures.grown
