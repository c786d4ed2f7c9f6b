use Rattle.wb_machine.specs.Next.{accumulator, flags_of, other}
use Rattle.wb_symstep.proofs.Working.{flags, result}
use Rattle.wb_symstep.proofs.compute.compute.Goals as goal

pub returns-clause-value : goal.returns-clause-value
returns-clause-value c p h =
    let g = c.args.graph.now in
    let s = c.args.state.now in
    let op = c.args.op.now in
    let on = c.named-on.result in
    result g c.alu_terms.new.graph c.alu_terms.ensures.grown s c.requires.state op.alu on.q c.args.operand c.in_ok-value.value on.other_c on.flags
    c.in_ok-value.flags (λ m. accumulator op.acc m.regs) p (λ m. (flags_of (other op.acc) m.regs).c) (λ m. flags_of op.acc m.regs)
    (c.named-on.ensures.q g c.requires.state) h (c.named-on.ensures.other_c g c.requires.state) (c.named-on.ensures.flags g c.requires.state)
    c.in_ok-value.ensures.inputs c.in_ok-value.ensures.value

pub returns-clause-flags : goal.returns-clause-flags
returns-clause-flags c p h =
    let g = c.args.graph.now in
    let s = c.args.state.now in
    let op = c.args.op.now in
    let on = c.named-on.result in
    flags g c.alu_terms.new.graph c.alu_terms.ensures.grown s c.requires.state op.alu on.q c.args.operand c.in_ok-value.value on.other_c on.flags
    c.in_ok-value.flags (λ m. accumulator op.acc m.regs) p (λ m. (flags_of (other op.acc) m.regs).c) (λ m. flags_of op.acc m.regs)
    (c.named-on.ensures.q g c.requires.state) h (c.named-on.ensures.other_c g c.requires.state) (c.named-on.ensures.flags g c.requires.state)
    c.in_ok-value.ensures.inputs c.in_ok-value.ensures.flags
