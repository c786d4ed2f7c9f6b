use Rattle.wb_machine.specs.Next.{dp_stepped, moved_dp, moved_rp, raised_by, rp_stepped}
use Rattle.wb_symstep.proofs.Growth.{◌▸◌}
use Rattle.wb_symstep.proofs.States.{IsSymState-kept}
use Rattle.wb_symstep.proofs.Parts.{of_two, part_kept}
use Rattle.wb_symstep.proofs.Moving.{raised}
use Rattle.wb_symstep.proofs.registers.operated_registers.Goals as goal

pub returns-in_err-after-clause-grown : goal.returns-in_err-after-clause-grown
returns-in_err-after-clause-grown c = c.stepped_pointers.ensures.grown ▸ c.narrowed.ensures.grown

pub returns-clause-dp : goal.returns-clause-dp
returns-clause-dp c p h =
    let g = c.args.graph.now in
    let mid = c.stepped_pointers.new.graph in
    let s = c.args.state.now in
    let op = c.args.op.now in
    let is = IsSymState-kept g mid c.stepped_pointers.ensures.grown s c.requires.state in
    of_two mid c.narrowed.new.graph c.narrowed.ensures.grown s is c.args.bus c.in_ok-stepped.stepped.dp c.in_ok-after.after.dp p
    (λ m. dp_stepped op.dpl op.dphm.value m.regs.dp) (moved_dp op.dst)
    (part_kept g mid c.stepped_pointers.ensures.grown s c.requires.state c.args.bus p h) c.in_ok-stepped.ensures.dp
    c.in_ok-after.ensures.dp c.in_ok-after.ensures.dp_inputs

pub returns-clause-rp : goal.returns-clause-rp
returns-clause-rp c p h =
    let g = c.args.graph.now in
    let mid = c.stepped_pointers.new.graph in
    let s = c.args.state.now in
    let op = c.args.op.now in
    let is = IsSymState-kept g mid c.stepped_pointers.ensures.grown s c.requires.state in
    of_two mid c.narrowed.new.graph c.narrowed.ensures.grown s is c.args.bus c.in_ok-stepped.stepped.rp c.in_ok-after.after.rp p
    (λ m. rp_stepped op.rpdec m.regs.rp) (moved_rp op.dst)
    (part_kept g mid c.stepped_pointers.ensures.grown s c.requires.state c.args.bus p h) c.in_ok-stepped.ensures.rp
    c.in_ok-after.ensures.rp c.in_ok-after.ensures.rp_inputs

pub returns-clause-sr : goal.returns-clause-sr
returns-clause-sr c p h =
    let g = c.args.graph.now in
    let mid = c.stepped_pointers.new.graph in
    let s = c.args.state.now in
    let op = c.args.op.now in
    let is = IsSymState-kept g mid c.stepped_pointers.ensures.grown s c.requires.state in
    raised mid c.narrowed.new.graph c.narrowed.ensures.grown s is op.dst c.args.bus c.in_ok-after.after.sr p
    c.raised_by_source.result c.raised_by_move.result (raised_by op.src)
    (part_kept g mid c.stepped_pointers.ensures.grown s c.requires.state c.args.bus p h)
    (c.raised_by_source.ensures s.drs) (c.raised_by_move.ensures s.drs)
    (rw c.in_ok-stepped.ensures.sr at c.in_ok-after.ensures.sr) (rw c.in_ok-stepped.ensures.sr at c.in_ok-after.ensures.sr_inputs)

pub returns-clause-grown : goal.returns-clause-grown
returns-clause-grown c = c.stepped_pointers.ensures.grown ▸ c.narrowed.ensures.grown
