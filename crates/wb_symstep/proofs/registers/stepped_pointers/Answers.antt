use Rattle.wb_machine.specs.Next.{dp_stepped, rp_stepped}
use Rattle.wb_symstep.proofs.Growth.{◌▸◌}
use Rattle.wb_symstep.proofs.States.{IsSymState-kept}
use Rattle.wb_symstep.proofs.Parts.{of_one, part_kept}
use Rattle.wb_symstep.proofs.Reading.{dp_part, rp_part}
use Rattle.wb_symstep.proofs.registers.stepped_pointers.Goals as goal

pub returns-in_err-rp-clause-grown : goal.returns-in_err-rp-clause-grown
returns-in_err-rp-clause-grown c = c.step_dp.ensures.grown ▸ c.step_rp.ensures.grown

pub returns-clause-dp : goal.returns-clause-dp
returns-clause-dp c =
    let old = c.args.graph.now in
    let mid = c.step_dp.new.graph in
    let s = c.args.state.now in
    let op = c.args.op.now in
    part_kept mid c.step_rp.new.graph c.step_rp.ensures.grown s (IsSymState-kept old mid c.step_dp.ensures.grown s c.requires.state)
    c.in_ok-dp.dp (λ m. dp_stepped op.dpl op.dphm.value m.regs.dp)
    (of_one old mid c.step_dp.ensures.grown s c.requires.state s.dp c.in_ok-dp.dp (λ m. m.regs.dp) (dp_stepped op.dpl op.dphm.value)
    (dp_part old s c.requires.state) c.in_ok-dp.ensures.value c.in_ok-dp.ensures.inputs)

pub returns-clause-rp : goal.returns-clause-rp
returns-clause-rp c =
    let old = c.args.graph.now in
    let mid = c.step_dp.new.graph in
    let s = c.args.state.now in
    let op = c.args.op.now in
    let is = IsSymState-kept old mid c.step_dp.ensures.grown s c.requires.state in
    of_one mid c.step_rp.new.graph c.step_rp.ensures.grown s is s.rp c.in_ok-rp.rp (λ m. m.regs.rp) (rp_stepped op.rpdec)
    (rp_part mid s is) c.in_ok-rp.ensures.value c.in_ok-rp.ensures.inputs

pub returns-clause-grown : goal.returns-clause-grown
returns-clause-grown c = c.step_dp.ensures.grown ▸ c.step_rp.ensures.grown
