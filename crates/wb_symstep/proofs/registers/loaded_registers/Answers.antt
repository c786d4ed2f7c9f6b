use Rattle.std.proofs.Common.{refl}
use Rattle.wb_machine.specs.Next.{moved_dp, moved_rp}
use Rattle.wb_symstep.proofs.Parts.{of_two}
use Rattle.wb_symstep.proofs.Reading.{dp_part, rp_part}
use Rattle.wb_symstep.proofs.Moving.{raised}
use Rattle.wb_symstep.proofs.registers.loaded_registers.Goals as goal

pub returns-clause-dp : goal.returns-clause-dp
returns-clause-dp c p h =
    let g = c.args.graph.now in
    let s = c.args.state.now in
    of_two g c.narrowed.new.graph c.narrowed.ensures.grown s c.requires.state c.args.bus s.dp c.in_ok-after.after.dp p (λ m. m.regs.dp)
    (moved_dp c.args.dst) h (dp_part g s c.requires.state) c.in_ok-after.ensures.dp c.in_ok-after.ensures.dp_inputs

pub returns-clause-rp : goal.returns-clause-rp
returns-clause-rp c p h =
    let g = c.args.graph.now in
    let s = c.args.state.now in
    of_two g c.narrowed.new.graph c.narrowed.ensures.grown s c.requires.state c.args.bus s.rp c.in_ok-after.after.rp p (λ m. m.regs.rp)
    (moved_rp c.args.dst) h (rp_part g s c.requires.state) c.in_ok-after.ensures.rp c.in_ok-after.ensures.rp_inputs

pub returns-clause-sr : goal.returns-clause-sr
returns-clause-sr c p h =
    let s = c.args.state.now in
    raised c.args.graph.now c.narrowed.new.graph c.narrowed.ensures.grown s c.requires.state c.args.dst c.args.bus c.in_ok-after.after.sr p
    s.rqm c.raised_by_move.result (λ sr. sr) h (λ word. refl) (c.raised_by_move.ensures s.drs)
    c.in_ok-after.ensures.sr c.in_ok-after.ensures.sr_inputs
