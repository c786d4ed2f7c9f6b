use Rattle.wb_machine.specs.Next.{a_after, b_after, bus_of, carried, dp_after, dp_stepped, dr_after, flags_a_after, flags_b_after, k_after, l_after, moved_dp, moved_rp, moved_sr, next_by, pc_after, ram_after, raised_by, regs_after, rp_after, rp_stepped, so_after, sp_after, sr_after, stack_after, tr_after, trb_after, worked, worked_flags}
use Rattle.wb_word.specs.declared.codes.Acc.TheVariants as acc
use Rattle.wb_word.specs.declared.words.Instr.TheVariants.{Op}
use Rattle.std.proofs.Common.{refl}
use Rattle.wb_symstep.proofs.Growth.{◌▸◌}
use Rattle.wb_symstep.proofs.States.{IsSymState-kept}
use Rattle.wb_symstep.proofs.Parts.{part_kept, flags_kept}
use Rattle.wb_symstep.proofs.Moving.{status_kept}
use Rattle.wb_symstep.proofs.Reading.{tr_part, trb_part, dr_part, so_part}
use Rattle.wb_symstep.proofs.operate.operate.Goals as goal

pub returns-in_err-registers-clause-grown : goal.returns-in_err-registers-clause-grown
returns-in_err-registers-clause-grown c = c.work.ensures.grown ▸ c.operated_registers.ensures.grown

pub returns-in_err-memory-clause-grown : goal.returns-in_err-memory-clause-grown
returns-in_err-memory-clause-grown c = c.work.ensures.grown ▸ c.operated_registers.ensures.grown ▸ c.memory.ensures.grown

pub returns-clause-grown : goal.returns-clause-grown
returns-clause-grown c = c.work.ensures.grown ▸ c.operated_registers.ensures.grown ▸ c.memory.ensures.grown

pub returns-clause-after : goal.returns-clause-after
unfolding next_by carried regs_after pc_after sp_after stack_after rp_after dp_after a_after b_after tr_after trb_after k_after l_after dr_after sr_after so_after flags_a_after flags_b_after ram_after
returns-clause-after c =
    let g1 = c.work.new.graph in
    let g2 = c.operated_registers.new.graph in
    let g3 = c.memory.new.graph in
    let one = c.work.ensures.grown in
    let two = c.operated_registers.ensures.grown in
    let three = c.memory.ensures.grown in
    let s = c.args.state.now in
    let op = c.args.op.now in
    let image = c.args.image.now in
    let is1 = IsSymState-kept c.args.graph.now g1 one s c.requires.state in
    let is2 = IsSymState-kept g1 g2 two s is1 in
    let is3 = IsSymState-kept g2 g3 three s is2 in
    let bus = bus_of op.src image in
    let word = c.in_ok-worked.worked.bus in
    let bus1 = c.in_ok-worked.ensures.bus in
    let bus2 = part_kept g1 g2 two s is1 word bus bus1 in
    let bus3 = part_kept g2 g3 three s is2 word bus bus2 in
    let after = c.in_ok-worked.worked.after in
    let r = c.in_ok-registers.registers in
    let d = c.delivered-plain.ensures in
    c.assembled.ensures g3 (next_by (Op op) image) is3 (record {
      pc = λ m. refl;
      sp = λ m. refl;
      stack = λ m. refl;
      rp = part_kept g2 g3 three s is2 r.rp (λ m. moved_rp op.dst (bus m) (rp_stepped op.rpdec m.regs.rp)) (c.in_ok-registers.ensures.rp bus bus1);
      dp = part_kept g2 g3 three s is2 r.dp (λ m. moved_dp op.dst (bus m) (dp_stepped op.dpl op.dphm.value m.regs.dp)) (c.in_ok-registers.ensures.dp bus bus1);
      a = d.a g3 s bus (worked acc.A (Op op) image) bus3
          (part_kept g1 g3 (two ▸ three) s is1 after.a (worked acc.A (Op op) image) c.in_ok-worked.ensures.a);
      b = d.b g3 s bus (worked acc.B (Op op) image) bus3
          (part_kept g1 g3 (two ▸ three) s is1 after.b (worked acc.B (Op op) image) c.in_ok-worked.ensures.b);
      tr = d.tr g3 s bus (λ m. m.regs.tr) bus3 (tr_part g3 s is3);
      trb = d.trb g3 s bus (λ m. m.regs.trb) bus3 (trb_part g3 s is3);
      k = c.in_ok-memory.ensures.k bus bus2;
      l = c.in_ok-memory.ensures.l bus bus2;
      dr = d.dr g3 s bus (λ m. m.regs.dr) bus3 (dr_part g3 s is3);
      sr = status_kept g2 g3 three s is2 r.rqm s.drs r.sr (λ m. moved_sr op.dst (bus m) (raised_by op.src m.regs.sr)) (c.in_ok-registers.ensures.sr bus bus1);
      so = d.so g3 s bus (λ m. m.regs.so) bus3 (so_part g3 s is3);
      flags_a = flags_kept g1 g3 (two ▸ three) s is1 after.flags_a (worked_flags acc.A (Op op) image) c.in_ok-worked.ensures.flags_a;
      flags_b = flags_kept g1 g3 (two ▸ three) s is1 after.flags_b (worked_flags acc.B (Op op) image) c.in_ok-worked.ensures.flags_b;
      ram = c.in_ok-memory.ensures.ram bus bus2;
    })
