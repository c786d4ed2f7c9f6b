use Rattle.wb_machine.specs.Next.{a_after, b_after, carried, dp_after, dr_after, flags_a_after, flags_b_after, k_after, l_after, moved_dp, moved_rp, moved_sr, next_by, pc_after, ram_after, regs_after, rp_after, so_after, sp_after, sr_after, stack_after, tr_after, trb_after, worked, worked_flags}
use Rattle.wb_word.specs.declared.words.Instr.TheVariants.{Ld}
use Rattle.std.proofs.Common.{ℕ, refl}
use Rattle.wb_machine.specs.State.{State}
use Rattle.wb_symstep.specs.Parts.{IsPart}
use Rattle.wb_symstep.proofs.Growth.{◌▸◌}
use Rattle.wb_symstep.proofs.States.{IsSymState-kept}
use Rattle.wb_symstep.proofs.Parts.{part_kept}
use Rattle.wb_symstep.proofs.Moving.{status_kept}
use Rattle.wb_symstep.proofs.Reading.{a_part, b_part, flags_a_part, flags_b_part, tr_part, trb_part, dr_part, so_part}
use Rattle.wb_symstep.proofs.operate.load.Goals as goal

pub returns-in_err-registers-clause-grown : goal.returns-in_err-registers-clause-grown
returns-in_err-registers-clause-grown c = c.mk_const.ensures.grown ▸ c.loaded_registers.ensures.grown

pub returns-in_err-memory-clause-grown : goal.returns-in_err-memory-clause-grown
returns-in_err-memory-clause-grown c = c.mk_const.ensures.grown ▸ c.loaded_registers.ensures.grown ▸ c.memory.ensures.grown

pub returns-clause-grown : goal.returns-clause-grown
returns-clause-grown c = c.mk_const.ensures.grown ▸ c.loaded_registers.ensures.grown ▸ c.memory.ensures.grown

pub returns-clause-after : goal.returns-clause-after
unfolding next_by carried regs_after pc_after sp_after stack_after rp_after dp_after a_after b_after tr_after trb_after k_after l_after dr_after sr_after so_after flags_a_after flags_b_after ram_after worked worked_flags
returns-clause-after c spare =
    let g1 = c.mk_const.new.graph in
    let g2 = c.loaded_registers.new.graph in
    let g3 = c.memory.new.graph in
    let one = c.mk_const.ensures.grown in
    let two = c.loaded_registers.ensures.grown in
    let three = c.memory.ensures.grown in
    let s = c.args.state.now in
    let to = c.args.dst in
    let image = c.args.image.now in
    let is1 = IsSymState-kept c.args.graph.now g1 one s c.requires.state in
    let is2 = IsSymState-kept g1 g2 two s is1 in
    let is3 = IsSymState-kept g2 g3 three s is2 in
    let bus : State → ℕ = λ m. c.args.value in
    let word = c.in_ok-bus.bus in
    let bus1 : IsPart g1 s word bus = record {
      there = c.in_ok-bus.ensures.value.there;
      value = λ i m st. c.in_ok-bus.ensures.value.value i st.inputs_in;
      only = λ allowed o. c.in_ok-bus.ensures.inputs allowed tt;
    } in
    let bus2 = part_kept g1 g2 two s is1 word bus bus1 in
    let bus3 = part_kept g2 g3 three s is2 word bus bus2 in
    let r = c.in_ok-registers.registers in
    let d = c.delivered-plain.ensures in
    c.assembled.ensures g3 (next_by (Ld c.args.value spare to) image) is3 (record {
      pc = λ m. refl;
      sp = λ m. refl;
      stack = λ m. refl;
      rp = part_kept g2 g3 three s is2 r.rp (λ m. moved_rp to (bus m) m.regs.rp) (c.in_ok-registers.ensures.rp bus bus1);
      dp = part_kept g2 g3 three s is2 r.dp (λ m. moved_dp to (bus m) m.regs.dp) (c.in_ok-registers.ensures.dp bus bus1);
      a = d.a g3 s bus (λ m. m.regs.a) bus3 (a_part g3 s is3);
      b = d.b g3 s bus (λ m. m.regs.b) bus3 (b_part g3 s is3);
      tr = d.tr g3 s bus (λ m. m.regs.tr) bus3 (tr_part g3 s is3);
      trb = d.trb g3 s bus (λ m. m.regs.trb) bus3 (trb_part g3 s is3);
      k = c.in_ok-memory.ensures.k bus bus2;
      l = c.in_ok-memory.ensures.l bus bus2;
      dr = d.dr g3 s bus (λ m. m.regs.dr) bus3 (dr_part g3 s is3);
      sr = status_kept g2 g3 three s is2 r.rqm s.drs r.sr (λ m. moved_sr to (bus m) m.regs.sr) (c.in_ok-registers.ensures.sr bus bus1);
      so = d.so g3 s bus (λ m. m.regs.so) bus3 (so_part g3 s is3);
      flags_a = flags_a_part g3 s is3;
      flags_b = flags_b_part g3 s is3;
      ram = c.in_ok-memory.ensures.ram bus bus2;
    })
