-- `next` register by register: each is its own definition over the state before.
use Rattle.std.proofs.Common.{◌≡◌, refl}
use Rattle.wb_rom.specs.declared.images.Image.{Image}
use Rattle.wb_machine.specs.State.{State}
use Rattle.wb_machine.specs.Next.{instr_at, next, next_by, regs_after, stack_after, ram_after, pc_after, sp_after, rp_after, dp_after, a_after, b_after, tr_after, trb_after, k_after, l_after, dr_after, sr_after, so_after, flags_a_after, flags_b_after}

pub next-pc : (image : Image) (s : State) → (next image s).regs.pc ≡ pc_after (instr_at image s) s
unfolding next next_by regs_after
next-pc image s = refl

pub next-sp : (image : Image) (s : State) → (next image s).regs.sp ≡ sp_after (instr_at image s) s
unfolding next next_by regs_after
next-sp image s = refl

pub next-rp : (image : Image) (s : State) → (next image s).regs.rp ≡ rp_after (instr_at image s) image s
unfolding next next_by regs_after
next-rp image s = refl

pub next-dp : (image : Image) (s : State) → (next image s).regs.dp ≡ dp_after (instr_at image s) image s
unfolding next next_by regs_after
next-dp image s = refl

pub next-a : (image : Image) (s : State) → (next image s).regs.a ≡ a_after (instr_at image s) image s
unfolding next next_by regs_after
next-a image s = refl

pub next-b : (image : Image) (s : State) → (next image s).regs.b ≡ b_after (instr_at image s) image s
unfolding next next_by regs_after
next-b image s = refl

pub next-tr : (image : Image) (s : State) → (next image s).regs.tr ≡ tr_after (instr_at image s) image s
unfolding next next_by regs_after
next-tr image s = refl

pub next-trb : (image : Image) (s : State) → (next image s).regs.trb ≡ trb_after (instr_at image s) image s
unfolding next next_by regs_after
next-trb image s = refl

pub next-k : (image : Image) (s : State) → (next image s).regs.k ≡ k_after (instr_at image s) image s
unfolding next next_by regs_after
next-k image s = refl

pub next-l : (image : Image) (s : State) → (next image s).regs.l ≡ l_after (instr_at image s) image s
unfolding next next_by regs_after
next-l image s = refl

pub next-dr : (image : Image) (s : State) → (next image s).regs.dr ≡ dr_after (instr_at image s) image s
unfolding next next_by regs_after
next-dr image s = refl

pub next-sr : (image : Image) (s : State) → (next image s).regs.sr ≡ sr_after (instr_at image s) image s
unfolding next next_by regs_after
next-sr image s = refl

pub next-so : (image : Image) (s : State) → (next image s).regs.so ≡ so_after (instr_at image s) image s
unfolding next next_by regs_after
next-so image s = refl

pub next-flags_a : (image : Image) (s : State) → (next image s).regs.flags_a ≡ flags_a_after (instr_at image s) image s
unfolding next next_by regs_after
next-flags_a image s = refl

pub next-flags_b : (image : Image) (s : State) → (next image s).regs.flags_b ≡ flags_b_after (instr_at image s) image s
unfolding next next_by regs_after
next-flags_b image s = refl

pub next-stack : (image : Image) (s : State) → (next image s).stack ≡ stack_after (instr_at image s) s
unfolding next next_by
next-stack image s = refl

pub next-ram : (image : Image) (s : State) → (next image s).ram ≡ ram_after (instr_at image s) image s
unfolding next next_by
next-ram image s = refl
