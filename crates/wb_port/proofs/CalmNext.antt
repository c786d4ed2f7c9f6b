-- A word that doesn't touch the port works beside DR and the status register: whatever they hold, it leaves them
-- as they are, and all else becomes the same.
use Rattle.std.proofs.Common.{◌≡◌, ℕ, false, refl}
use Rattle.std.proofs.lemmas.Bool.{or_parts}
use Rattle.wb_word.specs.Encoding.{instr_of}
use Rattle.wb_word.specs.declared.codes.Acc.TheVariants as acc
use Rattle.wb_word.specs.declared.codes.Dst.{Dst}
use Rattle.wb_word.specs.declared.codes.Dst.TheVariants as dst
use Rattle.wb_word.specs.declared.codes.Src.{Src}
use Rattle.wb_word.specs.declared.codes.Src.TheVariants as src
use Rattle.wb_word.specs.declared.conditions.Cond.{Cond}
use Rattle.wb_word.specs.declared.conditions.Cond.TheVariants as cond
use Rattle.wb_word.specs.declared.words.Instr.{Instr}
use Rattle.wb_word.specs.declared.words.Instr.TheVariants.{Op, Rt, Jp, Ld}
use Rattle.wb_rom.specs.declared.images.Image.{Image}
use Rattle.wb_machine.specs.State.{State}
use Rattle.wb_machine.specs.Next.{target, raised_in, raised_by, moved_dr, moved_sr, pc_after, sp_after, rp_after, dp_after, a_after, b_after, tr_after, trb_after, k_after, l_after, dr_after, sr_after, so_after, flags_a_after, flags_b_after, ram_after, stack_after, regs_after, next_by, next, stack_called}
use Rattle.wb_port.specs.Port.{ported}
use Rattle.wb_port.specs.Wait.{src_touches, dst_touches, instr_touches, touches, word_of}
use Rattle.wb_port.proofs.CalmReads.{carried_calm, worked_calm, worked_flags_calm, taken_calm}

target_calm : (i : Instr) → instr_touches i ≡ false → dst_touches (target i) ≡ false
target_calm (Op o) calm = (or_parts _ _ calm).1
target_calm (Rt o) calm = (or_parts _ _ calm).1
target_calm (Jp c na spare) calm = refl
target_calm (Ld value spare d) calm = calm

moved_dr_calm : (d : Dst) (bus dr : ℕ) → dst_touches d ≡ false → moved_dr d bus dr ≡ dr
moved_dr_calm dst.Dr bus dr calm = cc
moved_dr_calm _ bus dr calm = refl

moved_sr_calm : (d : Dst) (bus sr : ℕ) → dst_touches d ≡ false → moved_sr d bus sr ≡ sr
moved_sr_calm dst.Dr bus sr calm = cc
moved_sr_calm dst.Sr bus sr calm = cc
moved_sr_calm _ bus sr calm = refl

raised_by_calm : (x : Src) (sr : ℕ) → src_touches x ≡ false → raised_by x sr ≡ sr
raised_by_calm src.Dr sr calm = cc
raised_by_calm _ sr calm = refl

raised_in_calm : (i : Instr) (sr : ℕ) → instr_touches i ≡ false → raised_in i sr ≡ sr
raised_in_calm (Op o) sr calm = raised_by_calm o.src sr (or_parts _ _ calm).0
raised_in_calm (Rt o) sr calm = raised_by_calm o.src sr (or_parts _ _ calm).0
raised_in_calm (Jp c na spare) sr calm = refl
raised_in_calm (Ld value spare d) sr calm = refl

pub dr_calm : (i : Instr) (image : Image) (m : State) → instr_touches i ≡ false → dr_after i image m ≡ m.regs.dr
unfolding dr_after
dr_calm i image m calm = moved_dr_calm (target i) _ m.regs.dr (target_calm i calm)

pub sr_calm : (i : Instr) (image : Image) (m : State) → instr_touches i ≡ false → sr_after i image m ≡ m.regs.sr
unfolding sr_after
sr_calm i image m calm =
    rw (raised_in_calm i m.regs.sr calm) (moved_sr_calm (target i) _ m.regs.sr (target_calm i calm))

pc_calm : (i : Instr) (dr sr : ℕ) (m : State)
    → instr_touches i ≡ false → pc_after i (ported dr sr m) ≡ pc_after i m
unfolding pc_after
pc_calm (Op o) dr sr m calm = refl
pc_calm (Rt o) dr sr m calm = refl
pc_calm (Jp c na spare) dr sr m calm = rw (taken_calm c dr sr m calm)
pc_calm (Ld value spare d) dr sr m calm = refl

sp_calm : (i : Instr) (dr sr : ℕ) (m : State) → sp_after i (ported dr sr m) ≡ sp_after i m
unfolding sp_after
sp_calm (Op o) dr sr m = refl
sp_calm _ dr sr m = refl

stack_called_calm : (c : Cond) (dr sr : ℕ) (m : State) → stack_called c (ported dr sr m) ≡ stack_called c m
stack_called_calm cond.Call dr sr m = refl
stack_called_calm _ dr sr m = refl

stack_calm : (i : Instr) (dr sr : ℕ) (m : State) → stack_after i (ported dr sr m) ≡ stack_after i m
unfolding stack_after
stack_calm (Jp c na spare) dr sr m = stack_called_calm c dr sr m
stack_calm _ dr sr m = refl

-- what an instruction makes of the state, where it doesn't touch the port
by_calm : (i : Instr) (dr sr : ℕ) (image : Image) (m : State)
    → instr_touches i ≡ false → next_by i image (ported dr sr m) ≡ ported dr sr (next_by i image m)
unfolding next_by regs_after rp_after dp_after a_after b_after tr_after trb_after k_after l_after so_after flags_a_after flags_b_after ram_after
by_calm i dr sr image m calm =
    let bus = carried_calm i dr sr image m calm in
    let a = worked_calm acc.A i dr sr image m calm in
    let b = worked_calm acc.B i dr sr image m calm in
    let fa = worked_flags_calm acc.A i dr sr image m calm in
    let fb = worked_flags_calm acc.B i dr sr image m calm in
    let pc = pc_calm i dr sr m calm in
    let d = dr_calm i image (ported dr sr m) calm in
    let s = sr_calm i image (ported dr sr m) calm in
    simp (bus, a, b, fa, fb, pc, sp_calm i dr sr m, stack_calm i dr sr m, d, s)

pub calm_next : (image : Image) (dr sr : ℕ) (m : State)
    → touches (word_of image m.regs.pc) ≡ false → next image (ported dr sr m) ≡ ported dr sr (next image m)
unfolding next touches
calm_next image dr sr m calm = by_calm (instr_of (word_of image m.regs.pc)) dr sr image m calm

pub calm_next_dr : (image : Image) (m : State)
    → touches (word_of image m.regs.pc) ≡ false → (next image m).regs.dr ≡ m.regs.dr
unfolding next next_by regs_after touches
calm_next_dr image m calm = dr_calm (instr_of (word_of image m.regs.pc)) image m calm

pub calm_next_sr : (image : Image) (m : State)
    → touches (word_of image m.regs.pc) ≡ false → (next image m).regs.sr ≡ m.regs.sr
unfolding next next_by regs_after touches
calm_next_sr image m calm = sr_calm (instr_of (word_of image m.regs.pc)) image m calm
