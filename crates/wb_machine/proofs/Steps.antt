-- The effects of an instruction in their order leave each register as its own definition has it.
use Rattle.std.proofs.Common.{◌≡◌, ℕ, Bool, refl, sym}
use Rattle.wb_word.specs.declared.codes.Acc.{Acc}
use Rattle.wb_word.specs.declared.codes.Acc.TheVariants as acc
use Rattle.wb_word.specs.declared.codes.Alu.{Alu}
use Rattle.wb_word.specs.declared.codes.Dpl.{Dpl}
use Rattle.wb_word.specs.declared.codes.Dst.{Dst}
use Rattle.wb_word.specs.declared.codes.Dst.TheVariants as dst
use Rattle.wb_word.specs.declared.codes.P.{P}
use Rattle.wb_word.specs.declared.codes.P.TheVariants as p
use Rattle.wb_word.specs.declared.codes.Src.{Src}
use Rattle.wb_word.specs.declared.codes.Src.TheVariants as src
use Rattle.wb_word.specs.declared.conditions.Cond.{Cond}
use Rattle.wb_word.specs.declared.conditions.Cond.TheVariants as cond
use Rattle.wb_word.specs.declared.numbers.Addr.{Addr}
use Rattle.wb_word.specs.declared.numbers.Nibble.{Nibble}
use Rattle.wb_word.specs.declared.numbers.Spare.{Spare}
use Rattle.wb_word.specs.declared.words.OpWord.{OpWord}
use Rattle.wb_word.specs.declared.words.Instr.TheVariants.{Op, Rt, Jp, Ld}
use Rattle.wb_rom.specs.declared.images.Image.{Image}
use Rattle.wb_alu.specs.Operation.{alu_flags, alu_result}
use Rattle.wb_machine.specs.State.{State}
use Rattle.wb_machine.specs.Next.{accumulator, flags_of, other, carried, bus_of, operand, computed, computed_flags, worked, worked_flags, pc_after, sp_after, rp_after, dp_after, a_after, b_after, tr_after, trb_after, k_after, l_after, dr_after, sr_after, so_after, flags_a_after, flags_b_after, ram_after, stack_after, regs_after, next_by, taken}
use Rattle.wb_machine.specs.Effects.{calculated, source_raised, moved, pointed, operated_on, operated, loaded, advanced, branched, jumped, called, returned}

abbrev pub op_word : P → Alu → Acc → Dpl → Nibble → Bool → Src → Dst → OpWord
op_word p alu x dpl m rpdec src d = record {
  p = p;
  alu = alu;
  acc = x;
  dpl = dpl;
  dphm = m;
  rpdec = rpdec;
  src = src;
  dst = d;
}

-- The address of the word is read by no source and no operand.
pub bus_of-advanced : (src : Src) (image : Image) (s : State) → bus_of src image (advanced s) ≡ bus_of src image s
unfolding bus_of advanced
bus_of-advanced src.Trb image s = refl
bus_of-advanced _ image s = refl

pub operand-advanced : (p : P) (bus : ℕ) (s : State) → operand p bus (advanced s) ≡ operand p bus s
unfolding operand advanced
operand-advanced p.Ram bus s = refl
operand-advanced _ bus s = refl

computed_by : (alu : Alu) (x : Acc) (p : P) (bus : ℕ) (s : State)
    → alu_result alu (accumulator x (advanced s).regs) (operand p bus (advanced s)) (flags_of (other x) (advanced s).regs).c
    ≡ alu_result alu (accumulator x s.regs) (operand p bus s) (flags_of (other x) s.regs).c
unfolding advanced
computed_by alu acc.A p bus s = rw (operand-advanced p bus s)
computed_by alu acc.B p bus s = rw (operand-advanced p bus s)

computed_flags_by : (alu : Alu) (x : Acc) (p : P) (bus : ℕ) (s : State)
    → alu_flags alu (accumulator x (advanced s).regs) (operand p bus (advanced s)) (flags_of (other x) (advanced s).regs).c (flags_of x (advanced s).regs)
    ≡ alu_flags alu (accumulator x s.regs) (operand p bus s) (flags_of (other x) s.regs).c (flags_of x s.regs)
unfolding advanced
computed_flags_by alu acc.A p bus s = rw (operand-advanced p bus s)
computed_flags_by alu acc.B p bus s = rw (operand-advanced p bus s)

pub computed-advanced : (o : OpWord) (bus : ℕ) (s : State) → computed o bus (advanced s) ≡ computed o bus s
unfolding computed
computed-advanced o bus s = computed_by o.alu o.acc o.p bus s

pub computed_flags-advanced : (o : OpWord) (bus : ℕ) (s : State) → computed_flags o bus (advanced s) ≡ computed_flags o bus s
unfolding computed_flags
computed_flags-advanced o bus s = computed_flags_by o.alu o.acc o.p bus s

op_by : (image : Image) (s : State) (p : P) (alu : Alu) (x : Acc) (dpl : Dpl) (m : Nibble) (rpdec : Bool) (src : Src) (d : Dst)
    → operated (op_word p alu x dpl m rpdec src d) image (advanced s) ≡ next_by (Op (op_word p alu x dpl m rpdec src d)) image s
unfolding operated operated_on advanced calculated source_raised moved pointed next_by regs_after pc_after sp_after rp_after dp_after a_after b_after tr_after trb_after k_after l_after dr_after sr_after so_after flags_a_after flags_b_after ram_after stack_after carried worked worked_flags
op_by image s p alu acc.A dpl m rpdec src dst.Non = simp (bus_of-advanced src image s, computed-advanced, computed_flags-advanced)
op_by image s p alu acc.A dpl m rpdec src dst.A = simp (bus_of-advanced src image s, computed_flags-advanced)
op_by image s p alu acc.A dpl m rpdec src _ = simp (bus_of-advanced src image s, computed-advanced, computed_flags-advanced)
op_by image s p alu acc.B dpl m rpdec src dst.Non = simp (bus_of-advanced src image s, computed-advanced, computed_flags-advanced)
op_by image s p alu acc.B dpl m rpdec src dst.B = simp (bus_of-advanced src image s, computed_flags-advanced)
op_by image s p alu acc.B dpl m rpdec src _ = simp (bus_of-advanced src image s, computed-advanced, computed_flags-advanced)

rt_by : (image : Image) (s : State) (p : P) (alu : Alu) (x : Acc) (dpl : Dpl) (m : Nibble) (rpdec : Bool) (src : Src) (d : Dst)
    → returned (operated (op_word p alu x dpl m rpdec src d) image (advanced s)) ≡ next_by (Rt (op_word p alu x dpl m rpdec src d)) image s
unfolding returned operated operated_on advanced calculated source_raised moved pointed next_by regs_after pc_after sp_after rp_after dp_after a_after b_after tr_after trb_after k_after l_after dr_after sr_after so_after flags_a_after flags_b_after ram_after stack_after carried worked worked_flags
rt_by image s p alu acc.A dpl m rpdec src dst.Non = simp (bus_of-advanced src image s, computed-advanced, computed_flags-advanced)
rt_by image s p alu acc.A dpl m rpdec src dst.A = simp (bus_of-advanced src image s, computed_flags-advanced)
rt_by image s p alu acc.A dpl m rpdec src _ = simp (bus_of-advanced src image s, computed-advanced, computed_flags-advanced)
rt_by image s p alu acc.B dpl m rpdec src dst.Non = simp (bus_of-advanced src image s, computed-advanced, computed_flags-advanced)
rt_by image s p alu acc.B dpl m rpdec src dst.B = simp (bus_of-advanced src image s, computed_flags-advanced)
rt_by image s p alu acc.B dpl m rpdec src _ = simp (bus_of-advanced src image s, computed-advanced, computed_flags-advanced)

pub next_by-Op : (o : OpWord) (image : Image) (s : State) → next_by (Op o) image s ≡ operated o image (advanced s)
next_by-Op o image s = sym (op_by image s o.p o.alu o.acc o.dpl o.dphm o.rpdec o.src o.dst)

pub next_by-Rt : (o : OpWord) (image : Image) (s : State)
    → next_by (Rt o) image s ≡ returned (operated o image (advanced s))
next_by-Rt o image s = sym (rt_by image s o.p o.alu o.acc o.dpl o.dphm o.rpdec o.src o.dst)

pub next_by-Ld : (value : ℕ) (spare : Spare) (d : Dst) (image : Image) (s : State)
    → next_by (Ld value spare d) image s ≡ loaded d value image (advanced s)
unfolding loaded advanced moved next_by regs_after pc_after sp_after rp_after dp_after a_after b_after tr_after trb_after k_after l_after dr_after sr_after so_after flags_a_after flags_b_after ram_after stack_after carried worked worked_flags
next_by-Ld value spare d image s = refl

pub next_by-Jp : (c : Cond) (na : Addr) (spare : Spare) (image : Image) (s : State)
    → next_by (Jp c na spare) image s ≡ jumped c na.value (advanced s)
unfolding called branched advanced next_by regs_after pc_after sp_after rp_after dp_after a_after b_after tr_after trb_after k_after l_after dr_after sr_after so_after flags_a_after flags_b_after ram_after stack_after carried worked worked_flags taken
next_by-Jp cond.Call na spare image s = refl
next_by-Jp _ na spare image s = refl

pub ruleset steps = (next_by-Op, next_by-Rt, next_by-Ld, next_by-Jp)
