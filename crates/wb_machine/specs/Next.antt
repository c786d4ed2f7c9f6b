-- One instruction. Each register after it has a definition of its own over the state before it;
-- `next_by` puts them together, and `next` takes the instruction of the word at PC.
use Rattle.std.specs.Prelude.{ℕ, ◌+◌, ◌*◌, ◌/◌, ◌%◌, ◌^◌, Bool, true, false, not, ◌==◌, if◌then◌else◌, List, slice_index, slice_set, bit_or, bit_xor, pos, ◌*ℤ◌, unsigned_abs}
use Rattle.std.specs.Int.{int_rem_euclid}
use Rattle.wb_word.specs.declared.codes.Acc.{Acc}
use Rattle.wb_word.specs.declared.codes.Acc.TheVariants as acc
use Rattle.wb_word.specs.declared.codes.Dpl.{Dpl}
use Rattle.wb_word.specs.declared.codes.Dpl.TheVariants as dpl
use Rattle.wb_word.specs.declared.codes.Dst.{Dst}
use Rattle.wb_word.specs.declared.codes.Dst.TheVariants as dst
use Rattle.wb_word.specs.declared.codes.P.{P}
use Rattle.wb_word.specs.declared.codes.P.TheVariants as p
use Rattle.wb_word.specs.declared.codes.Src.{Src}
use Rattle.wb_word.specs.declared.codes.Src.TheVariants as src
use Rattle.wb_word.specs.declared.conditions.Cond.{Cond}
use Rattle.wb_word.specs.declared.conditions.Cond.TheVariants as cond
use Rattle.wb_word.specs.declared.words.OpWord.{OpWord}
use Rattle.wb_word.specs.declared.words.Instr.{Instr}
use Rattle.wb_word.specs.declared.words.Instr.TheVariants.{Op, Rt, Jp, Ld}
use Rattle.wb_word.specs.Encoding.{instr_of}
use Rattle.wb_alu.specs.declared.flags.Flags.{Flags}
use Rattle.wb_alu.specs.Operation.{alu_flags, alu_result, signed}
use Rattle.wb_rom.specs.declared.images.Image.{Image}
use Rattle.wb_machine.specs.declared.registers.Regs.{Regs}
use Rattle.wb_machine.specs.State.{State, rqm}

-- The bus. Narrow registers are filled with zeros above; the serial inputs are idle.
unfoldable pub bus_of : Src → Image → State → ℕ
bus_of src.Trb image s = s.regs.trb
bus_of src.A image s = s.regs.a
bus_of src.B image s = s.regs.b
bus_of src.Tr image s = s.regs.tr
bus_of src.Dp image s = s.regs.dp
bus_of src.Rp image s = s.regs.rp
bus_of src.Ro image s = slice_index image.drom s.regs.rp
bus_of src.Sgn image s = (if s.regs.flags_a.s1 then 0x7FFF else 0x8000)
bus_of src.Dr image s = s.regs.dr
bus_of src.Drnf image s = s.regs.dr
bus_of src.Sr image s = s.regs.sr
bus_of src.Sim image s = 0
bus_of src.Sil image s = 0
bus_of src.K image s = s.regs.k
bus_of src.L image s = s.regs.l
bus_of src.Mem image s = slice_index s.ram s.regs.dp

-- what an instruction moves, and where to
unfoldable pub carried : Instr → Image → State → ℕ
carried (Op o) image s = bus_of o.src image s
carried (Rt o) image s = bus_of o.src image s
carried (Jp c na spare) image s = 0
carried (Ld value spare d) image s = value

abbrev pub target : Instr → Dst
target (Op o) = o.dst
target (Rt o) = o.dst
target (Jp c na spare) = dst.Non
target (Ld value spare d) = d

-- The ALU: on the accumulator that the word names, with that one's flags and the carry of the other.
-- twice the signed product, cut to 32 bits
unfoldable pub product : ℕ → ℕ → ℕ
product k l = unsigned_abs (int_rem_euclid (signed k *ℤ signed l *ℤ pos 2) (pos (2 ^ 32)))

unfoldable pub operand : P → ℕ → State → ℕ
operand p.Ram bus s = slice_index s.ram s.regs.dp
operand p.Idb bus s = bus
operand p.M bus s = product s.regs.k s.regs.l / 65536
operand p.N bus s = product s.regs.k s.regs.l % 65536

abbrev pub other : Acc → Acc
other acc.A = acc.B
other acc.B = acc.A

abbrev pub accumulator : Acc → Regs → ℕ
accumulator acc.A r = r.a
accumulator acc.B r = r.b

abbrev pub flags_of : Acc → Regs → Flags
flags_of acc.A r = r.flags_a
flags_of acc.B r = r.flags_b

unfoldable pub computed : OpWord → ℕ → State → ℕ
computed o bus s =
    alu_result o.alu (accumulator o.acc s.regs) (operand o.p bus s) (flags_of (other o.acc) s.regs).c

unfoldable pub computed_flags : OpWord → ℕ → State → Flags
computed_flags o bus s =
    alu_flags o.alu (accumulator o.acc s.regs) (operand o.p bus s) (flags_of (other o.acc) s.regs).c
    (flags_of o.acc s.regs)

-- what the ALU leaves of the first accumulator, where it works on the second
abbrev pub worked_on : {A : Type 0} → Acc → Acc → A → A → A
worked_on acc.A acc.A work old = work
worked_on acc.A acc.B work old = old
worked_on acc.B acc.A work old = old
worked_on acc.B acc.B work old = work

unfoldable pub worked : Acc → Instr → Image → State → ℕ
worked x (Op o) image s = worked_on x o.acc (computed o (bus_of o.src image s) s) (accumulator x s.regs)
worked x (Rt o) image s = worked_on x o.acc (computed o (bus_of o.src image s) s) (accumulator x s.regs)
worked x _ image s = accumulator x s.regs

unfoldable pub worked_flags : Acc → Instr → Image → State → Flags
worked_flags x (Op o) image s = worked_on x o.acc (computed_flags o (bus_of o.src image s) s) (flags_of x s.regs)
worked_flags x (Rt o) image s = worked_on x o.acc (computed_flags o (bus_of o.src image s) s) (flags_of x s.regs)
worked_flags x _ image s = flags_of x s.regs

-- A move to an accumulator wins over the ALU's result, and leaves the flags.
abbrev pub moved_a : Dst → ℕ → ℕ → ℕ
moved_a dst.A bus a = bus
moved_a _ bus a = a

abbrev pub moved_b : Dst → ℕ → ℕ → ℕ
moved_b dst.B bus b = bus
moved_b _ bus b = b

unfoldable pub a_after : Instr → Image → State → ℕ
a_after i image s = moved_a (target i) (carried i image s) (worked acc.A i image s)

unfoldable pub b_after : Instr → Image → State → ℕ
b_after i image s = moved_b (target i) (carried i image s) (worked acc.B i image s)

unfoldable pub flags_a_after : Instr → Image → State → Flags
flags_a_after i image s = worked_flags acc.A i image s

unfoldable pub flags_b_after : Instr → Image → State → Flags
flags_b_after i image s = worked_flags acc.B i image s

-- The registers that only a move writes.
abbrev pub moved_tr : Dst → ℕ → ℕ → ℕ
moved_tr dst.Tr bus tr = bus
moved_tr _ bus tr = tr

abbrev pub moved_trb : Dst → ℕ → ℕ → ℕ
moved_trb dst.Trb bus trb = bus
moved_trb _ bus trb = trb

abbrev pub moved_so : Dst → ℕ → ℕ → ℕ
moved_so dst.Sol bus so = bus
moved_so dst.Som bus so = bus
moved_so _ bus so = so

-- the address that a move to K and L reads: DP with its bit 6 set
abbrev pub far_address : ℕ → ℕ
far_address dp = bit_or dp 64

abbrev pub moved_k : Dst → ℕ → List ℕ → ℕ → ℕ → ℕ
moved_k dst.K bus ram dp k = bus
moved_k dst.Klr bus ram dp k = bus
moved_k dst.Klm bus ram dp k = slice_index ram (far_address dp)
moved_k _ bus ram dp k = k

abbrev pub moved_l : Dst → ℕ → List ℕ → ℕ → ℕ → ℕ
moved_l dst.L bus drom rp l = bus
moved_l dst.Klr bus drom rp l = slice_index drom rp
moved_l dst.Klm bus drom rp l = bus
moved_l _ bus drom rp l = l

unfoldable pub tr_after : Instr → Image → State → ℕ
tr_after i image s = moved_tr (target i) (carried i image s) s.regs.tr

unfoldable pub trb_after : Instr → Image → State → ℕ
trb_after i image s = moved_trb (target i) (carried i image s) s.regs.trb

unfoldable pub so_after : Instr → Image → State → ℕ
so_after i image s = moved_so (target i) (carried i image s) s.regs.so

unfoldable pub k_after : Instr → Image → State → ℕ
k_after i image s = moved_k (target i) (carried i image s) s.ram s.regs.dp s.regs.k

unfoldable pub l_after : Instr → Image → State → ℕ
l_after i image s = moved_l (target i) (carried i image s) image.drom s.regs.rp s.regs.l

abbrev pub moved_ram : Dst → ℕ → ℕ → List ℕ → List ℕ
moved_ram dst.Mem bus dp ram = slice_set ram dp bus
moved_ram _ bus dp ram = ram

unfoldable pub ram_after : Instr → Image → State → List ℕ
ram_after i image s = moved_ram (target i) (carried i image s) s.regs.dp s.ram

-- The data and status registers. Reading or writing DR raises RQM, bit 15 of SR; DRNF reads it without.
abbrev pub raised : ℕ → ℕ
raised sr = 32768 + sr % 32768

-- SR after a source was put on the bus
abbrev pub raised_by : Src → ℕ → ℕ
raised_by src.Dr sr = raised sr
raised_by _ sr = sr

-- SR after the source of an instruction was put on the bus
abbrev pub raised_in : Instr → ℕ → ℕ
raised_in (Op o) sr = raised_by o.src sr
raised_in (Rt o) sr = raised_by o.src sr
raised_in _ sr = sr

-- bits 14, 13, 11 to 7, 1 and 0 of the bus; 15, 12 and 6 to 2 of the old SR
abbrev pub merged : ℕ → ℕ → ℕ
merged bus sr =
    sr / 32768 * 32768 + bus / 8192 % 4 * 8192 + sr / 4096 % 2 * 4096 + bus / 128 % 32 * 128
    + sr / 4 % 32 * 4 + bus % 4

abbrev pub moved_dr : Dst → ℕ → ℕ → ℕ
moved_dr dst.Dr bus dr = bus
moved_dr _ bus dr = dr

abbrev pub moved_sr : Dst → ℕ → ℕ → ℕ
moved_sr dst.Dr bus sr = raised sr
moved_sr dst.Sr bus sr = merged bus sr
moved_sr _ bus sr = sr

unfoldable pub dr_after : Instr → Image → State → ℕ
dr_after i image s = moved_dr (target i) (carried i image s) s.regs.dr

unfoldable pub sr_after : Instr → Image → State → ℕ
sr_after i image s = moved_sr (target i) (carried i image s) (raised_in i s.regs.sr)

-- The pointers. A move to DP or RP wins over the change that the word makes in it.
abbrev pub low_stepped : Dpl → ℕ → ℕ
low_stepped dpl.DpNop low = low
low_stepped dpl.DpInc low = (low + 1) % 16
low_stepped dpl.DpDec low = (low + 15) % 16
low_stepped dpl.DpClr low = 0

unfoldable pub dp_stepped : Dpl → ℕ → ℕ → ℕ
dp_stepped change high dp = bit_xor (dp / 16) high * 16 + low_stepped change (dp % 16)

abbrev pub rp_stepped : Bool → ℕ → ℕ
rp_stepped change rp = (if change then (rp + 1023) % 1024 else rp)

abbrev pub dp_pointed : Instr → ℕ → ℕ
dp_pointed (Op o) dp = dp_stepped o.dpl o.dphm.value dp
dp_pointed (Rt o) dp = dp_stepped o.dpl o.dphm.value dp
dp_pointed _ dp = dp

abbrev pub rp_pointed : Instr → ℕ → ℕ
rp_pointed (Op o) rp = rp_stepped o.rpdec rp
rp_pointed (Rt o) rp = rp_stepped o.rpdec rp
rp_pointed _ rp = rp

abbrev pub moved_dp : Dst → ℕ → ℕ → ℕ
moved_dp dst.Dp bus dp = bus % 256
moved_dp _ bus dp = dp

abbrev pub moved_rp : Dst → ℕ → ℕ → ℕ
moved_rp dst.Rp bus rp = bus % 1024
moved_rp _ bus rp = rp

unfoldable pub dp_after : Instr → Image → State → ℕ
dp_after i image s = moved_dp (target i) (carried i image s) (dp_pointed i s.regs.dp)

unfoldable pub rp_after : Instr → Image → State → ℕ
rp_after i image s = moved_rp (target i) (carried i image s) (rp_pointed i s.regs.rp)

-- The program counter and the return stack. Acknowledges of the idle serial port are always 0.
unfoldable pub taken : Cond → Regs → Bool
taken cond.Jnca r = not r.flags_a.c
taken cond.Jca r = r.flags_a.c
taken cond.Jncb r = not r.flags_b.c
taken cond.Jcb r = r.flags_b.c
taken cond.Jnza r = not r.flags_a.z
taken cond.Jza r = r.flags_a.z
taken cond.Jnzb r = not r.flags_b.z
taken cond.Jzb r = r.flags_b.z
taken cond.Jnova0 r = not r.flags_a.ov0
taken cond.Jova0 r = r.flags_a.ov0
taken cond.Jnovb0 r = not r.flags_b.ov0
taken cond.Jovb0 r = r.flags_b.ov0
taken cond.Jnova1 r = not r.flags_a.ov1
taken cond.Jova1 r = r.flags_a.ov1
taken cond.Jnovb1 r = not r.flags_b.ov1
taken cond.Jovb1 r = r.flags_b.ov1
taken cond.Jnsa0 r = not r.flags_a.s0
taken cond.Jsa0 r = r.flags_a.s0
taken cond.Jnsb0 r = not r.flags_b.s0
taken cond.Jsb0 r = r.flags_b.s0
taken cond.Jnsa1 r = not r.flags_a.s1
taken cond.Jsa1 r = r.flags_a.s1
taken cond.Jnsb1 r = not r.flags_b.s1
taken cond.Jsb1 r = r.flags_b.s1
taken cond.Jdpl0 r = r.dp % 16 == 0
taken cond.Jdpln0 r = not (r.dp % 16 == 0)
taken cond.Jdplf r = r.dp % 16 == 15
taken cond.Jdplnf r = not (r.dp % 16 == 15)
taken cond.Jnsiak r = true
taken cond.Jsiak r = false
taken cond.Jnsoak r = true
taken cond.Jsoak r = false
taken cond.Jnrqm r = not (rqm r)
taken cond.Jrqm r = rqm r
taken cond.Jmp r = true
taken cond.Call r = true
taken (cond.Other code) r = false

abbrev pub following : ℕ → ℕ
following pc = (pc + 1) % 2048

abbrev pub sp_up : ℕ → ℕ
sp_up sp = (sp + 1) % 4

abbrev pub sp_down : ℕ → ℕ
sp_down sp = (sp + 3) % 4

abbrev pub sp_called : Cond → ℕ → ℕ
sp_called cond.Call sp = sp_up sp
sp_called _ sp = sp

abbrev pub stack_called : Cond → State → List ℕ
stack_called cond.Call s = slice_set s.stack s.regs.sp (following s.regs.pc)
stack_called _ s = s.stack

unfoldable pub pc_after : Instr → State → ℕ
pc_after (Rt o) s = slice_index s.stack (sp_down s.regs.sp)
pc_after (Jp c na spare) s = (if taken c s.regs then na.value else following s.regs.pc)
pc_after _ s = following s.regs.pc

unfoldable pub sp_after : Instr → State → ℕ
sp_after (Rt o) s = sp_down s.regs.sp
sp_after (Jp c na spare) s = sp_called c s.regs.sp
sp_after _ s = s.regs.sp

unfoldable pub stack_after : Instr → State → List ℕ
stack_after (Jp c na spare) s = stack_called c s
stack_after _ s = s.stack

-- All of them at once.
unfoldable pub regs_after : Instr → Image → State → Regs
regs_after i image s = record {
  pc = pc_after i s;
  sp = sp_after i s;
  rp = rp_after i image s;
  dp = dp_after i image s;
  a = a_after i image s;
  b = b_after i image s;
  tr = tr_after i image s;
  trb = trb_after i image s;
  k = k_after i image s;
  l = l_after i image s;
  dr = dr_after i image s;
  sr = sr_after i image s;
  so = so_after i image s;
  flags_a = flags_a_after i image s;
  flags_b = flags_b_after i image s;
}

unfoldable pub next_by : Instr → Image → State → State
next_by i image s = record {
  regs = regs_after i image s;
  stack = stack_after i s;
  ram = ram_after i image s;
}

-- the instruction at PC
abbrev pub instr_at : Image → State → Instr
instr_at image s = instr_of (slice_index image.prog s.regs.pc)

unfoldable pub next : Image → State → State
next image s = next_by (instr_at image s) image s
