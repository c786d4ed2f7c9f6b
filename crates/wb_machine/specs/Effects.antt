-- The effects of one instruction in their order, as the code has them: each on the registers that the one
-- before it left. `Next` says the same without an order.
use Rattle.std.specs.Prelude.{ℕ, if◌then◌else◌, List, slice_index, slice_set}
use Rattle.wb_word.specs.declared.codes.Acc.{Acc}
use Rattle.wb_word.specs.declared.codes.Acc.TheVariants as acc
use Rattle.wb_word.specs.declared.codes.Dst.{Dst}
use Rattle.wb_word.specs.declared.codes.Dst.TheVariants as dst
use Rattle.wb_word.specs.declared.codes.Src.{Src}
use Rattle.wb_word.specs.declared.conditions.Cond.{Cond}
use Rattle.wb_word.specs.declared.conditions.Cond.TheVariants as cond
use Rattle.wb_word.specs.declared.words.OpWord.{OpWord}
use Rattle.wb_alu.specs.declared.flags.Flags.{Flags}
use Rattle.wb_rom.specs.declared.images.Image.{Image}
use Rattle.wb_machine.specs.declared.registers.Regs.{Regs}
use Rattle.wb_machine.specs.State.{State}
use Rattle.wb_machine.specs.Next.{bus_of, computed, computed_flags, moved_a, moved_b, moved_tr, moved_trb, moved_so, moved_k, moved_l, moved_ram, raised_by, moved_dr, moved_sr, moved_dp, moved_rp, dp_stepped, rp_stepped, sp_up, sp_down, following, taken}

-- an accumulator and its flags take the ALU's work
unfoldable pub calculated : Acc → ℕ → Flags → Regs → Regs
calculated acc.A value flags r = record r { a = value; flags_a = flags }
calculated acc.B value flags r = record r { b = value; flags_b = flags }

-- the source raises RQM where it is DR
unfoldable pub source_raised : Src → Regs → Regs
source_raised x r = record r { sr = raised_by x r.sr }

-- the bus moves into a register
unfoldable pub moved : Dst → ℕ → Image → List ℕ → Regs → Regs
moved d bus image ram r = record {
  pc = r.pc;
  sp = r.sp;
  rp = moved_rp d bus r.rp;
  dp = moved_dp d bus r.dp;
  a = moved_a d bus r.a;
  b = moved_b d bus r.b;
  tr = moved_tr d bus r.tr;
  trb = moved_trb d bus r.trb;
  k = moved_k d bus ram r.dp r.k;
  l = moved_l d bus image.drom r.rp r.l;
  dr = moved_dr d bus r.dr;
  sr = moved_sr d bus r.sr;
  so = moved_so d bus r.so;
  flags_a = r.flags_a;
  flags_b = r.flags_b;
}

-- the pointers change, but for one that the move wrote
unfoldable pub pointed : OpWord → Regs → Regs
pointed o r = pointed_unless o.dst
  where
    pointed_unless : Dst → Regs
    pointed_unless dst.Dp = record r { rp = rp_stepped o.rpdec r.rp }
    pointed_unless dst.Rp = record r { dp = dp_stepped o.dpl o.dphm.value r.dp }
    pointed_unless _ = record r { dp = dp_stepped o.dpl o.dphm.value r.dp; rp = rp_stepped o.rpdec r.rp }

-- the whole work of a word that computes and moves, with the value on the bus
unfoldable pub operated_on : OpWord → ℕ → Image → State → State
operated_on o bus image s = record {
  regs =
      pointed o (moved o.dst bus image s.ram
      (source_raised o.src (calculated o.acc (computed o bus s) (computed_flags o bus s) s.regs)));
  stack = s.stack;
  ram = moved_ram o.dst bus s.regs.dp s.ram;
}

unfoldable pub operated : OpWord → Image → State → State
operated o image s = operated_on o (bus_of o.src image s) image s

-- a word that loads moves its own value
unfoldable pub loaded : Dst → ℕ → Image → State → State
loaded d value image s = record {
  regs = moved d value image s.ram s.regs;
  stack = s.stack;
  ram = moved_ram d value s.regs.dp s.ram;
}

-- the program counter goes past the word
unfoldable pub advanced : State → State
advanced s = record s { regs = record s.regs { pc = following s.regs.pc } }

-- a jump, where its condition holds
unfoldable pub branched : Cond → ℕ → State → State
branched c na s = record s { regs = record s.regs { pc = (if taken c s.regs then na else s.regs.pc) } }

-- a call: the return address goes onto the stack
unfoldable pub called : ℕ → State → State
called na s = record {
  regs = record s.regs { pc = na; sp = sp_up s.regs.sp };
  stack = slice_set s.stack s.regs.sp s.regs.pc;
  ram = s.ram;
}

abbrev pub jumped : Cond → ℕ → State → State
jumped cond.Call na s = called na s
jumped c na s = branched c na s

-- a return: the address comes back from the stack
unfoldable pub returned : State → State
returned s = record s {
  regs = record s.regs { pc = slice_index s.stack (sp_down s.regs.sp); sp = sp_down s.regs.sp };
}
