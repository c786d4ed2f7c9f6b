-- A state from its parts.
use Rattle.std.proofs.Common.{◌≡◌, ℕ, ◌<◌, sym, ◌∙◌, ap}
use Rattle.wb_term.specs.Terms.{Terms}
use Rattle.wb_machine.specs.State.{State}
use Rattle.wb_machine.specs.Next.{following}
use Rattle.wb_symstep.specs.declared.state.SymState.{SymState}
use Rattle.wb_symstep.specs.declared.work.Accumulators.{Accumulators}
use Rattle.wb_symstep.specs.declared.work.Memory.{Memory}
use Rattle.wb_symstep.specs.declared.work.Plain.{Plain}
use Rattle.wb_symstep.specs.declared.work.Registers.{Registers}
use Rattle.wb_symstep.specs.State.{IsSymState}
use Rattle.wb_symstep.specs.Parts.{IsAfter}
use Rattle.wb_symstep.specs.Assembled.{AreParts}

abbrev state_of : ℕ → SymState → Registers → Memory → Plain → Accumulators → SymState
state_of pc s r memory p f = record {
  pc = pc;
  sp = s.sp;
  stack = s.stack;
  rqm = r.rqm;
  drs = s.drs;
  rp = r.rp;
  dp = r.dp;
  a = p.a;
  b = p.b;
  tr = p.tr;
  trb = p.trb;
  k = memory.k;
  l = memory.l;
  dr = p.dr;
  sr = r.sr;
  so = p.so;
  flags_a = f.flags_a;
  flags_b = f.flags_b;
  ram = memory.ram;
}

pub assembled : (g : Terms) (pc : ℕ) (s : SymState) (r : Registers) (memory : Memory) (p : Plain) (f : Accumulators) (step : State → State)
    → IsSymState g s → pc ≡ following s.pc → pc < 2048 → AreParts g s r memory p f step → IsAfter g s (state_of pc s r memory p f) step
assembled g pc s r memory p f step is at below h = record {
  there = record {
    pc_in = below;
    sp_in = is.sp_in;
    stack_length = is.stack_length;
    stack_in = is.stack_in;
    rp = h.rp.there;
    dp = h.dp.there;
    a = h.a.there;
    b = h.b.there;
    tr = h.tr.there;
    trb = h.trb.there;
    k = h.k.there;
    l = h.l.there;
    dr = h.dr.there;
    sr = h.sr.there;
    so = h.so.there;
    flags_a = h.flags_a.there;
    flags_b = h.flags_b.there;
    ram_length = h.ram.len;
    ram = h.ram.there;
  };
  value = λ i m st. record {
    pc = at ∙ ap following st.state.pc ∙ sym (h.pc m);
    sp = st.state.sp ∙ sym (h.sp m);
    stack = st.state.stack ∙ sym (h.stack m);
    rp = h.rp.value i m st;
    dp = h.dp.value i m st;
    a = h.a.value i m st;
    b = h.b.value i m st;
    tr = h.tr.value i m st;
    trb = h.trb.value i m st;
    k = h.k.value i m st;
    l = h.l.value i m st;
    dr = h.dr.value i m st;
    sr = h.sr.value i m st;
    so = h.so.value i m st;
    flags_a = h.flags_a.value i m st;
    flags_b = h.flags_b.value i m st;
    ram = h.ram.value i m st;
  };
  only = λ allowed o. record {
    rp = h.rp.only allowed o;
    dp = h.dp.only allowed o;
    a = h.a.only allowed o;
    b = h.b.only allowed o;
    tr = h.tr.only allowed o;
    trb = h.trb.only allowed o;
    k = h.k.only allowed o;
    l = h.l.only allowed o;
    dr = h.dr.only allowed o;
    sr = h.sr.only allowed o;
    so = h.so.only allowed o;
    flags_a = h.flags_a.only allowed o;
    flags_b = h.flags_b.only allowed o;
    ram = h.ram.only allowed o;
  };
}
