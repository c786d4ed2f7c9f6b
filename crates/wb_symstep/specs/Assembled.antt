-- The parts of a state after an instruction that goes on at the next address.
use Rattle.std.specs.Prelude.{◌≡◌}
use Rattle.wb_term.specs.Terms.{Terms}
use Rattle.wb_machine.specs.State.{State}
use Rattle.wb_machine.specs.Next.{following}
use Rattle.wb_symstep.specs.declared.state.SymState.{SymState}
use Rattle.wb_symstep.specs.declared.work.Accumulators.{Accumulators}
use Rattle.wb_symstep.specs.declared.work.Memory.{Memory}
use Rattle.wb_symstep.specs.declared.work.Plain.{Plain}
use Rattle.wb_symstep.specs.declared.work.Registers.{Registers}
use Rattle.wb_symstep.specs.Parts.{IsPart, AreFlagsOf, IsRamOf, IsStatusOf}

pub record AreParts (g : Terms) (s : SymState) (r : Registers) (memory : Memory) (p : Plain) (flags : Accumulators) (step : State → State) : Type 0 where
  pub pc : (m : State) → (step m).regs.pc ≡ following m.regs.pc
  pub sp : (m : State) → (step m).regs.sp ≡ m.regs.sp
  pub stack : (m : State) → (step m).stack ≡ m.stack
  pub rp : IsPart g s r.rp (λ m. (step m).regs.rp)
  pub dp : IsPart g s r.dp (λ m. (step m).regs.dp)
  pub a : IsPart g s p.a (λ m. (step m).regs.a)
  pub b : IsPart g s p.b (λ m. (step m).regs.b)
  pub tr : IsPart g s p.tr (λ m. (step m).regs.tr)
  pub trb : IsPart g s p.trb (λ m. (step m).regs.trb)
  pub k : IsPart g s memory.k (λ m. (step m).regs.k)
  pub l : IsPart g s memory.l (λ m. (step m).regs.l)
  pub dr : IsPart g s p.dr (λ m. (step m).regs.dr)
  pub sr : IsStatusOf g s r.rqm s.drs r.sr (λ m. (step m).regs.sr)
  pub so : IsPart g s p.so (λ m. (step m).regs.so)
  pub flags_a : AreFlagsOf g s flags.flags_a (λ m. (step m).regs.flags_a)
  pub flags_b : AreFlagsOf g s flags.flags_b (λ m. (step m).regs.flags_b)
  pub ram : IsRamOf g s memory.ram (λ m. (step m).ram)
