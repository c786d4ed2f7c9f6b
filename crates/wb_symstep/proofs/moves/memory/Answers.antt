use Rattle.std.proofs.Common.{ℕ, sym, subst, arith}
use Rattle.std.specs.Prelude.{IfOk}
use Rattle.wb_word.specs.declared.codes.Dst.{Dst}
use Rattle.wb_machine.specs.State.{State}
use Rattle.wb_machine.specs.Next.{moved_k, moved_l, moved_ram}
use Rattle.wb_symstep.specs.Parts.{IsPart, IsRamOf}
use Rattle.wb_symstep.proofs.Growth.{adds_less}
use Rattle.wb_symstep.proofs.Meanings.{from_one}
use Rattle.wb_symstep.proofs.moves.memory.Goals as goal

pub returns-in-Mem-clause-k : goal.returns-in-Mem-clause-k
returns-in-Mem-clause-k c =
    subst (λ (d : Dst). IfOk c.memory_written.result (λ r. (p : State → ℕ) → IsPart c.args.graph.now c.args.state.now c.args.bus p →
    IsPart c.memory_written.new.graph c.args.state.now r.k (λ m. moved_k d (p m) m.ram m.regs.dp m.regs.k)))
    (sym c.in-Mem.is)
    (from_one _ _ c.memory_written.result (λ r h p is. h p) c.memory_written.ensures.k)

pub returns-in-Mem-clause-l : goal.returns-in-Mem-clause-l
returns-in-Mem-clause-l c =
    subst (λ (d : Dst). IfOk c.memory_written.result (λ r. (p : State → ℕ) → IsPart c.args.graph.now c.args.state.now c.args.bus p →
    IsPart c.memory_written.new.graph c.args.state.now r.l (λ m. moved_l d (p m) c.args.image.now.drom m.regs.rp m.regs.l)))
    (sym c.in-Mem.is)
    (from_one _ _ c.memory_written.result (λ r h p is. h p c.args.image.now.drom) c.memory_written.ensures.l)

pub returns-in-Mem-clause-ram : goal.returns-in-Mem-clause-ram
returns-in-Mem-clause-ram c =
    subst (λ (d : Dst). IfOk c.memory_written.result (λ r. (p : State → ℕ) → IsPart c.args.graph.now c.args.state.now c.args.bus p →
    IsRamOf c.memory_written.new.graph c.args.state.now r.ram (λ m. moved_ram d (p m) m.regs.dp m.ram)))
    (sym c.in-Mem.is) c.memory_written.ensures.ram

pub returns-in_default : goal.returns-in_default
returns-in_default c = record {
  k = c.memory_read.ensures.k;
  l = c.memory_read.ensures.l;
  ram = from_one _ _ c.memory_read.result (λ r h p is. h p) c.memory_read.ensures.ram;
  grown = c.memory_read.ensures.grown;
  adds = adds_less c.memory_read.ensures.adds (omega arith) (omega arith);
}
