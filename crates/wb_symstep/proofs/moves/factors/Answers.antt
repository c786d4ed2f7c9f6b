use Rattle.std.proofs.Common.{ℕ, sym, subst}
use Rattle.std.specs.Prelude.{IfOk}
use Rattle.wb_word.specs.declared.codes.Dst.{Dst}
use Rattle.wb_machine.specs.State.{State}
use Rattle.wb_machine.specs.Next.{moved_k, moved_l}
use Rattle.wb_symstep.specs.Parts.{IsPart}
use Rattle.wb_symstep.proofs.Meanings.{from_one}
use Rattle.wb_symstep.proofs.moves.factors.Goals as goal

pub returns-in-Klr-clause-k : goal.returns-in-Klr-clause-k
returns-in-Klr-clause-k c =
    subst (λ (d : Dst). IfOk c.factors_by_rp.result (λ r. (p : State → ℕ) → IsPart c.args.graph.now c.args.state.now c.args.bus p →
    IsPart c.factors_by_rp.new.graph c.args.state.now r.k (λ m. moved_k d (p m) m.ram m.regs.dp m.regs.k)))
    (sym c.in-Klr.is) c.factors_by_rp.ensures.k

pub returns-in-Klr-clause-l : goal.returns-in-Klr-clause-l
returns-in-Klr-clause-l c =
    subst (λ (d : Dst). IfOk c.factors_by_rp.result (λ r. (p : State → ℕ) → IsPart c.args.graph.now c.args.state.now c.args.bus p →
    IsPart c.factors_by_rp.new.graph c.args.state.now r.l (λ m. moved_l d (p m) c.args.image.now.drom m.regs.rp m.regs.l)))
    (sym c.in-Klr.is) c.factors_by_rp.ensures.l

pub returns-in-Klm-clause-k : goal.returns-in-Klm-clause-k
returns-in-Klm-clause-k c =
    subst (λ (d : Dst). IfOk c.factors_by_dp.result (λ r. (p : State → ℕ) → IsPart c.args.graph.now c.args.state.now c.args.bus p →
    IsPart c.factors_by_dp.new.graph c.args.state.now r.k (λ m. moved_k d (p m) m.ram m.regs.dp m.regs.k)))
    (sym c.in-Klm.is) c.factors_by_dp.ensures.k

pub returns-in-Klm-clause-l : goal.returns-in-Klm-clause-l
returns-in-Klm-clause-l c =
    subst (λ (d : Dst). IfOk c.factors_by_dp.result (λ r. (p : State → ℕ) → IsPart c.args.graph.now c.args.state.now c.args.bus p →
    IsPart c.factors_by_dp.new.graph c.args.state.now r.l (λ m. moved_l d (p m) c.args.image.now.drom m.regs.rp m.regs.l)))
    (sym c.in-Klm.is)
    (from_one _ _ c.factors_by_dp.result (λ r h p. h p c.args.image.now.drom) c.factors_by_dp.ensures.l)
