use Rattle.std.proofs.Common.{sym, subst}
use Rattle.wb_word.specs.declared.words.Instr.TheVariants.{Jp}
use Rattle.wb_machine.specs.Next.{next_by}
use Rattle.wb_symstep.specs.declared.state.SymState.{SymState}
use Rattle.wb_symstep.specs.declared.stepped.Stepped.TheVariants.{One}
use Rattle.wb_symstep.specs.Parts.{IsSteppedAfter}
use Rattle.wb_symstep.proofs.Jumping.{one_way}
use Rattle.wb_symstep.proofs.jumps.plain_branch.Goals as goal

pub returns-clause-after : goal.returns-clause-after
returns-clause-after c g cond image spare other is known =
    subst (λ (t : SymState). IsSteppedAfter g c.args.state.now (One t) (next_by (Jp cond c.args.na spare) image))
    (sym c.in_ok-next.ensures)
    (one_way g c.args.state.now is cond c.args.na spare image c.target.result c.args.taken other known c.target.ensures.value c.target.ensures.below)
