use Rattle.std.proofs.Common.{sym, subst}
use Rattle.wb_word.specs.declared.conditions.Cond.{Cond}
use Rattle.wb_word.specs.declared.words.Instr.TheVariants.{Jp}
use Rattle.wb_machine.specs.Next.{next_by}
use Rattle.wb_symstep.specs.declared.stepped.Stepped.TheVariants.{One}
use Rattle.wb_symstep.specs.Parts.{IsSteppedAfter}
use Rattle.wb_symstep.proofs.Jumping.{alone}
use Rattle.wb_symstep.proofs.jumps.jump.Goals as goal

pub returns-in_ok-next-in-Call-clause-after : goal.returns-in_ok-next-in-Call-clause-after
returns-in_ok-next-in-Call-clause-after c image spare =
    subst (λ (d : Cond). IsSteppedAfter c.args.graph.now c.args.state.now (One c.in_ok-next-in-Call.next) (next_by (Jp d c.args.na spare) image))
    (sym c.in-Call.is)
    (alone c.args.graph.now c.args.state.now c.in_ok-next-in-Call.next _ (c.in_ok-next-in-Call.ensures c.args.graph.now image spare c.requires.state))
