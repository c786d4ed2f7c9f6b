use Rattle.std.proofs.Common.{sym, subst}
use Rattle.wb_word.specs.declared.conditions.Cond.TheVariants as cond
use Rattle.wb_word.specs.declared.words.Instr.TheVariants.{Jp}
use Rattle.wb_machine.specs.Next.{next_by}
use Rattle.wb_symstep.specs.declared.state.SymState.{SymState}
use Rattle.wb_symstep.specs.Parts.{IsAfter}
use Rattle.wb_symstep.proofs.Jumping.{called}
use Rattle.wb_symstep.proofs.jumps.call.Goals as goal

pub returns : goal.returns
returns c g image spare is =
    subst (λ (t : SymState). IsAfter g c.args.state.now (record t { sp = c.level_up.result; stack = c.pushed.result }) (next_by (Jp cond.Call c.args.na spare) image))
    (sym c.in_ok-next.ensures)
    (called g c.args.state.now c.args.na spare image c.level_up.result c.next_address.result c.pushed.result is
    c.level_up.ensures.value c.level_up.ensures.below c.next_address.ensures.value c.next_address.ensures.below c.pushed.ensures)
