use Rattle.std.proofs.Common.{sym, subst}
use Rattle.std.specs.Prelude.{IfOk}
use Rattle.wb_word.specs.declared.words.Instr.{Instr}
use Rattle.wb_word.specs.declared.words.Instr.TheVariants.{Op, Rt, Ld}
use Rattle.wb_machine.specs.Next.{next_by}
use Rattle.wb_symstep.specs.declared.stepped.Stepped.TheVariants.{One}
use Rattle.wb_symstep.specs.Parts.{IsSteppedAfter}
use Rattle.wb_symstep.proofs.Meanings.{from_one}
use Rattle.wb_symstep.proofs.States.{IsSymState-kept}
use Rattle.wb_symstep.proofs.Jumping.{alone}
use Rattle.wb_symstep.proofs.step.step_by.Goals as goal

pub returns-in_ok-next-in-Op-clause-after : goal.returns-in_ok-next-in-Op-clause-after
returns-in_ok-next-in-Op-clause-after c =
    let next = c.in_ok-next-in-Op.next in
    subst (λ (i : Instr). IsSteppedAfter c.operate.new.graph c.args.state.now (One next) (next_by i c.args.image.now)) (sym c.in-Op.is)
    (alone c.operate.new.graph c.args.state.now next (next_by (Op c.in-Op.op) c.args.image.now) c.in_ok-next-in-Op.ensures.after)

pub returns-in_ok-next-in-Rt-clause-after : goal.returns-in_ok-next-in-Rt-clause-after
returns-in_ok-next-in-Rt-clause-after c =
    let g = c.operate-in-Rt.new.graph in
    let s = c.args.state.now in
    let op = c.in-Rt.op in
    let is = IsSymState-kept c.args.graph.now g c.operate-in-Rt.ensures.grown s c.requires.state in
    subst (λ (i : Instr). IsSteppedAfter g s (One c.popped.result) (next_by i c.args.image.now)) (sym c.in-Rt.is)
    (alone g s c.popped.result (next_by (Rt op) c.args.image.now)
    (c.popped.ensures g op c.args.image.now is c.in_ok-next-in-Rt.ensures.after))

pub returns-in-Jp-clause-after : goal.returns-in-Jp-clause-after
returns-in-Jp-clause-after c =
    subst (λ (i : Instr). IfOk c.jump.result (λ r. IsSteppedAfter c.jump.new.graph c.args.state.now r (next_by i c.args.image.now))) (sym c.in-Jp.is)
    (from_one _ _ c.jump.result (λ r h. h c.args.image.now c.in-Jp.spare) c.jump.ensures.after)

pub returns-in_ok-next-in-Ld-clause-after : goal.returns-in_ok-next-in-Ld-clause-after
returns-in_ok-next-in-Ld-clause-after c =
    let next = c.in_ok-next-in-Ld.next in
    subst (λ (i : Instr). IsSteppedAfter c.load.new.graph c.args.state.now (One next) (next_by i c.args.image.now)) (sym c.in-Ld.is)
    (alone c.load.new.graph c.args.state.now next (next_by (Ld c.in-Ld.value c.in-Ld.spare c.in-Ld.dst) c.args.image.now)
    (c.in_ok-next-in-Ld.ensures.after c.in-Ld.spare))
