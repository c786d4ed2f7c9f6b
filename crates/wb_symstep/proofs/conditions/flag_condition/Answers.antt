use Rattle.std.proofs.Common.{Bool, sym, subst}
use Rattle.std.specs.Prelude.{IfOk}
use Rattle.std.specs.Bool.{beq}
use Rattle.wb_machine.specs.Next.{flags_of}
use Rattle.wb_symstep.specs.Parts.{IsBitPart}
use Rattle.wb_symstep.specs.Tested.{flag_in}
use Rattle.wb_symstep.proofs.Meanings.{from_two}
use Rattle.wb_symstep.proofs.Testing.{inverted}
use Rattle.wb_symstep.proofs.conditions.flag_condition.Goals as goal

pub returns-in-false-clause-part : goal.returns-in-false-clause-part
returns-in-false-clause-part c =
    let g = c.args.graph.now in
    let s = c.args.state.now in
    subst (λ (b : Bool). IfOk c.mk_notb.result (λ id. IsBitPart c.mk_notb.new.graph s id (λ m. beq b (flag_in c.args.test.flag (flags_of c.args.test.acc m.regs)))))
    (sym c.in-false.is)
    (from_two _ _ _ c.mk_notb.result
    (λ id. inverted g c.mk_notb.new.graph c.mk_notb.ensures.grown s c.requires.state c.flag_bit-bit.result id
    (λ m. flag_in c.args.test.flag (flags_of c.args.test.acc m.regs)) (c.flag_bit-bit.ensures g c.requires.state))
    c.mk_notb.ensures.value c.mk_notb.ensures.inputs)
