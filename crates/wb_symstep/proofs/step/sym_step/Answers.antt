use Rattle.std.proofs.Common.{◌∙◌, ap, subst}
use Rattle.wb_word.specs.declared.words.Instr.{Instr}
use Rattle.wb_word.specs.Encoding.{instr_of}
use Rattle.std.specs.Prelude.{IfOk}
use Rattle.wb_machine.specs.Next.{next_by}
use Rattle.wb_symstep.specs.Stepped.{ForksAtOpenJump}
use Rattle.wb_symstep.proofs.Meanings.{from_one}
use Rattle.wb_symstep.proofs.Stepping.{inputs_stay, stands}
use Rattle.wb_symstep.proofs.step.sym_step.Goals as goal

pub returns-clause-stands : goal.returns-clause-stands
returns-clause-stands c =
    from_one _ _ c.step_by.result
    (λ r h. stands c.args.graph.now c.step_by.new.graph c.step_by.ensures.grown c.args.state.now c.requires.state r c.args.image.now c.decode.result h
    (c.decode.ensures.value ∙ ap instr_of c.word_at-word.ensures))
    c.step_by.ensures.after

pub returns-clause-forks : goal.returns-clause-forks
returns-clause-forks c =
    subst (λ (i : Instr). IfOk c.step_by.result (ForksAtOpenJump c.step_by.new.graph c.args.state.now i))
    (c.decode.ensures.value ∙ ap instr_of c.word_at-word.ensures)
    c.step_by.ensures.forks

pub returns-clause-state : goal.returns-clause-state
returns-clause-state c = from_one _ _ c.step_by.result (λ r h. h.there) c.step_by.ensures.after

pub returns-clause-inputs : goal.returns-clause-inputs
returns-clause-inputs c =
    from_one _ _ c.step_by.result
    (λ r h. inputs_stay c.args.graph.now c.step_by.new.graph c.step_by.ensures.grown c.args.state.now c.requires.state r (next_by c.decode.result c.args.image.now) h)
    c.step_by.ensures.after
