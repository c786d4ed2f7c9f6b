use Rattle.std.proofs.Common.{◌≡◌, Bool, true, false, subst, refl}
use Rattle.wb_diagram.specs.Forest.{Forest}
use Rattle.wb_diagram.specs.declared.nodes.Choice.{Choice}
use Rattle.wb_diagram.specs.Choices.{IsAnswer}
use Rattle.wb_diagram.proofs.Reach.{answer-yes, answer-no, answer-branch}
use Rattle.wb_diagram.proofs.diagrams.Diagrams.+decide.Goals as goal

pub returns-then-is_leaf-clause-answer : goal.returns-then-is_leaf-clause-answer
returns-then-is_leaf-clause-answer t c =
    answer-yes _ c.if-is_leaf.ensures.forest c.args.choice c.args.wanted c.requires c.in_default.ensures.none (c.if-is_leaf.ensures.yes refl)

pub returns-then-is_leaf-2-clause-answer : goal.returns-then-is_leaf-2-clause-answer
returns-then-is_leaf-2-clause-answer t c =
    answer-no _ c.if-is_leaf-2.ensures.forest c.args.choice c.args.wanted c.requires c.in_default.ensures.none (c.if-is_leaf-2.ensures.yes refl)

fails : (f : Forest) (b : Choice) (wanted said : Bool) → said ≡ false → IsAnswer f b wanted said → IsAnswer f b wanted false
fails f b wanted said e a = subst (IsAnswer f b wanted) e a

pub returns-then-not-branch-clause-answer : goal.returns-then-not-branch-clause-answer
returns-then-not-branch-clause-answer t c =
    answer-branch _ c.if-is_leaf.ensures.forest c.args.choice c.args.wanted _ false _ c.branch_of-low.ensures
    (fails _ _ _ _ c.if-not-branch.true c.in_ok-decide.ensures.answer)

pub returns-then-not-branch-2-clause-answer : goal.returns-then-not-branch-2-clause-answer
returns-then-not-branch-2-clause-answer t c =
    answer-branch _ c.if-is_leaf.ensures.forest c.args.choice c.args.wanted _ true _ c.branch_of-high.ensures
    (fails _ _ _ _ c.if-not-branch-2.true (subst (λ (f : Forest). IsAnswer f c.branch_of-high.result c.args.wanted c.in_ok-decide-2.field-0) c.decide.ensures.same c.in_ok-decide-2.ensures.answer))
