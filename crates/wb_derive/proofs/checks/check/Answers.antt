use Rattle.std.proofs.Common.{subst}
use Rattle.wb_derive.specs.declared.verdicts.Check.{Check}
use Rattle.wb_derive.specs.Verdict.{IsVerdict}
use Rattle.wb_derive.proofs.checks.check.Goals as goal

pub returns-clause-verdict : goal.returns-clause-verdict
returns-clause-verdict c = rw c.steps.ensures at c.judge.ensures.verdict

pub returns-clause-sound : goal.returns-clause-sound
returns-clause-sound c =
    λ e v satisfied.
    let P : Check → Type 0 = λ verdict. IsVerdict c.args.formula.now c.args.derivation.now verdict in
    c.verdicts_are_sound.ensures.sound c.args.formula.now c.args.derivation.now
    (subst P e (rw c.steps.ensures at c.judge.ensures.verdict)) v satisfied
