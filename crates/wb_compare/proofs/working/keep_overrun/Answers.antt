use Rattle.std.proofs.Common.{◌≡◌, None, sym, subst, ◌∙◌}
use Rattle.wb_word.specs.declared.sides.Side.{Side}
use Rattle.wb_compare.specs.Working.{kept_of}
use Rattle.wb_compare.proofs.Joints.{on_ok}
use Rattle.wb_compare.proofs.working.keep_overrun.Goals as goal

pub returns-in-A-clause-lawful : goal.returns-in-A-clause-lawful
returns-in-A-clause-lawful c = on_ok c.keep.result (λ h none d e. h (subst (λ (s : Side). kept_of c.args.work.now s ≡ None) (sym c.side.ensures ∙ c.in-A.is) none) d (c.overrun.ensures ∙ e)) c.keep.ensures.lawful

pub returns-in-B-clause-lawful : goal.returns-in-B-clause-lawful
returns-in-B-clause-lawful c = on_ok c.keep-in-B.result (λ h none d e. h (subst (λ (s : Side). kept_of c.args.work.now s ≡ None) (sym c.side.ensures ∙ c.in-B.is) none) d (c.overrun-in-B.ensures ∙ e)) c.keep-in-B.ensures.lawful
