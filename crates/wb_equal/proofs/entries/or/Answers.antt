use Rattle.std.proofs.Common.{◌≡◌, Bool, true, false, not, ◌&&◌, ◌||◌, refl, ap₂, ap, ◌∙◌}
use Rattle.wb_equal.specs.Entries.{entry_value}
use Rattle.wb_equal.proofs.Meanings.{IsEntry-not}
use Rattle.wb_equal.proofs.entries.or.Goals as goal

neither : (x y : Bool) → not (not x && not y) ≡ (x || y)
neither true y = refl
neither false true = refl
neither false false = refl

pub and-requires-clause-x_there : goal.and-requires-clause-x_there
and-requires-clause-x_there c = c.negation.ensures.there _ c.requires.x_there

pub and-requires-clause-y_there : goal.and-requires-clause-y_there
and-requires-clause-y_there c = c.negation-2.ensures.there _ c.requires.y_there

pub returns-clause-means : goal.returns-clause-means
returns-clause-means c =
    IsEntry-not c.and.new.formula _ c.negation-3.result _ _ c.in_ok-neither.ensures.means c.negation-3.ensures.value c.negation-3.ensures.there
    (λ v. ap not (ap₂ (λ a b. a && b) (c.negation.ensures.value v) (c.negation-2.ensures.value v)) ∙ neither (entry_value v c.args.x) (entry_value v c.args.y))
