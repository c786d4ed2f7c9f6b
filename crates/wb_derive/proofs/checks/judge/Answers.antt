use Rattle.std.proofs.Common.{◌≡◌, ◌<◌, length, Some, false, true, refl, sym, ◌∙◌, ap, arith}
use Rattle.std.specs.List.{slice_get}
use Rattle.std.proofs.lemmas.Option.{slice_get-get_or}
use Rattle.wb_derive.specs.declared.steps.Step.{Step}
use Rattle.wb_derive.proofs.Judging.{lawful_named, lawful_more, stopped}
use Rattle.wb_derive.proofs.checks.judge.Goals as goal

pub is_lawful-requires-clause-named : goal.is_lawful-requires-clause-named
is_lawful-requires-clause-named c =
    lawful_named c.args.formula.now c.args.steps.now c.loop-place.place c.loop-place.invariant.lawful

pub returns-then-not-is_lawful-clause-verdict : goal.returns-then-not-is_lawful-clause-verdict
returns-then-not-is_lawful-clause-verdict c =
    let steps = c.args.steps.now in
    let place = c.loop-place.place in
    let step = c.index-steps-place.result in
    let within : place < length steps = omega arith in
    let found : slice_get steps place ≡ Some step = slice_get-get_or steps place step within ∙ ap (λ (s : Step). Some s) (sym c.index-steps-place.is) in
    (place, refl, c.loop-place.invariant.lawful, stopped c.args.formula.now steps place step false found c.if-not-is_lawful.ensures.value refl)

pub loop-place-preserved : goal.loop-place-preserved
loop-place-preserved c =
    let steps = c.args.steps.now in
    let place = c.loop-place.place in
    let step = c.index-steps-place.result in
    let within : place < length steps = omega arith in
    let found : slice_get steps place ≡ Some step = slice_get-get_or steps place step within ∙ ap (λ (s : Step). Some s) (sym c.index-steps-place.is) in
    record {
      lawful = lawful_more c.args.formula.now steps place step true c.loop-place.invariant.lawful found c.if-not-is_lawful.ensures.value refl;
      stamps = c.is_lawful.ensures.stamps;
      length = c.is_lawful.ensures.length ∙ c.loop-place.invariant.length;
    }
