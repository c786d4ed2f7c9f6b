use Rattle.std.proofs.Common.{◌-◌, ◌∷◌, [], refl, ◌++◌, reverse, ◌∙◌, ap, arith}
use Rattle.std.proofs.lemmas.Option.{slice_get_within}
use Rattle.wb_solve.specs.Course.{known_to}
use Rattle.wb_solve.specs.Trails.{marked}
use Rattle.wb_solve.proofs.Hinting.{hints_begin, hints_taken, hints_passed, hints_end, just_unit, none_reason}
use Rattle.wb_solve.proofs.hints.write_hints.Goals as goal

pub loop-place-init : goal.loop-place-init
loop-place-init c =
    let known = known_to c.args.formula.now c.args.steps.now in
    record {
      from = hints_begin c.args.trail.now.entries known c.args.formula.now.inputs (marked c.mark_number.new.marks) c.args.number c.len-place.result c.push.new.self.items c.requires.just c.requires.falsified c.mark_number.ensures.marked c.len-place.ensures.length (c.in_ok-push.ensures.items ∙ ap (λ hs. hs ++ (c.args.number ∷ [])) c.clear.ensures.items);
      stamps = refl;
      within = omega (arith, c.len-place.ensures.length);
    }

pub mark_number-requires-in-Some-clause-number : goal.mark_number-requires-in-Some-clause-number
mark_number-requires-in-Some-clause-number c =
    let known = known_to c.args.formula.now c.args.steps.now in
    let unit = just_unit c.args.formula.now.inputs known c.args.trail.now.entries (c.loop-place.place - 1) c.entry.result c.in-Some.reason c.requires.just c.entry.ensures.entry c.in-Some.ensures in
    slice_get_within known c.in-Some.reason unit.0 unit.1

pub loop-place-preserved-in-Some : goal.loop-place-preserved-in-Some
loop-place-preserved-in-Some c =
    let known = known_to c.args.formula.now c.args.steps.now in
    let place = c.loop-place.place - 1 in
    let unit = just_unit c.args.formula.now.inputs known c.args.trail.now.entries place c.entry.result c.in-Some.reason c.requires.just c.entry.ensures.entry c.in-Some.ensures in
    record {
      from = hints_taken c.args.trail.now.entries known c.args.formula.now.inputs (marked c.loop-place.marks) (marked c.mark_number-in-Some.new.marks) place c.loop-place.place c.entry.result c.in-Some.reason c.loop-place.hints.items c.push-in-Some.new.self.items c.requires.just c.entry.ensures.entry c.in-Some.ensures unit c.mark_number-in-Some.ensures.more c.mark_number-in-Some.ensures.marked (omega (arith, c.loop-place-test.true)) c.in_ok-push-2.ensures.items c.loop-place.invariant.from;
      stamps = c.mark_number-in-Some.ensures.stamps ∙ c.loop-place.invariant.stamps;
      within = omega (arith, c.loop-place.invariant.within);
    }

pub loop-place-preserved : goal.loop-place-preserved
loop-place-preserved c =
    let known = known_to c.args.formula.now c.args.steps.now in
    let place = c.loop-place.place - 1 in
    record {
      from = hints_passed c.args.trail.now.entries known c.args.formula.now.inputs (marked c.loop-place.marks) place c.loop-place.place c.entry.result (reverse c.loop-place.hints.items) c.requires.just c.entry.ensures.entry (none_reason (marked c.loop-place.marks) c.entry.result c.marked_reason.result c.in_default.not-Some c.marked_reason.ensures) (omega (arith, c.loop-place-test.true)) c.loop-place.invariant.from;
      stamps = c.loop-place.invariant.stamps;
      within = omega (arith, c.loop-place.invariant.within);
    }

pub returns-clause-hints : goal.returns-clause-hints
returns-clause-hints c =
    let known = known_to c.args.formula.now c.args.steps.now in
    hints_end c.args.trail.now.entries known c.args.formula.now.inputs (marked c.loop-place.marks) c.loop-place.place c.loop-place.hints.items c.reverse.new.self.items c.requires.just (omega (arith, c.loop-place-test.false)) c.reverse.ensures.items c.loop-place.invariant.from
