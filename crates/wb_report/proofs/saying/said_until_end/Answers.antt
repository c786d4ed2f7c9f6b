use Rattle.std.proofs.Common.{◌≡◌, ◌≤◌, false, [], length, ◌∙◌, ap, subst, arith}
use Rattle.std.proofs.lemmas.List.{take_all}
use Rattle.wb_port.specs.declared.runs.Run.{Run}
use Rattle.wb_port.specs.declared.runs.Run.TheVariants.{Answered}
use Rattle.wb_port.specs.Talk.{Talk, dialogue}
use Rattle.wb_port.specs.Run.{EndsAs}
use Rattle.wb_report.proofs.Fronts.{nothing_said, all_said, one_more, stops_here}
use Rattle.wb_report.proofs.saying.said_until_end.Goals as goal

pub loop-place-init : goal.loop-place-init
loop-place-init c =
    let start = c.args.talk.now.start in
    let front : c.set_start.new.self ≡ dialogue start [] =
    c.set_start.ensures
    ∙ ap (λ xs. dialogue xs c.new-front.result.accesses) c.start.ensures.value
    ∙ ap (λ (d : Talk). dialogue start d.accesses) c.new-front.ensures.value in
    record {
      front = front;
      answered = rw (front, c.new-said.ensures) (nothing_said c.args.image.now c.args.pace start);
    }

pub returns-in_default : goal.returns-in_default
returns-in_default c =
    let before = c.loop-place in
    stops_here c.args.image.now c.args.pace c.args.talk.now before.place c.at.result c.at.ensures before.front c.push.new.self
    before.invariant.front c.in_ok-push.ensures.ok before.said c.in_ok-replies.field-0 before.invariant.answered
    c.in_ok-replies.ensures c.in_default.not-Answered

pub loop-place-preserved : goal.loop-place-preserved
loop-place-preserved c =
    let before = c.loop-place in
    record {
      front =
          one_more c.args.image.now c.args.pace c.args.talk.now before.place c.at.result c.at.ensures before.front c.push.new.self
          before.invariant.front c.in_ok-push.ensures.ok;
      answered =
          subst (λ (end : Run). EndsAs c.args.image.now c.args.pace false c.push.new.self end) c.in-Answered.is c.in_ok-replies.ensures;
    }

pub returns : goal.returns
returns c held =
    let d = c.args.talk.now in
    let whole : length d.accesses ≤ c.loop-place.place =
    let test = c.loop-place-test.false in
    let len = c.len-place-end.ensures in
    let end = c.loop-place.auto.place-end in
    omega arith in
    let front : c.loop-place.front ≡ d =
    c.loop-place.invariant.front ∙ ap (dialogue d.start) (take_all c.loop-place.place d.accesses whole) in
    all_said c.args.image.now c.args.pace held d c.loop-place.said
    (subst (λ (f : Talk). EndsAs c.args.image.now c.args.pace false f (Answered c.loop-place.said)) front c.loop-place.invariant.answered)
    (c.runs_come_to_an_end.ensures c.args.image.now c.args.pace held d)
