use Rattle.std.proofs.Common.{◌∙◌, ap, sym, refl, arith, take, drop}
use Rattle.wb_port.specs.declared.chips.Chip.{Chip}
use Rattle.wb_port.specs.Monitor.{stepped}
use Rattle.wb_port.specs.Run.{Steps}
use Rattle.wb_port.specs.Replay.{moment_of}
use Rattle.wb_port.proofs.Turning.{go_overruns, go_breaks, go_steps, stepped_count, capped_is}
use Rattle.wb_port.proofs.replays.Progress.go.Goals as goal

pub returns-then-self-from-clause-turned : goal.returns-then-self-from-clause-turned
returns-then-self-from-clause-turned c =
    λ d. (go_overruns c.args.image.now c.args.pace (moment_of d c.args.self.now) (c.if-self-from.true ∙ c.from.ensures), refl)

pub returns-then-is_breach-clause-turned : goal.returns-then-is_breach-clause-turned
returns-then-is_breach-clause-turned c =
    λ d. (
      go_breaks c.args.image.now c.args.pace (moment_of d c.args.self.now) c.place.result
          (λ e. c.if-self-from.false (e ∙ sym c.from.ensures)) (sym c.if-is_breach.ensures) c.place.ensures,
      refl,
    )

pub returns-clause-turned : goal.returns-clause-turned
returns-clause-turned c =
    let most = stepped_count c.args.image.now c.args.self.now.chip in
    let small = capped_is (stepped c.args.image.now c.args.self.now.chip) (omega arith) in
    λ d. go_steps c.args.image.now c.args.pace (moment_of d c.args.self.now)
    (λ e. c.if-self-from.false (e ∙ sym c.from.ensures)) (sym c.if-is_breach.ensures)
    ∙ ap (λ (x : Chip). Steps (record { chip = x; given = take c.args.self.now.given d.accesses; left = drop c.args.self.now.given d.accesses; said = c.args.self.now.said.items })) (sym (c.step.ensures ∙ small))

pub returns-clause-paced : goal.returns-clause-paced
returns-clause-paced c =
    let most = stepped_count c.args.image.now c.args.self.now.chip in
    let small = capped_is (stepped c.args.image.now c.args.self.now.chip) (omega arith) in
    let count = ap (λ (x : Chip). x.monitor.count) (c.step.ensures ∙ small) in
    let other = c.if-self-from.false in
    omega arith
