-- Counts: no schedule counts more than it executes.
use Rattle.std.proofs.Common.{◌≡◌, ℕ, ◌+◌, ◌-◌, ◌^◌, ◌<◌, ◌≤◌, min, Bool, true, false, List, [], ◌∷◌, sym, ◌∙◌, ap, arith}
use Rattle.wb_rom.specs.declared.images.Image.{Image}
use Rattle.wb_port.specs.declared.accesses.Event.{Event}
use Rattle.wb_port.specs.declared.accesses.Event.TheVariants as event
use Rattle.wb_port.specs.declared.chips.Chip.{Chip}
use Rattle.wb_port.specs.Wait.{raises_request}
use Rattle.wb_port.specs.Monitor.{capped, stepped, observed, count_after, is_idle, word_at}
use Rattle.wb_port.specs.Schedule.{powered, applied, after}
use Rattle.wb_law.specs.Counts.{steps_of, applied_each, AppliedChipsFollow, AppliedChipsAreHeldAtTheGreatestCount, CountsAreAtMostTheSteps, ShortSchedulesHoldNothing}

one_more : (idle raised : Bool) (n : ℕ) → count_after idle raised n ≤ n + 1
one_more true raised n = omega arith
one_more false true n = omega arith
one_more false false n = omega arith

stepped_at_most : (image : Image) (c : Chip) → (stepped image c).monitor.count ≤ c.monitor.count + 1
unfolding stepped observed
stepped_at_most image c = one_more (is_idle image c) (raises_request (word_at image c)) c.monitor.count

pub counts_are_at_most_the_steps : CountsAreAtMostTheSteps
counts_are_at_most_the_steps image [] c = omega arith
counts_are_at_most_the_steps image (event.Step ∷ s) c =
    let h = counts_are_at_most_the_steps image s (stepped image c) in
    let l = stepped_at_most image c in
    omega arith
counts_are_at_most_the_steps image (event.Host a ∷ s) c = counts_are_at_most_the_steps image s (applied image (event.Host a) c)

-- a count that isn't too great is held nowhere
not_held : (c : Chip) → c.monitor.count < 2 ^ 64 → capped c ≡ c
not_held c less =
    let e : min c.monitor.count (2 ^ 64 - 1) ≡ c.monitor.count = omega arith in
    ap (λ (n : ℕ). record c { monitor = record c.monitor { count = n } }) e

held_small : (image : Image) (s : List Event) (c : Chip) → c.monitor.count < 2 ^ 64 → (applied_each image s c).monitor.count < 2 ^ 64
held_small image [] c less = less
held_small image (e ∷ s) c less = held_small image s (capped (applied image e c)) (omega arith)

pub applied_chips_are_held_at_the_greatest_count : AppliedChipsFollow → AppliedChipsAreHeldAtTheGreatestCount
applied_chips_are_held_at_the_greatest_count follow image start s =
    sym (not_held (applied_each image s (powered start)) (held_small image s (powered start) (omega arith)))
    ∙ follow image s (powered start)

pub short_schedules_hold_nothing : AppliedChipsFollow → ShortSchedulesHoldNothing
short_schedules_hold_nothing follow image start s few =
    let most : (after image s (powered start)).monitor.count ≤ 0 + steps_of s = counts_are_at_most_the_steps image s (powered start) in
    applied_chips_are_held_at_the_greatest_count follow image start s
    ∙ not_held (after image s (powered start)) (omega arith)
