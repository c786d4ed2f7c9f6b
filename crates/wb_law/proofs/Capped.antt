-- Events that are applied one by one, with the count held after each.
use Rattle.std.proofs.Common.{◌≡◌, ℕ, ◌-◌, ◌^◌, min, Bool, true, false, List, [], ◌∷◌, refl, sym, ◌∙◌, ap, arith}
use Rattle.wb_rom.specs.declared.images.Image.{Image}
use Rattle.wb_port.specs.declared.accesses.Event.{Event}
use Rattle.wb_port.specs.declared.accesses.Event.TheVariants as event
use Rattle.wb_port.specs.declared.chips.Chip.{Chip}
use Rattle.wb_port.specs.Port.{accessed}
use Rattle.wb_port.specs.Wait.{raises_request}
use Rattle.wb_port.specs.Monitor.{capped, stepped, observed, count_after, is_idle, is_breach, is_leaving, word_at}
use Rattle.wb_port.specs.Schedule.{applied, after}
use Rattle.wb_law.specs.Counts.{AppliedChipsFollow}

-- a count that is held at the greatest number makes no other difference
count-capped : (idle raised : Bool) (n : ℕ) → min (count_after idle raised (min n (2 ^ 64 - 1))) (2 ^ 64 - 1) ≡ min (count_after idle raised n) (2 ^ 64 - 1)
count-capped true raised n = omega arith
count-capped false true n = refl
count-capped false false n = omega arith

applied-capped : (image : Image) (e : Event) (c : Chip) → capped (applied image e (capped c)) ≡ capped (applied image e c)
unfolding stepped observed is_idle is_breach is_leaving
applied-capped image event.Step c =
    ap (λ (n : ℕ). record (stepped image c) { monitor = record (observed image c) { count = n } })
    (count-capped (is_idle image c) (raises_request (word_at image c)) c.monitor.count)
applied-capped image (event.Host a) c =
    let e : min (min c.monitor.count (2 ^ 64 - 1)) (2 ^ 64 - 1) ≡ min c.monitor.count (2 ^ 64 - 1) = omega arith in
    ap (λ (n : ℕ). record c { machine = accessed a c.machine; monitor = record c.monitor { count = n } }) e

after-capped : (image : Image) (s : List Event) (c : Chip) → capped (after image s (capped c)) ≡ capped (after image s c)
after-capped image [] c =
    let e : min (min c.monitor.count (2 ^ 64 - 1)) (2 ^ 64 - 1) ≡ min c.monitor.count (2 ^ 64 - 1) = omega arith in
    ap (λ (n : ℕ). record c { monitor = record c.monitor { count = n } }) e
after-capped image (e ∷ s) c =
    sym (after-capped image s (applied image e (capped c)))
    ∙ ap (λ (x : Chip). capped (after image s x)) (applied-capped image e c)
    ∙ after-capped image s (applied image e c)

pub applied_chips_follow : AppliedChipsFollow
applied_chips_follow image [] c = refl
applied_chips_follow image (e ∷ s) c =
    applied_chips_follow image s (capped (applied image e c)) ∙ after-capped image s (applied image e c)
