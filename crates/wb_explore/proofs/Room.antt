-- How far the graph grows, in numbers.
use Rattle.std.proofs.Common.{◌≡◌, ℕ, zero, suc, ◌+◌, ◌*◌, ◌^◌, ◌<◌, ◌≤◌, ◌⊎◌, inl, inr, List, length, refl, sym, ap, subst, ◌∙◌, arith}
use Rattle.std.proofs.lemmas.Bool.{cases_lt}
use Rattle.wb_term.specs.Terms.{Terms}
use Rattle.wb_term.specs.Growth.{AddsAtMost, total_weight}
use Rattle.wb_port.specs.declared.accesses.Power.{Power}
use Rattle.wb_port.specs.declared.accesses.Power.TheVariants as power
use Rattle.wb_explore.specs.Growth.{start_nodes, IsWithin, GrowsByPoints, GrowsBySteps, HasRoom}

pub start_few : (p : Power) → start_nodes p ≤ 544
start_few power.Zero = omega arith
start_few power.Any = omega arith

two_to : 2 ^ 31 ≡ 2147483648
two_to = refl

-- room for one transfer more
pub transfer_room : (f g : Terms) (p : Power) (before after points j : ℕ) → IsWithin f p before 4000 260000 → AddsAtMost f g (621 * j) (10260 * j) → before ≤ after → after ≤ points → points ≤ 8192 → j ≤ 2 * (8192)
    → length g.nodes + 621 ≤ 2 ^ 31
transfer_room f g p before after points j within adds less most few times =
    let a = within.few in
    let b = adds.longer_by in
    let c = start_few p in
    subst (λ (n : ℕ). length g.nodes + 621 ≤ n) (sym two_to) (omega arith)

-- after a fault: more nodes for each point, and the transfer that was under way
pub fault_within : (f g : Terms) (p : Power) (before added j : ℕ) → IsWithin f p before 4000 260000 → AddsAtMost f g (621 * j + 621) (10260 * j + 10260) → j ≤ 2 * added → 1 ≤ added → IsWithin g p (before + added) 4096 262144
fault_within f g p before added j within adds times some =
    let a = within.few in
    let b = adds.longer_by in
    let c = within.light in
    let d = adds.heavier_by in
    record { few = omega arith; light = omega arith }

-- after a fault with no new point
pub early_within : (f g : Terms) (p : Power) (before : ℕ) → IsWithin f p before 4000 260000 → AddsAtMost f g 19 258 → 1 ≤ before → IsWithin g p before 4096 262144
early_within f g p before within adds some =
    let a = within.few in
    let b = adds.longer_by in
    let c = within.light in
    let d = adds.heavier_by in
    record { few = omega arith; light = omega arith }

-- after the last transfer
pub all_grows : (f g : Terms) (before after added j : ℕ) → after ≡ before + added → AddsAtMost f g (621 * j) (10260 * j) → j ≤ 2 * added → GrowsByPoints f g before after 1242 20520
all_grows f g before after added j same adds times =
    let b = adds.longer_by in
    let d = adds.heavier_by in
    record { added = added; count = same; adds = record { longer_by = omega arith; heavier_by = omega arith } }

pub grows_within : (f g : Terms) (p : Power) (before after : ℕ) → IsWithin f p before 4000 260000 → GrowsByPoints f g before after 1242 20520 → IsWithin g p after 4096 262144
grows_within f g p before after within grows =
    let a = within.few in
    let b = grows.adds.longer_by in
    let c = within.light in
    let d = grows.adds.heavier_by in
    let e = grows.count in
    record { few = omega arith; light = omega arith }

pub raised_all : (f g : Terms) (before after : ℕ) → GrowsByPoints f g before after 1242 20520 → GrowsByPoints f g before after 1259 71020
raised_all f g before after grows =
    let b = grows.adds.longer_by in
    let d = grows.adds.heavier_by in
    record { added = grows.added; count = grows.count; adds = record { longer_by = omega arith; heavier_by = omega arith } }

pub raised_start : (f g : Terms) (before after : ℕ) → GrowsByPoints f g before after 273 0 → GrowsByPoints f g before after 1259 71020
raised_start f g before after grows =
    let b = grows.adds.longer_by in
    let d = grows.adds.heavier_by in
    record { added = grows.added; count = grows.count; adds = record { longer_by = omega arith; heavier_by = omega arith } }

pub later_within : (f g : Terms) (p : Power) (before after : ℕ) → IsWithin f p before 4000 260000 → GrowsByPoints f g before after 3064 201024 → IsWithin g p after 4096 262144
later_within f g p before after within grows =
    let a = within.few in
    let b = grows.adds.longer_by in
    let c = within.light in
    let d = grows.adds.heavier_by in
    let e = grows.count in
    record { few = omega arith; light = omega arith }

-- room for the steps that follow
pub steps_room : (f g : Terms) (p : Power) (before after points found : ℕ) → IsWithin f p before 4000 260000 → GrowsByPoints f g before after 1259 71020 → before + found ≤ after → after ≤ points → points ≤ 8192 → HasRoom g after points found
steps_room f g p before after points found within grows count most few steps less =
    let a = within.few in
    let b = grows.adds.longer_by in
    let c = within.light in
    let d = grows.adds.heavier_by in
    let e = grows.count in
    let s = start_few p in (
      subst (λ (n : ℕ). length g.nodes + 1805 * steps ≤ n) (sym two_to) (omega arith),
      subst (λ (n : ℕ). total_weight g + 130004 * steps ≤ n) (sym two_to) (omega arith),
    )

-- the points that were added after all, and the growth by them
pub whole_grows : (f g h : Terms) (before mid after found more : ℕ) → GrowsByPoints f g before mid 1259 71020 → before + found ≤ mid → after ≡ mid + more → GrowsBySteps g h mid after found → GrowsByPoints f h before after 3064 201024
whole_grows f g h before mid after found more grows count adds steps =
    let a = grows.count in
    let b = grows.adds.longer_by in
    let c = grows.adds.heavier_by in
    let d = steps.count in
    let e = steps.adds.longer_by in
    let n = steps.adds.heavier_by in
    record { added = grows.added + more; count = omega arith; adds = record { longer_by = omega arith; heavier_by = omega arith } }

pub early : (g : Terms) (p : Power) (before : ℕ) → IsWithin g p before 4000 260000 → IsWithin g p before 4096 262144
early g p before within =
    let a = within.few in
    let c = within.light in
    record { few = omega arith; light = omega arith }
