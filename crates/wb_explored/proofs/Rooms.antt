-- The graph stays small enough for one call after the other.
use Rattle.std.proofs.Common.{◌≡◌, ℕ, ◌+◌, ◌*◌, ◌≤◌, List, [], length, ap, arith}
use Rattle.std.specs.List.{sum_by}
use Rattle.wb_term.specs.declared.nodes.Node.{Node}
use Rattle.wb_term.specs.Nodes.{weight}
use Rattle.wb_term.specs.Growth.{total_weight}
use Rattle.wb_term.specs.Terms.{Terms}
use Rattle.wb_port.specs.declared.accesses.Power.{Power}
use Rattle.wb_explore.specs.Growth.{IsWithin, GrowsByPoints}

pub within_grown : (g h : Terms) (p : Power) (n m : ℕ) → IsWithin g p n 3064 201024 → GrowsByPoints g h n m 3064 201024 → IsWithin h p m 3064 201024
within_grown g h p n m w s =
    let few = w.few in
    let light = w.light in
    let count = s.count in
    let longer = s.adds.longer_by in
    let heavier = s.adds.heavier_by in
    record {
      few = omega (arith, few, count, longer);
      light = omega (arith, light, count, heavier);
    }

pub within_more : (g : Terms) (p : Power) (n : ℕ) → IsWithin g p n 3064 201024 → IsWithin g p n 4000 260000
within_more g p n w =
    let few = w.few in
    let light = w.light in
    record {
      few = omega (arith, few);
      light = omega (arith, light);
    }

weightless : (g : Terms) → g.nodes ≡ [] → total_weight g ≡ 0
unfolding total_weight
weightless g e = ap (λ (ns : List Node). sum_by weight ns) e

pub within_empty : (g : Terms) (p : Power) (n : ℕ) → g.nodes ≡ [] → IsWithin g p n 3064 201024
within_empty g p n e =
    let none : length g.nodes ≡ 0 = ap (λ (ns : List Node). length ns) e in
    let light = weightless g e in
    record {
      few = omega (arith, none);
      light = omega (arith, light);
    }
