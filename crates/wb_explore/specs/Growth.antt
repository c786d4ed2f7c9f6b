-- How far a graph has grown, by the points of a purse.
use Rattle.std.specs.Prelude.{◌≡◌, ℕ, ◌+◌, ◌*◌, ◌^◌, ◌≤◌, length}
use Rattle.wb_term.specs.Terms.{Terms}
use Rattle.wb_term.specs.Growth.{AddsAtMost, total_weight}
use Rattle.wb_port.specs.declared.accesses.Power.{Power}
use Rattle.wb_port.specs.declared.accesses.Power.TheVariants as power

-- the most nodes that the starting states of both sides have
abbrev pub start_nodes : Power → ℕ
start_nodes power.Zero = 32
start_nodes power.Any = 544

-- beyond the starting states, at most so many nodes for each point, and at most so much weight
pub record IsWithin (g : Terms) (p : Power) (points more heavier : ℕ) : Type 0 where
  pub few : length g.nodes ≤ start_nodes p + more * points
  pub light : total_weight g ≤ heavier * points

-- the graph grew by at most so many nodes for each point that was added, and by at most so much weight
pub record GrowsByPoints (g h : Terms) (before after more heavier : ℕ) : Type 0 where
  pub added : ℕ
  pub count : after ≡ before + added
  pub adds : AddsAtMost g h (more * added) (heavier * added)

-- The graph grew by what some steps may add, each of an entry whose point was found: these are the points that were
-- added, and those of the entries that had been found before.
pub record GrowsBySteps (g h : Terms) (before after found : ℕ) : Type 0 where
  pub steps : ℕ
  pub count : before + steps ≤ after + found
  pub adds : AddsAtMost g h (1805 * steps) (130004 * steps)

-- there is room for what as many steps may add as there can be
abbrev pub HasRoom : Terms → ℕ → ℕ → ℕ → Type 0
HasRoom g before most found =
    (steps : ℕ) → before + steps ≤ most + found
    → (length g.nodes + 1805 * steps ≤ 2 ^ 31) × (total_weight g + 130004 * steps ≤ 2 ^ 31)
