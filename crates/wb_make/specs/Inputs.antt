-- Which input nodes stand under what a constructor gives.
use Rattle.std.specs.Prelude.{ℕ, Bool, List}
use Rattle.wb_term.specs.declared.nodes.Node.{Node}
use Rattle.wb_term.specs.Nodes.{Each}
use Rattle.wb_term.specs.Terms.{Terms}
use Rattle.wb_term.specs.Under.{HasOnly}

-- Only input nodes that stood under the given numbers stand under the new one.
abbrev pub BringsOnly : Terms → Terms → List ℕ → ℕ → Type 0
BringsOnly old new given number = (allowed : Node → Bool) → Each (HasOnly old allowed) given → HasOnly new allowed number
