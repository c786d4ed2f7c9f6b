-- What numbers stand on.
use Rattle.std.specs.Prelude.{ℕ, Bool, List}
use Rattle.wb_term.specs.declared.nodes.Node.{Node}
use Rattle.wb_term.specs.Nodes.{Each}
use Rattle.wb_term.specs.Terms.{Terms}
use Rattle.wb_term.specs.Under.{HasOnly}

-- Only input nodes under the given numbers stand under the others.
abbrev pub StandsOn : Terms → List ℕ → List ℕ → Type 0
StandsOn g given numbers = (allowed : Node → Bool) → Each (HasOnly g allowed) given → Each (HasOnly g allowed) numbers
