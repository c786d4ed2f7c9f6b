-- Which variable of a formula each variable of its diagrams stands for: the one that a list names, past it the same.
use Rattle.std.specs.Prelude.{ℕ, List, Option, Some, None, slice_get}
use Rattle.wb_gate.specs.Circuit.{Assignment}

abbrev pub name_of : Option ℕ → ℕ → ℕ
name_of None x = x
name_of (Some name) x = name

-- the values of the diagrams' variables, by those of the formula's
abbrev pub named : List ℕ → Assignment → Assignment
named names v = λ x. v (name_of (slice_get names x) x)
