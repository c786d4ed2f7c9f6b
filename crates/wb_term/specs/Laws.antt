-- What holds of every graph.
use Rattle.std.specs.Prelude.{◌≡◌, ℕ}
use Rattle.wb_term.specs.Inputs.{Assignment}
use Rattle.wb_term.specs.Terms.{Terms, IsGraph}
use Rattle.wb_term.specs.Under.{AgreesUnder}
use Rattle.wb_term.specs.Values.{value}

-- the value of a node depends on the input nodes under it alone
abbrev pub ValuesAgree : Type 0
ValuesAgree = (g : Terms) → IsGraph g → (one other : Assignment) (k : ℕ) → AgreesUnder g k one other → value one g k ≡ value other g k
