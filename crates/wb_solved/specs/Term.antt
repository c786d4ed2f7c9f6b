-- Two words and a bit of a graph.
use Rattle.wb_term.specs.Terms.{Terms, HasWord, HasBit}
use Rattle.wb_term.specs.declared.nodes.WordId.{WordId}
use Rattle.wb_term.specs.declared.nodes.BitId.{BitId}

-- all of them are there
pub record AreThere (terms : Terms) (x y : WordId) (c : BitId) : Type 0 where
  pub first : HasWord terms x
  pub second : HasWord terms y
  pub bit : HasBit terms c
