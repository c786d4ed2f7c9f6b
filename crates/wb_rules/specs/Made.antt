-- The nodes that a test works with.
use Rattle.wb_term.specs.Terms.{Terms, HasWord, HasBit}
use Rattle.wb_rules.specs.declared.made.Made.{Made}

-- all of them are there
pub record AllThere (terms : Terms) (m : Made) : Type 0 where
  pub z : HasWord terms m.z
  pub w : HasWord terms m.w
  pub y : HasWord terms m.y
  pub u : HasWord terms m.u
  pub t : HasWord terms m.t
  pub a : HasWord terms m.a
  pub b : HasWord terms m.b
  pub c : HasBit terms m.c
  pub d : HasBit terms m.d
  pub f : HasBit terms m.f
  pub g : HasBit terms m.g
  pub p : HasBit terms m.p
  pub q : HasBit terms m.q
