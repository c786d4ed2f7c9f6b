-- Clauses whose variables rise.
use Rattle.std.specs.Prelude.{ℕ, ◌+◌, Bool, true, ◌&&◌, nat_le, List, [], ◌∷◌}
use Rattle.wb_gate.specs.declared.gates.Lit.{Lit}

-- the first variable is at least n, and each other one above the one before
abbrev pub rises_from : ℕ → List Lit → Bool
rises_from n [] = true
rises_from n (l ∷ ls) = nat_le n l.var && rises_from (l.var + 1) ls

-- the variables rise strictly
abbrev pub rises : List Lit → Bool
rises clause = rises_from 0 clause
