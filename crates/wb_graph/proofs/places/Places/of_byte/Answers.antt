use Rattle.std.proofs.Common.{◌≡◌, ℕ, Bool, true, false, List, [], ◌∷◌, get_or, ◌∙◌, eqb, ap, arith, rules}
use Rattle.std.specs.Prelude.{if◌then◌else◌}
use Rattle.wb_graph.proofs.Bytes.{bit-set}
use Rattle.wb_graph.proofs.places.Places.of_byte.Goals as goal

no_bits : List Bool
no_bits = false ∷ false ∷ false ∷ false ∷ false ∷ false ∷ false ∷ false ∷ false ∷ false ∷ false ∷ false ∷ false ∷ false ∷ false ∷ false ∷ []

none_set : (j : ℕ) → get_or no_bits j false ≡ false
unfolding no_bits
none_set j = search rules

the_one : (b c : Bool) → c ≡ false → (if b then true else c) ≡ b
the_one true c e = grind arith
the_one false c e = grind arith

pub returns-clause-bytes : goal.returns-clause-bytes
unfolding no_bits
returns-clause-bytes c place =
    bit-set no_bits c.from.result place true (omega (arith, c.requires, c.from.ensures))
    ∙ the_one (eqb place c.from.result) (get_or no_bits place false) (none_set place)
    ∙ ap (eqb place) c.from.ensures
