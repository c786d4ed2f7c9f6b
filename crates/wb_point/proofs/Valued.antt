-- What normalised inputs give nodes over the bytes and words that dialogues of the kinds use.
use Rattle.std.proofs.Common.{◌≡◌, ◌↔◌, ℕ, ◌≤◌, true, Option, Some, None, List, length, slice_get, slice_index, refl, ap}
use Rattle.wb_term.specs.declared.nodes.BitId.{BitId}
use Rattle.wb_term.specs.declared.nodes.Node.TheVariants.{Word}
use Rattle.wb_term.specs.declared.nodes.WordNode.TheVariants.{Byte, Cell}
use Rattle.wb_term.specs.Inputs.{Assignment, IsAssignment}
use Rattle.wb_term.specs.Terms.{Terms, IsGraph}
use Rattle.wb_term.specs.Values.{value, bit_value}
use Rattle.wb_term.specs.Under.{HasOnly}
use Rattle.wb_term.specs.Laws.{ValuesAgree}
use Rattle.wb_gate.specs.Circuit.{Circuit}
use Rattle.wb_blast.specs.declared.places.Place.{Place}
use Rattle.wb_blast.specs.Blasting.{AssignsWhereTrue}
use Rattle.wb_rom.specs.declared.images.Image.{Image}
use Rattle.wb_port.specs.declared.accesses.Kind.{Kind}
use Rattle.wb_port.specs.declared.accesses.Kind.TheVariants as kind
use Rattle.wb_port.specs.declared.accesses.Power.{Power}
use Rattle.wb_port.specs.declared.accesses.Power.TheVariants as power
use Rattle.wb_point.specs.declared.question.Query.{Query}
use Rattle.wb_point.specs.Dialogues.{normalised}
use Rattle.wb_point.specs.Holds.{HoldsUnder}
use Rattle.wb_point.specs.Says.{Says}
use Rattle.wb_point.specs.Laws.{is_write, is_any, is_used, IsNormalised}
use Rattle.wb_point.proofs.Normal.{normal}

write_told : (k : Option Kind) → is_write k ≡ true → k ≡ Some kind.Write
write_told (Some kind.Write) e = refl
write_told (Some kind.Read) e = absurd (cc)
write_told None e = absurd (cc)

any_told : (p : Power) → is_any p ≡ true → p ≡ power.Any
any_told power.Any e = refl
any_told power.Zero e = absurd (cc)

pub values_given : ValuesAgree → (g : Terms) → IsGraph g → (ks : List Kind) (p : Power) (inputs : Assignment) → length ks ≤ 16
    → (k : ℕ) → HasOnly g (is_used ks p) k → value (normalised ks p inputs) g k ≡ value inputs g k
values_given agree g graph ks p inputs few k only =
    agree g graph (normalised ks p inputs) inputs k (record {
      bytes = λ j place under at. is.written place (write_told (slice_get ks place) (only.passes j (Word (Byte place)) under at refl));
      cells = λ j place under at. ap (λ (cells : List ℕ). slice_index cells place) (is.cells (any_told p (only.passes j (Word (Cell place)) under at refl)));
    }) where
      is : IsNormalised ks p inputs
      is = normal ks p inputs few

pub bits_say : (a b : Image) (k : ℕ) (p : Power) (q : Query) (g : Terms) (c : BitId) (formula : Circuit) (places : List Place)
    → AssignsWhereTrue g c formula places
    → ((inputs : Assignment) → IsAssignment inputs → (bit_value inputs g c ≡ true) ↔ HoldsUnder a b k p q inputs)
    → Says a b k p formula places q
bits_say a b k p q g c formula places assigns holds inputs is = (
  λ has. (holds inputs is).0 ((assigns inputs is).0 has),
  λ h. (assigns inputs is).1 ((holds inputs is).1 h),
)
