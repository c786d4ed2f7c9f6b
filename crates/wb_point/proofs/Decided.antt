-- Questions under normalised inputs.
use Rattle.std.proofs.Common.{◌≡◌, ◌↔◌, ℕ, ◌≤◌, ◌==◌, List, [], ◌∷◌, length, slice_index, sym, ap, ◌∙◌, subst}
use Rattle.std.specs.Int.{bit_at}
use Rattle.std.specs.List.{All, AllByRecursion}
use Rattle.std.proofs.lemmas.List.Elements.{recursion_from_All, All-from_recursion}
use Rattle.wb_term.specs.Inputs.{Assignment}
use Rattle.wb_rom.specs.declared.images.Image.{Image}
use Rattle.wb_port.specs.declared.accesses.Kind.{Kind}
use Rattle.wb_port.specs.declared.accesses.Power.{Power}
use Rattle.wb_port.specs.Talk.{Talk}
use Rattle.wb_point.specs.declared.question.FixedBit.{FixedBit}
use Rattle.wb_point.specs.declared.question.Query.{Query}
use Rattle.wb_point.specs.Dialogues.{dialogue_under, normalised}
use Rattle.wb_point.specs.Holds.{HoldsUnder, IsPassed, HasValue, IsToldApart}
use Rattle.wb_point.specs.Laws.{IsWriteAt}
use Rattle.wb_point.proofs.Normal.{normal}

-- the fixed bits of bytes that are the same in both have their values in both
moved : (ks : List Kind) (i j : Assignment) → ((place : ℕ) → IsWriteAt ks place → slice_index j.bytes place ≡ slice_index i.bytes place)
    → (fs : List FixedBit) → AllByRecursion (λ (f : FixedBit). IsWriteAt ks f.place) fs → AllByRecursion (HasValue i) fs → AllByRecursion (HasValue j) fs
moved ks i j same [] writes have = tt
moved ks i j same (f ∷ fs) writes have = (ap (λ (n : ℕ). bit_at n f.bit == 1) (same f.place writes.0) ∙ have.0, moved ks i j same fs writes.1 have.1)

-- the same question under inputs that give its dialogue and its bytes
carried : (a b : Image) (k : ℕ) (p : Power) (q : Query) (i j : Assignment)
    → dialogue_under q.kinds i p ≡ dialogue_under q.kinds j p
    → ((place : ℕ) → IsWriteAt q.kinds place → slice_index j.bytes place ≡ slice_index i.bytes place)
    → All (λ (f : FixedBit). IsWriteAt q.kinds f.place) q.fixed → HoldsUnder a b k p q i → HoldsUnder a b k p q j
carried a b k p q i j dialogues bytes writes h = record {
  marks = subst (λ (d : Talk). All (IsPassed a b k d) q.marks) dialogues h.marks;
  fixed = All-from_recursion (HasValue j) q.fixed
      (moved q.kinds i j bytes q.fixed (recursion_from_All (λ (f : FixedBit). IsWriteAt q.kinds f.place) q.fixed writes) (recursion_from_All (HasValue i) q.fixed h.fixed));
  last = subst (λ (d : Talk). IsToldApart a b k d q.last) dialogues h.last;
}

pub decided : (a b : Image) (k : ℕ) (p : Power) (q : Query) (inputs : Assignment) → length q.kinds ≤ 16
    → All (λ (f : FixedBit). IsWriteAt q.kinds f.place) q.fixed → HoldsUnder a b k p q inputs ↔ HoldsUnder a b k p q (normalised q.kinds p inputs)
decided a b k p q inputs few writes =
    let is = normal q.kinds p inputs few in (
      carried a b k p q inputs (normalised q.kinds p inputs) (sym is.same) is.written writes,
      carried a b k p q (normalised q.kinds p inputs) inputs is.same (λ place w. sym (is.written place w)) writes,
    )
