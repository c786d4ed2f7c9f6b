-- Words that are kept, filled and changed at a place.
use Rattle.std.proofs.Common.{◌≡◌, ℕ, ◌+◌, ◌*◌, ◌^◌, ◌<◌, ◌≤◌, suc, Bool, true, false, List, [], ◌∷◌, ◌++◌, length, take, set, replicate, get_or, refl, sym, ◌∙◌, ap, ap₂, subst, inl, inr, arith, get_or-set_other, get_or-set_same}
use Rattle.std.proofs.Math.Nat.{pow-suc}
use Rattle.std.proofs.lemmas.Bool.{cases_eq, cases_lt}
use Rattle.std.proofs.lemmas.List.{get_or-replicate, get_or_past, length-replicate, take_more, length-take}
use Rattle.wb_diagram.specs.declared.nodes.Diagram.{Diagram}
use Rattle.wb_diagram.specs.Forest.{Forest, HasDiagram}
use Rattle.wb_diagram.specs.Growth.{Grown}
use Rattle.wb_diagram.specs.Values.{value}
use Rattle.wb_vector.specs.Vectors.{bit, number, diagram_at, AreThere}

-- the diagram past the end
abbrev pub none : Diagram
none = record { number = 0 }

pub grown_more : (old mid new : Forest) → Grown old mid → Grown mid new → Grown old new
grown_more old mid new one two = record {
  limit = two.limit ∙ one.limit;
  longer = let h = one.longer in let k = two.longer in omega (arith, h, k);
  nodes = λ k h. let more = one.longer in two.nodes k (omega (arith, h, more)) ∙ one.nodes k h;
  diagrams = λ d h. two.diagrams d (one.diagrams d h);
  levels = λ d h. two.levels d (one.diagrams d h) ∙ one.levels d h;
  values = λ v d h. two.values v d (one.diagrams d h) ∙ one.values v d h;
}

pub there_kept : (old new : Forest) (ds : List Diagram) → Grown old new → AreThere old ds → AreThere new ds
there_kept old new ds grown all k = grown.diagrams (diagram_at ds k) (all k)

pub there_set : (f : Forest) (ds : List Diagram) (at : ℕ) (d : Diagram) → at < length ds → AreThere f ds → HasDiagram f d → AreThere f (set ds at d)
there_set f ds at d h all one k = elim (cases_eq k at) [
  | inl same ↦ subst (λ i. HasDiagram f (get_or (set ds at d) i none)) (sym same) (subst (HasDiagram f) (sym (get_or-set_same ds at d none h)) one)
  | inr ne ↦ subst (HasDiagram f) (sym (get_or-set_other ds at k d none ne)) (all k)
]

pub there_filled : (f : Forest) (n : ℕ) (d : Diagram) → HasDiagram f d → AreThere f (replicate n d)
there_filled f n d h k = elim (cases_lt k n) [
  | inl within ↦ subst (HasDiagram f) (sym (get_or-replicate n k d none within)) h
  | inr past ↦
      let short : length (replicate n d) ≡ n = length-replicate n d in
      subst (HasDiagram f) (sym (get_or_past (replicate n d) k none (omega (arith, short, past)))) (let there : d.number < length f.nodes = h in omega (arith, there))
]

pub number_kept : (v : ℕ → Bool) (old new : Forest) (ds : List Diagram) → Grown old new → AreThere old ds → number v new ds ≡ number v old ds
number_kept v old new [] grown all = refl
number_kept v old new (d ∷ ds) grown all =
    ap₂ (λ (b : Bool) (n : ℕ). bit b + 2 * n) (grown.values v d (all 0)) (number_kept v old new ds grown (λ k. all (suc k)))

pub bit_few : (b : Bool) → bit b ≤ 1
bit_few true = omega arith
bit_few false = omega arith

pub number_lt : (v : ℕ → Bool) (f : Forest) (ds : List Diagram) → number v f ds < 2 ^ length ds
number_lt v f [] = omega arith
number_lt v f (d ∷ ds) =
    let rest = number_lt v f ds in
    let few = bit_few (value v f d) in
    let p : 2 ^ length (d ∷ ds) ≡ 2 ^ length ds * 2 = pow-suc 2 (length ds) in
    omega (arith, rest, few, p)

pub number_small : (v : ℕ → Bool) (f : Forest) (ds : List Diagram) → length ds ≡ 16 → number v f ds < 65536
number_small v f ds h = subst (λ n. number v f ds < 2 ^ n) h (number_lt v f ds)

-- the lowest diagrams of a word
pushed : (a b m n P Q : ℕ) → m ≡ n + b * P → Q ≡ P * 2 → a + 2 * m ≡ (a + 2 * n) + b * Q
pushed a b m n P Q e q = rw q (rw e (grind arith))

number_push : (v : ℕ → Bool) (f : Forest) (ds : List Diagram) (d : Diagram) → number v f (ds ++ d ∷ []) ≡ number v f ds + bit (value v f d) * 2 ^ length ds
number_push v f [] d = grind arith
number_push v f (x ∷ xs) d =
    pushed (bit (value v f x)) (bit (value v f d)) (number v f (xs ++ d ∷ [])) (number v f xs) (2 ^ length xs) (2 ^ length (x ∷ xs))
    (number_push v f xs d) (pow-suc 2 (length xs))

pub number_taken : (v : ℕ → Bool) (f : Forest) (ds : List Diagram) (at : ℕ) → at < length ds →
    number v f (take (at + 1) ds) ≡ number v f (take at ds) + bit (value v f (diagram_at ds at)) * 2 ^ at
number_taken v f ds at h =
    ap (number v f) (take_more ds at none h) ∙ number_push v f (take at ds) (diagram_at ds at)
    ∙ (let short : length (take at ds) ≡ at = grind (arith, length-take) in ap (λ n. number v f (take at ds) + bit (value v f (diagram_at ds at)) * 2 ^ n) short)

-- a number that is known for the lowest diagrams is known for one more
pub taken_more : (v : ℕ → Bool) (f : Forest) (ds : List Diagram) (at word more : ℕ) (b : Bool) → at < length ds →
    number v f (take at ds) ≡ word → value v f (diagram_at ds at) ≡ b → more ≡ word + bit b * 2 ^ at → number v f (take (at + 1) ds) ≡ more
taken_more v f ds at word more b h before here is =
    number_taken v f ds at h ∙ ap₂ (λ (n : ℕ) (c : Bool). n + bit c * 2 ^ at) before here ∙ sym is

pub pow_next : (at : ℕ) → 2 ^ (at + 1) ≡ 2 ^ at * 2
pow_next at = let one : at + 1 ≡ suc at = omega arith in ap (λ n. 2 ^ n) one ∙ pow-suc 2 at
