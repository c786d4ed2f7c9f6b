-- The walk over the nodes under some bits.
use Rattle.std.proofs.Common.{◌≡◌, ◌≢◌, ℕ, ◌+◌, ◌<◌, ◌≤◌, List, [], ◌∷◌, ◌++◌, length, set, Some, slice_get, refl, sym, ◌∙◌, ap, subst, inl, inr, arith, get_or-set_other, get_or-set_same}
use Rattle.std.proofs.Math.ListN.{length-set}
use Rattle.std.proofs.lemmas.Bool.{cases_eq}
use Rattle.std.proofs.lemmas.List.Sums.{sum_by-cons}
use Rattle.wb_term.specs.declared.nodes.BitId.{BitId}
use Rattle.wb_term.specs.declared.nodes.Node.{Node}
use Rattle.wb_term.specs.Nodes.{children, Each, IsAmong}
use Rattle.wb_term.specs.Terms.{Terms}
use Rattle.wb_term.specs.Under.{IsUnder, Itself, Below}
use Rattle.wb_blast.specs.Number.{IsUnderAny, IsGateNumber, weight_at, weight_in}
use Rattle.wb_blast.specs.Walk.{IsMarked, Marks, Passes, Visits, Begins, Walked}
use Rattle.wb_blast.proofs.Lists.{Each-map, Each-at, Each-push, among_old, among_last}

-- one number more is marked
marked_same : (slots : List ℕ) (k : ℕ) → k < length slots → IsMarked (set slots k 1) k
marked_same slots k h = get_or-set_same slots k 1 0 h

marked_other : (slots : List ℕ) (j k : ℕ) → j ≢ k → IsMarked slots j → IsMarked (set slots k 1) j
marked_other slots j k ne m = get_or-set_other slots k j 1 0 ne ∙ m

was_marked : (slots : List ℕ) (j k : ℕ) → j ≢ k → IsMarked (set slots k 1) j → IsMarked slots j
was_marked slots j k ne m = sym (get_or-set_other slots k j 1 0 ne) ∙ m

stays_marked : (slots : List ℕ) (j k : ℕ) → k < length slots → IsMarked slots j → IsMarked (set slots k 1) j
stays_marked slots j k h m = elim (cases_eq j k) [
  | inl e ↦ subst (λ i. IsMarked (set slots k 1) i) (sym e) (marked_same slots k h)
  | inr ne ↦ marked_other slots j k ne m
]

pub Marks-none : (slots : List ℕ) → Marks slots slots []
Marks-none slots = record { covers = refl; marked = tt; stays = λ j m. m; only = λ j m. inl m }

pub Marks-more : (old new ns : List ℕ) (k : ℕ) → k < length old → Marks old new ns → Marks old (set new k 1) (ns ++ k ∷ [])
Marks-more old new ns k h is =
    let there : k < length new = omega (arith, is.covers) in
    record {
      covers = length-set new k 1 ∙ is.covers;
      marked = Each-push (IsMarked (set new k 1)) ns k
          (Each-map (IsMarked new) (IsMarked (set new k 1)) (λ j m. stays_marked new j k there m) ns is.marked)
          (marked_same new k there);
      stays = λ j m. stays_marked new j k there (is.stays j m);
      only = λ j m. elim (cases_eq j k) [
        | inl e ↦ inr (among_last ns j k e)
        | inr ne ↦ elim (is.only j (was_marked new j k ne m)) [ inl was ↦ inl was | inr among ↦ inr (among_old ns j k among) ]
      ];
    }

-- a child of a node under a bit stands under the bit
child_under : (g : Terms) (j c k : ℕ) (n : Node) → IsUnder g c k → slice_get g.nodes c ≡ Some n → IsAmong j (children n) → IsUnder g j k
child_under g j _ _ n (Itself c k e) at among =
    Below j k j n (subst (λ i. slice_get g.nodes i ≡ Some n) e at) among (Itself j j refl)
child_under g j _ _ n (Below c k d m at_k among_d u) at among =
    Below j k d m at_k among_d (child_under g j c d n u at among)

pub child_under_any : (g : Terms) (bits : List BitId) (j c : ℕ) (n : Node) → IsUnderAny g bits c → slice_get g.nodes c ≡ Some n → IsAmong j (children n) → IsUnderAny g bits j
child_under_any g bits j c n u at among =
    record { place = u.place; bit = u.bit; at = u.at; under = child_under g j c u.bit.number n u.under at among }

-- before the first visit
pub walked_none : (g : Terms) (bits : List BitId) (slots : List ℕ) (end : ℕ) → Begins bits slots end → Walked g bits slots slots end end 0
walked_none g bits slots end begins = record {
  covers = refl;
  roots = begins.roots;
  closed = λ k n low h m at. absurd (omega (arith, low, h));
  below = λ k n low h m at. absurd (omega (arith, low, h));
  sound = λ j h m.
      let root = begins.only j h m in
      record { place = root.0; bit = root.1; at = root.2; under = Itself j root.1.number (sym root.3) };
  ks = [];
  distinct = tt;
  each = λ j among. absurd among;
  all = λ j low h m. absurd (omega (arith, low, h));
  summed = refl;
  few = omega arith;
}

-- a number that isn't marked is passed over
passed_over : (g : Terms) (bits : List BitId) (first slots : List ℕ) (end up at total : ℕ) → up ≡ at + 1 → at < end →
    (IsMarked slots at → ⊥) → Walked g bits first slots end up total → Walked g bits first slots end at total
passed_over g bits first slots end up at total one within idle w =
    let above : (k : ℕ) → at ≤ k → IsMarked slots k → up ≤ k = λ k low m. elim (cases_eq k at) [
      | inl e ↦ absurd (idle (subst (λ i. IsMarked slots i) e m))
      | inr ne ↦ omega (arith, one, low, ne)
    ] in
    record {
      covers = w.covers;
      roots = w.roots;
      closed = λ k n low h m at_k. w.closed k n (above k low m) h m at_k;
      below = λ k n low h m at_k. w.below k n (above k low m) h m at_k;
      sound = w.sound;
      ks = w.ks;
      distinct = w.distinct;
      each = λ j among. let is = w.each j among in let low = is.0 in (omega (arith, one, low), is.1, is.2);
      all = λ j low h m. w.all j (above j low m) h m;
      summed = w.summed;
      few = let few = w.few in omega (arith, one, few, within);
    }

-- a marked node is visited
visited : (g : Terms) (bits : List BitId) (first old new : List ℕ) (end up at total found : ℕ) (n : Node) → up ≡ at + 1 → at < end → found ≤ 32768 →
    Passes g old new at found n → Walked g bits first old end up total → Walked g bits first new end at (total + found)
visited g bits first old new end up at total found n one within light p w =
    let was : (j : ℕ) → at ≤ j → IsMarked new j → IsMarked old j = λ j low m. elim (p.marks.only j m) [
      | inl before ↦ before
      | inr among ↦ let small : j < at = Each-at (λ k. k < at) (children n) j p.below among in absurd (omega (arith, small, low))
    ] in
    let same : (m : Node) → slice_get g.nodes at ≡ Some m → n ≡ m = λ m at_k. (let node = p.node in cc) in
    let heavy : weight_at g at ≡ found = ap (λ o. weight_in o) p.node ∙ sym p.heavy in
    record {
      covers = p.marks.covers ∙ w.covers;
      roots = λ place bit e. p.marks.stays bit.number (w.roots place bit e);
      closed = λ k m low h mk at_k. elim (cases_eq k at) [
        | inl e ↦ subst (λ (x : Node). Each (IsMarked new) (children x)) (same m (subst (λ i. slice_get g.nodes i ≡ Some m) e at_k)) p.marks.marked
        | inr ne ↦ Each-map (IsMarked old) (IsMarked new) p.marks.stays (children m)
            (w.closed k m (omega (arith, one, low, ne)) h (was k low mk) at_k)
      ];
      below = λ k m low h mk at_k. elim (cases_eq k at) [
        | inl e ↦ subst (λ i. Each (λ c. c < i) (children m)) (sym e)
            (subst (λ (x : Node). Each (λ c. c < at) (children x)) (same m (subst (λ i. slice_get g.nodes i ≡ Some m) e at_k)) p.below)
        | inr ne ↦ w.below k m (omega (arith, one, low, ne)) h (was k low mk) at_k
      ];
      sound = λ j h m. elim (p.marks.only j m) [
        | inl before ↦ w.sound j h before
        | inr among ↦ child_under_any g bits j at n (w.sound at within p.was) p.node among
      ];
      ks = at ∷ w.ks;
      distinct = (λ among. let low = (w.each at among).0 in absurd (omega (arith, one, low)), w.distinct);
      each = λ j among. elim among [
        | inl e ↦ (omega (arith, e), omega (arith, e, within), subst (λ i. IsMarked new i) (sym e) (p.marks.stays at p.was))
        | inr rest ↦ let is = w.each j rest in let low = is.0 in (omega (arith, one, low), is.1, p.marks.stays j is.2)
      ];
      all = λ j low h m. elim (cases_eq j at) [
        | inl e ↦ inl e
        | inr ne ↦ inr (w.all j (omega (arith, one, low, ne)) h (was j low m))
      ];
      summed = let step = sum_by-cons (weight_at g) at w.ks in let before = w.summed in omega (arith, step, before, heavy);
      few = let few = w.few in omega (arith, one, few, within, light);
    }

pub walked_more : (g : Terms) (bits : List BitId) (first old new : List ℕ) (end up at total found : ℕ) → up ≡ at + 1 → at < end → found ≤ 32768 →
    Visits g old new at found → Walked g bits first old end up total → Walked g bits first new end at (total + found)
walked_more g bits first old new end up at total found one within light visits w = elim visits [
  | inl idle ↦
      let none : total ≡ total + found = (let zero = idle.2 in omega (arith, zero)) in
      subst (λ t. Walked g bits first new end at t) none
      (subst (λ s. Walked g bits first s end at total) (sym idle.1) (passed_over g bits first old end up at total one within idle.0 w))
  | inr (n, p) ↦ visited g bits first old new end up at total found n one within light p w
]

-- after the last visit
reached : (g : Terms) (bits : List BitId) (first slots : List ℕ) (end total : ℕ) → Walked g bits first slots end 0 total →
    (j k : ℕ) → IsUnder g j k → k < end → IsMarked slots k → (j < end) × IsMarked slots j
reached g bits first slots end total w _ _ (Itself j k e) h m =
    (omega (arith, e, h), subst (λ i. IsMarked slots i) (sym e) m)
reached g bits first slots end total w _ _ (Below j k c n at among u) h m =
    let low : 0 ≤ k = omega arith in
    let small : c < k = Each-at (λ c. c < k) (children n) c (w.below k n low h m at) among in
    reached g bits first slots end total w j c u (omega (arith, small, h))
    (Each-at (IsMarked slots) (children n) c (w.closed k n low h m at) among)

pub walked_all : (g : Terms) (bits : List BitId) (first slots : List ℕ) (end total : ℕ) →
    ((place : ℕ) (bit : BitId) → slice_get bits place ≡ Some bit → bit.number < end) → Walked g bits first slots end 0 total → IsGateNumber g bits total
walked_all g bits first slots end total within w = record {
  ks = w.ks;
  nodes = record {
    distinct = w.distinct;
    each = λ j among. let is = w.each j among in w.sound j is.1 is.2;
    all = λ j u.
        let is = reached g bits first slots end total w j u.bit.number u.under (within u.place u.bit u.at) (w.roots u.place u.bit u.at) in
        w.all j (omega arith) is.0 is.1;
  };
  total = w.summed;
}
