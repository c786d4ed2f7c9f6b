-- The walk that numbers the inputs, step by step.
use Rattle.std.proofs.Common.{◌≡◌, ◌≢◌, ◌^◌, ◌⊎◌, ◌==◌, ℕ, zero, suc, Bool, true, false, ◌+◌, ◌-◌, ◌*◌, ◌<◌, ◌≤◌, List, [], ◌∷◌, ◌++◌, length, set, Some, None, slice_get, slice_index, refl, sym, ◌∙◌, ap, subst, inl, inr, arith, get_or, get_or-set_other, get_or-set_same}
use Rattle.std.proofs.Math.ListN.{length-set}
use Rattle.std.proofs.lemmas.Bool.{cases_eq, ne_eqb}
use Rattle.std.proofs.lemmas.List.Sums.{sum_by-cons, sum_by-set}
use Rattle.std.proofs.lemmas.Option.{slice_get_cases, slice_get_within}
use Rattle.wb_term.specs.declared.nodes.BitId.{BitId}
use Rattle.wb_term.specs.declared.nodes.WordNode.{WordNode}
use Rattle.wb_term.specs.declared.nodes.WordNode.TheVariants.{Const, Byte, Cell, Not, And, Or, Xor, Sum, Diff, Ite, Shl, Shr, High, Low, Look}
use Rattle.wb_term.specs.declared.nodes.BitNode.{BitNode}
use Rattle.wb_term.specs.declared.nodes.BitNode.TheVariants.{Known, Pick, NotB, AndB, OrB, XorB, IteB, Same, Carry, Borrow}
use Rattle.wb_term.specs.declared.nodes.Node.{Node}
use Rattle.wb_term.specs.declared.nodes.Node.TheVariants.{Word, Bit}
use Rattle.wb_term.specs.Nodes.{children, word_children, bit_children, weight, word_weight, bit_weight, IsAmong}
use Rattle.wb_term.specs.Numbers.{bit}
use Rattle.wb_term.specs.Terms.{Terms, IsGraph, HasBit, first_of, holds_bit}
use Rattle.wb_term.specs.Under.{IsUnder, Itself, Below}
use Rattle.wb_blast.specs.declared.meeting.Met.{Met}
use Rattle.wb_blast.specs.declared.places.Place.{Place}
use Rattle.wb_blast.specs.Meeting.{node_places, IsMet, StandsAt, unmet, Stacks, Meeting, HasMet, IsNewlyMet, Meets, StacksBits}
use Rattle.wb_blast.specs.Number.{weight_at, weight_in}
use Rattle.wb_blast.proofs.Appended.{get_left, get_right, get_none, get_cases, among_cases}
use Rattle.wb_blast.proofs.Lists.{Each-at, among_old, among_last}
use Rattle.wb_blast.proofs.Owners.{node_places_once, same_owner, place_under, place_in_range, few_places}
use Rattle.wb_blast.proofs.Walk.{child_under_any}

length_push : (xs : List ℕ) (x : ℕ) → length (xs ++ x ∷ []) ≡ length xs + 1
length_push [] x = refl
length_push (y ∷ xs) x = let h = length_push xs x in omega (arith, h)

-- numbers put onto a stack
pub stacks_more : (old new ns : List ℕ) (k : ℕ) → Stacks old new ns → Stacks old (new ++ k ∷ []) (k ∷ ns)
stacks_more old new ns k is = record {
  count = (let count = is.count in let one = length_push new k in omega (arith, count, one));
  stays = λ j among. among_old new j k (is.stays j among);
  put = λ j among. elim among [ inl e ↦ among_last new j k e | inr rest ↦ among_old new j k (is.put j rest) ];
  only = λ j among. elim (among_cases new j k among) [
    | inl old ↦ elim (is.only j old) [ inl before ↦ inl before | inr put ↦ inr (inr put) ]
    | inr e ↦ inr (inl e)
  ];
}

pub stacks_bits_more : (bits : List BitId) (stack : List ℕ) (b : BitId) → StacksBits bits stack → StacksBits (b ∷ bits) (stack ++ b.number ∷ [])
stacks_bits_more bits stack b is = record {
  put = λ place bit e. by_place place bit e;
  only = λ j among. elim (among_cases stack j b.number among) [
    | inl old ↦ let was = is.only j old in (suc was.0, was.1, was.2, was.3)
    | inr e ↦ (0, b, refl, sym e)
  ];
} where
  by_place : (place : ℕ) (bit : BitId) → slice_get (b ∷ bits) place ≡ Some bit → IsAmong bit.number (stack ++ b.number ∷ [])
  by_place zero bit e = (let same : b ≡ bit = cc in among_last stack bit.number b.number (ap (λ (x : BitId). x.number) (sym same)))
  by_place (suc place) bit e = among_old stack bit.number b.number (is.put place bit e)

-- slots
unmet_few : (slots : List ℕ) → unmet slots ≤ length slots
unmet_few [] = omega arith
unmet_few (s ∷ slots) = (let h = sum_by-cons (λ s. bit (s == 0)) s slots in let rest = unmet_few slots in let few = bit_most (s == 0) in omega (arith, h, rest, few)) where
  bit_most : (b : Bool) → bit b ≤ 1
  bit_most true = omega arith
  bit_most false = omega arith

stays_met : (slots : List ℕ) (j k p : ℕ) → k < length slots → IsMet slots j → IsMet (set slots k (p + 1)) j
stays_met slots j k p h m = elim (cases_eq j k) [
  | inl e ↦ (let same = get_or-set_same slots k (p + 1) 0 h in subst (λ i. IsMet (set slots k (p + 1)) i) (sym e) (let is : 0 < get_or (set slots k (p + 1)) k 0 = omega (arith, same) in is))
  | inr ne ↦ (let same = get_or-set_other slots k j (p + 1) 0 ne in let is : 0 < get_or (set slots k (p + 1)) j 0 = omega (arith, same, m) in is)
]

newly_met : (slots : List ℕ) (k p : ℕ) → k < length slots → IsMet (set slots k (p + 1)) k
newly_met slots k p h = let same = get_or-set_same slots k (p + 1) 0 h in omega (arith, same)

met_cases : (slots : List ℕ) (j k p : ℕ) → IsMet (set slots k (p + 1)) j → IsMet slots j ⊎ (j ≡ k)
met_cases slots j k p m = elim (cases_eq j k) [
  | inl e ↦ inr e
  | inr ne ↦ inl (let same = get_or-set_other slots k j (p + 1) 0 ne in omega (arith, same, m))
]

one_less : (slots : List ℕ) (k p : ℕ) → k < length slots → slice_index slots k ≡ 0 → unmet (set slots k (p + 1)) + 1 ≡ unmet slots
one_less slots k p h idle =
    let all = sum_by-set (λ s. bit (s == 0)) slots k (p + 1) 0 h in
    let was : bit (get_or slots k 0 == 0) ≡ 1 = ap (λ s. bit (s == 0)) idle in
    let is : bit (p + 1 == 0) ≡ 0 = (let ne : p + 1 ≢ 0 = omega arith in ap bit (ne_eqb (p + 1) 0 ne)) in
    omega (arith, all, was, is)

-- the heaviest node
word_light : (n : WordNode) → word_weight n ≤ 32768
word_light (And x y) = omega arith
word_light (Or x y) = omega arith
word_light (Xor x y) = omega arith
word_light (Ite c x y) = omega arith
word_light (Sum x y c) = omega arith
word_light (Diff x y c) = omega arith
word_light (High x y) = omega arith
word_light (Low x y) = omega arith
word_light (Look t x) = omega arith
word_light n = omega arith

bit_light : (n : BitNode) → bit_weight n ≤ 32768
bit_light (AndB c d) = omega arith
bit_light (OrB c d) = omega arith
bit_light (XorB c d) = omega arith
bit_light (IteB c d e) = omega arith
bit_light (Same x y) = omega arith
bit_light (Carry x y c) = omega arith
bit_light (Borrow x y c) = omega arith
bit_light n = omega arith

light : (n : Node) → weight n ≤ 32768
light (Word n) = word_light n
light (Bit n) = bit_light n

few_words : (n : WordNode) → length (word_children n) ≤ 3
few_words (Not x) = omega arith
few_words (And x y) = omega arith
few_words (Or x y) = omega arith
few_words (Xor x y) = omega arith
few_words (Sum x y c) = omega arith
few_words (Diff x y c) = omega arith
few_words (Ite c x y) = omega arith
few_words (Shl x m) = omega arith
few_words (Shr x m) = omega arith
few_words (High x y) = omega arith
few_words (Low x y) = omega arith
few_words (Look t x) = omega arith
few_words (Const v) = omega arith
few_words (Byte p) = omega arith
few_words (Cell p) = omega arith

few_bits : (n : BitNode) → length (bit_children n) ≤ 3
few_bits (Known v) = omega arith
few_bits (Pick x m) = omega arith
few_bits (NotB c) = omega arith
few_bits (AndB c d) = omega arith
few_bits (OrB c d) = omega arith
few_bits (XorB c d) = omega arith
few_bits (IteB c d e) = omega arith
few_bits (Same x y) = omega arith
few_bits (Carry x y c) = omega arith
few_bits (Borrow x y c) = omega arith

few_children : (n : Node) → length (children n) ≤ 3
few_children (Word n) = few_words n
few_children (Bit n) = few_bits n

bit_within : (g : Terms) (c : BitId) → HasBit g c → c.number < length g.nodes
bit_within g c h = elim ((slice_get_cases g.nodes c.number).1) [
  | inl (n, within, at, same) ↦ within
  | inr (past, none) ↦ absurd (let e : holds_bit None ≡ true = ap holds_bit (sym none) ∙ h in cc)
]

pub meeting_none : (g : Terms) (bits : List BitId) (met : Met) (stack : List ℕ) → length met.slots ≡ length g.nodes → ((k : ℕ) → slice_index met.slots k ≡ 0) →
    met.places.items ≡ [] → met.weight ≡ 0 → StacksBits bits stack → ((place : ℕ) (bit : BitId) → slice_get bits place ≡ Some bit → HasBit g bit) → Meeting g bits met stack
meeting_none g bits met stack covers none no_places light stacks there =
    let idle : (k : ℕ) → IsMet met.slots k → ⊥ = λ k m. let zero = none k in omega (arith, m, zero) in
    let nowhere : (x : ℕ) (q : Place) → slice_get met.places.items x ≡ Some q → ⊥ = λ x q e. get_none x q (ap (λ (ps : List Place). slice_get ps x) (sym no_places) ∙ e) in
    record {
      covers = covers;
      roots = λ place bit e. inr (stacks.put place bit e);
      closed = λ k n m at c among. absurd (idle k m);
      sound = λ j is. elim is [
        | inl m ↦ absurd (idle j m)
        | inr s ↦ (let root = stacks.only j s in record { place = root.0; bit = root.1; at = root.2; under = Itself j root.1.number (sym root.3) })
      ];
      stacked = λ j s. let root = stacks.only j s in subst (λ i. i < length g.nodes) root.3 (bit_within g root.1 (there root.0 root.1 root.2));
      ks = [];
      distinct = tt;
      each = λ j among. absurd among;
      all = λ j m. absurd (idle j m);
      summed = light;
      few = (let few = unmet_few met.slots in omega (arith, few, covers, light));
      numbered = λ k n m at. absurd (idle k m);
      owned = λ x q e. absurd (nowhere x q e);
      once = λ j k q e f. absurd (nowhere j q e);
    }

-- a node that was met is passed over
pub meeting_old : (g : Terms) (bits : List BitId) (met : Met) (rest : List ℕ) (number : ℕ) → IsMet met.slots number → Meeting g bits met (rest ++ number ∷ []) → Meeting g bits met rest
meeting_old g bits met rest number was is =
    let left : (j : ℕ) → IsMet met.slots j ⊎ IsAmong j (rest ++ number ∷ []) → IsMet met.slots j ⊎ IsAmong j rest = λ j h. elim h [
      | inl m ↦ inl m
      | inr s ↦ elim (among_cases rest j number s) [ inl old ↦ inr old | inr e ↦ inl (subst (λ i. IsMet met.slots i) (sym e) was) ]
    ] in
    record {
      covers = is.covers;
      roots = λ place bit e. left bit.number (is.roots place bit e);
      closed = λ k n m at c among. left c (is.closed k n m at c among);
      sound = λ j h. is.sound j (elim h [ inl m ↦ inl m | inr s ↦ inr (among_old rest j number s) ]);
      stacked = λ j s. is.stacked j (among_old rest j number s);
      ks = is.ks;
      distinct = is.distinct;
      each = is.each;
      all = is.all;
      summed = is.summed;
      few = is.few;
      numbered = is.numbered;
      owned = is.owned;
      once = is.once;
    }

still_stands : (places more : List Place) (first : ℕ) (own : List Place) → StandsAt places first own → StandsAt (places ++ more) first own
still_stands places more first own stands j h =
    let there = (slice_get_cases own j).1 in
    elim there [
      | inl (q, within, at, same) ↦ get_left places more (first + j) (slice_get_within places (first + j) q (stands j h ∙ at)) ∙ stands j h
      | inr (past, none) ↦ absurd (omega (arith, past, h))
    ]

-- a node is met
meeting_new : (g : Terms) (bits : List BitId) (old new : Met) (rest after : List ℕ) (number : ℕ) (n : Node) → IsGraph g → Meeting g bits old (rest ++ number ∷ []) →
    IsNewlyMet g number old new rest after n → Meeting g bits new after
meeting_new g bits old new rest after number n graph is one =
    let p = length old.places.items in
    let in_nodes : number < length g.nodes = is.stacked number (among_last rest number number refl) in
    let in_slots : number < length old.slots = (let covers = is.covers in omega (arith, in_nodes, covers)) in
    let stays : (j : ℕ) → IsMet old.slots j → IsMet new.slots j = λ j m. subst (λ (s : List ℕ). IsMet s j) (sym one.slots) (stays_met old.slots j number p in_slots m) in
    let here : IsMet new.slots number = subst (λ (s : List ℕ). IsMet s number) (sym one.slots) (newly_met old.slots number p in_slots) in
    let cases : (j : ℕ) → IsMet new.slots j → IsMet old.slots j ⊎ (j ≡ number) = λ j m. met_cases old.slots j number p (subst (λ (s : List ℕ). IsMet s j) one.slots m) in
    let idle : IsMet old.slots number → ⊥ = λ m. (let zero = one.idle in omega (arith, m, zero)) in
    let other : (j : ℕ) → IsMet old.slots j → j ≢ number = λ j m e. idle (subst (λ i. IsMet old.slots i) e m) in
    let same_node : (m : Node) → slice_get g.nodes number ≡ Some m → n ≡ m = λ m at. (let node = one.node in cc) in
    let left : (j : ℕ) → IsMet old.slots j ⊎ IsAmong j (rest ++ number ∷ []) → IsMet new.slots j ⊎ IsAmong j after = λ j h. elim h [
      | inl m ↦ inl (stays j m)
      | inr s ↦ elim (among_cases rest j number s) [ inl before ↦ inr (one.stack.stays j before) | inr e ↦ inl (subst (λ i. IsMet new.slots i) (sym e) here) ]
    ] in
    let owns : (x : ℕ) (q : Place) → slice_get new.places.items x ≡ Some q → slice_get (old.places.items ++ node_places n) x ≡ Some q =
    λ x q e. ap (λ (ps : List Place). slice_get ps x) (sym one.places) ∙ e in
    record {
      covers = ap length one.slots ∙ length-set old.slots number (p + 1) ∙ is.covers;
      roots = λ place bit e. left bit.number (is.roots place bit e);
      closed = λ k m mk at c among. elim (cases k mk) [
        | inl was ↦ left c (is.closed k m was at c among)
        | inr e ↦ inr (one.stack.put c (subst (λ (x : Node). IsAmong c (children x)) (sym (same_node m (subst (λ i. slice_get g.nodes i ≡ Some m) e at))) among))
      ];
      sound = λ j h. elim h [
        | inl m ↦ elim (cases j m) [
          | inl was ↦ is.sound j (inl was)
          | inr e ↦ is.sound j (inr (among_last rest j number e))
        ]
        | inr s ↦ elim (one.stack.only j s) [
          | inl before ↦ is.sound j (inr (among_old rest j number before))
          | inr child ↦ child_under_any g bits j number n (is.sound number (inr (among_last rest number number refl))) one.node child
        ]
      ];
      stacked = λ j s. elim (one.stack.only j s) [
        | inl before ↦ is.stacked j (among_old rest j number before)
        | inr child ↦ (let below : j < number = Each-at (λ k. k < number) (children n) j one.below child in omega (arith, below, in_nodes))
      ];
      ks = number ∷ is.ks;
      distinct = (λ among. absurd (idle (is.each number among)), is.distinct);
      each = λ j among. elim among [ inl e ↦ subst (λ i. IsMet new.slots i) (sym e) here | inr was ↦ stays j (is.each j was) ];
      all = λ j m. elim (cases j m) [ inl was ↦ inr (is.all j was) | inr e ↦ inl e ];
      summed =
          (let step = sum_by-cons (weight_at g) number is.ks in
          let heavy : weight_at g number ≡ weight n = ap (λ o. weight_in o) one.node in
          let before = is.summed in let sum = one.weight in omega (arith, step, heavy, before, sum));
      few =
          (let less = one_less old.slots number p in_slots one.idle in
          let same : unmet new.slots ≡ unmet (set old.slots number (p + 1)) = ap unmet one.slots in
          let sum = one.weight in let most = light n in let few = is.few in omega (arith, less, same, sum, most, few));
      numbered = λ k m mk at. elim (cases k mk) [
        | inl was ↦
            (let slot : slice_index new.slots k ≡ slice_index old.slots k = ap (λ (s : List ℕ). slice_index s k) one.slots ∙ get_or-set_other old.slots number k (p + 1) 0 (other k was) in
            subst (λ (ps : List Place). StandsAt ps (slice_index new.slots k - 1) (node_places m)) (sym one.places)
            (subst (λ s. StandsAt (old.places.items ++ node_places n) (s - 1) (node_places m)) (sym slot)
            (still_stands old.places.items (node_places n) (slice_index old.slots k - 1) (node_places m) (is.numbered k m was at))))
        | inr e ↦
            (let slot : slice_index new.slots k - 1 ≡ p = (let s : slice_index new.slots k ≡ p + 1 =
            ap (λ (s : List ℕ). slice_index s k) one.slots ∙ ap (slice_index (set old.slots number (p + 1))) e ∙ get_or-set_same old.slots number (p + 1) 0 in_slots in omega (arith, s)) in
            subst (λ (ps : List Place). StandsAt ps (slice_index new.slots k - 1) (node_places m)) (sym one.places)
            (subst (λ s. StandsAt (old.places.items ++ node_places n) s (node_places m)) (sym slot)
            (subst (λ (x : Node). StandsAt (old.places.items ++ node_places n) p (node_places x)) (same_node m (subst (λ i. slice_get g.nodes i ≡ Some m) e at))
            (λ j h. get_right old.places.items (node_places n) j))))
      ];
      owned = λ x q e. elim (get_cases old.places.items (node_places n) x q (owns x q e)) [
        | inl was ↦ let o = is.owned x q was in (o.0, o.1, stays o.0 o.2, o.3, o.4, o.5)
        | inr (j, at, own) ↦ (number, n, here, one.node, j, own)
      ];
      once = λ j k q e f. elim (get_cases old.places.items (node_places n) j q (owns j q e)) [
        | inl was ↦ elim (get_cases old.places.items (node_places n) k q (owns k q f)) [
          | inl too ↦ is.once j k q was too
          | inr (i, at, own) ↦ absurd (not_both g bits old rest number n graph is one j i q was own)
        ]
        | inr (i, at, own) ↦ elim (get_cases old.places.items (node_places n) k q (owns k q f)) [
          | inl too ↦ absurd (not_both g bits old rest number n graph is one k i q too own)
          | inr (h, there, mine) ↦ (let same = node_places_once n i h q own mine in omega (arith, at, there, same))
        ]
      ];
    } where
      not_both : (g : Terms) (bits : List BitId) (old : Met) (rest : List ℕ) (number : ℕ) (n : Node) → IsGraph g → Meeting g bits old (rest ++ number ∷ []) →
          IsNewlyMet g number old new rest after n → (x i : ℕ) (q : Place) → slice_get old.places.items x ≡ Some q → slice_get (node_places n) i ≡ Some q → ⊥
      not_both g bits old rest number n graph is one x i q was own =
          let o = is.owned x q was in
          let same : o.1 ≡ n = same_owner o.1 n o.4 i q o.5 own in
          let eq : o.0 ≡ number = graph.once o.0 number n (subst (λ (m : Node). slice_get g.nodes o.0 ≡ Some m) same o.3) one.node in
          let m : IsMet old.slots number = subst (λ k. IsMet old.slots k) eq o.2 in
          let zero = one.idle in omega (arith, m, zero)

pub meeting_more : (g : Terms) (bits : List BitId) (old new : Met) (stack rest after : List ℕ) (number : ℕ) → IsGraph g → stack ≡ rest ++ number ∷ [] → Meeting g bits old stack →
    Meets g number old new rest after → Meeting g bits new after
meeting_more g bits old new stack rest after number graph whole is meets =
    let popped : Meeting g bits old (rest ++ number ∷ []) = subst (λ (s : List ℕ). Meeting g bits old s) whole is in
    elim meets [
      | inl (was, same, stays) ↦
          subst (λ (m : Met). Meeting g bits m after) (sym same) (subst (λ (s : List ℕ). Meeting g bits old s) (sym stays) (meeting_old g bits old rest number was popped))
      | inr (n, one) ↦ meeting_new g bits old new rest after number n graph popped one
    ]

-- the walk goes on for so many steps at most
pub smaller : (g : Terms) (bits : List BitId) (old new : Met) (stack rest after : List ℕ) (number : ℕ) → stack ≡ rest ++ number ∷ [] → Meeting g bits old stack →
    Meets g number old new rest after → 4 * unmet new.slots + length after < 4 * unmet old.slots + length stack
smaller g bits old new stack rest after number whole is meets =
    let long : length stack ≡ length rest + 1 = ap length whole ∙ length_push rest number in
    elim meets [
      | inl (was, same, stays) ↦
          (let e : unmet new.slots ≡ unmet old.slots = ap (λ (m : Met). unmet m.slots) same in let l : length after ≡ length rest = ap length stays in omega (arith, long, e, l))
      | inr (n, one) ↦
          (let there : number < length g.nodes = is.stacked number (subst (λ (s : List ℕ). IsAmong number s) (sym whole) (among_last rest number number refl)) in
          let within : number < length old.slots = (let covers = is.covers in omega (arith, there, covers)) in
          let less = one_less old.slots number (length old.places.items) within one.idle in
          let same : unmet new.slots ≡ unmet (set old.slots number (length old.places.items + 1)) = ap unmet one.slots in
          let count = one.stack.count in let few = few_children n in omega (arith, long, less, same, count, few))
    ]

pub places_few : (g : Terms) (bits : List BitId) (met : Met) (stack : List ℕ) → IsGraph g → Meeting g bits met stack → length met.places.items ≤ 4224
places_few g bits met stack graph is = few_places met.places.items
    (λ x q e. let o = is.owned x q e in place_in_range (first_of o.0 g) o.1 o.4 q (graph.placed o.0 o.1 o.3) o.5) is.once

pub weight_few : (g : Terms) (bits : List BitId) (met : Met) (stack : List ℕ) → IsGraph g → Meeting g bits met stack → met.weight ≤ 2 ^ 46
weight_few g bits met stack graph is = let few = is.few in let fits = graph.fits in omega (arith, few, fits)

-- when the stack is empty
pub meeting_all : (g : Terms) (bits : List BitId) (met : Met) (stack : List ℕ) → IsGraph g → stack ≡ [] → Meeting g bits met stack → HasMet g bits met
meeting_all g bits met stack graph empty is =
    let left : (j : ℕ) → IsMet met.slots j ⊎ IsAmong j stack → IsMet met.slots j = λ j h. elim h [
      | inl m ↦ m
      | inr s ↦ absurd (subst (λ (k : List ℕ). IsAmong j k) empty s)
    ] in
    let closed : (k : ℕ) (n : Node) → IsMet met.slots k → slice_get g.nodes k ≡ Some n → (c : ℕ) → IsAmong c (children n) → IsMet met.slots c = λ k n m at c among. left c (is.closed k n m at c among) in
    record {
      covers = is.covers;
      roots = λ place bit e. left bit.number (is.roots place bit e);
      closed = closed;
      sound = λ j m. is.sound j (inl m);
      number = record {
        ks = is.ks;
        nodes = record {
          distinct = is.distinct;
          each = λ j among. is.sound j (inl (is.each j among));
          all = λ j u. is.all j (reached g met.slots closed j u.bit.number u.under (left u.bit.number (is.roots u.place u.bit u.at)));
        };
        total = is.summed;
      };
      numbered = is.numbered;
      few = places_few g bits met stack graph is;
      wanted = record {
        once = is.once;
        under = λ x q e. let o = is.owned x q e in place_under g bits o.0 o.1 o.4 q o.3 (is.sound o.0 (inl o.2)) o.5;
      };
    } where
      reached : (g : Terms) (slots : List ℕ) → ((k : ℕ) (n : Node) → IsMet slots k → slice_get g.nodes k ≡ Some n → (c : ℕ) → IsAmong c (children n) → IsMet slots c) →
          (j k : ℕ) → IsUnder g j k → IsMet slots k → IsMet slots j
      reached g slots closed _ _ (Itself j k e) m = subst (λ i. IsMet slots i) (sym e) m
      reached g slots closed _ _ (Below j k c n at among u) m = reached g slots closed j c u (closed k n m at c among)
