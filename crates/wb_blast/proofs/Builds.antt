-- The rows of the nodes, made one after the other.
use Rattle.std.proofs.Common.{◌≡◌, ◌≢◌, ◌==◌, ℕ, zero, suc, ◌+◌, ◌-◌, ◌<◌, ◌≤◌, Bool, true, List, [], ◌∷◌, ◌++◌, length, take, Some, None, slice_get, slice_index, get_or, refl, sym, ◌∙◌, ap, subst, inl, inr, arith, get_or-set_other, get_or-set_same, Vec, Global, Option}
use Rattle.std.proofs.Math.ListN.{length-set, get_or-append}
use Rattle.std.proofs.Math.Seq.{get_or-append_seam}
use Rattle.std.proofs.lemmas.Bool.{cases_eq}
use Rattle.std.proofs.lemmas.List.Sums.{sum_by-cons}
use Rattle.wb_gate.specs.Circuit.{Circuit}
use Rattle.wb_gate.specs.Growth.{Extends}
use Rattle.wb_term.specs.declared.nodes.WordId.{WordId}
use Rattle.wb_term.specs.declared.nodes.BitId.{BitId}
use Rattle.wb_term.specs.declared.nodes.WordNode.{WordNode}
use Rattle.wb_term.specs.declared.nodes.WordNode.TheVariants.{Const, Byte, Cell, Not, And, Or, Xor, Sum, Diff, Ite, Shl, Shr, High, Low, Look}
use Rattle.wb_term.specs.declared.nodes.BitNode.{BitNode}
use Rattle.wb_term.specs.declared.nodes.BitNode.TheVariants.{Known, Pick, NotB, AndB, OrB, XorB, IteB, Same, Carry, Borrow}
use Rattle.wb_term.specs.declared.nodes.Node.{Node}
use Rattle.wb_term.specs.declared.nodes.Node.TheVariants.{Word, Bit}
use Rattle.wb_term.specs.Inputs.{Assignment as Inputs}
use Rattle.wb_term.specs.Nodes.{children, word_children, bit_children, weight, IsAmong}
use Rattle.wb_term.specs.Terms.{Terms, IsGraph, HasWord, HasBit, IsPlaced, IsWordPlaced, IsBitPlaced, first_of, holds_word, holds_bit}
use Rattle.wb_term.specs.Values.{value}
use Rattle.wb_equal.specs.declared.entries.Entry.{Entry}
use Rattle.wb_equal.specs.declared.entries.Entry.TheVariants.{T}
use Rattle.wb_blast.specs.declared.places.Place.{Place}
use Rattle.wb_blast.specs.declared.rows.Rows.{Rows}
use Rattle.wb_blast.specs.Building.{HasRow, HasParts, CanBuild, AddsRow, IsBuiltRow, Builds, IsReady, Building}
use Rattle.wb_blast.specs.Meeting.{IsMet, StandsAt, node_places}
use Rattle.wb_blast.specs.Number.{weight_at, weight_in}
use Rattle.wb_blast.specs.Rows.{IsWordOf, IsBitOf, HasWordRow, HasBitRow, HasWordParts, HasBitParts, word_row, bit_row}
use Rattle.wb_blast.specs.Words.{entry_at}
use Rattle.wb_blast.proofs.Appended.{get_none}
use Rattle.wb_blast.proofs.Lists.{sum_of_some}
use Rattle.wb_blast.proofs.Sums.{below_kept}

pub met : (slots : List ℕ) (k s : ℕ) → s ≡ slice_index slots k → s ≢ 0 → IsMet slots k
met slots k s e ne = omega (arith, e, ne)

-- what a graph's placing says of a child
get_taken : {X : Type 0} (k : ℕ) (xs : List X) (j : ℕ) (x : X) → slice_get (take k xs) j ≡ Some x → (j < k) × (slice_get xs j ≡ Some x)
get_taken zero xs j x e = absurd (get_none j x e)
get_taken (suc k) [] j x e = absurd (get_none j x e)
get_taken (suc k) (y ∷ xs) zero x e = (omega arith, e)
get_taken (suc k) (y ∷ xs) (suc j) x e = let rest = get_taken k xs j x e in ((let h = rest.0 in omega (arith, h)), rest.1)

word_at : (o : Option Node) → holds_word o ≡ true → (n : WordNode) × (o ≡ Some (Word n))
word_at (Some (Word n)) h = (n, refl)
word_at (Some (Bit n)) h = absurd (cc)
word_at None h = absurd (cc)

pub bit_at : (o : Option Node) → holds_bit o ≡ true → (n : BitNode) × (o ≡ Some (Bit n))
bit_at (Some (Bit n)) h = (n, refl)
bit_at (Some (Word n)) h = absurd (cc)
bit_at None h = absurd (cc)

word_child : (g : Terms) (at : ℕ) (x : WordId) → HasWord (first_of at g) x → (n : WordNode) × (x.number < at) × (slice_get g.nodes x.number ≡ Some (Word n))
word_child g at x h =
    let there = word_at (slice_get (take at g.nodes) x.number) h in
    let is = get_taken at g.nodes x.number (Word there.0) there.1 in
    (there.0, is.0, is.1)

bit_child : (g : Terms) (at : ℕ) (x : BitId) → HasBit (first_of at g) x → (n : BitNode) × (x.number < at) × (slice_get g.nodes x.number ≡ Some (Bit n))
bit_child g at x h =
    let there = bit_at (slice_get (take at g.nodes) x.number) h in
    let is = get_taken at g.nodes x.number (Bit there.0) there.1 in
    (there.0, is.0, is.1)

-- the children of a node are done
record AreDone (g : Terms) (c : Circuit) (r : Rows) (at : ℕ) (ks : List ℕ) : Type 0 where
  words : (x : WordId) → IsAmong x.number ks → HasWord (first_of at g) x → HasWordRow g c r x.number
  bits : (x : BitId) → IsAmong x.number ks → HasBit (first_of at g) x → HasBitRow g c r x.number

word_parts : (g : Terms) (c : Circuit) (r : Rows) (at : ℕ) (n : WordNode) → AreDone g c r at (word_children n) → IsWordPlaced (first_of at g) n → HasWordParts g c r n
word_parts g c r at (Const v) done p = tt
word_parts g c r at (Byte place) done p = tt
word_parts g c r at (Cell place) done p = tt
word_parts g c r at (Not x) done p = done.words x (inl refl) p
word_parts g c r at (And x y) done p = (done.words x (inl refl) p.0, done.words y (inr (inl refl)) p.1)
word_parts g c r at (Or x y) done p = (done.words x (inl refl) p.0, done.words y (inr (inl refl)) p.1)
word_parts g c r at (Xor x y) done p = (done.words x (inl refl) p.0, done.words y (inr (inl refl)) p.1)
word_parts g c r at (Sum x y b) done p = (done.words x (inl refl) p.0, done.words y (inr (inl refl)) p.1, done.bits b (inr (inr (inl refl))) p.2)
word_parts g c r at (Diff x y b) done p = (done.words x (inl refl) p.0, done.words y (inr (inl refl)) p.1, done.bits b (inr (inr (inl refl))) p.2)
word_parts g c r at (Ite b x y) done p = (done.bits b (inl refl) p.0, done.words x (inr (inl refl)) p.1, done.words y (inr (inr (inl refl))) p.2)
word_parts g c r at (Shl x m) done p = done.words x (inl refl) p.0
word_parts g c r at (Shr x m) done p = done.words x (inl refl) p.0
word_parts g c r at (High x y) done p = (done.words x (inl refl) p.0, done.words y (inr (inl refl)) p.1)
word_parts g c r at (Low x y) done p = (done.words x (inl refl) p.0, done.words y (inr (inl refl)) p.1)
word_parts g c r at (Look t x) done p = done.words x (inl refl) p.1

bit_parts : (g : Terms) (c : Circuit) (r : Rows) (at : ℕ) (n : BitNode) → AreDone g c r at (bit_children n) → IsBitPlaced (first_of at g) n → HasBitParts g c r n
bit_parts g c r at (Known v) done p = tt
bit_parts g c r at (Pick x m) done p = done.words x (inl refl) p.0
bit_parts g c r at (NotB b) done p = done.bits b (inl refl) p
bit_parts g c r at (AndB b d) done p = (done.bits b (inl refl) p.0, done.bits d (inr (inl refl)) p.1)
bit_parts g c r at (OrB b d) done p = (done.bits b (inl refl) p.0, done.bits d (inr (inl refl)) p.1)
bit_parts g c r at (XorB b d) done p = (done.bits b (inl refl) p.0, done.bits d (inr (inl refl)) p.1)
bit_parts g c r at (IteB b d e) done p = (done.bits b (inl refl) p.0, done.bits d (inr (inl refl)) p.1, done.bits e (inr (inr (inl refl))) p.2)
bit_parts g c r at (Same x y) done p = (done.words x (inl refl) p.0, done.words y (inr (inl refl)) p.1)
bit_parts g c r at (Carry x y b) done p = (done.words x (inl refl) p.0, done.words y (inr (inl refl)) p.1, done.bits b (inr (inr (inl refl))) p.2)
bit_parts g c r at (Borrow x y b) done p = (done.words x (inl refl) p.0, done.words y (inr (inl refl)) p.1, done.bits b (inr (inr (inl refl))) p.2)

parts : (g : Terms) (c : Circuit) (r : Rows) (at : ℕ) (n : Node) → AreDone g c r at (children n) → IsPlaced (first_of at g) n → HasParts g c r n
parts g c r at (Word n) done p = word_parts g c r at n done p
parts g c r at (Bit n) done p = bit_parts g c r at n done p

pub can_build : (g : Terms) (ready r : Rows) (limit : ℕ) (c : Circuit) (at : ℕ) → IsGraph g → IsReady g limit ready → Building g ready limit c r at →
    (n : Node) → IsMet r.slots at → slice_get g.nodes at ≡ Some n → CanBuild g c r at n
can_build g ready r limit c at graph is building n m at_k =
    let slot = building.rest at (omega arith) in
    let was : IsMet ready.slots at = omega (arith, m, slot) in
    let same : length r.places.items ≡ length ready.places.items = ap (λ (ps : Vec Place Global). length ps.items) building.places in
    record {
      parts = parts g c r at n
          (record {
            words = λ x among h. let child = word_child g at x h in building.done x.number (Word child.0) child.1 (is.closed at n was at_k x.number among) child.2;
            bits = λ x among h. let child = bit_child g at x h in building.done x.number (Bit child.0) child.1 (is.closed at n was at_k x.number among) child.2;
          })
          (graph.placed at n at_k);
      stands = subst (λ (ps : Vec Place Global). StandsAt ps.items (slice_index r.slots at - 1) (node_places n)) (sym building.places)
          (subst (λ s. StandsAt ready.places.items (s - 1) (node_places n)) (sym slot) (is.numbered at n was at_k));
      inputs = building.inputs ∙ sym same;
      few = (let few = is.few in omega (arith, few, same));
      room =
          (let gates = building.gates in let light = is.light in let limit_is = building.same_limit in
          let heavy : weight_at g at ≡ weight n = ap (λ o. weight_in o) at_k in
          let step = sum_by-cons (weight_at g) at building.ds in
          let some = sum_of_some (weight_at g) (at ∷ building.ds) is.ks
          ((λ among. let low = (building.each at among).0 in absurd (omega (arith, low))), building.distinct)
          (λ j among. elim among [ inl e ↦ is.all j (subst (λ i. IsMet ready.slots i) (sym e) was) | inr rest ↦ is.all j (building.each j rest).1 ]) in
          omega (arith, gates, light, limit_is, heavy, step, some));
    }

-- a row that is done stays
word_kept : (old new : Circuit) (room : ℕ) (places : List Place) (w : List Entry) (meaning : Inputs → ℕ) → Extends old new room → IsWordOf old places w meaning → IsWordOf new places w meaning
word_kept old new room places w meaning ext is = record {
  there = λ k. below_kept old new room (entry_at w k) ext (is.there k);
  value = λ i v a gives o. is.value i v a gives (ext.obeys v o);
}

bit_kept : (old new : Circuit) (room : ℕ) (places : List Place) (e : Entry) (meaning : Inputs → Bool) → Extends old new room → IsBitOf old places e meaning → IsBitOf new places e meaning
bit_kept old new room places e meaning ext is = record {
  there = below_kept old new room e ext is.there;
  value = λ i v a gives o. is.value i v a gives (ext.obeys v o);
}

-- the rows that were there stand where they stood
record Keeps (old new : Rows) (at : ℕ) : Type 0 where
  places : new.places ≡ old.places
  covers : length new.slots ≡ length old.slots
  slots : (k : ℕ) → k ≢ at → slice_index new.slots k ≡ slice_index old.slots k
  words : (k : ℕ) → k < length old.words.items → (k < length new.words.items) × (get_or new.words.items k [] ≡ get_or old.words.items k [])
  bits : (k : ℕ) → k < length old.bits.items → (k < length new.bits.items) × (get_or new.bits.items k T ≡ get_or old.bits.items k T)

row_kept : (g : Terms) (before after : Circuit) (room : ℕ) (old new : Rows) (at k : ℕ) (n : Node) → Extends before after room → Keeps old new at → k ≢ at →
    HasRow g before old k n → HasRow g after new k n
row_kept g before after room old new at k (Word n) ext keeps ne is =
    let slot = keeps.slots k ne in
    let kept = keeps.words (slice_index old.slots k - 1) is.within in
    let same : word_row new k ≡ word_row old k = ap (λ s. get_or new.words.items (s - 1) []) slot ∙ kept.1 in
    record {
      covered = (let covered = is.covered in let covers = keeps.covers in omega (arith, covered, covers));
      done = (let done = is.done in omega (arith, done, slot));
      within = (let within = kept.0 in omega (arith, within, slot));
      is = subst (λ (ps : Vec Place Global). IsWordOf after ps.items (word_row new k) (λ i. value i g k)) (sym keeps.places)
          (subst (λ (w : List Entry). IsWordOf after old.places.items w (λ i. value i g k)) (sym same)
          (word_kept before after room old.places.items (word_row old k) (λ i. value i g k) ext is.is));
    }
row_kept g before after room old new at k (Bit n) ext keeps ne is =
    let slot = keeps.slots k ne in
    let kept = keeps.bits (slice_index old.slots k - 1) is.within in
    let same : bit_row new k ≡ bit_row old k = ap (λ s. get_or new.bits.items (s - 1) T) slot ∙ kept.1 in
    record {
      covered = (let covered = is.covered in let covers = keeps.covers in omega (arith, covered, covers));
      done = (let done = is.done in omega (arith, done, slot));
      within = (let within = kept.0 in omega (arith, within, slot));
      is = subst (λ (ps : Vec Place Global). IsBitOf after ps.items (bit_row new k) (λ i. value i g k == 1)) (sym keeps.places)
          (subst (λ (e : Entry). IsBitOf after old.places.items e (λ i. value i g k == 1)) (sym same)
          (bit_kept before after room old.places.items (bit_row old k) (λ i. value i g k == 1) ext is.is));
    }

length_push : {X : Type 0} (xs : List X) (x : X) → length (xs ++ x ∷ []) ≡ length xs + 1
length_push [] x = refl
length_push (y ∷ xs) x = let h = length_push xs x in omega (arith, h)

get_pushed : {X : Type 0} (old new : List X) (x d : X) → new ≡ old ++ x ∷ [] → (k : ℕ) → k < length old → (k < length new) × (get_or new k d ≡ get_or old k d)
get_pushed {X = X} old new x d e k h =
    let long : length new ≡ length old + 1 = ap length e ∙ length_push old x in
    (omega (arith, h, long), ap (λ (xs : List X). get_or xs k d) e ∙ get_or-append old (x ∷ []) d k h)

get_same : {X : Type 0} (old new : List X) (d : X) → new ≡ old → (k : ℕ) → k < length old → (k < length new) × (get_or new k d ≡ get_or old k d)
get_same {X = X} old new d e k h = (let long : length new ≡ length old = ap length e in omega (arith, h, long), ap (λ (xs : List X). get_or xs k d) e)

keeps : (g : Terms) (c : Circuit) (old new : Rows) (at : ℕ) (n : Node) → new.places ≡ old.places → AddsRow g c old new at n → Keeps old new at
keeps g c old new at (Word n) places adds = record {
  places = places;
  covers = ap length adds.3 ∙ length-set old.slots at (length old.words.items + 1);
  slots = λ k ne. ap (λ (s : List ℕ). slice_index s k) adds.3 ∙ get_or-set_other old.slots at k (length old.words.items + 1) 0 ne;
  words = get_pushed old.words.items new.words.items adds.0 [] adds.1;
  bits = get_same old.bits.items new.bits.items T (ap (λ (v : Vec Entry Global). v.items) adds.2);
}
keeps g c old new at (Bit n) places adds = record {
  places = places;
  covers = ap length adds.3 ∙ length-set old.slots at (length old.bits.items + 1);
  slots = λ k ne. ap (λ (s : List ℕ). slice_index s k) adds.3 ∙ get_or-set_other old.slots at k (length old.bits.items + 1) 0 ne;
  words = get_same old.words.items new.words.items [] (ap (λ (v : Vec (List Entry) Global). v.items) adds.2);
  bits = get_pushed old.bits.items new.bits.items adds.0 T adds.1;
}

-- the new row
new_row : (g : Terms) (c : Circuit) (old new : Rows) (at : ℕ) (n : Node) → at < length old.slots → new.places ≡ old.places → AddsRow g c old new at n → HasRow g c new at n
new_row g c old new at (Word n) within places adds =
    let p = length old.words.items in
    let slot : slice_index new.slots at ≡ p + 1 = ap (λ (s : List ℕ). slice_index s at) adds.3 ∙ get_or-set_same old.slots at (p + 1) 0 within in
    let less : slice_index new.slots at - 1 ≡ p = omega (arith, slot) in
    let long : length new.words.items ≡ p + 1 = ap length adds.1 ∙ length_push old.words.items adds.0 in
    let covers : length new.slots ≡ length old.slots = ap length adds.3 ∙ length-set old.slots at (p + 1) in
    let row : word_row new at ≡ adds.0 = ap (λ k. get_or new.words.items k []) less ∙ ap (λ (ws : List (List Entry)). get_or ws p []) adds.1 ∙ get_or-append_seam old.words.items adds.0 [] [] in
    record {
      covered = omega (arith, within, covers);
      done = omega (arith, slot);
      within = omega (arith, less, long);
      is = subst (λ (ps : Vec Place Global). IsWordOf c ps.items (word_row new at) (λ i. value i g at)) (sym places)
          (subst (λ (w : List Entry). IsWordOf c old.places.items w (λ i. value i g at)) (sym row) adds.4);
    }
new_row g c old new at (Bit n) within places adds =
    let p = length old.bits.items in
    let slot : slice_index new.slots at ≡ p + 1 = ap (λ (s : List ℕ). slice_index s at) adds.3 ∙ get_or-set_same old.slots at (p + 1) 0 within in
    let less : slice_index new.slots at - 1 ≡ p = omega (arith, slot) in
    let long : length new.bits.items ≡ p + 1 = ap length adds.1 ∙ length_push old.bits.items adds.0 in
    let covers : length new.slots ≡ length old.slots = ap length adds.3 ∙ length-set old.slots at (p + 1) in
    let row : bit_row new at ≡ adds.0 = ap (λ k. get_or new.bits.items k T) less ∙ ap (λ (es : List Entry). get_or es p T) adds.1 ∙ get_or-append_seam old.bits.items adds.0 [] T in
    record {
      covered = omega (arith, within, covers);
      done = omega (arith, slot);
      within = omega (arith, less, long);
      is = subst (λ (ps : Vec Place Global). IsBitOf c ps.items (bit_row new at) (λ i. value i g at == 1)) (sym places)
          (subst (λ (e : Entry). IsBitOf c old.places.items e (λ i. value i g at == 1)) (sym row) adds.4);
    }

lengths : (g : Terms) (c : Circuit) (old new : Rows) (at : ℕ) (n : Node) → AddsRow g c old new at n → length old.words.items ≤ at → length old.bits.items ≤ at →
    (length new.words.items ≤ at + 1) × (length new.bits.items ≤ at + 1)
lengths g c old new at (Word n) adds few_words few_bits =
    let long : length new.words.items ≡ length old.words.items + 1 = ap length adds.1 ∙ length_push old.words.items adds.0 in
    let same : length new.bits.items ≡ length old.bits.items = ap (λ (v : Vec Entry Global). length v.items) adds.2 in
    (omega (arith, long, few_words), omega (arith, same, few_bits))
lengths g c old new at (Bit n) adds few_words few_bits =
    let long : length new.bits.items ≡ length old.bits.items + 1 = ap length adds.1 ∙ length_push old.bits.items adds.0 in
    let same : length new.words.items ≡ length old.words.items = ap (λ (v : Vec (List Entry) Global). length v.items) adds.2 in
    (omega (arith, same, few_words), omega (arith, long, few_bits))

building_new : (g : Terms) (ready old new : Rows) (limit : ℕ) (before after : Circuit) (at : ℕ) (n : Node) → Building g ready limit before old at → slice_get g.nodes at ≡ Some n →
    IsMet old.slots at → IsBuiltRow g before after old new at n → Building g ready limit after new (at + 1)
building_new g ready old new limit before after at n is at_k m built =
    let kept = keeps g after old new at n built.places built.adds in
    let slot = is.rest at (omega arith) in
    let was : IsMet ready.slots at = omega (arith, m, slot) in
    let within : at < length old.slots = met_within old.slots at m in
    let long = lengths g after old new at n built.adds is.few_words is.few_bits in
    record {
      inputs = built.extends.same_inputs ∙ is.inputs;
      same_limit = built.extends.same_limit ∙ is.same_limit;
      places = built.places ∙ is.places;
      covers = kept.covers ∙ is.covers;
      few_words = long.0;
      few_bits = long.1;
      done = λ k x below mk at_x. elim (cases_eq k at) [
        | inl e ↦
            (let same : n ≡ x = (let there = subst (λ j. slice_get g.nodes j ≡ Some x) e at_x in cc) in
            subst (λ (j : ℕ). HasRow g after new j x) (sym e) (subst (λ (y : Node). HasRow g after new at y) same (new_row g after old new at n within built.places built.adds)))
        | inr ne ↦ row_kept g before after (weight n) old new at k x built.extends kept ne (is.done k x (omega (arith, below, ne)) mk at_x)
      ];
      rest = λ k low. kept.slots k (omega (arith, low)) ∙ is.rest k (omega (arith, low));
      ds = at ∷ is.ds;
      distinct = ((λ among. let low = (is.each at among).0 in absurd (omega (arith, low))), is.distinct);
      each = λ j among. elim among [
        | inl e ↦ (omega (arith, e), subst (λ i. IsMet ready.slots i) (sym e) was)
        | inr rest ↦ let old_one = is.each j rest in let low = old_one.0 in (omega (arith, low), old_one.1)
      ];
      gates =
          (let most = built.extends.most in let gates = is.gates in let step = sum_by-cons (weight_at g) at is.ds in
          let heavy : weight_at g at ≡ weight n = ap (λ o. weight_in o) at_k in omega (arith, most, gates, step, heavy));
    } where
      met_within : (slots : List ℕ) (k : ℕ) → IsMet slots k → k < length slots
      met_within [] k m = absurd (omega (arith, m))
      met_within (s ∷ slots) zero m = omega arith
      met_within (s ∷ slots) (suc k) m = let rest = met_within slots k m in omega (arith, rest)

building_idle : (g : Terms) (ready r : Rows) (limit : ℕ) (c : Circuit) (at : ℕ) → slice_index r.slots at ≡ 0 → Building g ready limit c r at → Building g ready limit c r (at + 1)
building_idle g ready r limit c at idle is =
    let slot = is.rest at (omega arith) in
    record {
      inputs = is.inputs;
      same_limit = is.same_limit;
      places = is.places;
      covers = is.covers;
      few_words = (let few = is.few_words in omega (arith, few));
      few_bits = (let few = is.few_bits in omega (arith, few));
      done = λ k x below mk at_x. elim (cases_eq k at) [
        | inl e ↦ absurd (let zero_is : slice_index ready.slots k ≡ 0 = ap (slice_index ready.slots) e ∙ sym slot ∙ idle in omega (arith, mk, zero_is))
        | inr ne ↦ is.done k x (omega (arith, below, ne)) mk at_x
      ];
      rest = λ k low. is.rest k (omega (arith, low));
      ds = is.ds;
      distinct = is.distinct;
      each = λ j among. let old_one = is.each j among in let low = old_one.0 in (omega (arith, low), old_one.1);
      gates = is.gates;
    }

pub building_more : (g : Terms) (ready old new : Rows) (limit : ℕ) (before after : Circuit) (at : ℕ) → IsReady g limit ready → Building g ready limit before old at →
    Builds g before after old new at → Building g ready limit after new (at + 1)
building_more g ready old new limit before after at whole is builds = elim builds [
  | inl (idle, same_circuit, same_rows) ↦
      subst (λ (c : Circuit). Building g ready limit c new (at + 1)) (sym same_circuit)
      (subst (λ (r : Rows). Building g ready limit before r (at + 1)) (sym same_rows) (building_idle g ready old limit before at idle is))
  | inr (n, at_k, m, built) ↦ building_new g ready old new limit before after at n is at_k m built
]
