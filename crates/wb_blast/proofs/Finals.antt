-- What the formula of some bits says.
use Rattle.std.proofs.Common.{◌≡◌, ℕ, zero, suc, ◌<◌, ◌≤◌, Bool, true, false, ◌&&◌, List, [], ◌∷◌, length, Some, slice_get, slice_index, get_or, refl, sym, ◌∙◌, ap, subst, arith, Vec, Global}
use Rattle.std.proofs.lemmas.List.Folds.{list_all-append}
use Rattle.std.proofs.lemmas.Option.{slice_get_within}
use Rattle.wb_gate.specs.declared.gates.Goal.{Goal}
use Rattle.wb_gate.specs.Circuit.{Circuit, Assignment, variables, IsCircuit, Obeys}
use Rattle.wb_gate.specs.Clauses.{Satisfies, SatisfiesAll, satisfies_clause, gates_clauses, goal_clauses}
use Rattle.wb_gate.specs.Laws.{ClausesSayTheGates, InputsDecide}
use Rattle.wb_term.specs.declared.nodes.BitId.{BitId}
use Rattle.wb_term.specs.declared.nodes.Node.TheVariants.{Bit}
use Rattle.wb_term.specs.Inputs.{Assignment as Inputs, IsAssignment}
use Rattle.wb_term.specs.Terms.{Terms, IsGraph, HasBit}
use Rattle.wb_term.specs.Values.{bit_value}
use Rattle.wb_equal.specs.declared.entries.Entry.{Entry}
use Rattle.wb_equal.specs.declared.entries.Entry.TheVariants.{T, F}
use Rattle.wb_equal.specs.declared.entries.Entry.TheVariants as entry
use Rattle.wb_blast.specs.declared.meeting.Met.{Met}
use Rattle.wb_blast.specs.declared.places.Place.{Place}
use Rattle.wb_blast.specs.declared.places.Place.TheVariants.{Byte, Cell}
use Rattle.wb_blast.specs.declared.rows.Rows.{Rows}
use Rattle.wb_blast.specs.Blasting.{IsBlasted, AreBlasted, goal_of}
use Rattle.wb_blast.specs.Building.{Building}
use Rattle.wb_equal.specs.Entries.{entry_value, EntryBelow}
use Rattle.wb_blast.specs.Meeting.{HasMet}
use Rattle.wb_blast.specs.Number.{weight_at}
use Rattle.wb_blast.specs.Places.{place_value, GivesInputs, IsPlaceUnder, ArePlaces}
use Rattle.wb_blast.specs.Rows.{HasBitRow, HasBitRows, AreBitRows}
use Rattle.wb_blast.specs.Words.{entry_at}
use Rattle.wb_blast.proofs.Appended.{get_none}
use Rattle.wb_blast.proofs.Builds.{bit_at}
use Rattle.wb_blast.proofs.Given.{inputs_given, are_inputs, gives_inputs}
use Rattle.wb_blast.proofs.Lists.{sum_of_some}
use Rattle.wb_blast.proofs.Owners.{IsInRange}

-- Nothing is done yet.
pub begun : (g : Terms) (bits : List BitId) (met : Met) (r : Rows) (limit : ℕ) (c : Circuit) → HasMet g bits met → r.slots ≡ met.slots → r.words.items ≡ [] → r.bits.items ≡ [] →
    c ≡ record { inputs = length r.places.items; limit = limit; gates = []; goal = Goal.Never } → Building g r limit c r 0
begun g bits met r limit c is same words entries empty = record {
  inputs = ap (λ (x : Circuit). x.inputs) empty;
  same_limit = ap (λ (x : Circuit). x.limit) empty;
  places = refl;
  covers = ap length same ∙ is.covers;
  few_words = (let n = ap length words in omega (arith, n));
  few_bits = (let n = ap length entries in omega (arith, n));
  done = λ k n below. absurd (omega (arith, below));
  rest = λ k low. refl;
  ds = [];
  distinct = search;
  each = λ j among. absurd among;
  gates = (let n : length c.gates ≡ 0 = ap (λ (x : Circuit). length x.gates) empty in omega (arith, n));
}

-- the rows of the bits
pub bit_done : (g : Terms) (bits : List BitId) (met : Met) (ready r : Rows) (limit : ℕ) (c : Circuit) → ready.slots ≡ met.slots → HasMet g bits met →
    Building g ready limit c r (length g.nodes) → ((k : ℕ) (bit : BitId) → slice_get bits k ≡ Some bit → HasBit g bit) → (k : ℕ) (bit : BitId) → slice_get bits k ≡ Some bit → HasBitRow g c r bit.number
bit_done g bits met ready r limit c same is building there k bit e =
    let node = bit_at (slice_get g.nodes bit.number) (there k bit e) in
    building.done bit.number (Bit node.0) (slice_get_within g.nodes bit.number (Bit node.0) node.1)
    (subst (λ (s : List ℕ). 0 < slice_index s bit.number) (sym same) (is.roots k bit e)) node.1

pub bits_done : (g : Terms) (bits : List BitId) (met : Met) (ready r : Rows) (limit : ℕ) (c : Circuit) → ready.slots ≡ met.slots → HasMet g bits met →
    Building g ready limit c r (length g.nodes) → ((k : ℕ) (bit : BitId) → slice_get bits k ≡ Some bit → HasBit g bit) → HasBitRows r bits
bits_done g bits met ready r limit c same is building there = record {
  covered = λ k bit e. (bit_done g bits met ready r limit c same is building there k bit e).covered;
  done = λ k bit e. (bit_done g bits met ready r limit c same is building there k bit e).done;
  within = λ k bit e. (bit_done g bits met ready r limit c same is building there k bit e).within;
}

pub all_done : (g : Terms) (bits : List BitId) (met : Met) (ready r : Rows) (limit : ℕ) (c : Circuit) (entries : List Entry) → ready.slots ≡ met.slots → ready.places ≡ met.places →
    HasMet g bits met → met.weight ≤ limit → Building g ready limit c r (length g.nodes) → ((k : ℕ) (bit : BitId) → slice_get bits k ≡ Some bit → HasBit g bit) →
    AreBitRows r bits entries → AreBlasted g bits limit c r.places.items entries
all_done g bits met ready r limit c entries same same_places is within building there rows =
    let places : r.places ≡ met.places = building.places ∙ same_places in
    record {
      meant = record {
        counted = rows.counted;
        there = λ k bit e. subst (λ (x : Entry). EntryBelow (variables c) x) (sym (rows.same k bit e)) (bit_done g bits met ready r limit c same is building there k bit e).is.there;
        value = λ i v a gives o k bit e. ap (entry_value v) (rows.same k bit e) ∙ (bit_done g bits met ready r limit c same is building there k bit e).is.value i v a gives o;
        same = λ j k bit e f. rows.same j bit e ∙ sym (rows.same k bit f);
      };
      inputs = building.inputs ∙ ap (λ (ps : Vec Place Global). length ps.items) (sym building.places);
      wanted = subst (λ (ps : Vec Place Global). ArePlaces g bits ps.items) (sym places) is.wanted;
      gates = record {
        number = met.weight;
        is = is.number;
        within = within;
        few =
            (let some = sum_of_some (weight_at g) building.ds is.number.ks building.distinct
            (λ j among. is.number.nodes.all j (is.sound j (subst (λ (s : List ℕ). 0 < slice_index s j) same (building.each j among).1))) in
            let gates = building.gates in let total = is.number.total in omega (arith, some, gates, total));
      };
    }

-- places are in their ranges
pub in_range : (g : Terms) (bits : List BitId) (ps : List Place) → IsGraph g → ArePlaces g bits ps → (k : ℕ) (q : Place) → slice_get ps k ≡ Some q → IsInRange q
in_range g bits ps graph are k q e = by_place g bits q graph (are.under k q e) where
  by_place : (g : Terms) (bits : List BitId) (q : Place) → IsGraph g → IsPlaceUnder g bits q → IsInRange q
  by_place g bits (Byte place b) graph under = (graph.placed under.1 _ under.2, under.0)
  by_place g bits (Cell place b) graph under = (graph.placed under.1 _ under.2, under.0)

-- the values of the places
abbrev value_at : Inputs → List Place → ℕ → Bool
value_at i [] x = false
value_at i (p ∷ ps) zero = place_value i p
value_at i (p ∷ ps) (suc x) = value_at i ps x

value_at_is : (i : Inputs) (ps : List Place) (x : ℕ) (p : Place) → slice_get ps x ≡ Some p → value_at i ps x ≡ place_value i p
value_at_is i [] x p e = absurd (get_none x p e)
value_at_is i (q ∷ ps) zero p e = (let same : q ≡ p = cc in ap (place_value i) same)
value_at_is i (q ∷ ps) (suc x) p e = value_at_is i ps x p e

-- the goal is met where the entry is true
goal_met : (v : Assignment) (e : Entry) → SatisfiesAll v (goal_clauses (goal_of e)) → entry_value v e ≡ true
goal_met v T h = refl
goal_met v F h = absurd (cc)
goal_met v (entry.Lit l) h = grind (arith, h)

goal_true : (v : Assignment) (e : Entry) → entry_value v e ≡ true → SatisfiesAll v (goal_clauses (goal_of e))
goal_true v T h = refl
goal_true v F h = absurd (cc)
goal_true v (entry.Lit l) h = grind (arith, h)

both : (a b : Bool) → (a && b) ≡ true → (a ≡ true) × (b ≡ true)
both true b h = (refl, h)
both false b h = absurd (cc)

abbrev with_goal : Circuit → Entry → Circuit
with_goal c e = record c { goal = goal_of e }

obeys_before : (c : Circuit) (e : Entry) (v : Assignment) → Obeys v (with_goal c e) → Obeys v c
obeys_before c e v o = record { at = o.at }

satisfied_parts : (c : Circuit) (e : Entry) (v : Assignment) → ClausesSayTheGates → Satisfies v (with_goal c e) → Obeys v (with_goal c e) × (entry_value v e ≡ true)
satisfied_parts c e v say sat =
    let parts = both _ _ (sym (list_all-append (satisfies_clause v) (gates_clauses (with_goal c e)) (goal_clauses (goal_of e))) ∙ sat) in
    (say.obeyed (with_goal c e) v parts.0, goal_met v e parts.1)

satisfied_whole : (c : Circuit) (e : Entry) (v : Assignment) → ClausesSayTheGates → Obeys v (with_goal c e) → entry_value v e ≡ true → Satisfies v (with_goal c e)
satisfied_whole c e v say o h =
    list_all-append (satisfies_clause v) (gates_clauses (with_goal c e)) (goal_clauses (goal_of e))
    ∙ rw (say.satisfied (with_goal c e) v o) (goal_true v e h)

pub blasted_is : (g : Terms) (bit : BitId) (limit : ℕ) (c : Circuit) (places : List Place) (entries : List Entry) (e : Entry) → ClausesSayTheGates → InputsDecide → IsGraph g →
    IsCircuit (with_goal c e) → e ≡ entry_at entries 0 → AreBlasted g (bit ∷ []) limit c places entries → IsBlasted g bit limit (with_goal c e) places
blasted_is g bit limit c places entries e say decide graph circuit same are =
    let means : (i : Inputs) (v : Assignment) → IsAssignment i → GivesInputs v places i → Obeys v (with_goal c e) → entry_value v e ≡ bit_value i g bit =
    λ i v a gives o. ap (entry_value v) same ∙ are.meant.value i v a gives (obeys_before c e v o) 0 bit refl in
    record {
      assigns = λ i a. (
        λ has.
            let parts = satisfied_parts c e has.0 say has.1 in
            sym (means i has.0 a has.2 parts.0) ∙ parts.1,
        λ true_bit.
            let some = decide.some (with_goal c e) (value_at i places) circuit in
            let inputs = are.inputs in
            let gives : GivesInputs some.0 places i = record {
              given = λ x p at. some.2 x (let within = slice_get_within places x p at in omega (arith, within, inputs)) ∙ value_at_is i places x p at;
            } in
            (some.0, satisfied_whole c e some.0 say some.1 (means i some.0 a gives some.1 ∙ true_bit), gives),
      );
      exactly = λ v. (
        λ sat.
            let parts = satisfied_parts c e v say sat in
            let i = inputs_given v places in
            let a = are_inputs v places in
            let gives = gives_inputs v places (in_range g (bit ∷ []) places graph are.wanted) are.wanted.once in
            (parts.0, i, a, gives, sym (means i v a gives parts.0) ∙ parts.1),
        λ is. satisfied_whole c e v say is.0 (means is.1 v is.2 is.3 is.0 ∙ is.4),
      );
      inputs = are.inputs;
      wanted = are.wanted;
      gates = record { number = are.gates.number; is = are.gates.is; within = are.gates.within; few = are.gates.few };
    }

-- the entry of a single bit
pub first_entry : (es : List Entry) (d : Entry) → length es ≡ 1 → get_or es 0 d ≡ entry_at es 0
first_entry [] d one = absurd (omega (arith, one))
first_entry (e ∷ es) d one = refl
