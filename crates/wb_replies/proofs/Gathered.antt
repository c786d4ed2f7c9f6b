-- Circuits of request states, one after another, and what they tell of a layer.
use Rattle.std.proofs.Common.{◌≡◌, ℕ, ◌+◌, ◌*◌, ◌^◌, ◌<◌, ◌≤◌, Bool, true, false, ◌||◌, cond, Result, Ok, Err, IfOk, List, [], ◌∷◌, ◌++◌, ◌⊎◌, inl, inr, Some, length, take, take_all, refl, sym, ap, subst, ◌∙◌, arith}
use Rattle.std.specs.Prelude.{Contains, slice_get}
use Rattle.std.proofs.lemmas.List.Elements.{Contains-append_left, Contains-push, Contains-push_cases}
use Rattle.wb_rom.specs.declared.images.Image.{Image}
use Rattle.wb_term.specs.declared.nodes.Node.{Node}
use Rattle.wb_term.specs.Inputs.{Assignment, IsAssignment}
use Rattle.wb_term.specs.Terms.{Terms, HasBit}
use Rattle.wb_term.specs.Values.{IsBit, word_value, bit_value}
use Rattle.wb_term.specs.Under.{HasOnly}
use Rattle.wb_term.specs.Growth.{Grown, AddsAtMost}
use Rattle.wb_port.specs.declared.chips.Chip.{Chip}
use Rattle.wb_port.specs.Port.{status_byte, byte_read}
use Rattle.wb_symstep.specs.State.{StandsFor, IsSymState, StateHasOnly}
use Rattle.wb_symstep.specs.Laws.{StatesStay, GrowthKeepsStates}
use Rattle.wb_symport.specs.Transfer.{IsTold}
use Rattle.wb_law.specs.Requests.{RequestsAreOne}
use Rattle.wb_explore.specs.declared.plan.Plan.{Plan}
use Rattle.wb_explore.specs.declared.layer.Request.{Request}
use Rattle.wb_explore.specs.Runs.{Asks}
use Rattle.wb_explore.specs.Plans.{runs_of, is_chosen}
use Rattle.wb_explore.specs.Layers.{Requests, IsRequest, IsLayer}
use Rattle.wb_replies.specs.declared.circuit.ReplyCircuit.{ReplyCircuit}
use Rattle.wb_replies.specs.Circuits.{IsCircuit, CircuitHasOnly, TellsReplies}
use Rattle.wb_replies.specs.Gathering.{IsEither, IsAlso, IsToldBySome, Gathers}
use Rattle.wb_replies.proofs.Growth.{◌▸◌}
use Rattle.wb_replies.proofs.Lists.{listed_none, listed_at, taken_more}

or_true : (b : Bool) → (b || true) ≡ true
or_true true = refl
or_true false = refl

or_false : (b : Bool) → (b || false) ≡ b
or_false true = refl
or_false false = refl

-- of no request states
pub gathers_none : (old new : Terms) (allowed : Node → Bool) (c : ReplyCircuit) → IsCircuit new c → CircuitHasOnly new allowed c
    → IsBit new c.present (λ _. false) → (qs : List Request) → length qs ≡ 0 → Gathers old new allowed qs c
gathers_none old new allowed c there only never [] none = record {
  there = there;
  only = only;
  all = λ i ok q listed holds. absurd (listed_none q listed);
  some = λ i ok present. absurd (let e = never.value i ok in let f : true ≡ false = sym present ∙ e in cc);
}
gathers_none old new allowed c there only never (q ∷ qs) none = absurd (omega arith)

-- of one request state
pub gathers_one : (old new : Terms) (allowed : Node → Bool) (q : Request) (c : ReplyCircuit) → Grown old new → HasBit old q.cond
    → IsCircuit new c → CircuitHasOnly new allowed c → c.present ≡ q.cond
    → IsTold old new q.state c.status status_byte → IsTold old new q.state c.read byte_read → Gathers old new allowed (q ∷ []) c
gathers_one old new allowed q c grown has there only present status read = record {
  there = there;
  only = only;
  all = λ i ok r listed holds. here i ∙ subst (λ (s : Request). bit_value i old s.cond ≡ true) (sym (itself r listed)) holds;
  some = λ i ok holds. record {
    request = q;
    listed = Contains-push [] q;
    holds = sym (here i) ∙ holds;
    status = λ m stands. status.value i ok m stands;
    read = λ m stands. read.value i ok m stands;
  };
}
  where
    here : (i : Assignment) → bit_value i new c.present ≡ bit_value i old q.cond
    here i = ap (bit_value i new) present ∙ grown.bit_values i q.cond has

    itself : (r : Request) → Contains (q ∷ []) r → q ≡ r
    itself r h = elim (Contains-push_cases [] q r h) [ inl a ↦ absurd (listed_none r a) | inr b ↦ b ]

-- and of one more
pub gathers_more : (old new after : Terms) (allowed : Node → Bool) (qs : List Request) (q : Request) (before c : ReplyCircuit) → Grown old new → StatesStay old new
    → IsSymState old q.state → HasBit old q.cond → Gathers old new allowed qs before
    → IsCircuit after c → CircuitHasOnly after allowed c → IsAlso new after before q c → Gathers old after allowed (qs ++ q ∷ []) c
gathers_more old new after allowed qs q before c grown stay state has so there only also = record {
  there = there;
  only = only;
  all = λ i ok r listed holds. by_listed i ok r holds (Contains-push_cases qs q r listed);
  some = λ i ok present. by_cond i ok present (bit_value i old q.cond) refl;
}
  where
    here : (i : Assignment) → bit_value i new q.cond ≡ bit_value i old q.cond
    here i = grown.bit_values i q.cond has

    either : (i : Assignment) → IsAssignment i → bit_value i after c.present ≡ (bit_value i new before.present || bit_value i old q.cond)
    either i ok = also.present i ok ∙ ap (λ (b : Bool). bit_value i new before.present || b) (here i)

    by_listed : (i : Assignment) → IsAssignment i → (r : Request) → bit_value i old r.cond ≡ true → Contains qs r ⊎ (q ≡ r) → bit_value i after c.present ≡ true
    by_listed i ok r holds (inl listed) = either i ok ∙ ap (λ (b : Bool). b || bit_value i old q.cond) (so.all i ok r listed holds)
    by_listed i ok r holds (inr same) =
        either i ok ∙ ap (λ (b : Bool). bit_value i new before.present || b) (subst (λ (s : Request). bit_value i old s.cond ≡ true) (sym same) holds)
        ∙ or_true (bit_value i new before.present)

    by_cond : (i : Assignment) → IsAssignment i → bit_value i after c.present ≡ true → (b : Bool) → bit_value i old q.cond ≡ b → IsToldBySome old after (qs ++ q ∷ []) i c
    by_cond i ok present true holds = record {
      request = q;
      listed = Contains-push qs q;
      holds = holds;
      status = λ m stands. also.status i ok (here i ∙ holds) m (stay.stands i q.state m state stands);
      read = λ m stands. also.read i ok (here i ∙ holds) m (stay.stands i q.state m state stands);
    }
    by_cond i ok present false fails =
        let earlier = sym (or_false (bit_value i new before.present)) ∙ ap (λ (b : Bool). bit_value i new before.present || b) (sym fails) ∙ sym (either i ok) ∙ present in
        let some = so.some i ok earlier in
        record {
          request = some.request;
          listed = Contains-append_left qs (q ∷ []) some.request some.listed;
          holds = some.holds;
          status = λ m stands. also.status_before i ok (here i ∙ fails) ∙ some.status m stands;
          read = λ m stands. also.read_before i ok (here i ∙ fails) ∙ some.read m stands;
        }

-- what a circuit of all request states of a layer tells
pub told_of_layer : RequestsAreOne → (old new : Terms) (image : Image) (l : Requests) (allowed : Node → Bool) (c : ReplyCircuit) → IsLayer old image l
    → Gathers old new allowed l.requests c → TellsReplies new image l.plan c
unfolding status_byte byte_read
told_of_layer one old new image l allowed c layer so = record {
  present = λ i ok. (asks i ok, present i ok);
  status = λ i ok d asks. let t = some_at i ok d asks in ap (λ (n : ℕ). Some n) (sym (t.0.status d.machine t.1));
  read = λ i ok d asks. let t = some_at i ok d asks in ap (λ (n : ℕ). Some n) (sym (t.0.read d.machine t.1));
}
  where
    asks : (i : Assignment) → IsAssignment i → bit_value i new c.present ≡ true → (d : Chip) × Asks (runs_of image l.plan) i d
    asks i ok holds =
        let some = so.some i ok holds in
        let at = layer.requests.sound some.request some.listed i ok some.holds in
        (at.0, at.1)

    present : (i : Assignment) → IsAssignment i → ((d : Chip) × Asks (runs_of image l.plan) i d) → bit_value i new c.present ≡ true
    present i ok (d, h) = let at = layer.requests.complete i ok d h in so.all i ok at.entry at.listed at.is_at.holds

    some_at : (i : Assignment) → IsAssignment i → (d : Chip) → Asks (runs_of image l.plan) i d → (t : IsToldBySome old new l.requests i c) × StandsFor i old t.request.state d.machine
    some_at i ok d h =
        let some = so.some i ok (present i ok (d, h)) in
        let at = layer.requests.sound some.request some.listed i ok some.holds in
        let same = one image (runs_of image l.plan).pace ((runs_of image l.plan).talk i).accesses _ at.0 d at.1 h in
        (some, subst (λ (e : Chip). StandsFor i old some.request.state e.machine) same at.2)

-- one circuit for a circuit and the replies at a request state
pub also_of : (old mid new : Terms) (before here c : ReplyCircuit) (q : Request) → Grown old mid → IsCircuit old before → HasBit old q.cond → here.present ≡ q.cond
    → IsTold old mid q.state here.status status_byte → IsTold old mid q.state here.read byte_read → IsEither mid new before here c → IsAlso old new before q c
also_of old mid new before here c q grown there has present status read either = record {
  present = λ i ok. either.present.value i ok ∙ ap (λ (b : Bool). b || bit_value i mid here.present) (grown.bit_values i before.present there.present) ∙ ap (λ (b : Bool). bit_value i old before.present || b) (cond_here i);
  status = λ i ok holds m stands. either.status.value i ok ∙ ap (λ (b : Bool). cond b (word_value i mid here.status) (word_value i mid before.status)) (cond_here i ∙ holds) ∙ status.value i ok m stands;
  read = λ i ok holds m stands. either.read.value i ok ∙ ap (λ (b : Bool). cond b (word_value i mid here.read) (word_value i mid before.read)) (cond_here i ∙ holds) ∙ read.value i ok m stands;
  status_before = λ i ok fails. either.status.value i ok ∙ ap (λ (b : Bool). cond b (word_value i mid here.status) (word_value i mid before.status)) (cond_here i ∙ fails) ∙ grown.word_values i before.status there.status;
  read_before = λ i ok fails. either.read.value i ok ∙ ap (λ (b : Bool). cond b (word_value i mid here.read) (word_value i mid before.read)) (cond_here i ∙ fails) ∙ grown.word_values i before.read there.read;
}
  where
    cond_here : (i : Assignment) → bit_value i mid here.present ≡ bit_value i old q.cond
    cond_here i = ap (bit_value i mid) present ∙ grown.bit_values i q.cond has

-- the first request states of a layer, gathered
pub record Gathering (g0 g : Terms) (allowed : Node → Bool) (qs : List Request) (at : ℕ) (c : ReplyCircuit) : Type 0 where
  pub gathers : Gathers g0 g allowed (take at qs) c
  pub grown : Grown g0 g
  pub adds : AddsAtMost g0 g (35 * at) (545 * at)

pub gathering_first : (p : Plan) (g0 g : Terms) (qs : List Request) (q : Request) (c : ReplyCircuit) → IsRequest g0 p q → slice_get qs 0 ≡ Some q
    → IsCircuit g c → ((allowed : Node → Bool) → HasOnly g0 allowed q.cond.number → StateHasOnly g0 allowed q.state → CircuitHasOnly g allowed c)
    → c.present ≡ q.cond → IsTold g0 g q.state c.status status_byte → IsTold g0 g q.state c.read byte_read
    → Grown g0 g → AddsAtMost g0 g 32 512 → Gathering g0 g (is_chosen p.kinds p.power) qs 1 c
gathering_first p g0 g qs q c is at there only present status read grown adds = record {
  gathers = subst (λ (rs : List Request). Gathers g0 g (is_chosen p.kinds p.power) rs c) (sym (taken_more qs 0 q at))
      (gathers_one g0 g (is_chosen p.kinds p.power) q c grown is.cond there (only (is_chosen p.kinds p.power) is.cond_inputs is.state_inputs) present status read);
  grown = grown;
  adds = record { longer_by = omega (arith, adds.longer_by); heavier_by = omega (arith, adds.heavier_by) };
}

pub gathering_more : GrowthKeepsStates → (p : Plan) (g0 g g1 : Terms) (qs : List Request) (at : ℕ) (q : Request) (before c : ReplyCircuit) → IsRequest g0 p q → slice_get qs at ≡ Some q
    → Gathering g0 g (is_chosen p.kinds p.power) qs at before → IsCircuit g1 c
    → ((allowed : Node → Bool) → CircuitHasOnly g allowed before → HasOnly g allowed q.cond.number → StateHasOnly g allowed q.state → CircuitHasOnly g1 allowed c)
    → IsAlso g g1 before q c → Grown g g1 → AddsAtMost g g1 35 545 → Gathering g0 g1 (is_chosen p.kinds p.power) qs (at + 1) c
gathering_more keeps p g0 g g1 qs at q before c is found so there only also grown adds =
    let stay = keeps g0 g so.grown in
    let old = so.adds in
    record {
      gathers = subst (λ (rs : List Request). Gathers g0 g1 (is_chosen p.kinds p.power) rs c) (sym (taken_more qs at q found))
          (gathers_more g0 g g1 (is_chosen p.kinds p.power) (take at qs) q before c so.grown stay is.state is.cond so.gathers there
          (only (is_chosen p.kinds p.power) so.gathers.only (so.grown.bit_inputs (is_chosen p.kinds p.power) q.cond is.cond is.cond_inputs) (stay.only (is_chosen p.kinds p.power) q.state is.state is.state_inputs))
          also);
      grown = so.grown ▸ grown;
      adds = record { longer_by = omega (arith, adds.longer_by, old.longer_by); heavier_by = omega (arith, adds.heavier_by, old.heavier_by) };
    }

-- a layer's request state at a place
pub request_at : (g : Terms) (l : Requests) → ((q : Request) → Contains l.requests q → IsRequest g l.plan q) → (k : ℕ) (q : Request) → slice_get l.requests k ≡ Some q → IsRequest g l.plan q
request_at g l each k q at = each q (listed_at l.requests k q at)

-- what the next request state needs

pub next_state : GrowthKeepsStates → (p : Plan) (g0 g : Terms) (allowed : Node → Bool) (qs : List Request) (at : ℕ) (q : Request) (c : ReplyCircuit) → Gathering g0 g allowed qs at c → IsRequest g0 p q → IsSymState g q.state
next_state keeps p g0 g allowed qs at q c so is = (keeps g0 g so.grown).there q.state is.state

pub next_cond : (p : Plan) (g0 g : Terms) (allowed : Node → Bool) (qs : List Request) (at : ℕ) (q : Request) (c : ReplyCircuit) → Gathering g0 g allowed qs at c → IsRequest g0 p q → HasBit g q.cond
next_cond p g0 g allowed qs at q c so is = so.grown.bits q.cond is.cond

pub next_room : (g0 g : Terms) (allowed : Node → Bool) (qs : List Request) (at : ℕ) (c : ReplyCircuit) → Gathering g0 g allowed qs at c → at < length qs → length g0.nodes + 35 * length qs ≤ 2 ^ 31 → length g.nodes + 35 ≤ 2 ^ 31
next_room g0 g allowed qs at c so within room = omega (arith, so.adds.longer_by)

-- all of them
pub gathering_all : (g0 g : Terms) (allowed : Node → Bool) (qs : List Request) (at : ℕ) (c : ReplyCircuit) → Gathering g0 g allowed qs at c → length qs ≤ at → Gathers g0 g allowed qs c
gathering_all g0 g allowed qs at c so whole = subst (λ (rs : List Request). Gathers g0 g allowed rs c) (take_all at qs whole) so.gathers

-- what follows of a value from three clauses
pub if_three : {X Y : Type 0} (r : Result X Y) (P Q R S : X → Type 0) → IfOk r P → IfOk r Q → IfOk r R → ((x : X) → P x → Q x → R x → S x) → IfOk r S
if_three (Ok x) P Q R S p q s f = f x p q s
if_three (Err e) P Q R S p q s f = tt
