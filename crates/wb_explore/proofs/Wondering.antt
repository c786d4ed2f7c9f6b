-- The formula of an entry's condition says the question under which inputs the held run passes its point.
use Rattle.std.proofs.Common.{◌≡◌, ℕ, zero, suc, ◌<◌, Bool, true, Some, List, [], ◌∷◌, length, Result, Ok, Err, IfOk, IfErr, refl, sym, ap, subst, ◌∙◌, arith}
use Rattle.std.specs.Prelude.{slice_index_or, slice_get}
use Rattle.std.proofs.lemmas.List.Elements.{All-cons, All-nil, All-head}
use Rattle.wb_word.specs.declared.sides.Side.{Side}
use Rattle.wb_word.specs.declared.sides.Side.TheVariants as side
use Rattle.wb_rom.specs.declared.images.Image.{Image}
use Rattle.wb_term.specs.Inputs.{Assignment, IsAssignment}
use Rattle.wb_term.specs.Terms.{Terms, IsGraph}
use Rattle.wb_term.specs.Values.{bit_value}
use Rattle.wb_term.specs.declared.nodes.BitId.{BitId}
use Rattle.wb_term.specs.declared.nodes.Node.TheVariants.{Word}
use Rattle.wb_term.specs.declared.nodes.WordNode.TheVariants as word
use Rattle.wb_term.specs.Under.{IsUnder}
use Rattle.wb_solve.specs.Answers.{IsSpent}
use Rattle.wb_blast.specs.Number.{IsUnderAny}
use Rattle.wb_blast.specs.declared.places.Place.TheVariants.{Byte, Cell}
use Rattle.wb_blast.specs.declared.places.Place.{Place}
use Rattle.wb_blast.specs.declared.blasting.Blasted.{Blasted}
use Rattle.wb_blast.specs.Places.{IsPlaceUnder}
use Rattle.wb_port.specs.declared.points.Point.{Point}
use Rattle.wb_port.specs.Points.{Passes, image_of}
use Rattle.wb_symstep.specs.Laws.{GrowthKeepsStates}
use Rattle.wb_point.specs.Laws.{DialoguesAreOfTheirKinds}
use Rattle.wb_point.specs.Dialogues.{dialogue_under}
use Rattle.wb_point.specs.Holds.{IsPassed, HasValue}
use Rattle.wb_point.specs.Says.{Says}
use Rattle.wb_query.specs.Asking.{IsFormulaOf, IsAskFault}
use Rattle.wb_point.specs.declared.question.Query.{Query}
use Rattle.wb_query.specs.declared.asking.Found.{Found}
use Rattle.wb_explore.specs.declared.faults.ExploreFault.{ExploreFault}
use Rattle.wb_query.specs.declared.asking.AskFault.{AskFault}
use Rattle.wb_query.specs.declared.asking.AskFault.TheVariants as ask
use Rattle.wb_explore.specs.declared.plan.Plan.{Plan}
use Rattle.wb_explore.specs.declared.entries.Entry.{Entry}
use Rattle.wb_explore.specs.HeldLaws.{HeldLaws}
use Rattle.wb_explore.specs.Entries.{SaysPassing}
use Rattle.wb_explore.specs.Plans.{runs_of}
use Rattle.wb_explore.specs.Purses.{Holding}
use Rattle.wb_explore.specs.Faults.{IsAsked, IsCause, IsChosenPlace}
use Rattle.wb_explore.specs.Pending.{entry_view, IsEntry, question_of, asked_by, answered_by}
use Rattle.wb_explore.proofs.Ending.{comes_passes, passes_come}
use Rattle.wb_explore.proofs.Putting.{talks}

listed_at : {X : Type 0} (xs : List X) (k : ℕ) (d : X) → k < length xs → slice_get xs k ≡ Some (slice_index_or xs k d)
listed_at [] k d less = absurd (omega arith)
listed_at (x ∷ xs) zero d less = refl
listed_at (x ∷ xs) (suc k) d less = listed_at xs k d (omega arith)

one_image : (a : Image) (s : Side) → image_of a a s ≡ a
one_image a side.A = refl
one_image a side.B = refl

module _ (laws : HeldLaws) (kinds_law : DialoguesAreOfTheirKinds) (keeps : GrowthKeepsStates) (image : Image) (p : Plan) (g : Terms) (e : Entry) (x : IsEntry g image p e) (says : SaysPassing (entry_view g) (runs_of image p) e) (graph : IsGraph g) where
  -- the condition is true exactly where the held run passes the point

  here_passes : (i : Assignment) → IsAssignment i → bit_value i g e.cond ≡ true → Passes image p.side p.pace (dialogue_under p.kinds i p.power) e.key
  here_passes i a q =
      let t = talks laws kinds_law keeps image p in
      let c = (says i a).0 q in
      subst (Passes image p.side p.pace (dialogue_under p.kinds i p.power)) c.2 (comes_passes laws (runs_of image p) i c.0 (t.transfers i) (t.kinds i) c.1)

  passes_here : (i : Assignment) → IsAssignment i → Passes image p.side p.pace (dialogue_under p.kinds i p.power) e.key → bit_value i g e.cond ≡ true
  passes_here i a q =
      let t = talks laws kinds_law keeps image p in
      (says i a).1 (passes_come laws (runs_of image p) i e.key (t.transfers i) (t.kinds i) x.kinds q)

  marked : (i : Assignment) → Passes image p.side p.pace (dialogue_under p.kinds i p.power) e.key → IsPassed image image p.pace (dialogue_under p.kinds i p.power) e.key
  marked i q =
      subst (λ (a : Image). Passes a e.key.side p.pace (dialogue_under p.kinds i p.power) e.key) (sym (one_image image e.key.side))
      (subst (λ (s : Side). Passes image s p.pace (dialogue_under p.kinds i p.power) e.key) (sym x.side) q)

  unmarked : (i : Assignment) → IsPassed image image p.pace (dialogue_under p.kinds i p.power) e.key → Passes image p.side p.pace (dialogue_under p.kinds i p.power) e.key
  unmarked i q =
      subst (λ (s : Side). Passes image s p.pace (dialogue_under p.kinds i p.power) e.key) x.side
      (subst (λ (a : Image). Passes a e.key.side p.pace (dialogue_under p.kinds i p.power) e.key) (one_image image e.key.side) q)

  pub formula_says : (b : Blasted) → IsFormulaOf g e.cond b → Says image image p.pace p.power b.formula b.places.items (question_of p e.key)
  formula_says b f i a = (
    λ h. record {
      marks = All-cons (IsPassed image image p.pace (dialogue_under p.kinds i p.power)) e.key [] (marked i (here_passes i a ((f.assigns i a).0 h))) (All-nil (IsPassed image image p.pace (dialogue_under p.kinds i p.power)));
      fixed = All-nil (HasValue i);
      last = tt;
    },
    λ h. (f.assigns i a).1 (passes_here i a (unmarked i (All-head (IsPassed image image p.pace (dialogue_under p.kinds i p.power)) e.key [] h.marks))),
  )

  -- each place of the formula is a bit that the dialogues choose

  under_cond : (j : ℕ) → IsUnderAny g (e.cond ∷ []) j → IsUnder g j e.cond.number
  under_cond j u = by_place u.place u.at
    where
      by_place : (k : ℕ) → slice_get (e.cond ∷ []) k ≡ Some u.bit → IsUnder g j e.cond.number
      by_place zero q = subst (λ (b : BitId). IsUnder g j b.number) (sym (let r : e.cond ≡ u.bit = cc in r)) u.under
      by_place (suc k) q = absurd (cc)

  chosen_place : (place : Place) → IsPlaceUnder g (e.cond ∷ []) place → IsChosenPlace p.kinds p.power place
  chosen_place (Byte n b) u = (u.0, x.cond_inputs.passes u.1 (Word (word.Byte n)) (under_cond u.1 u.3) u.2 refl)
  chosen_place (Cell n b) u = (graph.placed u.1 (Word (word.Cell n)) u.2, u.0, x.cond_inputs.passes u.1 (Word (word.Cell n)) (under_cond u.1 u.3) u.2 refl)

  pub asked : (b : Blasted) → IsFormulaOf g e.cond b → IsAsked image p (record { query = question_of p e.key; blasted = b })
  asked b f = record {
    says = formula_says b f;
    kinds = refl;
    marks = All-cons (λ (m : Point). m.side ≡ p.side) e.key [] x.side (All-nil (λ (m : Point). m.side ≡ p.side));
    last = refl;
    inputs = f.inputs;
    once = f.wanted.once;
    places = λ k d less. chosen_place (slice_index_or b.places.items k d) (f.wanted.under k (slice_index_or b.places.items k d) (listed_at b.places.items k d less));
  }

  pub asked_cause : (sound : Bool) (limit : ℕ) (before : Holding) → before.budget.conflicts ≡ limit → (f : AskFault) → IsAskFault g e.cond sound limit f → IsCause image p sound before (asked_by (question_of p e.key) f)
  asked_cause sound limit before same (ask.Spent b steps) u = (asked b u.0, subst (λ (n : ℕ). IsSpent b.formula n steps) (sym same) u.1, u.2)
  asked_cause sound limit before same (ask.BadAnswer b a) u = (asked b u.0, u.1, u.2)
  asked_cause sound limit before same ask.OutOfMemory u = tt

  -- through the answer with its question
  pub fault_through : (sound : Bool) (limit : ℕ) (q : Query) (r : Result Found AskFault) (s : Result Found ExploreFault) → q ≡ question_of p e.key → s ≡ answered_by q r → IfErr r (IsAskFault g e.cond sound limit)
      → IfErr s (λ f. (before : Holding) → before.budget.conflicts ≡ limit → IsCause image p sound before f)
  fault_through sound limit q (Ok found) s is same u = subst (λ (t : Result Found ExploreFault). IfErr t (λ f. (before : Holding) → before.budget.conflicts ≡ limit → IsCause image p sound before f)) (sym same) tt
  fault_through sound limit q (Err f) s is same u =
      subst (λ (t : Result Found ExploreFault). IfErr t (λ f. (before : Holding) → before.budget.conflicts ≡ limit → IsCause image p sound before f)) (sym (same ∙ ap (λ (n : Query). let t : Result Found ExploreFault = Err (asked_by n f) in t) is))
      (λ before budget. asked_cause sound limit before budget f u)

pub found_through : (P : Found → Type 0) (q : Query) (r : Result Found AskFault) (s : Result Found ExploreFault) → s ≡ answered_by q r → IfOk r P → IfOk s P
found_through P q (Ok found) s same h = subst (λ (t : Result Found ExploreFault). IfOk t P) (sym same) h
found_through P q (Err f) s same h = subst (λ (t : Result Found ExploreFault). IfOk t P) (sym same) tt
