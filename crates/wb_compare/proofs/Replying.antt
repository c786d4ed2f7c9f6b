-- Circuits of replies: what they settle, and what asking comes to.
use Rattle.std.proofs.Common.{◌≡◌, ◌≢◌, ℕ, zero, suc, Bool, true, false, Option, Some, None, List, [], ◌∷◌, ◌++◌, ◌⊎◌, inl, inr, length, Result, Ok, Err, IfErr, refl, sym, ap, subst, ◌∙◌, arith}
use Rattle.std.specs.Prelude.{Contains, slice_get, slice_index_or}
use Rattle.std.specs.List.{sum_by}
use Rattle.std.proofs.Common.{eqb}
use Rattle.std.proofs.lemmas.Bool.Decides.{eqb_tells}
use Rattle.wb_word.specs.declared.sides.Side.{Side}
use Rattle.wb_word.specs.declared.sides.Side.TheVariants as side
use Rattle.wb_rom.specs.declared.images.Image.{Image}
use Rattle.wb_term.specs.declared.nodes.BitId.{BitId}
use Rattle.wb_term.specs.declared.nodes.Node.TheVariants.{Word}
use Rattle.wb_term.specs.declared.nodes.WordNode.TheVariants as word
use Rattle.wb_term.specs.Inputs.{Assignment, IsAssignment}
use Rattle.wb_term.specs.Terms.{Terms, Tables, IsGraph, table_of, table_words}
use Rattle.wb_term.specs.Growth.{Grown, total_weight}
use Rattle.wb_term.specs.Nodes.{weight}
use Rattle.wb_term.specs.Under.{IsUnder}
use Rattle.wb_term.specs.Values.{bit_value}
use Rattle.wb_blast.specs.Number.{IsUnderAny}
use Rattle.wb_blast.specs.Places.{IsPlaceUnder}
use Rattle.wb_blast.specs.declared.places.Place.{Place}
use Rattle.wb_blast.specs.declared.places.Place.TheVariants.{Byte, Cell}
use Rattle.wb_blast.specs.declared.blasting.Blasted.{Blasted}
use Rattle.wb_port.specs.declared.accesses.Access.{Access}
use Rattle.wb_port.specs.declared.accesses.Kind.{Kind}
use Rattle.wb_port.specs.Talk.{Talk}
use Rattle.wb_port.specs.Dialogue.{AllowsEach}
use Rattle.wb_port.specs.Points.{image_of}
use Rattle.wb_port.specs.Port.{access_reply}
use Rattle.wb_law.specs.Values.{DifferentValuesAreNoMore}
use Rattle.wb_solve.specs.Answers.{IsSpent}
use Rattle.wb_query.specs.declared.asking.Found.TheVariants.{Never}
use Rattle.wb_query.specs.Asking.{IsFound, IsFormulaOf, IsAskFault}
use Rattle.wb_query.specs.declared.asking.Found.{Found}
use Rattle.wb_query.specs.declared.asking.AskFault.{AskFault}
use Rattle.wb_query.specs.declared.asking.AskFault.TheVariants as ask
use Rattle.wb_point.specs.declared.question.Query.{Query}
use Rattle.wb_point.specs.Dialogues.{dialogue_under}
use Rattle.wb_point.specs.Holds.{followed_by}
use Rattle.wb_point.specs.Says.{Says}
use Rattle.wb_explore.specs.declared.layer.Request.{Request}
use Rattle.wb_explore.specs.declared.plan.Plan.{Plan}
use Rattle.wb_explore.specs.Entries.{IsAtSome}
use Rattle.wb_explore.specs.Faults.{IsChosenPlace}
use Rattle.wb_explore.specs.Layers.{Requests, IsLayer, request_view}
use Rattle.wb_explore.specs.Plans.{runs_of, is_chosen}
use Rattle.wb_explore.specs.Runs.{Asks}
use Rattle.wb_explore.specs.Purses.{Holding}
use Rattle.wb_replies.specs.declared.circuit.ReplyCircuit.{ReplyCircuit}
use Rattle.wb_replies.specs.Circuits.{IsCircuit, CircuitHasOnly, TellsReplies}
use Rattle.wb_replies.specs.Differences.{IsDifference, AreToldApart, ArePaired, access_between, question_of_replies}
use Rattle.wb_replies.specs.Laws.{CircuitsStay, DifferencesAreOfReplies, DifferencesAreShown, DifferencesSayQuestions}
use Rattle.wb_compare.specs.declared.circuits.Circuits.{Circuits}
use Rattle.wb_compare.specs.declared.endings.Ended.{Ended}
use Rattle.wb_compare.specs.declared.pairs.Pair.{Pair}
use Rattle.wb_compare.specs.declared.questions.Question.{Question}
use Rattle.wb_compare.specs.declared.verdicts.Verdict.TheVariants as verdict
use Rattle.wb_compare.specs.Endings.{IsEnded, ended_by_asking, answered_by}
use Rattle.wb_compare.specs.Laws.{RunLaws}
use Rattle.wb_compare.specs.Licences.{IsAskedOf}
use Rattle.wb_compare.specs.Questions.{IsQuestion}
use Rattle.wb_compare.specs.Settled.{plan_of, wants_read, IsAlike, AreAlikeBelow, IsSilent}
use Rattle.wb_compare.specs.Telling.{HasLayers, AreCircuits, IsTelling, IsApartUnder}
use Rattle.wb_compare.specs.Verdicts.{IsVerdict}
use Rattle.wb_compare.specs.Working.{IsKept, kept_of}
use Rattle.wb_compare.proofs.Causes.{zeros, zeros_assign}
use Rattle.wb_compare.proofs.Differing.{different}
use Rattle.wb_compare.proofs.Lists.{listed_none, true_false}
use Rattle.wb_compare.proofs.Places.{places_are_few, listed_at}
use Rattle.wb_compare.proofs.Talks.{fits_under}

-- a reply is another, or it isn't
same_or_not : (o p : Option ℕ) → (o ≡ p) ⊎ (o ≢ p)
same_or_not None None = inl refl
same_or_not None (Some y) = inr (λ e. absurd (cc))
same_or_not (Some x) None = inr (λ e. absurd (cc))
same_or_not (Some x) (Some y) = elim (eqb_tells x y) [ inl h ↦ inl (ap (λ (n : ℕ). let o : Option ℕ = Some n in o) h.1) | inr h ↦ inr (λ e. h.1 (let f : x ≡ y = cc in f)) ]

no_items : (xs : List Request) → length xs ≡ 0 → xs ≡ []
no_items [] e = refl
no_items (x ∷ xs) e = absurd (omega arith)

-- two layers for the same dialogues have the same plan but for the side
paired : (q : Question) (ks : List Kind) → ArePaired (plan_of q side.A ks) (plan_of q side.B ks)
paired q ks = record { kinds = refl; pace = refl; power = refl }

module _ (a b : Image) (q : Question) (ks : List Kind) where
  -- where no request follows on a side, replies are alike

  layer_silent : (g : Terms) (s : Side) (l : Requests) → IsLayer g (image_of a b s) l → l.plan ≡ plan_of q s ks → length l.requests ≡ 0 → IsSilent a b q s ks
  layer_silent g s l layer plan none i v c asks = listed_none at.entry (subst (λ (rs : List Request). Contains rs at.entry) (no_items l.requests none) at.listed)
    where
      at : IsAtSome (request_view l.plan g) (runs_of (image_of a b s) l.plan) l.requests i c
      at = layer.requests.complete i v c (subst (λ (p : Plan). Asks (runs_of (image_of a b s) p) i c) (sym plan) asks)

  pub alike_silent : (g : Terms) (p : Pair) → HasLayers g a b q ks p → (length p.first.requests ≡ 0) ⊎ (length p.second.requests ≡ 0) → IsAlike a b q ks
  alike_silent g p h (inl e) i v c d first second x listed = absurd (layer_silent g side.A p.first h.first h.first_plan e i v c first)
  alike_silent g p h (inr e) i v c d first second x listed = absurd (layer_silent g side.B p.second h.second h.second_plan e i v d second)

  -- where no wanted reply differs, they are alike
  pub alike_from : DifferencesAreOfReplies → (g : Terms) (c : Circuits) → AreCircuits g a b q ks c
      → ((i : Assignment) → IsAssignment i → AreToldApart i g c.first c.second (wants_read q ks) → ⊥) → IsAlike a b q ks
  alike_from law g c h never i v one other first second x listed = elim (same_or_not (access_reply x one.machine) (access_reply x other.machine)) [
    | inl e ↦ e
    | inr differ ↦ absurd (never i v ((law g a b (plan_of q side.A ks) (plan_of q side.B ks) c.first c.second (wants_read q ks) h.first_tells h.second_tells i v).1
        (record { first = one; first_asks = first; second = other; second_asks = second; by = x; asked = listed; differ = differ })))
  ]

  -- growth of the graph
  pub circuits_grown : CircuitsStay → (g k : Terms) → Grown g k → (c : Circuits) → AreCircuits g a b q ks c → AreCircuits k a b q ks c
  circuits_grown stay g k grown c h =
      let s = stay g k grown in
      record {
        first = s.there c.first h.first;
        second = s.there c.second h.second;
        first_tells = s.tells a (plan_of q side.A ks) c.first h.first h.first_tells;
        second_tells = s.tells b (plan_of q side.B ks) c.second h.second h.second_tells;
        first_only = s.only (is_chosen ks q.power) c.first h.first h.first_only;
        second_only = s.only (is_chosen ks q.power) c.second h.second h.second_only;
      }

  -- where the bit is found to be false under all inputs, or there is none

  pub alike_never : DifferencesAreOfReplies → (g : Terms) (c : Circuits) → AreCircuits g a b q ks c → (bit : BitId) → IsTelling g q ks c (Some bit)
      → (found : Found) → found ≡ Never → IsFound g bit found → IsAlike a b q ks
  alike_never law g c h bit t found e f = alike_from law g c h (λ i v apart. true_false (bit_value i g bit) ((t.differs.1 i v).1 apart) (subst (IsFound g bit) e f i v))

  pub alike_none : DifferencesAreOfReplies → (g : Terms) (c : Circuits) → AreCircuits g a b q ks c → (o : Option BitId) → o ≡ None → IsTelling g q ks c o → IsAlike a b q ks
  alike_none law g c h o e t = alike_from law g c h (subst (IsDifference g g c.first c.second (wants_read q ks)) e t.differs)

  module _ (laws : RunLaws) (asks : IsQuestion q) (allowed : AllowsEach q.shape ks) (g : Terms) (c : Circuits) (h : AreCircuits g a b q ks c) where
    -- the dialogue that shows the difference
    pub shows_different : DifferencesAreShown → AreAlikeBelow a b q (length ks) → (i : Assignment) → IsApartUnder g q ks c i
        → IsVerdict a b q (verdict.Different (followed_by (dialogue_under ks i q.power) (access_between i g c.first c.second)))
    shows_different law below i apart =
        let s = law g a b (plan_of q side.A ks) (plan_of q side.B ks) c.first c.second (wants_read q ks) (paired q ks) h.first_tells h.second_tells i apart.assignment in
        different laws a b q asks (length ks) below i apart.assignment ks (access_between i g c.first c.second) allowed (omega arith) (s.among apart.apart) (s.answers apart.apart)

    module _ (law : DifferencesSayQuestions) (bit : BitId) (t : IsTelling g q ks c (Some bit)) (graph : IsGraph g) where
      -- the formula says the question about the replies

      formula_says : (f : Blasted) → IsFormulaOf g bit f → Says a b q.k q.power f.formula f.places.items (question_of_replies ks (wants_read q ks))
      formula_says f is i v =
          let says = law g g a b (plan_of q side.A ks) (plan_of q side.B ks) c.first c.second (wants_read q ks) (Some bit) (paired q ks) h.first_tells h.second_tells t.differs i v in
          (λ n. says.0 ((is.assigns i v).0 n), λ o. (is.assigns i v).1 (says.1 o))

      asked_about : (f : Blasted) → IsFormulaOf g bit f → IsAskedOf a b q (record { query = question_of_replies ks (wants_read q ks); blasted = f })
      asked_about f is = record {
        dialogue = dialogue_under ks zeros q.power;
        fits = fits_under laws q asks ks allowed zeros zeros_assign;
        kinds = (laws.of_kinds ks zeros q.power).kinds;
        says = formula_says f is;
      }

      under_bit : (j : ℕ) → IsUnderAny g (bit ∷ []) j → IsUnder g j bit.number
      under_bit j u = by_place u.place u.at
        where
          by_place : (k : ℕ) → slice_get (bit ∷ []) k ≡ Some u.bit → IsUnder g j bit.number
          by_place zero e = subst (λ (x : BitId). IsUnder g j x.number) (sym (let r : bit ≡ u.bit = cc in r)) u.under
          by_place (suc k) e = absurd (cc)

      chosen_place : (place : Place) → IsPlaceUnder g (bit ∷ []) place → IsChosenPlace ks q.power place
      chosen_place (Byte n m) u = (u.0, (t.only bit refl).passes u.1 (Word (word.Byte n)) (under_bit u.1 u.3) u.2 refl)
      chosen_place (Cell n m) u = (graph.placed u.1 (Word (word.Cell n)) u.2, u.0, (t.only bit refl).passes u.1 (Word (word.Cell n)) (under_bit u.1 u.3) u.2 refl)

      ended_asked : DifferentValuesAreNoMore Place → (sound : Bool) (limit : ℕ) → limit ≡ q.budget.conflicts → (f : AskFault) → IsAskFault g bit sound limit f
          → IsEnded a b q sound (ended_by_asking (question_of_replies ks (wants_read q ks)) f)
      ended_asked no_more sound limit same (ask.Spent f steps) u = record {
        of_question = asked_about f u.0;
        spent = subst (λ (n : ℕ). IsSpent f.formula n steps) same u.1;
        bits = (let few = places_are_few no_more q.shape ks q.power f.places.items allowed u.0.wanted.once (λ k d less. chosen_place (slice_index_or f.places.items k d) (u.0.wanted.under k (slice_index_or f.places.items k d) (listed_at f.places.items k d less))) in let e = u.0.inputs in omega arith);
      }
      ended_asked no_more sound limit same (ask.BadAnswer f answer) u = (asked_about f u.0, u.1, u.2)
      ended_asked no_more sound limit same ask.OutOfMemory u = tt

      pub ended_through : DifferentValuesAreNoMore Place → (sound : Bool) (limit : ℕ) → limit ≡ q.budget.conflicts → (query : Query) (r : Result Found AskFault) (s : Result Found Ended)
          → query ≡ question_of_replies ks (wants_read q ks) → s ≡ answered_by query r → IfErr r (IsAskFault g bit sound limit) → IfErr s (IsEnded a b q sound)
      ended_through no_more sound limit same query (Ok found) s is made u = subst (λ (x : Result Found Ended). IfErr x (IsEnded a b q sound)) (sym made) tt
      ended_through no_more sound limit same query (Err f) s is made u =
          subst (λ (x : Result Found Ended). IfErr x (IsEnded a b q sound)) (sym (made ∙ ap (λ (x : Query). answered_by x (Err f)) is)) (ended_asked no_more sound limit same f u)

-- a graph of no nodes

pub no_weight : (g : Terms) → g.nodes ≡ [] → total_weight g ≡ 0
unfolding total_weight
no_weight g e = ap (sum_by weight) e

same_lists : (xs ys : List ℕ) → (xs ≡ ys) ⊎ (xs ≢ ys)
same_lists [] [] = inl refl
same_lists [] (y ∷ ys) = inr (λ e. absurd (cc))
same_lists (x ∷ xs) [] = inr (λ e. absurd (cc))
same_lists (x ∷ xs) (y ∷ ys) = by_both (eqb_tells x y) (same_lists xs ys)
  where
    by_both : ((eqb x y ≡ true) × (x ≡ y)) ⊎ ((eqb x y ≡ false) × (x ≢ y)) → (xs ≡ ys) ⊎ (xs ≢ ys) → (x ∷ xs ≡ y ∷ ys) ⊎ (x ∷ xs ≢ y ∷ ys)
    by_both (inl h) (inl e) = inl (let f = h.1 in cc)
    by_both (inl h) (inr n) = inr (λ e. n (let f : xs ≡ ys = cc in f))
    by_both (inr h) t = inr (λ e. h.1 (let f : x ≡ y = cc in f))

pub tables_of : (a b : Image) (tables : Tables) → (a.drom ≡ b.drom → tables ≡ record { first = a.drom; second = None }) → (a.drom ≢ b.drom → tables ≡ record { first = a.drom; second = Some b.drom })
    → (s : Side) → table_words tables (table_of tables s) ≡ (image_of a b s).drom
tables_of a b tables one two s = elim (same_lists a.drom b.drom) [ inl e ↦ alone s e (one e) | inr n ↦ both s (two n) ]
  where
    alone : (s : Side) → a.drom ≡ b.drom → tables ≡ record { first = a.drom; second = None } → table_words tables (table_of tables s) ≡ (image_of a b s).drom
    alone side.A e t = ap (λ (ts : Tables). table_words ts (table_of ts side.A)) t
    alone side.B e t = ap (λ (ts : Tables). table_words ts (table_of ts side.B)) t ∙ e

    both : (s : Side) → tables ≡ record { first = a.drom; second = Some b.drom } → table_words tables (table_of tables s) ≡ (image_of a b s).drom
    both side.A t = ap (λ (ts : Tables). table_words ts (table_of ts side.A)) t
    both side.B t = ap (λ (ts : Tables). table_words ts (table_of ts side.B)) t

-- the circuits of two layers, of which the second was made after the first
pub circuits_pair : (a b : Image) (q : Question) (p : Pair) → CircuitsStay → (f g h : Terms) → HasLayers f a b q p.first.plan.kinds p → Grown g h → (x y : ReplyCircuit)
    → IsCircuit g x → IsCircuit h y → TellsReplies g a p.first.plan x → TellsReplies h b p.second.plan y
    → CircuitHasOnly g (is_chosen p.first.plan.kinds p.first.plan.power) x → CircuitHasOnly h (is_chosen p.second.plan.kinds p.second.plan.power) y
    → AreCircuits h a b q p.first.plan.kinds (record { first = x; second = y })
circuits_pair a b q p stay f g h layers grown x y one two tells told only other =
    let s = stay g h grown in
    record {
      first = s.there x one;
      second = two;
      first_tells = subst (λ (o : Plan). TellsReplies h a o x) layers.first_plan (s.tells a p.first.plan x one tells);
      second_tells = subst (λ (o : Plan). TellsReplies h b o y) layers.second_plan told;
      first_only = subst (λ (o : Plan). CircuitHasOnly h (is_chosen o.kinds o.power) x) layers.first_plan (s.only (is_chosen p.first.plan.kinds p.first.plan.power) x one only);
      second_only = subst (λ (o : Plan). CircuitHasOnly h (is_chosen o.kinds o.power) y) layers.second_plan other;
    }

pub nothing_kept : (a b : Image) (q : Question) (g : Terms) (purse : Holding) (s : Side) → IsKept (image_of a b s) q (kept_of (record { graph = g; purse = purse; first_overrun = None; second_overrun = None }) s)
nothing_kept a b q g purse side.A = tt
nothing_kept a b q g purse side.B = tt

-- the dialogue with the access pushed
pub differing_same : (new d : Talk) (x : Access) (e : Talk) (y : Access) → new ≡ record d { accesses = d.accesses ++ x ∷ [] } → d ≡ e → x ≡ y → new ≡ followed_by e y
differing_same new d x e y pushed same there = pushed ∙ ap (λ (t : Talk). followed_by t x) same ∙ ap (followed_by e) there
