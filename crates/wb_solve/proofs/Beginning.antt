-- The literal of the goal is made true.
use Rattle.std.proofs.Common.{◌≡◌, ℕ, zero, suc, ◌+◌, ◌-◌, ◌<◌, ◌⊎◌, inl, inr, List, [], ◌∷◌, ◌++◌, length, take, Some, None, refl, sym, ◌∙◌, ap, subst, arith, length-append}
use Rattle.std.specs.List.{slice_get}
use Rattle.wb_gate.specs.declared.gates.Lit.{Lit}
use Rattle.wb_gate.specs.declared.gates.Goal.{Goal}
use Rattle.wb_gate.specs.declared.gates.Goal.TheVariants as goal
use Rattle.wb_gate.specs.Circuit.{Circuit, IsCircuit, GoalBelow, variables, variable}
use Rattle.wb_gate.specs.Clauses.{gates_clauses, goal_clauses, clauses_of}
use Rattle.wb_derive.specs.Partial.{Partial, nothing, Occurs}
use Rattle.wb_solve.specs.declared.trail.Entry.{Entry}
use Rattle.wb_solve.specs.declared.trail.Reason.{Reason}
use Rattle.wb_solve.specs.declared.trail.Reason.TheVariants.{Assumed, Clause}
use Rattle.wb_solve.specs.declared.propagation.Propagation.{Propagation}
use Rattle.wb_solve.specs.Descent.{IsUnitAt}
use Rattle.wb_solve.specs.Trails.{Holds, made, IsJust, AreJust, assumed_by, assumed_in}
use Rattle.wb_solve.specs.Linking.{operands, AreLinked}
use Rattle.wb_solve.specs.Guarding.{IsGuarded, AreGuarded}
use Rattle.wb_solve.specs.Starting.{IsFresh, IsStarted}
use Rattle.wb_solve.proofs.Lists.{get_left, get_after}
use Rattle.wb_solve.proofs.Partials.{assume_at}
use Rattle.wb_solve.proofs.Trailing.{made_push, at_pushed}
use Rattle.wb_solve.proofs.Gates.{known_split, in_gate, gate_of_at, of_mixed, names_below_of, gates_named, gates_filled}

none_names : (es : List Entry) → ((k : ℕ) (e : Entry) → slice_get es k ≡ Some e → e.reason ≡ Assumed → ⊥) → assumed_in es ≡ []
none_names [] none = refl
none_names (e ∷ es) none = by e.reason refl (none_names es (λ k d at. none (suc k) d at))
  where
    by : (r : Reason) → e.reason ≡ r → assumed_in es ≡ [] → assumed_by e.lit r ++ assumed_in es ≡ []
    by Assumed is rest = absurd (none 0 e refl is)
    by (Clause number) is rest = rest

no_step : (j : ℕ) (step : List Lit) → slice_get {X = List Lit} [] j ≡ Some step → ⊥
no_step j step e = cc

no_entry : (k : ℕ) (e : Entry) → slice_get {X = Entry} [] k ≡ Some e → ⊥
no_entry k e at = cc

take_none : (es : List Entry) → take 0 es ≡ []
take_none [] = refl
take_none (e ∷ es) = refl

-- without values only the goal's clause is unit
guarded_first : (c : Circuit) (q : Partial) → IsCircuit c → ((l : Lit) → c.goal ≡ goal.Lit l → Holds q l) → AreGuarded (clauses_of c) nothing q
guarded_first c q circuit holds k clause at = by (known_split (gates_clauses c) (goal_clauses c.goal) k clause at)
  where
    one : (asked : Goal) (j : ℕ) → c.goal ≡ asked → slice_get (goal_clauses asked) j ≡ Some clause → (l : Lit) → Occurs l clause → Holds q l
    one (goal.Lit n) zero is found l there =
        let same : (n ∷ []) ≡ clause = cc in
        both (subst (Occurs l) (sym same) there)
      where
        both : Occurs l (n ∷ []) → Holds q l
        both (inl here) = subst (Holds q) here (holds n is)
        both (inr none) = absurd none
    one (goal.Lit n) (suc j) is found l there = absurd (cc)
    one goal.Never zero is found l there = let same : [] ≡ clause = cc in absurd (subst (Occurs l) (sym same) there)
    one goal.Never (suc j) is found l there = absurd (cc)
    one goal.Always j is found l there = absurd (cc)

    by : (slice_get (gates_clauses c) k ≡ Some clause) ⊎ ((j : ℕ) × (slice_get (goal_clauses c.goal) j ≡ Some clause)) → IsGuarded nothing q clause
    by (inr there) = λ l o all. one c.goal there.0 refl there.1 l o
    by (inl here) =
        let found = in_gate c.inputs c.gates k clause here in
        let of = gate_of_at (variable (c.inputs + found.0)) found.1 found.3.0 clause found.3.1 in
        λ l o all. absurd (of_mixed (c.inputs + found.0) (operands found.1) clause l of (λ x names. names_below_of (c.inputs + found.0) found.1 x (circuit.earlier found.0 found.1 found.2) names) all)

started : (c : Circuit) (s : Propagation) → IsCircuit c → AreLinked c (length c.gates) s.links → s.trail.variables ≡ variables c → (c.goal ≡ goal.Never → ⊥) → AreJust c.inputs (clauses_of c ++ []) s.trail.entries → ((k : ℕ) (e : Entry) → slice_get s.trail.entries k ≡ Some e → e.reason ≡ Assumed → ⊥) → ((l : Lit) → c.goal ≡ goal.Lit l → Holds (made s.trail.entries) l) → IsStarted c s None
started c s circuit linked count goes just none_assumed holds = (
  (
    record {
      named = gates_named c circuit;
      filled = gates_filled c goes;
      linked = linked;
      variable_count = count;
      settled = λ k e at r. absurd (none_assumed k e at r);
      just = just;
      held = record {
        now = λ j step at. absurd (no_step j step at);
        earlier = λ k e j step at r found. absurd (none_assumed k e at r);
      };
    },
    subst (λ es. AreGuarded (clauses_of c) (made es) (made s.trail.entries)) (sym (take_none s.trail.entries)) (guarded_first c (made s.trail.entries) circuit holds),
  ),
  none_names s.trail.entries none_assumed,
)

get_last_of : (xs : List (List Lit)) (d : List Lit) (number : ℕ) → number ≡ length (xs ++ (d ∷ [])) - 1 → slice_get (xs ++ (d ∷ [])) number ≡ Some d
get_last_of xs d number is =
    let whole = length-append xs (d ∷ []) in
    let e : number ≡ length xs + 0 = omega (arith, is, whole) in
    ap (slice_get (xs ++ (d ∷ []))) e ∙ get_after xs (d ∷ []) 0

module _ (c : Circuit) (s : Propagation) (is : IsFresh c s) where
  no_entry_here : (k : ℕ) (e : Entry) → slice_get s.trail.entries k ≡ Some e → ⊥
  no_entry_here k e at = no_entry k e (ap (λ es. slice_get es k) (sym is.none_made) ∙ at)

  pub started_always : c.goal ≡ goal.Always → IsStarted c s None
  started_always asked =
      started c s is.circuit is.linked is.variable_count (λ e. never (sym asked ∙ e)) (record { at = λ k e at. absurd (no_entry_here k e at) }) (λ k e at r. no_entry_here k e at) (λ l e. absurd (literal l (sym asked ∙ e)))
    where
      never : goal.Always ≡ goal.Never → ⊥
      never e = cc

      literal : (l : Lit) → goal.Always ≡ goal.Lit l → ⊥
      literal l e = cc

  pub started_never : (number : ℕ) → c.goal ≡ goal.Never → number ≡ length (clauses_of c) - 1 → IsStarted c s (Some number)
  started_never number asked last = (
    record {
      named = gates_named c is.circuit;
      variable_count = is.variable_count;
      just = record { at = λ k e at. absurd (no_entry_here k e at) };
      stable = λ k e at r. absurd (no_entry_here k e at);
      falsified = ([], get_left (clauses_of c) [] number [] found, tt);
    },
    none_names s.trail.entries (λ k e at r. no_entry_here k e at),
  )
    where
      clauses : clauses_of c ≡ gates_clauses c ++ ([] ∷ [])
      clauses = ap (λ g. gates_clauses c ++ goal_clauses g) asked

      found : slice_get (clauses_of c) number ≡ Some []
      found = ap (λ ds. slice_get ds number) clauses ∙ get_last_of (gates_clauses c) [] number (last ∙ ap (λ (ds : List (List Lit)). length ds - 1) clauses)

  pub goal_below : (l : Lit) → c.goal ≡ goal.Lit l → l.var < s.trail.variables
  goal_below l asked = subst (λ n. l.var < n) (sym is.variable_count) (subst (GoalBelow (variables c)) asked is.circuit.goal_below)

  pub goal_open : (l : Lit) → made s.trail.entries l.var ≡ None
  goal_open l = ap (λ es. made es l.var) is.none_made

  pub started_lit : (l : Lit) (number : ℕ) (new : Propagation) → c.goal ≡ goal.Lit l → number ≡ length (clauses_of c) - 1 → new.links ≡ s.links → new.trail.entries ≡ s.trail.entries ++ (record { lit = l; reason = Clause number } ∷ []) → new.trail.variables ≡ s.trail.variables → IsStarted c new None
  started_lit l number new asked last same_links grown same =
      let e : Entry = record { lit = l; reason = Clause number } in
      let known = clauses_of c ++ [] in
      let unit : IsUnitAt known (made s.trail.entries) number l = (
        l ∷ [],
        get_left (clauses_of c) [] number (l ∷ []) found,
        record { there = inl refl; still_open = goal_open l; others = (inl refl, tt) },
      ) in
      let just_at = at_pushed (λ front d. IsJust c.inputs known (made front) d.lit d.reason) s.trail.entries e (λ k d at. absurd (no_entry_here k d at)) unit in
      let none_at = at_pushed (λ front d. d.reason ≡ Assumed → ⊥) s.trail.entries e (λ k d at r. no_entry_here k d at) (no_way number) in
      started c new is.circuit (subst (AreLinked c (length c.gates)) (sym same_links) is.linked) (same ∙ is.variable_count) (λ never. differ (sym asked ∙ never))
      (subst (AreJust c.inputs known) (sym grown) (record { at = just_at }))
      (λ k d at r. subst (λ es. (i : ℕ) (f : Entry) → slice_get es i ≡ Some f → f.reason ≡ Assumed → ⊥) (sym grown) none_at k d at r)
      (λ m also. subst (Holds (made new.trail.entries)) (one_lit m (sym asked ∙ also)) holds)
    where
      clauses : clauses_of c ≡ gates_clauses c ++ ((l ∷ []) ∷ [])
      clauses = ap (λ g. gates_clauses c ++ goal_clauses g) asked

      found : slice_get (clauses_of c) number ≡ Some (l ∷ [])
      found = ap (λ ds. slice_get ds number) clauses ∙ get_last_of (gates_clauses c) (l ∷ []) number (last ∙ ap (λ (ds : List (List Lit)). length ds - 1) clauses)

      no_way : (n : ℕ) → Clause n ≡ Assumed → ⊥
      no_way n r = cc

      differ : goal.Lit l ≡ goal.Never → ⊥
      differ e = cc

      one_lit : (m : Lit) → goal.Lit l ≡ goal.Lit m → l ≡ m
      one_lit m e = cc

      holds : Holds (made new.trail.entries) l
      holds = ap (λ es. made es l.var) grown ∙ ap (λ (q : Partial). q l.var) (made_push s.trail.entries (record { lit = l; reason = Clause number })) ∙ assume_at (made s.trail.entries) l
