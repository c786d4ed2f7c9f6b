-- Going back from the last assumption, which the new step makes false.
use Rattle.std.proofs.Common.{◌≡◌, ℕ, ◌+◌, ◌<◌, ◌≤◌, ◌⊎◌, inl, inr, Bool, true, false, not, List, [], ◌∷◌, ◌++◌, length, take, Option, Some, None, refl, sym, ◌∙◌, ap, subst, arith, append_assoc}
use Rattle.std.specs.List.{slice_get}
use Rattle.std.proofs.lemmas.List.{append-nil, map-append}
use Rattle.std.proofs.lemmas.Option.{slice_get_within}
use Rattle.wb_gate.specs.declared.gates.Lit.{Lit}
use Rattle.wb_gate.specs.Circuit.{Circuit, variable}
use Rattle.wb_gate.specs.Clauses.{clauses_of}
use Rattle.wb_derive.specs.Partial.{Partial, assume, IsFalse, Occurs}
use Rattle.wb_solve.specs.declared.links.Links.{Links}
use Rattle.wb_solve.specs.declared.trail.Entry.{Entry}
use Rattle.wb_solve.specs.declared.trail.Reason.{Reason}
use Rattle.wb_solve.specs.declared.trail.Reason.TheVariants.{Assumed, Clause}
use Rattle.wb_solve.specs.Descent.{IsFirstOpen, IsUnitAt, clause_of, AreValued}
use Rattle.wb_solve.specs.Trails.{Holds, Track, made, IsJust, AreJust, assumed_by, assumed_in}
use Rattle.wb_solve.specs.Guarding.{AreGuarded, AreSettled, IsHeld, Waits}
use Rattle.wb_solve.specs.Propagating.{IsRunning}
use Rattle.wb_solve.proofs.Lists.{get_left, get_after}
use Rattle.wb_solve.proofs.Partials.{Below, below_self, below_assume, assume_at}
use Rattle.wb_solve.proofs.Searching.{take_all, take_front, last_or_before, get_last}
use Rattle.wb_solve.proofs.Trailing.{made_push, at_pushed}
use Rattle.wb_solve.proofs.Hinting.{above, just_new, valued_later}
use Rattle.wb_solve.proofs.Growing.{assumed_append}
use Rattle.wb_solve.proofs.Quiet.{held_below, all_false, all_guarded_below}
use Rattle.wb_solve.proofs.Visiting.{front_below}
use Rattle.wb_solve.proofs.Deciding.{occurs_assumed, assumed_false, occurs_right, occurs_left}

occurs_split : (xs ys : List Lit) (l : Lit) → Occurs l (xs ++ ys) → Occurs l xs ⊎ Occurs l ys
occurs_split [] ys l o = inr o
occurs_split (x ∷ xs) ys l (inl here) = inl (inl here)
occurs_split (x ∷ xs) ys l (inr there) = by (occurs_split xs ys l there)
  where
    by : Occurs l xs ⊎ Occurs l ys → Occurs l (x ∷ xs) ⊎ Occurs l ys
    by (inl before) = inl (inr before)
    by (inr after) = inr after

just_assumed : (inputs : ℕ) (known : List (List Lit)) (p : Partial) (l : Lit) (r : Reason) → r ≡ Assumed → IsJust inputs known p l r → IsFirstOpen inputs p l.var × (l.neg ≡ true)
just_assumed inputs known p l r is just = subst (IsJust inputs known p l) is just

just_more : (inputs : ℕ) (known more : List (List Lit)) (p : Partial) (l : Lit) (r : Reason) → IsJust inputs known p l r → IsJust inputs (known ++ more) p l r
just_more inputs known more p l Assumed is = is
just_more inputs known more p l (Clause number) is = (is.0, get_left known more number is.0 is.1, is.2)

no_clause : (number : ℕ) → Clause number ≡ Assumed → ⊥
no_clause number e = cc

module _ (c : Circuit) (steps : List (List Lit)) (links : Links) (old new : Track) (is : IsRunning c steps links old) (front rest : List Entry) (d : Entry) (whole : old.entries ≡ front ++ (d ∷ rest)) (is_assumed : d.reason ≡ Assumed) (last : assumed_in rest ≡ []) (number : ℕ) (numbered : number ≡ length (clauses_of c) + length steps) (grown : new.entries ≡ front ++ (record { lit = record { var = d.lit.var; neg = false }; reason = Clause number } ∷ [])) (same : new.variables ≡ old.variables) where
  abbrev x : ℕ
  x = d.lit.var

  abbrev e : Entry
  e = record { lit = record { var = d.lit.var; neg = false }; reason = Clause number }

  abbrev p : Partial
  p = made front

  abbrev clause : List Lit
  clause = clause_of (assumed_in old.entries)

  abbrev more : List (List Lit)
  more = steps ++ (clause ∷ [])

  in_old : (k : ℕ) (f : Entry) → slice_get front k ≡ Some f → slice_get old.entries k ≡ Some f
  in_old k f at = ap (λ es. slice_get es k) whole ∙ get_left front (d ∷ rest) k f at

  take_old : (k : ℕ) → k ≤ length front → take k old.entries ≡ take k front
  take_old k h = ap (take k) whole ∙ take_front front (d ∷ rest) k h

  take_end : take (length front) old.entries ≡ front
  take_end = ap (take (length front)) whole ∙ take_all front (d ∷ rest)

  d_at : slice_get old.entries (length front) ≡ Some d
  d_at = ap (λ es. slice_get es (length front)) whole ∙ at_end front
    where
      at_end : (es : List Entry) → slice_get (es ++ (d ∷ rest)) (length es) ≡ Some d
      at_end [] = refl
      at_end (f ∷ es) = at_end es

  pub names_are : assumed_in old.entries ≡ assumed_in front ++ (x ∷ [])
  names_are =
      ap assumed_in whole ∙ assumed_append front (d ∷ rest)
      ∙ ap (λ r. assumed_in front ++ (assumed_by d.lit r ++ assumed_in rest)) is_assumed
      ∙ ap (λ xs. assumed_in front ++ (x ∷ xs)) last

  clause_is : clause ≡ clause_of (assumed_in front) ++ (variable x ∷ [])
  clause_is = ap clause_of names_are ∙ map-append variable (assumed_in front) (x ∷ [])

  settled : AreGuarded (clauses_of c) p p
  settled = subst (λ es. AreGuarded (clauses_of c) (made es) (made es)) take_end (is.settled (length front) d d_at is_assumed)

  first : IsFirstOpen c.inputs p x
  first = subst (λ es. IsFirstOpen c.inputs (made es) x) take_end (just_assumed c.inputs (clauses_of c ++ steps) (made (take (length front) old.entries)) d.lit d.reason is_assumed (is.just.at (length front) d d_at)).0

  just_front : AreJust c.inputs (clauses_of c ++ steps) front
  just_front = record { at = λ k f at. let within = slice_get_within front k f at in subst (λ es. IsJust c.inputs (clauses_of c ++ steps) (made es) f.lit f.reason) (take_old k (omega arith)) (is.just.at k f (in_old k f at)) }

  names_false : (l : Lit) → Occurs l (clause_of (assumed_in front)) → IsFalse p l
  names_false l o = assumed_false p front (λ k f at r. false_there k f at r) l o
    where
      take_whole : (es : List Entry) → take (length es) es ≡ es
      take_whole [] = refl
      take_whole (f ∷ es) = ap (λ ds. f ∷ ds) (take_whole es)

      false_there : (k : ℕ) (f : Entry) → slice_get front k ≡ Some f → f.reason ≡ Assumed → p f.lit.var ≡ Some false
      false_there k f at r =
          let within = slice_get_within front k f at in
          let value = valued_later (above front) front (just_new c.inputs (clauses_of c ++ steps) front just_front) k (length front) f at within (omega arith) in
          let negated = (just_assumed c.inputs (clauses_of c ++ steps) (made (take k front)) f.lit f.reason r (just_front.at k f at)).1 in
          ap (λ es. made es f.lit.var) (sym (take_whole front)) ∙ value ∙ ap (λ (b : Bool). Some (not b)) negated

  known_is : clauses_of c ++ more ≡ (clauses_of c ++ steps) ++ (clause ∷ [])
  known_is = sym (append_assoc (clauses_of c) steps (clause ∷ []))

  found : slice_get (clauses_of c ++ more) number ≡ Some clause
  found =
      ap (slice_get (clauses_of c ++ more)) numbered ∙ get_after (clauses_of c) more (length steps) ∙ get_last steps clause

  x_in : Occurs (variable x) clause
  x_in = subst (Occurs (variable x)) (sym clause_is) (occurs_right (clause_of (assumed_in front)) (variable x ∷ []) (variable x) (inl refl))

  unit : IsUnitAt (clauses_of c ++ more) p number (variable x)
  unit = (
    clause,
    found,
    record {
      there = x_in;
      still_open = first.still_open;
      others = all_false (variable x) p clause (λ m o. by m (occurs_split (clause_of (assumed_in front)) (variable x ∷ []) m (subst (Occurs m) clause_is o)));
    },
  )
    where
      by : (m : Lit) → Occurs m (clause_of (assumed_in front)) ⊎ Occurs m (variable x ∷ []) → (m ≡ variable x) ⊎ IsFalse p m
      by m (inl before) = inr (names_false m before)
      by m (inr (inl here)) = inl (sym here)
      by m (inr (inr none)) = absurd none

  new_is : made new.entries ≡ assume p (variable x)
  new_is = ap made grown ∙ made_push front e

  below : Below p (made new.entries)
  below = subst (Below p) (sym new_is) (below_assume p (variable x) first.still_open)

  x_holds : Holds (made new.entries) (variable x)
  x_holds = ap (λ (q : Partial). q x) new_is ∙ assume_at p (variable x)

  held_now : (j : ℕ) (step : List Lit) → slice_get more j ≡ Some step → IsHeld (made new.entries) step
  held_now j step at = by (last_or_before steps clause j step at)
    where
      old_step : IsHeld p step ⊎ Waits p x step → IsHeld (made new.entries) step
      old_step (inl held) = (held.0, held.1, held_below p (made new.entries) held.0 below held.2)
      old_step (inr waits) = (variable x, waits.0, x_holds)

      by : (slice_get steps j ≡ Some step) ⊎ ((j ≡ length steps) × (clause ≡ step)) → IsHeld (made new.entries) step
      by (inl before) = old_step (subst (λ es. IsHeld (made es) step ⊎ Waits (made es) x step) take_end (is.held.earlier (length front) d j step d_at is_assumed before))
      by (inr here) = (variable x, subst (Occurs (variable x)) here.1 x_in, x_holds)

  open_before : (k : ℕ) → k ≤ length front → made (take k front) x ≡ None
  open_before k h = by (made (take k front) x) refl
    where
      by : (o : Option Bool) → made (take k front) x ≡ o → made (take k front) x ≡ None
      by None e = e
      by (Some b) e =
          let has : p x ≡ Some b = (front_below c.inputs (clauses_of c ++ steps) front just_front k h).on x b e in
          let none : p x ≡ None = first.still_open in
          absurd (cc)

  held_earlier : (k : ℕ) (f : Entry) → slice_get front k ≡ Some f → (j : ℕ) (step : List Lit) → f.reason ≡ Assumed → slice_get more j ≡ Some step → IsHeld (made (take k front)) step ⊎ Waits (made (take k front)) f.lit.var step
  held_earlier k f f_at j step r at = by (slice_get_within front k f f_at) (last_or_before steps clause j step at)
    where
      apart : x ≡ f.lit.var → ⊥
      apart same =
          let f_false : p f.lit.var ≡ Some false = names_false (variable f.lit.var) (occurs_assumed front k f f_at r) in
          let none : p f.lit.var ≡ None = ap p (sym same) ∙ first.still_open in
          cc

      by : k < length front → (slice_get steps j ≡ Some step) ⊎ ((j ≡ length steps) × (clause ≡ step)) → IsHeld (made (take k front)) step ⊎ Waits (made (take k front)) f.lit.var step
      by within (inl before) = subst (λ es. IsHeld (made es) step ⊎ Waits (made es) f.lit.var step) (take_old k (omega arith)) (is.held.earlier k f j step (in_old k f f_at) r before)
      by within (inr here) =
          let f_in : Occurs (variable f.lit.var) clause = subst (Occurs (variable f.lit.var)) (sym clause_is) (occurs_left (clause_of (assumed_in front)) (variable x ∷ []) (variable f.lit.var) (occurs_assumed front k f f_at r)) in
          inr (subst (Waits (made (take k front)) f.lit.var) here.1 (f_in, (variable x, x_in, apart, open_before k (omega arith))))

  pub returned_running : IsRunning c more links new
  returned_running =
      let known = clauses_of c ++ more in
      let settled_front = λ (k : ℕ) (f : Entry) (at : slice_get front k ≡ Some f) (r : f.reason ≡ Assumed). by k f at r (slice_get_within front k f at) in
      let settled_at = at_pushed (λ before f. f.reason ≡ Assumed → AreGuarded (clauses_of c) (made before) (made before)) front e settled_front (λ r. absurd (no_clause number r)) in
      let just_all = λ (k : ℕ) (f : Entry) (at : slice_get front k ≡ Some f). subst (λ ks. IsJust c.inputs ks (made (take k front)) f.lit f.reason) (sym known_is) (just_more c.inputs (clauses_of c ++ steps) (clause ∷ []) (made (take k front)) f.lit f.reason (just_front.at k f at)) in
      let just_at = at_pushed (λ before f. IsJust c.inputs known (made before) f.lit f.reason) front e just_all unit in
      let held_at = at_pushed (λ before f. (j : ℕ) (step : List Lit) → f.reason ≡ Assumed → slice_get more j ≡ Some step → IsHeld (made before) step ⊎ Waits (made before) f.lit.var step) front e held_earlier (λ j step r at. absurd (no_clause number r)) in
      record {
        named = is.named;
        filled = is.filled;
        linked = is.linked;
        variable_count = same ∙ is.variable_count;
        settled = subst (AreSettled (clauses_of c)) (sym grown) settled_at;
        just = subst (AreJust c.inputs known) (sym grown) (record { at = just_at });
        held = record {
          now = held_now;
          earlier = λ k f j step at r there. subst (λ es. (i : ℕ) (g : Entry) → slice_get es i ≡ Some g → (n : ℕ) (s : List Lit) → g.reason ≡ Assumed → slice_get more n ≡ Some s → IsHeld (made (take i es)) s ⊎ Waits (made (take i es)) g.lit.var s) (sym grown) held_at k f at j step r there;
        };
      }
    where
      by : (k : ℕ) (f : Entry) → slice_get front k ≡ Some f → f.reason ≡ Assumed → k < length front → AreGuarded (clauses_of c) (made (take k front)) (made (take k front))
      by k f at r within = subst (λ es. AreGuarded (clauses_of c) (made es) (made es)) (take_old k (omega arith)) (is.settled k f (in_old k f at) r)

  pub returned_guarded : AreGuarded (clauses_of c) (made (take (length front) new.entries)) (made new.entries)
  returned_guarded =
      let before : take (length front) new.entries ≡ front = ap (take (length front)) grown ∙ take_all front (e ∷ []) in
      subst (λ es. AreGuarded (clauses_of c) (made es) (made new.entries)) (sym before) (all_guarded_below p p p (made new.entries) (clauses_of c) (below_self p) below settled)

  pub returned_assumed : assumed_in new.entries ≡ assumed_in front
  returned_assumed = ap assumed_in grown ∙ assumed_append front (e ∷ []) ∙ append-nil (assumed_in front)

  pub returned_valued : AreValued x (made new.entries)
  returned_valued y h = let was = first.valued y h in (was.0, below.on y was.0 was.1)

  pub returned_below : x < c.inputs
  returned_below = first.below

  pub returned_open : made front x ≡ None
  returned_open = first.still_open
