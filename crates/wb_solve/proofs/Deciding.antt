-- Assumptions, and going back from the last one.
use Rattle.std.proofs.Common.{◌≡◌, ℕ, zero, suc, ◌⊎◌, inl, inr, true, false, List, [], ◌∷◌, ◌++◌, length, take, Some, refl, sym, ◌∙◌, ap, subst}
use Rattle.std.specs.List.{slice_get}
use Rattle.std.proofs.lemmas.List.{map-append}
use Rattle.wb_gate.specs.declared.gates.Lit.{Lit}
use Rattle.wb_gate.specs.Circuit.{Circuit, variable}
use Rattle.wb_gate.specs.Clauses.{clauses_of}
use Rattle.wb_derive.specs.Partial.{Partial, assume, IsFalse, Occurs}
use Rattle.wb_solve.specs.declared.links.Links.{Links}
use Rattle.wb_solve.specs.declared.trail.Entry.{Entry}
use Rattle.wb_solve.specs.declared.trail.Reason.{Reason}
use Rattle.wb_solve.specs.declared.trail.Reason.TheVariants.{Assumed, Clause}
use Rattle.wb_solve.specs.Descent.{IsFirstOpen, clause_of, AreValued}
use Rattle.wb_solve.specs.Trails.{Track, made, IsJust, AreJust, assumed_by, assumed_in}
use Rattle.wb_solve.specs.Guarding.{AreGuarded, AreSettled, IsHeld, Waits}
use Rattle.wb_solve.specs.Propagating.{IsRunning}
use Rattle.wb_solve.proofs.Partials.{Below, below_self, below_assume}
use Rattle.wb_solve.proofs.Searching.{take_all}
use Rattle.wb_solve.proofs.Trailing.{made_push, at_pushed}
use Rattle.wb_solve.proofs.Growing.{assumed_append}
use Rattle.wb_solve.proofs.Quiet.{held_below, all_guarded_below}

module _ (c : Circuit) (steps : List (List Lit)) (links : Links) (old new : Track) (is : IsRunning c steps links old) (x : ℕ) (grown : new.entries ≡ old.entries ++ (record { lit = record { var = x; neg = true }; reason = Assumed } ∷ [])) (same : new.variables ≡ old.variables) (guarded : AreGuarded (clauses_of c) (made old.entries) (made old.entries)) (first : IsFirstOpen c.inputs (made old.entries) x) where
  abbrev e : Entry
  e = record { lit = record { var = x; neg = true }; reason = Assumed }

  pub decided_is : made new.entries ≡ assume (made old.entries) e.lit
  decided_is = ap made grown ∙ made_push old.entries e

  pub decided_below : Below (made old.entries) (made new.entries)
  decided_below = subst (Below (made old.entries)) (sym decided_is) (below_assume (made old.entries) e.lit first.still_open)

  pub decided_running : IsRunning c steps links new
  decided_running =
      let p = made old.entries in
      let known = clauses_of c ++ steps in
      let below = decided_below in
      let settled_at = at_pushed (λ front d. d.reason ≡ Assumed → AreGuarded (clauses_of c) (made front) (made front)) old.entries e is.settled (λ r. guarded) in
      let just_at = at_pushed (λ front d. IsJust c.inputs known (made front) d.lit d.reason) old.entries e is.just.at (first, refl) in
      let held_at = at_pushed (λ front d. (j : ℕ) (step : List Lit) → d.reason ≡ Assumed → slice_get steps j ≡ Some step → IsHeld (made front) step ⊎ Waits (made front) d.lit.var step) old.entries e (λ k d at j step r found. is.held.earlier k d j step at r found) (λ j step r found. inl (is.held.now j step found)) in
      record {
        named = is.named;
        filled = is.filled;
        linked = is.linked;
        variable_count = same ∙ is.variable_count;
        settled = subst (AreSettled (clauses_of c)) (sym grown) settled_at;
        just = subst (AreJust c.inputs known) (sym grown) (record { at = just_at });
        held = record {
          now = λ j step at. let found = is.held.now j step at in (found.0, found.1, held_below p (made new.entries) found.0 below found.2);
          earlier = λ k d j step at r found. subst (λ es. (i : ℕ) (f : Entry) → slice_get es i ≡ Some f → (n : ℕ) (s : List Lit) → f.reason ≡ Assumed → slice_get steps n ≡ Some s → IsHeld (made (take i es)) s ⊎ Waits (made (take i es)) f.lit.var s) (sym grown) held_at k d at j step r found;
        };
      }

  pub decided_guarded : AreGuarded (clauses_of c) (made (take (length old.entries) new.entries)) (made new.entries)
  decided_guarded =
      let front : take (length old.entries) new.entries ≡ old.entries = ap (take (length old.entries)) grown ∙ take_all old.entries (e ∷ []) in
      subst (λ es. AreGuarded (clauses_of c) (made es) (made new.entries)) (sym front) (all_guarded_below (made old.entries) (made old.entries) (made old.entries) (made new.entries) (clauses_of c) (below_self (made old.entries)) decided_below guarded)

  pub decided_assumed : assumed_in new.entries ≡ assumed_in old.entries ++ (x ∷ [])
  decided_assumed = ap assumed_in grown ∙ assumed_append old.entries (e ∷ [])

  pub decided_valued : AreValued x (made new.entries)
  decided_valued y h = let was = first.valued y h in (was.0, decided_below.on y was.0 was.1)

occurs_name : (xs : List ℕ) (k : ℕ) (x : ℕ) → slice_get xs k ≡ Some x → Occurs (variable x) (clause_of xs)
occurs_name [] k x at = absurd (cc)
occurs_name (y ∷ xs) zero x at = let same : y ≡ x = cc in inl (ap variable same)
occurs_name (y ∷ xs) (suc k) x at = inr (occurs_name xs k x at)

pub occurs_right : (xs ys : List Lit) (l : Lit) → Occurs l ys → Occurs l (xs ++ ys)
occurs_right [] ys l o = o
occurs_right (x ∷ xs) ys l o = inr (occurs_right xs ys l o)

pub occurs_left : (xs ys : List Lit) (l : Lit) → Occurs l xs → Occurs l (xs ++ ys)
occurs_left [] ys l o = absurd o
occurs_left (x ∷ xs) ys l (inl here) = inl here
occurs_left (x ∷ xs) ys l (inr there) = inr (occurs_left xs ys l there)

-- an assumption's variable stands in the clause of the negated assumptions
pub occurs_assumed : (es : List Entry) (k : ℕ) (e : Entry) → slice_get es k ≡ Some e → e.reason ≡ Assumed → Occurs (variable e.lit.var) (clause_of (assumed_in es))
occurs_assumed [] k e at is = absurd (cc)
occurs_assumed (d ∷ es) zero e at is =
    let same : d ≡ e = cc in
    let r : d.reason ≡ Assumed = ap (λ (f : Entry). f.reason) same ∙ is in
    rw r (inl (ap (λ (f : Entry). variable f.lit.var) same))
occurs_assumed (d ∷ es) (suc k) e at is =
    subst (Occurs (variable e.lit.var)) (sym (map-append variable (assumed_by d.lit d.reason) (assumed_in es)))
    (occurs_right (clause_of (assumed_by d.lit d.reason)) (clause_of (assumed_in es)) (variable e.lit.var) (occurs_assumed es k e at is))

-- the assumptions are false
pub assumed_false : (p : Partial) (es : List Entry) → ((k : ℕ) (e : Entry) → slice_get es k ≡ Some e → e.reason ≡ Assumed → p e.lit.var ≡ Some false) → (l : Lit) → Occurs l (clause_of (assumed_in es)) → IsFalse p l
assumed_false p [] all l o = absurd o
assumed_false p (e ∷ es) all l o = by e.reason refl (assumed_false p es (λ k d at. all (suc k) d at) l) o
  where
    by : (r : Reason) → e.reason ≡ r → (Occurs l (clause_of (assumed_in es)) → IsFalse p l) → Occurs l (clause_of (assumed_by e.lit r ++ assumed_in es)) → IsFalse p l
    by Assumed is later (inl here) = subst (IsFalse p) here (all 0 e refl is)
    by Assumed is later (inr there) = later there
    by (Clause number) is later o = later o
