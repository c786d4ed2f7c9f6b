-- Gates are visited, and what is found there is made true.
use Rattle.std.proofs.Common.{◌≡◌, ℕ, zero, suc, ◌+◌, ◌<◌, ◌≤◌, ◌⊎◌, inl, inr, List, [], ◌∷◌, ◌++◌, length, take, Option, Some, None, Result, Ok, Err, IfOk, OnOk, refl, sym, ◌∙◌, ap, subst, arith}
use Rattle.std.specs.List.{slice_get}
use Rattle.std.proofs.lemmas.Option.{slice_get_within}
use Rattle.wb_gate.specs.declared.gates.Lit.{Lit}
use Rattle.wb_gate.specs.declared.gates.Gate.{Gate}
use Rattle.wb_gate.specs.declared.gates.Goal.{Goal}
use Rattle.wb_gate.specs.declared.gates.Goal.TheVariants as goal
use Rattle.wb_gate.specs.Circuit.{Circuit, variables, variable}
use Rattle.wb_gate.specs.Clauses.{gate_clauses, gates_clauses, goal_clauses, clauses_of, clauses_before}
use Rattle.wb_derive.specs.Partial.{Partial, assume, IsFalse, Occurs, AreFalseBut}
use Rattle.wb_solve.specs.declared.links.Links.{Links}
use Rattle.wb_solve.specs.declared.trail.Entry.{Entry}
use Rattle.wb_solve.specs.declared.trail.Reason.TheVariants.{Assumed, Clause}
use Rattle.wb_solve.specs.declared.propagation.Propagation.{Propagation}
use Rattle.wb_solve.specs.Descent.{IsUnitAt}
use Rattle.wb_solve.specs.Turns.{FalsifiedAt}
use Rattle.wb_solve.specs.Trails.{Track, made, AreNew, IsJust, AreJust}
use Rattle.wb_solve.specs.Linking.{operands, Names, IsFree}
use Rattle.wb_solve.specs.Judging.{AreQuiet}
use Rattle.wb_solve.specs.Guarding.{IsGuarded, AreGuarded, AreSettled, IsHeld, Waits}
use Rattle.wb_solve.specs.Propagating.{IsRunning, IsRunningAt, IsGuardedAt, IsVisit, IsOwnVisit, AreVisited, AreVisits, IsDoneTo, IsPassed, Grows}
use Rattle.wb_solve.proofs.Lists.{get_left}
use Rattle.wb_solve.proofs.Partials.{Below, below_self, below_trans, below_assume}
use Rattle.wb_solve.proofs.Findings.{occurs_below}
use Rattle.wb_solve.proofs.Searching.{take_front, take_all}
use Rattle.wb_solve.proofs.Trailing.{made_push, made_more, at_pushed, assume_other}
use Rattle.wb_solve.proofs.Hinting.{above, just_new, entry_within}
use Rattle.wb_solve.proofs.Growing.{grows_longer, grows_trans}
use Rattle.wb_solve.proofs.Quiet.{held_below, all_guarded_below, all_false, but_at, quiet_all}
use Rattle.wb_solve.proofs.Gates.{known_split, in_gate, gate_of_at, occurs_of, number_of}
use Rattle.wb_solve.proofs.Linked.{same_or_not, names_or_not}

take_whole : {X : Type 0} (xs : List X) → take (length xs) xs ≡ xs
take_whole [] = refl
take_whole (x ∷ xs) = ap (λ ys. x ∷ ys) (take_whole xs)

-- values are kept along a trail
pub made_below : (n : ℕ) (entries : List Entry) → AreNew n entries → (more k : ℕ) → k + more ≡ length entries → Below (made (take k entries)) (made entries)
made_below n entries new zero k h = subst (λ es. Below (made es) (made entries)) (sym (ap (λ m. take m entries) (omega arith) ∙ take_whole entries)) (below_self (made entries))
made_below n entries new (suc more) k h =
    let at = entry_within entries k (omega arith) in
    let p = made (take k entries) in
    let next = made_below n entries new more (suc k) (omega arith) in
    below_trans p (assume p at.0.lit) (made entries) (below_assume p at.0.lit (new.was_open k at.0 at.1)) (subst (λ q. Below q (made entries)) (made_more entries k at.0 at.1) next)

pub front_below : (inputs : ℕ) (known : List (List Lit)) (entries : List Entry) → AreJust inputs known entries → (k : ℕ) → k ≤ length entries → Below (made (take k entries)) (made entries)
front_below inputs known entries just k h = by (rest k (length entries) h)
  where
    rest : (a b : ℕ) → a ≤ b → (more : ℕ) × (a + more ≡ b)
    rest zero b h = (b, omega arith)
    rest (suc a) zero h = absurd (omega arith)
    rest (suc a) (suc b) h = let found = rest a b (omega arith) in (found.0, omega (arith, found.1))

    by : (more : ℕ) × (k + more ≡ length entries) → Below (made (take k entries)) (made entries)
    by found = made_below (above entries) entries (just_new inputs known entries just) found.0 k found.1

pub grown_below : (inputs : ℕ) (known : List (List Lit)) (old new : List Entry) → AreJust inputs known new → Grows old new → Below (made old) (made new)
grown_below inputs known old new just grows =
    let longer = grows_longer old new grows in
    let front : take (length old) new ≡ old = ap (take (length old)) grows.1 ∙ take_all old grows.0 in
    subst (λ es. Below (made es) (made new)) front (front_below inputs known new just (length old) longer)

pub grows_self : (entries : List Entry) → Grows entries entries
grows_self entries = ([], sym (nothing entries), refl)
  where
    nothing : (es : List Entry) → es ++ [] ≡ es
    nothing [] = refl
    nothing (e ∷ es) = ap (λ ds. e ∷ ds) (nothing es)

module _ (c : Circuit) (steps : List (List Lit)) where
  -- an entry whose reason is a clause is pushed
  pub running_push : (links : Links) (old new : Track) (l : Lit) (number : ℕ) → new.entries ≡ old.entries ++ (record { lit = l; reason = Clause number } ∷ []) → new.variables ≡ old.variables → IsUnitAt (clauses_of c ++ steps) (made old.entries) number l → IsRunning c steps links old → IsRunning c steps links new
  running_push links old new l number grown same unit is =
      let e : Entry = record { lit = l; reason = Clause number } in
      let p = made old.entries in
      let known = clauses_of c ++ steps in
      let q_is : made new.entries ≡ assume p l = ap made grown ∙ made_push old.entries e in
      let below : Below p (made new.entries) = subst (Below p) (sym q_is) (below_assume p l unit.2.still_open) in
      let settled_at = at_pushed (λ front d. d.reason ≡ Assumed → AreGuarded (clauses_of c) (made front) (made front)) old.entries e is.settled (λ (r : Clause number ≡ Assumed). differ number (made old.entries) r) in
      let just_at = at_pushed (λ front d. IsJust c.inputs known (made front) d.lit d.reason) old.entries e is.just.at unit in
      let held_at = at_pushed (λ front d. (j : ℕ) (step : List Lit) → d.reason ≡ Assumed → slice_get steps j ≡ Some step → IsHeld (made front) step ⊎ Waits (made front) d.lit.var step) old.entries e (λ k d at j step r found. is.held.earlier k d j step at r found) (λ j step (r : Clause number ≡ Assumed) found. wrong number r) in
      record {
        named = is.named;
        filled = is.filled;
        linked = is.linked;
        variable_count = same ∙ is.variable_count;
        settled = subst (AreSettled (clauses_of c)) (sym grown) settled_at;
        just = subst (AreJust c.inputs known) (sym grown) (record { at = just_at });
        held = record {
          now = λ j step at. let found = is.held.now j step at in (found.0, found.1, held_below p (made new.entries) found.0 below found.2);
          earlier = λ k d j step at r found. subst (λ es. (i : ℕ) (f : Entry) → slice_get es i ≡ Some f → (n : ℕ) (s : List Lit) → f.reason ≡ Assumed → slice_get steps n ≡ Some s → IsHeld (made (take i es)) s ⊎ Waits (made (take i es)) f.lit.var s) (sym grown) held_at k d at j step r found;
        };
      }
    where
      wrong : {A : Type 0} → (m : ℕ) → Clause m ≡ Assumed → A
      wrong m r = absurd (no_way m r)
        where
          no_way : (m : ℕ) → Clause m ≡ Assumed → ⊥
          no_way m r = cc

      differ : (m : ℕ) (p : Partial) → Clause m ≡ Assumed → AreGuarded (clauses_of c) p p
      differ m p r = wrong m r

  -- what is found among the clauses of a gate
  module _ (p : Partial) (number : ℕ) (gate : Gate) (at : slice_get c.gates number ≡ Some gate) where
    abbrev own : List (List Lit)
    own = gate_clauses (variable (c.inputs + number)) gate

    pub gate_unit : (place k : ℕ) (l : Lit) → place ≡ 0 + k → IsUnitAt own p k l → IsUnitAt (clauses_of c ++ steps) p (clauses_before c number + place) l
    gate_unit place k l same unit =
        let known = number_of c number gate k unit.0 at unit.1 in
        let e : clauses_before c number + k ≡ clauses_before c number + place = omega (arith, same) in
        (unit.0, get_left (clauses_of c) steps (clauses_before c number + place) unit.0 (subst (λ n. slice_get (clauses_of c) n ≡ Some unit.0) e known), unit.2)

    pub gate_falsified : (place k : ℕ) → place ≡ 0 + k → FalsifiedAt own p k → FalsifiedAt (clauses_of c ++ steps) p (clauses_before c number + place)
    gate_falsified place k same fallen =
        let known = number_of c number gate k fallen.0 at fallen.1 in
        let e : clauses_before c number + k ≡ clauses_before c number + place = omega (arith, same) in
        (fallen.0, get_left (clauses_of c) steps (clauses_before c number + place) fallen.0 (subst (λ n. slice_get (clauses_of c) n ≡ Some fallen.0) e known), fallen.2)

    pub gate_quiet : AreQuiet p own → IsGuardedAt c number p p
    gate_quiet quiet other found = subst (λ g. AreGuarded (gate_clauses (variable (c.inputs + number)) g) p p) (some_gate (sym at ∙ found)) (quiet_all p own quiet)
      where
        some_gate : Some gate ≡ Some other → gate ≡ other
        some_gate e = cc

  pub unit_below : (links : Links) (track : Track) (number : ℕ) (gate : Gate) (k : ℕ) (l : Lit) → IsRunning c steps links track → slice_get c.gates number ≡ Some gate → IsUnitAt (gate_clauses (variable (c.inputs + number)) gate) (made track.entries) k l → l.var < track.variables
  unit_below links track number gate k l is at unit =
      let known = number_of c number gate k unit.0 at unit.1 in
      subst (λ n. l.var < n) (sym is.variable_count) (occurs_below (variables c) unit.0 l (is.named (clauses_before c number + k) unit.0 known) unit.2.there)

-- the visit of the gate of a variable
pub own_visit : {E : Type 0} (c : Circuit) (steps : List (List Lit)) (s : Propagation) (x number : ℕ) (r : Result (Option ℕ) E) → c.inputs + number ≡ x → IfOk r (IsVisit c steps s number) → IfOk r (IsOwnVisit c steps s x)
own_visit c steps s x number (Err e) same is = tt
own_visit c steps s x number (Ok (Some clause)) same is = is
own_visit c steps s x number (Ok None) same is = (is.0, λ k here. subst (λ n. IsGuardedAt c n (made s.trail.entries) (made s.trail.entries)) (one k here) is.1)
  where
    one : (k : ℕ) → c.inputs + k ≡ x → number ≡ k
    one k here = omega (arith, same, here)

pub grows_on : {X E : Type 0} (one two three : List Entry) (r : Result X E) → Grows one two → OnOk r (Grows two three) → OnOk r (Grows one three)
grows_on one two three (Err e) grows more = tt
grows_on one two three (Ok x) grows more = grows_trans one two three grows more

-- the visits of the gates that name a variable, after that of its own gate
pub passed_of : {E : Type 0} (c : Circuit) (steps : List (List Lit)) (q : Partial) (mid new : Propagation) (x head : ℕ) (r : Result (Option ℕ) E) → IfOk r (AreVisits c steps q new x) → OnOk r (Grows mid.trail.entries new.trail.entries) → (IsRunningAt c steps new → AreVisited c x 0 q (made new.trail.entries) → Grows mid.trail.entries new.trail.entries → AreGuarded (clauses_of c) (made (take (head + 1) new.trail.entries)) (made new.trail.entries)) → IfOk r (IsPassed c steps new (head + 1))
passed_of c steps q mid new x head (Err e) visits grows all = tt
passed_of c steps q mid new x head (Ok (Some clause)) visits grows all = visits
passed_of c steps q mid new x head (Ok None) visits grows all = (visits.0, all visits.0 visits.1 grows)

-- the visits go on to gates before
pub visited_more : (c : Circuit) (x end number next : ℕ) (p q r : Partial) → end ≡ number + 1 → AreVisited c x end p q → IsGuardedAt c number r r → Below p q → Below q r → IsFree c.gates x next number → AreVisited c x next p r
visited_more c x end number next p q r last before here below above free k gate from at names = by (split k)
  where
    split : (k : ℕ) → (k < number) ⊎ ((k ≡ number) ⊎ (number + 1 ≤ k))
    split k = grind arith

    by : (k < number) ⊎ ((k ≡ number) ⊎ (number + 1 ≤ k)) → IsGuardedAt c k p r
    by (inl less) = absurd (free.none k gate from less at names)
    by (inr (inl same)) = subst (λ n. IsGuardedAt c n p r) (sym same) (λ g there. all_guarded_below p r r r (gate_clauses (variable (c.inputs + number)) g) (below_trans p q r below above) (below_self r) (here g there))
    by (inr (inr more)) = λ g there. all_guarded_below p p q r (gate_clauses (variable (c.inputs + k)) g) (below_self p) above (before k gate (omega (arith, last, more)) at names g there)

-- all gates were visited whose clauses have the variable of an entry
module _ (c : Circuit) (steps : List (List Lit)) (old mid new : Propagation) (head : ℕ) (e : Entry) (at_head : slice_get old.trail.entries head ≡ Some e) (done : IsDoneTo c steps old head) (running : IsRunningAt c steps new) (running_mid : IsRunningAt c steps mid) (grows : Grows old.trail.entries mid.trail.entries) (more : Grows mid.trail.entries new.trail.entries) (own : (k : ℕ) → c.inputs + k ≡ e.lit.var → IsGuardedAt c k (made mid.trail.entries) (made mid.trail.entries)) (users : AreVisited c e.lit.var 0 (made mid.trail.entries) (made new.trail.entries)) where
  abbrev before : Partial
  before = made (take head old.trail.entries)

  abbrev p : Partial
  p = made (take (suc head) new.trail.entries)

  abbrev q : Partial
  q = made mid.trail.entries

  abbrev r : Partial
  r = made new.trail.entries

  p_is : p ≡ assume before e.lit
  p_is =
      let longer = grows_longer old.trail.entries mid.trail.entries grows in
      let within = slice_get_within old.trail.entries head e at_head in
      ap made (ap (take (suc head)) more.1 ∙ take_front mid.trail.entries more.0 (suc head) (omega (arith, longer, within))
      ∙ ap (take (suc head)) grows.1 ∙ take_front old.trail.entries grows.0 (suc head) within)
      ∙ made_more old.trail.entries head e at_head

  q_below : Below q r
  q_below = grown_below c.inputs (clauses_of c ++ steps) mid.trail.entries new.trail.entries running.just more

  old_below : Below (made old.trail.entries) q
  old_below = grown_below c.inputs (clauses_of c ++ steps) old.trail.entries mid.trail.entries running_mid.just grows

  p_below : Below p q
  p_below =
      let longer = grows_longer old.trail.entries mid.trail.entries grows in
      let within = slice_get_within old.trail.entries head e at_head in
      let front : take (suc head) new.trail.entries ≡ take (suc head) mid.trail.entries = ap (take (suc head)) more.1 ∙ take_front mid.trail.entries more.0 (suc head) (omega (arith, longer, within)) in
      subst (λ es. Below (made es) q) (sym front) (front_below c.inputs (clauses_of c ++ steps) mid.trail.entries running_mid.just (suc head) (omega (arith, longer, within)))

  -- a clause without the variable has the values that it had
  same_without : (clause : List Lit) (l : Lit) → ((m : Lit) → Occurs m clause → m.var ≡ e.lit.var → ⊥) → AreFalseBut l p clause → AreFalseBut l before clause
  same_without clause l apart all = all_false l before clause (λ m o. by m o (but_at p clause m l o all))
    where
      by : (m : Lit) → Occurs m clause → (m ≡ l) ⊎ IsFalse p m → (m ≡ l) ⊎ IsFalse before m
      by m o (inl same) = inl same
      by m o (inr f) = inr (sym (assume_other before e.lit m.var (apart m o)) ∙ ap (λ (s : Partial). s m.var) (sym p_is) ∙ f)

  old_guarded : (k : ℕ) (clause : List Lit) → slice_get (clauses_of c) k ≡ Some clause → ((m : Lit) → Occurs m clause → m.var ≡ e.lit.var → ⊥) → IsGuarded p r clause
  old_guarded k clause at apart l there all =
      held_below q r l q_below (held_below (made old.trail.entries) q l old_below (done.1 k clause at l there (same_without clause l apart all)))

  gate_guarded : (k : ℕ) (clause : List Lit) → slice_get (clauses_of c) k ≡ Some clause → (g : ℕ) (gate : Gate) (j : ℕ) → slice_get c.gates g ≡ Some gate → slice_get (gate_clauses (variable (c.inputs + g)) gate) j ≡ Some clause → IsGuarded p r clause
  gate_guarded k clause at g gate j gate_at place = by (same_or_not (c.inputs + g) e.lit.var) (names_or_not e.lit.var (operands gate))
    where
      of : (m : Lit) → Occurs m clause → (m.var ≡ c.inputs + g) ⊎ Names m.var (operands gate)
      of m o = occurs_of (c.inputs + g) (operands gate) clause m (gate_of_at (variable (c.inputs + g)) gate j clause place) o

      by : (c.inputs + g ≡ e.lit.var) ⊎ (c.inputs + g ≡ e.lit.var → ⊥) → Names e.lit.var (operands gate) ⊎ (Names e.lit.var (operands gate) → ⊥) → IsGuarded p r clause
      by (inl same) names = all_guarded_below p q q r (gate_clauses (variable (c.inputs + g)) gate) p_below q_below (own g same gate gate_at) j clause place
      by (inr other) (inl names) = all_guarded_below p q r r (gate_clauses (variable (c.inputs + g)) gate) p_below (below_self r) (users g gate (omega arith) gate_at names gate gate_at) j clause place
      by (inr other) (inr apart) = old_guarded k clause at (λ m o same. without m same (of m o))
        where
          without : (m : Lit) → m.var ≡ e.lit.var → (m.var ≡ c.inputs + g) ⊎ Names m.var (operands gate) → ⊥
          without m same (inl here) = other (sym here ∙ same)
          without m same (inr names) = apart (subst (λ y. Names y (operands gate)) same names)

  pub all_visited : AreGuarded (clauses_of c) (made (take (head + 1) new.trail.entries)) r
  all_visited k clause at =
      let e_suc : suc head ≡ head + 1 = omega arith in
      subst (λ n. IsGuarded (made (take n new.trail.entries)) r clause) e_suc (by (known_split (gates_clauses c) (goal_clauses c.goal) k clause at))
    where
      one : (asked : Goal) (j : ℕ) → slice_get (goal_clauses asked) j ≡ Some clause → (l m : Lit) → Occurs l clause → Occurs m clause → m ≡ l
      one (goal.Lit n) zero found l m there also =
          let same : (n ∷ []) ≡ clause = cc in
          both (subst (Occurs l) (sym same) there) (subst (Occurs m) (sym same) also)
        where
          both : Occurs l (n ∷ []) → Occurs m (n ∷ []) → m ≡ l
          both (inl here) (inl too) = sym too ∙ here
          both (inr none) too = absurd none
          both (inl here) (inr none) = absurd none
      one (goal.Lit n) (suc j) found l m there also = absurd (cc)
      one goal.Never zero found l m there also = let same : [] ≡ clause = cc in absurd (subst (Occurs l) (sym same) there)
      one goal.Never (suc j) found l m there also = absurd (cc)
      one goal.Always j found l m there also = absurd (cc)

      by : (slice_get (gates_clauses c) k ≡ Some clause) ⊎ ((j : ℕ) × (slice_get (goal_clauses c.goal) j ≡ Some clause)) → IsGuarded p r clause
      by (inl here) =
          let found = in_gate c.inputs c.gates k clause here in
          gate_guarded k clause at found.0 found.1 found.3.0 found.2 found.3.1
      by (inr there) = λ l o all. held_below q r l q_below (held_below (made old.trail.entries) q l old_below (done.1 k clause at l o (all_false l before clause (λ m also. inl (one c.goal there.0 there.1 l m o also)))))
