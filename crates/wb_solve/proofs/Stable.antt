-- Values at which no clause is falsified or unit satisfy the formula.
use Rattle.std.proofs.Common.{◌≡◌, ℕ, zero, suc, ◌+◌, ◌-◌, ◌<◌, ◌≤◌, ◌⊎◌, inl, inr, Bool, true, false, not, ◌&&◌, ◌||◌, if◌then◌else◌, eqb, List, [], ◌∷◌, ◌++◌, length, Option, Some, None, refl, sym, ◌∙◌, ap, ap₂, subst, arith, eq-eqb}
use Rattle.std.specs.List.{slice_get, list_all}
use Rattle.std.proofs.lemmas.Bool.{eqb-true}
use Rattle.std.proofs.lemmas.List.{append-nil}
use Rattle.std.proofs.lemmas.List.Folds.{list_all-append}
use Rattle.wb_gate.specs.declared.gates.Lit.{Lit}
use Rattle.wb_gate.specs.declared.gates.Gate.{Gate}
use Rattle.wb_gate.specs.declared.gates.Gate.TheVariants.{And, Xor, Mux, Maj}
use Rattle.wb_gate.specs.declared.gates.Goal.{Goal}
use Rattle.wb_gate.specs.declared.gates.Goal.TheVariants as goal
use Rattle.wb_gate.specs.Circuit.{Circuit, Assignment, variables, variable, lit_value, gate_value, NamesBelow, GoalBelow, IsCircuit, Obeys}
use Rattle.wb_gate.specs.Clauses.{gate_clauses, clauses_from, gates_clauses, goal_clauses, clauses_of, satisfies_clause, SatisfiesAll, Satisfies}
use Rattle.wb_gate.specs.Laws.{ClausesSayTheGates}
use Rattle.wb_derive.specs.Partial.{Partial, IsFalse, IsFalsified, AreFalseBut, IsUnit}
use Rattle.wb_solve.specs.Descent.{IsStable, AreValued}
use Rattle.wb_solve.specs.Laws.{Agrees, StableValuesSatisfy}
use Rattle.wb_solve.proofs.Lists.{Has, has_left, has_right, some_fails}
use Rattle.wb_solve.proofs.Units.{unit_or_false}

-- each literal of the clause names g or a variable before it
abbrev Near : ℕ → List Lit → Type 0
Near g [] = Unit {0}
Near g (l ∷ ls) = ((l.var ≡ g) ⊎ (l.var < g)) × Near g ls

abbrev AllNear : ℕ → List (List Lit) → Type 0
AllNear g [] = Unit {0}
AllNear g (c ∷ cs) = Near g c × AllNear g cs

gate_near : (g : ℕ) (gate : Gate) → NamesBelow g gate → AllNear g (gate_clauses (variable g) gate)
gate_near g (And x y) below =
    let a = inr below.0 in
    let b = inr below.1 in
    let o = inl refl in
    ((o, (a, tt)), ((o, (b, tt)), ((o, (a, (b, tt))), tt)))
gate_near g (Xor x y) below =
    let a = inr below.0 in
    let b = inr below.1 in
    let o = inl refl in
    ((o, (a, (b, tt))), ((o, (a, (b, tt))), ((o, (a, (b, tt))), ((o, (a, (b, tt))), tt))))
gate_near g (Mux c x y) below =
    let d = inr below.0 in
    let a = inr below.1 in
    let b = inr below.2 in
    let o = inl refl in
    ((o, (d, (a, tt))), ((o, (d, (a, tt))), ((o, (d, (b, tt))), ((o, (d, (b, tt))), tt))))
gate_near g (Maj x y z) below =
    let a = inr below.0 in
    let b = inr below.1 in
    let d = inr below.2 in
    let o = inl refl in
    ((o, (a, (b, tt))), ((o, (a, (d, tt))), ((o, (b, (d, tt))), ((o, (a, (b, tt))), ((o, (a, (d, tt))), ((o, (b, (d, tt))), tt))))))

near_at : (g : ℕ) (cs : List (List Lit)) (k : ℕ) (clause : List Lit) → AllNear g cs → slice_get cs k ≡ Some clause → Near g clause
near_at g [] k clause all e = absurd (cc)
near_at g (c ∷ cs) zero clause all e = let same : c ≡ clause = cc in subst (Near g) same all.0
near_at g (c ∷ cs) (suc k) clause all e = near_at g cs k clause all.1 e

value_is : (neg value : Bool) → (if neg then not value else value) ≡ false → value ≡ neg
value_is true true h = refl
value_is true false h = cc
value_is false true h = cc
value_is false false h = refl

lit_false : (p : Partial) (v : Assignment) (l : Lit) → p l.var ≡ Some (v l.var) → lit_value v l ≡ false → IsFalse p l
lit_false p v l has is = has ∙ ap (λ (b : Bool). Some b) (value_is l.neg (v l.var) is)

or_parts : (a b : Bool) → (a || b) ≡ false → (a ≡ false) × (b ≡ false)
or_parts true b h = cc
or_parts false b h = (refl, h)

-- a clause that an assignment doesn't satisfy is falsified, but for the literals of g
false_but : (p : Partial) (v : Assignment) (g : ℕ) (clause : List Lit) → Agrees g p v → Near g clause → satisfies_clause v clause ≡ false → AreFalseBut (record { var = g; neg = v g }) p clause
false_but p v g [] agrees near h = tt
false_but p v g (l ∷ ls) agrees near h =
    let parts = or_parts (lit_value v l) (satisfies_clause v ls) h in
    (by near.0 parts.0, false_but p v g ls agrees near.1 parts.1)
  where
    by : (l.var ≡ g) ⊎ (l.var < g) → lit_value v l ≡ false → (l ≡ record { var = g; neg = v g }) ⊎ IsFalse p l
    by (inl here) is =
        let lit : ℕ → Bool → Lit = λ x n. record { var = x; neg = n } in
        inl (ap₂ lit here (sym (value_is l.neg (v l.var) is) ∙ ap v here))
    by (inr before) is = inr (lit_false p v l (agrees l.var before) is)

falsified_from : (p : Partial) (v : Assignment) (g : ℕ) (clause : List Lit) → Agrees (suc g) p v → Near g clause → satisfies_clause v clause ≡ false → IsFalsified p clause
falsified_from p v g [] agrees near h = tt
falsified_from p v g (l ∷ ls) agrees near h =
    let parts = or_parts (lit_value v l) (satisfies_clause v ls) h in
    (lit_false p v l (agrees l.var (by near.0)) parts.0, falsified_from p v g ls agrees near.1 parts.1)
  where
    by : (l.var ≡ g) ⊎ (l.var < g) → l.var < suc g
    by (inl here) = omega arith
    by (inr before) = omega arith

-- gates have one value where the variables before them have
lit_same : (w v : Assignment) (g : ℕ) (l : Lit) → ((x : ℕ) → x < g → w x ≡ v x) → l.var < g → lit_value w l ≡ lit_value v l
lit_same w v g l same below = ap (λ b. if l.neg then not b else b) (same l.var below)

gate_same : (w v : Assignment) (g : ℕ) (gate : Gate) → ((x : ℕ) → x < g → w x ≡ v x) → NamesBelow g gate → gate_value w gate ≡ gate_value v gate
gate_same w v g (And x y) same below = rw (lit_same w v g x same below.0, lit_same w v g y same below.1) refl
gate_same w v g (Xor x y) same below = rw (lit_same w v g x same below.0, lit_same w v g y same below.1) refl
gate_same w v g (Mux c x y) same below = rw (lit_same w v g c same below.0, lit_same w v g x same below.1, lit_same w v g y same below.2) refl
gate_same w v g (Maj x y z) same below = rw (lit_same w v g x same below.0, lit_same w v g y same below.1, lit_same w v g z same below.2) refl

not_self : (b : Bool) → not b ≡ b → ⊥
not_self true e = cc
not_self false e = cc

module _ (law : ClausesSayTheGates) where
  -- an assignment that satisfies the clauses of one gate gives it its value
  obeys_one : (v : Assignment) (g : ℕ) (gate : Gate) → SatisfiesAll v (gate_clauses (variable g) gate) → v g ≡ gate_value v gate
  obeys_one v g gate all =
      let c : Circuit = record { inputs = g; limit = 1; gates = gate ∷ []; goal = goal.Always } in
      let whole : SatisfiesAll v (gates_clauses c) = ap (list_all (satisfies_clause v)) (append-nil (gate_clauses (variable g) gate)) ∙ all in
      let here : g ≡ g + 0 = omega arith in
      ap v here ∙ (law.obeyed c v whole).at 0 gate refl

  module _ (known : List (List Lit)) (p : Partial) (stable : IsStable known p) where
    -- the clauses of a gate are known
    abbrev Knows : ℕ → Gate → Type 0
    Knows g gate = (clause : List Lit) → Has (gate_clauses (variable g) gate) clause → Has known clause

    -- an assignment with these values gives the gate its value
    gate_obeyed : (v : Assignment) (g : ℕ) (gate : Gate) → Knows g gate → NamesBelow g gate → Agrees (suc g) p v → v g ≡ gate_value v gate
    gate_obeyed v g gate knows below agrees = by (list_all (satisfies_clause v) (gate_clauses (variable g) gate)) refl
      where
        by : (b : Bool) → list_all (satisfies_clause v) (gate_clauses (variable g) gate) ≡ b → v g ≡ gate_value v gate
        by true e = obeys_one v g gate e
        by false e =
            let found = some_fails (satisfies_clause v) (gate_clauses (variable g) gate) e in
            let near = near_at g (gate_clauses (variable g) gate) found.1.0 found.0 (gate_near g gate below) found.1.1 in
            let at = knows found.0 found.1 in
            absurd (stable.no_falsified (at.0, found.0, at.1, falsified_from p v g found.0 agrees near found.2))

    -- the gate has a value where the variables before it have
    gate_valued : (v : Assignment) (g : ℕ) (gate : Gate) → Knows g gate → NamesBelow g gate → Agrees g p v → p g ≡ None → ⊥
    gate_valued v g gate knows below agrees still = by (list_all (satisfies_clause w) (gate_clauses (variable g) gate)) refl
      where
        w : Assignment
        w = λ x. if eqb x g then not (gate_value v gate) else v x

        w_at : w g ≡ not (gate_value v gate)
        w_at = rw (eq-eqb g g refl) refl

        w_before : (x : ℕ) → x < g → w x ≡ v x
        w_before x h = other (eqb x g) refl
          where
            other : (b : Bool) → eqb x g ≡ b → (if b then not (gate_value v gate) else v x) ≡ v x
            other true e = let same : x ≡ g = eqb-true x g e in absurd (omega arith)
            other false e = refl

        agrees_w : Agrees g p w
        agrees_w = λ x h. agrees x h ∙ ap (λ (b : Bool). Some b) (sym (w_before x h))

        by : (b : Bool) → list_all (satisfies_clause w) (gate_clauses (variable g) gate) ≡ b → ⊥
        by true e = not_self (gate_value v gate) (sym w_at ∙ obeys_one w g gate e ∙ gate_same w v g gate w_before below)
        by false e =
            let found = some_fails (satisfies_clause w) (gate_clauses (variable g) gate) e in
            let near = near_at g (gate_clauses (variable g) gate) found.1.0 found.0 (gate_near g gate below) found.1.1 in
            let at = knows found.0 found.1 in
            let l : Lit = record { var = g; neg = w g } in
            which at found.0 l (unit_or_false l p found.0 still (false_but p w g found.0 agrees_w near found.2))
          where
            which : {clause : List Lit} → Has known clause → (d : List Lit) (l : Lit) → IsUnit p clause l ⊎ IsFalsified p clause → ⊥
            which {clause} at d l (inl unit) = stable.no_unit l (at.0, (clause, at.1, unit))
            which {clause} at d l (inr f) = stable.no_falsified (at.0, clause, at.1, f)

-- the value of each variable, or false
value_or : Option Bool → Bool
value_or None = false
value_or (Some b) = b

values_of : Partial → Assignment
values_of p = λ x. value_or (p x)

valued_agrees : (n : ℕ) (p : Partial) → AreValued n p → Agrees n p (values_of p)
unfolding values_of value_or
valued_agrees n p valued x h = let has = valued x h in has.1 ∙ ap (λ o. Some (value_or o)) (sym has.1)

-- a gate's clauses stand among those of a circuit
gate_known : (next : ℕ) (gates : List Gate) (k : ℕ) (gate : Gate) → slice_get gates k ≡ Some gate → (clause : List Lit) → Has (gate_clauses (variable (next + k)) gate) clause → Has (clauses_from next gates) clause
gate_known next [] k gate e clause has = absurd (cc)
gate_known next (first ∷ gates) zero gate e clause has =
    let same : gate ≡ first = cc in
    let here : next + 0 ≡ next = omega arith in
    let P : ℕ → Type 0 = λ n. Has (gate_clauses (variable n) gate) clause in
    let Q : Gate → Type 0 = λ h. Has (gate_clauses (variable next) h) clause in
    has_left (gate_clauses (variable next) first) (clauses_from (next + 1) gates) clause (subst Q same (subst P here has))
gate_known next (first ∷ gates) (suc k) gate e clause has =
    let there : next + suc k ≡ (next + 1) + k = omega arith in
    let P : ℕ → Type 0 = λ n. Has (gate_clauses (variable n) gate) clause in
    has_right (gate_clauses (variable next) first) (clauses_from (next + 1) gates) clause (gate_known (next + 1) gates k gate e clause (subst P there has))

get_within : (gates : List Gate) (k : ℕ) → k < length gates → (gate : Gate) × (slice_get gates k ≡ Some gate)
get_within [] k h = absurd (omega arith)
get_within (x ∷ xs) zero h = (x, refl)
get_within (x ∷ xs) (suc k) h = get_within xs k (omega arith)

split : (x n : ℕ) → (x < n) ⊎ (n ≤ x)
split x n = grind arith

and_from : (a b : Bool) → a ≡ true → b ≡ true → (a && b) ≡ true
and_from a b h k = rw (h, k) refl

module _ (law : ClausesSayTheGates) (c : Circuit) (steps : List (List Lit)) (p : Partial) (is : IsCircuit c) (stable : IsStable (clauses_of c ++ steps) p) where
  knows : (k : ℕ) (gate : Gate) → slice_get c.gates k ≡ Some gate → (clause : List Lit) → Has (gate_clauses (variable (c.inputs + k)) gate) clause → Has (clauses_of c ++ steps) clause
  knows k gate e clause has =
      has_left (clauses_of c) steps clause (has_left (gates_clauses c) (goal_clauses c.goal) clause (gate_known c.inputs c.gates k gate e clause has))

  valued_below : AreValued c.inputs p → (n : ℕ) → n ≤ variables c → AreValued n p
  valued_below inputs zero h x below = absurd (omega arith)
  valued_below inputs (suc n) h x below = by (valued_below inputs n (omega arith)) (split x n)
    where
      last : AreValued n p → (n < c.inputs) ⊎ (c.inputs ≤ n) → (b : Bool) × (p n ≡ Some b)
      last before (inl input) = inputs n input
      last before (inr later) =
          let k = n - c.inputs in
          let e : c.inputs + k ≡ n = omega arith in
          let found = get_within c.gates k (omega arith) in
          let named : NamesBelow n found.0 = subst (λ m. NamesBelow m found.0) e (is.earlier k found.0 found.1) in
          let P : ℕ → Type 0 = λ m. (clause : List Lit) → Has (gate_clauses (variable m) found.0) clause → Has (clauses_of c ++ steps) clause in
          which (p n) refl (gate_valued law (clauses_of c ++ steps) p stable (values_of p) n found.0 (subst P e (knows k found.0 found.1)) named (valued_agrees n p before))
        where
          which : (o : Option Bool) → p n ≡ o → (p n ≡ None → ⊥) → (b : Bool) × (p n ≡ Some b)
          which None e none = absurd (none e)
          which (Some b) e none = (b, e)

      by : AreValued n p → (x < n) ⊎ (n ≤ x) → (b : Bool) × (p x ≡ Some b)
      by before (inl less) = before x less
      by before (inr here) =
          let e : n ≡ x = omega arith in
          subst (λ m. (b : Bool) × (p m ≡ Some b)) e (last before (split n c.inputs))

  gates_obeyed : (v : Assignment) → Agrees (variables c) p v → Obeys v c
  gates_obeyed v agrees = record { at = λ k gate e. by k gate e }
    where
      by : (k : ℕ) (gate : Gate) → slice_get c.gates k ≡ Some gate → v (c.inputs + k) ≡ gate_value v gate
      by k gate e =
          let inside = within c.gates k gate e in
          gate_obeyed law (clauses_of c ++ steps) p stable v (c.inputs + k) gate (knows k gate e) (is.earlier k gate e) (λ x h. agrees x (omega arith))
        where
          within : (gates : List Gate) (k : ℕ) (gate : Gate) → slice_get gates k ≡ Some gate → k < length gates
          within [] k gate e = absurd (cc)
          within (x ∷ xs) zero gate e = omega arith
          within (x ∷ xs) (suc k) gate e = let h = within xs k gate e in omega arith

  goal_met : (v : Assignment) → Agrees (variables c) p v → (asked : Goal) → GoalBelow (variables c) asked → ((clause : List Lit) → Has (goal_clauses asked) clause → Has (clauses_of c ++ steps) clause) → SatisfiesAll v (goal_clauses asked)
  goal_met v agrees (goal.Lit l) below known = by (lit_value v l) refl
    where
      by : (b : Bool) → lit_value v l ≡ b → SatisfiesAll v (goal_clauses (goal.Lit l))
      by true e = rw e refl
      by false e =
          let at = known (l ∷ []) (0, refl) in
          absurd (stable.no_falsified (at.0, l ∷ [], at.1, (lit_false p v l (agrees l.var below) e, tt)))
  goal_met v agrees goal.Never below known =
      let at = known [] (0, refl) in
      absurd (stable.no_falsified (at.0, [], at.1, tt))
  goal_met v agrees goal.Always below known = refl

  all_satisfied : (v : Assignment) → Agrees (variables c) p v → Satisfies v c
  all_satisfied v agrees =
      list_all-append (satisfies_clause v) (gates_clauses c) (goal_clauses c.goal)
      ∙ and_from _ _ (law.satisfied c v (gates_obeyed v agrees))
      (goal_met v agrees c.goal is.goal_below (λ clause has. has_left (clauses_of c) steps clause (has_right (gates_clauses c) (goal_clauses c.goal) clause has)))

pub stable_values_satisfy : ClausesSayTheGates → StableValuesSatisfy
stable_values_satisfy law = record {
  valued = λ c steps p is stable inputs. valued_below law c steps p is stable inputs (variables c) (omega arith);
  satisfied = λ c steps p v is stable inputs agrees. all_satisfied law c steps p is stable v agrees;
}
