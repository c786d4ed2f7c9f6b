-- The clauses of gates, and where they stand among those of a circuit.
use Rattle.std.proofs.Common.{◌≡◌, ℕ, zero, suc, ◌+◌, ◌*◌, ◌<◌, ◌≤◌, ◌⊎◌, inl, inr, true, List, [], ◌∷◌, ◌++◌, length, take, Some, refl, sym, ◌∙◌, ap, subst, arith, length-append}
use Rattle.std.specs.List.{slice_get}
use Rattle.std.proofs.lemmas.Bool.{lt-ltb}
use Rattle.std.proofs.lemmas.Option.{slice_get_within}
use Rattle.wb_gate.specs.declared.gates.Lit.{Lit}
use Rattle.wb_gate.specs.declared.gates.Gate.{Gate}
use Rattle.wb_gate.specs.declared.gates.Gate.TheVariants.{And, Xor, Mux, Maj}
use Rattle.wb_gate.specs.declared.gates.Goal.{Goal}
use Rattle.wb_gate.specs.declared.gates.Goal.TheVariants as goal
use Rattle.wb_gate.specs.Circuit.{Circuit, IsCircuit, NamesBelow, GoalBelow, variables, variable}
use Rattle.wb_gate.specs.Clauses.{gate_clauses, clauses_from, gates_clauses, goal_clauses, clauses_of, clauses_before, names_only}
use Rattle.wb_derive.specs.Partial.{nothing, IsFalse, Occurs, AreFalseBut}
use Rattle.wb_solve.specs.declared.links.Operands.{Operands}
use Rattle.wb_solve.specs.Trails.{AllNamed}
use Rattle.wb_solve.specs.Linking.{operands, Names}
use Rattle.wb_solve.specs.Guarding.{NoneBlank}
use Rattle.wb_solve.proofs.Lists.{get_left, get_after}
use Rattle.wb_solve.proofs.Findings.{gate_few}

pub known_split : (clauses steps : List (List Lit)) (k : ℕ) (clause : List Lit) → slice_get (clauses ++ steps) k ≡ Some clause → (slice_get clauses k ≡ Some clause) ⊎ ((j : ℕ) × (slice_get steps j ≡ Some clause))
known_split [] steps k clause at = inr (k, at)
known_split (d ∷ clauses) steps zero clause at = inl at
known_split (d ∷ clauses) steps (suc k) clause at = known_split clauses steps k clause at

-- all are of the gate's variables
abbrev AreOf : Operands → List Lit → Type 0
AreOf o [] = Unit {0}
AreOf o (l ∷ ls) = Names l.var o × AreOf o ls

-- a literal of g is first, and at least one of the gate's variables follows
abbrev pub IsOf : ℕ → Operands → List Lit → Type 0
IsOf g o [] = ⊥
IsOf g o (l ∷ []) = ⊥
IsOf g o (l ∷ m ∷ ls) = (l.var ≡ g) × Names m.var o × AreOf o ls

abbrev AllOf : ℕ → Operands → List (List Lit) → Type 0
AllOf g o [] = Unit {0}
AllOf g o (d ∷ ds) = IsOf g o d × AllOf g o ds

gate_of : (g : Lit) (gate : Gate) → AllOf g.var (operands gate) (gate_clauses g gate)
gate_of g (And x y) =
    let a = inl refl in
    let b = inr (inl refl) in
    ((refl, a, tt), ((refl, b, tt), ((refl, a, (b, tt)), tt)))
gate_of g (Xor x y) =
    let a = inl refl in
    let b = inr (inl refl) in
    ((refl, a, (b, tt)), ((refl, a, (b, tt)), ((refl, a, (b, tt)), ((refl, a, (b, tt)), tt))))
gate_of g (Mux c x y) =
    let d = inl refl in
    let a = inr (inl refl) in
    let b = inr (inr refl) in
    ((refl, d, (a, tt)), ((refl, d, (a, tt)), ((refl, d, (b, tt)), ((refl, d, (b, tt)), tt))))
gate_of g (Maj x y z) =
    let a = inl refl in
    let b = inr (inl refl) in
    let d = inr (inr refl) in
    ((refl, a, (b, tt)), ((refl, a, (d, tt)), ((refl, b, (d, tt)), ((refl, a, (b, tt)), ((refl, a, (d, tt)), ((refl, b, (d, tt)), tt))))))

of_at : (g : ℕ) (o : Operands) (ds : List (List Lit)) (k : ℕ) (clause : List Lit) → AllOf g o ds → slice_get ds k ≡ Some clause → IsOf g o clause
of_at g o [] k clause all e = absurd (cc)
of_at g o (d ∷ ds) zero clause all e = let same : d ≡ clause = cc in subst (IsOf g o) same all.0
of_at g o (d ∷ ds) (suc k) clause all e = of_at g o ds k clause all.1 e

pub gate_of_at : (g : Lit) (gate : Gate) (k : ℕ) (clause : List Lit) → slice_get (gate_clauses g gate) k ≡ Some clause → IsOf g.var (operands gate) clause
gate_of_at g gate k clause at = of_at g.var (operands gate) (gate_clauses g gate) k clause (gate_of g gate) at

occurs_in : (o : Operands) (clause : List Lit) (l : Lit) → AreOf o clause → Occurs l clause → Names l.var o
occurs_in o [] l all there = absurd there
occurs_in o (m ∷ ms) l all (inl here) = subst (λ (k : Lit). Names k.var o) here all.0
occurs_in o (m ∷ ms) l all (inr there) = occurs_in o ms l all.1 there

pub occurs_of : (g : ℕ) (o : Operands) (clause : List Lit) (l : Lit) → IsOf g o clause → Occurs l clause → (l.var ≡ g) ⊎ Names l.var o
occurs_of g o [] l is there = absurd is
occurs_of g o (m ∷ []) l is there = absurd is
occurs_of g o (m ∷ n ∷ ns) l is (inl here) = inl (ap (λ (k : Lit). k.var) (sym here) ∙ is.0)
occurs_of g o (m ∷ n ∷ ns) l is (inr (inl here)) = inr (subst (λ (k : Lit). Names k.var o) here is.1)
occurs_of g o (m ∷ n ∷ ns) l is (inr (inr there)) = inr (occurs_in o ns l is.2 there)

-- a clause of a gate has two variables
pub of_mixed : (g : ℕ) (o : Operands) (clause : List Lit) (l : Lit) → IsOf g o clause → ((x : ℕ) → Names x o → x < g) → AreFalseBut l nothing clause → ⊥
of_mixed g o [] l is below all = absurd is
of_mixed g o (m ∷ []) l is below all = absurd is
of_mixed g o (m ∷ n ∷ ns) l is below all = by all.0 all.1.0
  where
    by : (m ≡ l) ⊎ IsFalse nothing m → (n ≡ l) ⊎ IsFalse nothing n → ⊥
    by (inl one) (inl two) =
        let less = below n.var is.1 in
        let same : n.var ≡ g = ap (λ (k : Lit). k.var) (two ∙ sym one) ∙ is.0 in
        omega (arith, less, same)
    by (inr f) other = cc
    by (inl one) (inr f) = cc

pub names_below_of : (n : ℕ) (gate : Gate) (x : ℕ) → NamesBelow n gate → Names x (operands gate) → x < n
names_below_of n (And a b) x below (inl here) = subst (λ y. y < n) here below.0
names_below_of n (And a b) x below (inr (inl here)) = subst (λ y. y < n) here below.1
names_below_of n (And a b) x below (inr (inr here)) = subst (λ y. y < n) here below.1
names_below_of n (Xor a b) x below (inl here) = subst (λ y. y < n) here below.0
names_below_of n (Xor a b) x below (inr (inl here)) = subst (λ y. y < n) here below.1
names_below_of n (Xor a b) x below (inr (inr here)) = subst (λ y. y < n) here below.1
names_below_of n (Mux a b d) x below (inl here) = subst (λ y. y < n) here below.0
names_below_of n (Mux a b d) x below (inr (inl here)) = subst (λ y. y < n) here below.1
names_below_of n (Mux a b d) x below (inr (inr here)) = subst (λ y. y < n) here below.2
names_below_of n (Maj a b d) x below (inl here) = subst (λ y. y < n) here below.0
names_below_of n (Maj a b d) x below (inr (inl here)) = subst (λ y. y < n) here below.1
names_below_of n (Maj a b d) x below (inr (inr here)) = subst (λ y. y < n) here below.2

-- the gate that has a clause
abbrev pub InGate : ℕ → List Gate → List Lit → Type 0
InGate next gates clause = (g : ℕ) × (gate : Gate) × (slice_get gates g ≡ Some gate) × ((j : ℕ) × (slice_get (gate_clauses (variable (next + g)) gate) j ≡ Some clause))

pub in_gate : (next : ℕ) (gates : List Gate) (k : ℕ) (clause : List Lit) → slice_get (clauses_from next gates) k ≡ Some clause → InGate next gates clause
in_gate next [] k clause at = absurd (cc)
in_gate next (gate ∷ gates) k clause at = by (λ j there. in_gate (next + 1) gates j clause there) (known_split (gate_clauses (variable next) gate) (clauses_from (next + 1) gates) k clause at)
  where
    by : ((j : ℕ) → slice_get (clauses_from (next + 1) gates) j ≡ Some clause → InGate (next + 1) gates clause) → (slice_get (gate_clauses (variable next) gate) k ≡ Some clause) ⊎ ((j : ℕ) × (slice_get (clauses_from (next + 1) gates) j ≡ Some clause)) → InGate next (gate ∷ gates) clause
    by later (inl here) =
        let e : next ≡ next + 0 = omega arith in
        (0, gate, refl, (k, subst (λ n. slice_get (gate_clauses (variable n) gate) k ≡ Some clause) e here))
    by later (inr there) =
        let found = later there.0 there.1 in
        let e : (next + 1) + found.0 ≡ next + suc found.0 = omega arith in
        (suc found.0, found.1, found.2, (found.3.0, subst (λ n. slice_get (gate_clauses (variable n) found.1) found.3.0 ≡ Some clause) e found.3.1))

-- the number of a clause of a gate
number_from : (next : ℕ) (gates : List Gate) (g : ℕ) (gate : Gate) (j : ℕ) (clause : List Lit) → slice_get gates g ≡ Some gate → slice_get (gate_clauses (variable (next + g)) gate) j ≡ Some clause → slice_get (clauses_from next gates) (length (clauses_from next (take g gates)) + j) ≡ Some clause
number_from next [] g gate j clause at is = absurd (cc)
number_from next (first ∷ gates) zero gate j clause at is =
    let same : gate ≡ first = cc in
    let here : next + 0 ≡ next = omega arith in
    let zero_is : 0 + j ≡ j = omega arith in
    let P : ℕ → Type 0 = λ n. slice_get (gate_clauses (variable n) gate) j ≡ Some clause in
    let Q : Gate → Type 0 = λ h. slice_get (gate_clauses (variable next) h) j ≡ Some clause in
    ap (slice_get (clauses_from next (first ∷ gates))) zero_is
    ∙ get_left (gate_clauses (variable next) first) (clauses_from (next + 1) gates) j clause (subst Q same (subst P here is))
number_from next (first ∷ gates) (suc g) gate j clause at is =
    let there : next + suc g ≡ (next + 1) + g = omega arith in
    let P : ℕ → Type 0 = λ n. slice_get (gate_clauses (variable n) gate) j ≡ Some clause in
    let own = gate_clauses (variable next) first in
    let rest = clauses_from (next + 1) (take g gates) in
    let whole = length-append own rest in
    let sum : length (own ++ rest) + j ≡ length own + (length rest + j) = omega (arith, whole) in
    ap (slice_get (own ++ clauses_from (next + 1) gates)) sum
    ∙ get_after own (clauses_from (next + 1) gates) (length rest + j)
    ∙ number_from (next + 1) gates g gate j clause at (subst P there is)

pub number_of : (c : Circuit) (g : ℕ) (gate : Gate) (j : ℕ) (clause : List Lit) → slice_get c.gates g ≡ Some gate → slice_get (gate_clauses (variable (c.inputs + g)) gate) j ≡ Some clause → slice_get (clauses_of c) (clauses_before c g + j) ≡ Some clause
number_of c g gate j clause at is = get_left (gates_clauses c) (goal_clauses c.goal) (clauses_before c g + j) clause (number_from c.inputs c.gates g gate j clause at is)

before_few_from : (next : ℕ) (gates : List Gate) (g : ℕ) → length (clauses_from next (take g gates)) ≤ 6 * g
before_few_from next [] zero = omega arith
before_few_from next [] (suc g) = omega arith
before_few_from next (gate ∷ gates) zero = omega arith
before_few_from next (gate ∷ gates) (suc g) =
    let first = gate_few (variable next) gate in
    let rest = before_few_from (next + 1) gates g in
    let whole = length-append (gate_clauses (variable next) gate) (clauses_from (next + 1) (take g gates)) in
    omega arith

pub before_few : (c : Circuit) (g : ℕ) → clauses_before c g ≤ 6 * g
before_few c g = before_few_from c.inputs c.gates g

before_more_from : (next : ℕ) (gates : List Gate) (g : ℕ) (gate : Gate) → slice_get gates g ≡ Some gate → length (clauses_from next (take (suc g) gates)) ≡ length (clauses_from next (take g gates)) + length (gate_clauses (variable (next + g)) gate)
before_more_from next [] g gate at = absurd (cc)
before_more_from next (first ∷ gates) zero gate at =
    let same : first ≡ gate = cc in
    let here : next ≡ next + 0 = omega arith in
    let whole = length-append (gate_clauses (variable next) first) [] in
    let none : take 0 gates ≡ [] = take_none gates in
    let one : length (clauses_from next (first ∷ take 0 gates)) ≡ length (gate_clauses (variable next) first) + 0 = ap (λ (gs : List Gate). length (clauses_from next (first ∷ gs))) none ∙ whole in
    let two : length (gate_clauses (variable next) first) ≡ length (gate_clauses (variable (next + 0)) gate) = ap (λ n. length (gate_clauses (variable n) first)) here ∙ ap (λ (h : Gate). length (gate_clauses (variable (next + 0)) h)) same in
    omega (arith, one, two)
  where
    take_none : (gs : List Gate) → take 0 gs ≡ []
    take_none [] = refl
    take_none (h ∷ gs) = refl
before_more_from next (first ∷ gates) (suc g) gate at =
    let rest = before_more_from (next + 1) gates g gate at in
    let there : (next + 1) + g ≡ next + suc g = omega arith in
    let last : length (gate_clauses (variable ((next + 1) + g)) gate) ≡ length (gate_clauses (variable (next + suc g)) gate) = ap (λ n. length (gate_clauses (variable n) gate)) there in
    let long = length-append (gate_clauses (variable next) first) (clauses_from (next + 1) (take (suc g) gates)) in
    let short = length-append (gate_clauses (variable next) first) (clauses_from (next + 1) (take g gates)) in
    omega (arith, rest, last, long, short)

pub before_more : (c : Circuit) (g : ℕ) (gate : Gate) → slice_get c.gates g ≡ Some gate → clauses_before c (suc g) ≡ clauses_before c g + length (gate_clauses (variable (c.inputs + g)) gate)
before_more c g gate at = before_more_from c.inputs c.gates g gate at

-- a circuit's clauses name only its variables
names_from : (n : ℕ) (clause : List Lit) → ((l : Lit) → Occurs l clause → l.var < n) → names_only n clause ≡ true
names_from n [] all = refl
names_from n (l ∷ ls) all = rw (lt-ltb l.var n (all l (inl refl))) (names_from n ls (λ m o. all m (inr o)))

pub gates_named : (c : Circuit) → IsCircuit c → AllNamed (variables c) (clauses_of c)
gates_named c is k clause at = by (known_split (gates_clauses c) (goal_clauses c.goal) k clause at)
  where
    goal_named : (asked : Goal) (j : ℕ) → GoalBelow (variables c) asked → slice_get (goal_clauses asked) j ≡ Some clause → names_only (variables c) clause ≡ true
    goal_named (goal.Lit l) zero below there = let same : (l ∷ []) ≡ clause = cc in subst (λ d. names_only (variables c) d ≡ true) same (rw (lt-ltb l.var (variables c) below) refl)
    goal_named (goal.Lit l) (suc j) below there = absurd (cc)
    goal_named goal.Never zero below there = let same : [] ≡ clause = cc in subst (λ d. names_only (variables c) d ≡ true) same refl
    goal_named goal.Never (suc j) below there = absurd (cc)
    goal_named goal.Always j below there = absurd (cc)

    by : (slice_get (gates_clauses c) k ≡ Some clause) ⊎ ((j : ℕ) × (slice_get (goal_clauses c.goal) j ≡ Some clause)) → names_only (variables c) clause ≡ true
    by (inr there) = goal_named c.goal there.0 is.goal_below there.1
    by (inl here) =
        let found = in_gate c.inputs c.gates k clause here in
        let within = slice_get_within c.gates found.0 found.1 found.2 in
        let of = gate_of_at (variable (c.inputs + found.0)) found.1 found.3.0 clause found.3.1 in
        names_from (variables c) clause (λ l o. which found.0 found.1 (is.earlier found.0 found.1 found.2) within l (occurs_of (c.inputs + found.0) (operands found.1) clause l of o))
      where
        which : (g : ℕ) (gate : Gate) → NamesBelow (c.inputs + g) gate → g < length c.gates → (l : Lit) → (l.var ≡ c.inputs + g) ⊎ Names l.var (operands gate) → l.var < variables c
        which g gate below within l (inl own) = omega (arith, own, within)
        which g gate below within l (inr named) = let less = names_below_of (c.inputs + g) gate l.var below named in omega (arith, less, within)

-- none is empty but that of a goal
pub gates_filled : (c : Circuit) → (c.goal ≡ goal.Never → ⊥) → NoneBlank (clauses_of c)
gates_filled c goes k at = by (known_split (gates_clauses c) (goal_clauses c.goal) k [] at)
  where
    goal_filled : (asked : Goal) (j : ℕ) → (asked ≡ goal.Never → ⊥) → slice_get (goal_clauses asked) j ≡ Some [] → ⊥
    goal_filled (goal.Lit l) zero other there = cc
    goal_filled (goal.Lit l) (suc j) other there = cc
    goal_filled goal.Never j other there = other refl
    goal_filled goal.Always j other there = cc

    by : (slice_get (gates_clauses c) k ≡ Some []) ⊎ ((j : ℕ) × (slice_get (goal_clauses c.goal) j ≡ Some [])) → ⊥
    by (inr there) = goal_filled c.goal there.0 goes there.1
    by (inl here) =
        let found = in_gate c.inputs c.gates k [] here in
        gate_of_at (variable (c.inputs + found.0)) found.1 found.3.0 [] found.3.1
