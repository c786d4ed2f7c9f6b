-- The clauses of a circuit name only its variables.
use Rattle.std.proofs.Common.{◌≡◌, ℕ, zero, suc, ◌+◌, ◌<◌, ◌≤◌, Bool, true, false, ◌&&◌, List, [], ◌∷◌, ◌++◌, length, Option, Some, None, refl, sym, ◌∙◌, ap, subst, arith}
use Rattle.std.specs.List.{slice_get, list_all}
use Rattle.std.proofs.lemmas.Bool.Decides.{nat_tests}
use Rattle.std.proofs.lemmas.List.Folds.{list_all-append}
use Rattle.arrayvec.specs.ArrayVec.{ArrayVec}
use Rattle.wb_gate.specs.declared.gates.Lit.{Lit}
use Rattle.wb_gate.specs.declared.gates.Gate.{Gate}
use Rattle.wb_gate.specs.declared.gates.Gate.TheVariants.{And, Xor, Mux, Maj}
use Rattle.wb_gate.specs.declared.gates.Goal.{Goal}
use Rattle.wb_gate.specs.declared.gates.Goal.TheVariants as goal
use Rattle.wb_gate.specs.Circuit.{Circuit, variables, variable, NamesBelow, GoalBelow, IsCircuit}
use Rattle.wb_gate.specs.Clauses.{gate_clauses, clauses_from, goal_clauses, clauses_of, names_only, IsClauseAt, NamesOnly}

abbrev all_name : ℕ → List (List Lit) → Bool
all_name n clauses = list_all (names_only n) clauses

gate_names : (n next : ℕ) (gate : Gate) → next < n → NamesBelow next gate → all_name n (gate_clauses (variable next) gate) ≡ true
gate_names n next (And x y) here below = grind (arith, nat_tests)
gate_names n next (Xor x y) here below = grind (arith, nat_tests)
gate_names n next (Mux c x y) here below = grind (arith, nat_tests)
gate_names n next (Maj x y z) here below = grind (arith, nat_tests)

goal_names : (n : ℕ) (asked : Goal) → GoalBelow n asked → all_name n (goal_clauses asked) ≡ true
goal_names n (goal.Lit l) below = grind (arith, nat_tests)
goal_names n goal.Never below = refl
goal_names n goal.Always below = refl

both_all : (n : ℕ) (xs ys : List (List Lit)) → all_name n xs ≡ true → all_name n ys ≡ true → all_name n (xs ++ ys) ≡ true
both_all n xs ys first second = list_all-append (names_only n) xs ys ∙ rw first second

gates_name : (n next : ℕ) (gates : List Gate) → next + length gates ≤ n → ((k : ℕ) (gate : Gate) → slice_get gates k ≡ Some gate → NamesBelow (next + k) gate) → all_name n (clauses_from next gates) ≡ true
gates_name n next [] room earlier = refl
gates_name n next (gate ∷ gates) room earlier =
    let here : next + 0 ≡ next = omega arith in
    let P : ℕ → Type 0 = λ m. NamesBelow m gate in
    both_all n (gate_clauses (variable next) gate) (clauses_from (next + 1) gates)
    (gate_names n next gate (omega arith) (subst P here (earlier 0 gate refl)))
    (gates_name n (next + 1) gates (omega arith) (λ k g e. shifted k g (earlier (suc k) g e)))
  where
    shifted : (k : ℕ) (g : Gate) → NamesBelow (next + suc k) g → NamesBelow ((next + 1) + k) g
    shifted k g below =
        let step : next + suc k ≡ (next + 1) + k = omega arith in
        let P : ℕ → Type 0 = λ m. NamesBelow m g in
        subst P step below

all_at : (n : ℕ) (xs : List (List Lit)) (k : ℕ) (clause : List Lit) → all_name n xs ≡ true → slice_get xs k ≡ Some clause → names_only n clause ≡ true
all_at n [] k clause all e = absurd (cc)
all_at n (x ∷ xs) k clause all e = by (all_at n xs) k (names_only n x) refl all e
  where
    by : ((k : ℕ) (clause : List Lit) → all_name n xs ≡ true → slice_get xs k ≡ Some clause → names_only n clause ≡ true) → (k : ℕ) (b : Bool) → names_only n x ≡ b → (b && all_name n xs) ≡ true → slice_get (x ∷ xs) k ≡ Some clause → names_only n clause ≡ true
    by later zero true is rest e = let same : x ≡ clause = cc in ap (names_only n) (sym same) ∙ is
    by later (suc k) true is rest e = later k clause rest e
    by later k false is rest e = absurd (cc)

pub clause_names : (c : Circuit) (number : ℕ) (r : Option (ArrayVec Lit)) → IsCircuit c → IsClauseAt (clauses_of c) number r → NamesOnly (variables c) r
clause_names c number None is at = tt
clause_names c number (Some clause) is at =
    all_at (variables c) (clauses_of c) number clause.items
    (both_all (variables c) (clauses_from c.inputs c.gates) (goal_clauses c.goal) (gates_name (variables c) c.inputs c.gates (omega arith) is.earlier) (goal_names (variables c) c.goal is.goal_below))
    at
