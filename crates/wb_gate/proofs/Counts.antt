-- How many clauses stand before a gate, and which stand where.
use Rattle.std.proofs.Common.{◌≡◌, ℕ, zero, suc, ◌+◌, ◌-◌, ◌*◌, ◌<◌, ◌≤◌, ◌⊎◌, inl, inr, List, [], ◌∷◌, ◌++◌, length, take, drop, get_or, Option, Some, None, refl, sym, ◌∙◌, ap, ap₂, subst, arith, length-append, append_assoc}
use Rattle.std.specs.List.{slice_get}
use Rattle.std.proofs.Math.Seq.{take-length}
use Rattle.std.proofs.lemmas.List.{map-append, length-map, take-append-le, append-nil}
use Rattle.std.proofs.lemmas.Option.{slice_get_within, slice_get-get_or}
use Rattle.arrayvec.specs.ArrayVec.{ArrayVec}
use Rattle.wb_gate.specs.declared.gates.Lit.{Lit}
use Rattle.wb_gate.specs.declared.gates.Gate.{Gate}
use Rattle.wb_gate.specs.declared.gates.Gate.TheVariants.{And, Xor, Mux, Maj}
use Rattle.wb_gate.specs.declared.gates.Goal.{Goal}
use Rattle.wb_gate.specs.declared.gates.Goal.TheVariants as goal
use Rattle.wb_gate.specs.declared.rows.Row.{Row}
use Rattle.wb_gate.specs.Circuit.{Circuit, Assignment, variables, variable, gate_value, NamesBelow, GoalBelow, IsCircuit, Obeys}
use Rattle.wb_gate.specs.Clauses.{gate_clauses, clauses_from, goal_clauses, clauses_of, clauses_before, IsClauseAt}
use Rattle.wb_gate.specs.Growth.{with_gate, Extends, IsLit}
use Rattle.wb_gate.specs.Rows.{gates_of, circuit_of, IsFormula}

clauses_from-append : (next : ℕ) (xs ys : List Gate) → clauses_from next (xs ++ ys) ≡ clauses_from next xs ++ clauses_from (next + length xs) ys
clauses_from-append next [] ys =
    let here : next ≡ next + 0 = omega arith in
    ap (λ n. clauses_from n ys) here
clauses_from-append next (x ∷ xs) ys =
    let there : (next + 1) + length xs ≡ next + length (x ∷ xs) = omega arith in
    ap (λ cs. gate_clauses (variable next) x ++ cs) (clauses_from-append (next + 1) xs ys ∙ ap (λ n. clauses_from (next + 1) xs ++ clauses_from n ys) there)
    ∙ sym (append_assoc (gate_clauses (variable next) x) (clauses_from (next + 1) xs) (clauses_from (next + length (x ∷ xs)) ys))

gate_few : (g : Lit) (gate : Gate) → length (gate_clauses g gate) ≤ 6
gate_few g (And x y) = omega arith
gate_few g (Xor x y) = omega arith
gate_few g (Mux c x y) = omega arith
gate_few g (Maj x y z) = omega arith

clauses_few : (next : ℕ) (gates : List Gate) → length (clauses_from next gates) ≤ 6 * length gates
clauses_few next [] = omega arith
clauses_few next (x ∷ xs) =
    let one = gate_few (variable next) x in
    let more = clauses_few (next + 1) xs in
    let both = length-append (gate_clauses (variable next) x) (clauses_from (next + 1) xs) in
    omega arith

take_few : (count : ℕ) (gates : List Gate) → length (take count gates) ≤ count
take_few zero gates = omega arith
take_few (suc count) [] = omega arith
take_few (suc count) (x ∷ xs) = let h = take_few count xs in omega arith

pub before_few : (c : Circuit) (count : ℕ) → clauses_before c count ≤ 6 * count
before_few c count =
    let h = clauses_few c.inputs (take count c.gates) in
    let k = take_few count c.gates in
    omega arith

-- one element more at the end of a list
module _ {X : Type 0} where
  take_pushed : (xs : List X) (x : X) (count : ℕ) → count ≤ length xs → take count (xs ++ (x ∷ [])) ≡ take count xs
  take_pushed xs x count within = take-append-le count xs (x ∷ []) within

  take_whole : (xs : List X) (x : X) → take (length xs + 1) (xs ++ (x ∷ [])) ≡ xs ++ (x ∷ [])
  take_whole xs x =
      let e : length xs + 1 ≡ length (xs ++ (x ∷ [])) = omega (arith, length-append xs (x ∷ [])) in
      ap (λ n. take n (xs ++ (x ∷ []))) e ∙ take-length (xs ++ (x ∷ []))

  get_seam : (xs : List X) (x : X) → slice_get (xs ++ (x ∷ [])) (length xs) ≡ Some x
  get_seam [] x = refl
  get_seam (y ∷ ys) x = get_seam ys x

  get_left : (xs ys : List X) (k : ℕ) (x : X) → slice_get xs k ≡ Some x → slice_get (xs ++ ys) k ≡ Some x
  get_left [] ys k x e = absurd (cc)
  get_left (y ∷ xs) ys zero x e = e
  get_left (y ∷ xs) ys (suc k) x e = get_left xs ys k x e

  -- what stands in a list with one element more: an element before, or that one
  get_pushed : (xs : List X) (x y : X) (k : ℕ) → slice_get (xs ++ (x ∷ [])) k ≡ Some y → (slice_get xs k ≡ Some y) ⊎ ((k ≡ length xs) × (x ≡ y))
  get_pushed [] x y zero e = inr (refl, cc)
  get_pushed [] x y (suc k) e = absurd (cc)
  get_pushed (z ∷ xs) x y zero e = inl e
  get_pushed (z ∷ xs) x y (suc k) e = by (get_pushed xs x y k e)
    where
      by : (slice_get xs k ≡ Some y) ⊎ ((k ≡ length xs) × (x ≡ y)) → (slice_get (z ∷ xs) (suc k) ≡ Some y) ⊎ ((suc k ≡ length (z ∷ xs)) × (x ≡ y))
      by (inl h) = inl h
      by (inr h) = inr (ap suc h.0 ∙ shift, h.1)
        where
          shift : suc (length xs) ≡ length (z ∷ xs)
          shift = refl

  -- a list is what stands before a place, what stands there, and what stands after it
  take_more : (xs : List X) (k : ℕ) (x : X) → slice_get xs k ≡ Some x → take (k + 1) xs ≡ take k xs ++ (x ∷ [])
  take_more [] k x e = absurd (cc)
  take_more (y ∷ xs) zero x e = let same : y ≡ x = cc in ap (λ z. z ∷ []) same
  take_more (y ∷ xs) (suc k) x e =
      let next : suc k + 1 ≡ suc (k + 1) = omega arith in
      ap (λ n. take n (y ∷ xs)) next ∙ ap (λ zs. y ∷ zs) (take_more xs k x e)

  parted : (xs : List X) (k : ℕ) → xs ≡ take k xs ++ drop k xs
  parted xs zero = refl
  parted [] (suc k) = refl
  parted (x ∷ xs) (suc k) = ap (λ zs. x ∷ zs) (parted xs k)

-- one gate more
module _ (c : Circuit) (gate : Gate) where
  pub pushed_obeys : (v : Assignment) → Obeys v (with_gate c gate) → Obeys v c
  pushed_obeys v obeys = record { at = λ k g e. obeys.at k g (get_left c.gates (gate ∷ []) k g e) }

  pub pushed_means : IsLit (with_gate c gate) (variable (variables c)) (λ v. gate_value v gate)
  pushed_means = record {
    there = let e = length-append c.gates (gate ∷ []) in omega arith;
    value = λ v obeys. obeys.at (length c.gates) gate (get_seam c.gates gate);
  }

  pub pushed_extends : Extends c (with_gate c gate) 1
  pushed_extends =
      let e = length-append c.gates (gate ∷ []) in
      record {
        obeys = pushed_obeys;
        same_inputs = refl;
        same_limit = refl;
        longer = omega arith;
        most = omega arith;
      }

  goal_stays : (m n : ℕ) (asked : Goal) → m ≤ n → GoalBelow m asked → GoalBelow n asked
  goal_stays m n (goal.Lit l) h below = omega arith
  goal_stays m n goal.Never h below = tt
  goal_stays m n goal.Always h below = tt

  pub pushed_circuit : IsCircuit c → NamesBelow (variables c) gate → length c.gates < c.limit → IsCircuit (with_gate c gate)
  pushed_circuit is below room =
      let e = length-append c.gates (gate ∷ []) in
      record {
        earlier = λ k g h. by k g (get_pushed c.gates gate g k h);
        goal_below = goal_stays (variables c) (variables (with_gate c gate)) c.goal (omega arith) is.goal_below;
        few = omega arith;
      }
    where
      by : (k : ℕ) (g : Gate) → (slice_get c.gates k ≡ Some g) ⊎ ((k ≡ length c.gates) × (gate ≡ g)) → NamesBelow (c.inputs + k) g
      by k g (inl before) = is.earlier k g before
      by k g (inr last) =
          let P : ℕ → Type 0 = λ n. NamesBelow (c.inputs + n) g in
          let Q : Gate → Type 0 = λ h. NamesBelow (variables c) h in
          subst P (sym last.0) (subst Q last.1 below)

-- one row more
module _ (inputs limit : ℕ) (rows : List Row) (asked : Goal) (row : Row) where
  gates-pushed : gates_of (rows ++ (row ∷ [])) ≡ gates_of rows ++ (row.gate ∷ [])
  gates-pushed = map-append (λ r. r.gate) rows (row ∷ [])

  old_circuit : Circuit
  old_circuit = circuit_of inputs limit rows asked

  pub circuit-pushed : circuit_of inputs limit (rows ++ (row ∷ [])) asked ≡ with_gate (circuit_of inputs limit rows asked) row.gate
  circuit-pushed =
      let with_gates : List Gate → Circuit = λ gs. record { inputs = inputs; limit = limit; gates = gs; goal = asked } in
      ap with_gates gates-pushed

  before_same : (k : ℕ) → k ≤ length rows → clauses_before (with_gate (circuit_of inputs limit rows asked) row.gate) k ≡ clauses_before (circuit_of inputs limit rows asked) k
  before_same k within =
      let e = length-map rows (λ (r : Row). r.gate) in
      ap (λ gs. length (clauses_from inputs gs)) (take_pushed (gates_of rows) row.gate k (omega arith))

  before_all : clauses_before (with_gate (circuit_of inputs limit rows asked) row.gate) (length rows + 1) ≡ clauses_before (circuit_of inputs limit rows asked) (length rows) + length (gate_clauses (variable (inputs + length rows)) row.gate)
  before_all =
      let gates = gates_of rows in
      let e : length gates ≡ length rows = length-map rows (λ (r : Row). r.gate) in
      ap (λ n. length (clauses_from inputs (take (n + 1) (gates ++ (row.gate ∷ []))))) (sym e)
      ∙ ap (λ gs. length (clauses_from inputs gs)) (take_whole gates row.gate)
      ∙ ap length (clauses_from-append inputs gates (row.gate ∷ []))
      ∙ length-append (clauses_from inputs gates) (clauses_from (inputs + length gates) (row.gate ∷ []))
      ∙ ap₂ (λ m n. m + n)
      (ap (λ gs. length (clauses_from inputs gs)) (sym (take-length gates)) ∙ ap (λ n. length (clauses_from inputs (take n gates))) e)
      (ap length (append-nil (gate_clauses (variable (inputs + length gates)) row.gate)) ∙ ap (λ n. length (gate_clauses (variable (inputs + n)) row.gate)) e)

  pub formula-pushed : IsFormula inputs limit rows asked → NamesBelow (variables (circuit_of inputs limit rows asked)) row.gate → length rows < limit → row.end ≡ clauses_before (circuit_of inputs limit rows asked) (length rows) + length (gate_clauses (variable (inputs + length rows)) row.gate) → IsFormula inputs limit (rows ++ (row ∷ [])) asked
  formula-pushed is below room end =
      let e : length (gates_of rows) ≡ length rows = length-map rows (λ (r : Row). r.gate) in
      let P : Circuit → Type 0 = λ c. IsCircuit c in
      record {
        circuit = subst P (sym circuit-pushed) (pushed_circuit (circuit_of inputs limit rows asked) row.gate is.circuit below (omega arith));
        counted = record { ends = λ k r h. by k r (get_pushed rows row r k h) ∙ ap (λ c. clauses_before c (k + 1)) (sym circuit-pushed) };
        inputs_few = is.inputs_few;
        limit_few = is.limit_few;
      }
    where
      by : (k : ℕ) (r : Row) → (slice_get rows k ≡ Some r) ⊎ ((k ≡ length rows) × (row ≡ r)) → r.end ≡ clauses_before (with_gate (circuit_of inputs limit rows asked) row.gate) (k + 1)
      by k r (inl before) =
          let within : k < length rows = slice_get_within rows k r before in
          is.counted.ends k r before ∙ sym (before_same (k + 1) (omega arith))
      by k r (inr last) =
          ap (λ (x : Row). x.end) (sym last.1) ∙ end ∙ sym before_all
          ∙ ap (λ n. clauses_before (with_gate (circuit_of inputs limit rows asked) row.gate) (n + 1)) (sym last.0)

pub formula-next : (inputs limit : ℕ) (rows : List Row) (asked : Goal) (row : Row) (c : Circuit) → circuit_of inputs limit rows asked ≡ c → IsFormula inputs limit rows asked → NamesBelow (variables c) row.gate → length c.gates < c.limit → row.end ≡ clauses_before c (length c.gates) + length (gate_clauses (variable (variables c)) row.gate) → IsFormula inputs limit (rows ++ (row ∷ [])) asked
formula-next inputs limit rows asked row c e is =
    let same : length (gates_of rows) ≡ length rows = length-map rows (λ (r : Row). r.gate) in
    let P : Circuit → Type 0 = λ x. NamesBelow (variables x) row.gate → length x.gates < x.limit → row.end ≡ clauses_before x (length x.gates) + length (gate_clauses (variable (variables x)) row.gate) → IsFormula inputs limit (rows ++ (row ∷ [])) asked in
    let ending : ℕ → ℕ = λ n. clauses_before (circuit_of inputs limit rows asked) n + length (gate_clauses (variable (inputs + n)) row.gate) in
    subst P e (λ below room end. formula-pushed inputs limit rows asked row is below (omega arith) (end ∙ ap ending same))

-- a row's number of clauses is small
pub row_few : (inputs limit : ℕ) (rows : List Row) (asked : Goal) (c : Circuit) → circuit_of inputs limit rows asked ≡ c → IsFormula inputs limit rows asked → (place : ℕ) → place < length c.gates → (row : Row) → row ≡ get_or rows place row → row.end ≤ 6 * (place + 1)
row_few inputs limit rows asked c e is place within row found =
    let P : Circuit → Type 0 = λ x. place < length x.gates in
    let here : place < length (gates_of rows) = subst P (sym e) within in
    let same : length (gates_of rows) ≡ length rows = length-map rows (λ (r : Row). r.gate) in
    let there : slice_get rows place ≡ Some row = slice_get-get_or rows place row (omega arith) ∙ ap (λ (r : Row). Some r) (sym found) in
    let end = is.counted.ends place row there in
    omega (arith, before_few (circuit_of inputs limit rows asked) (place + 1))

get_right : {X : Type 0} (xs ys : List X) (k : ℕ) → slice_get (xs ++ ys) (length xs + k) ≡ slice_get ys k
get_right [] ys k = let e : 0 + k ≡ k = omega arith in ap (slice_get ys) e
get_right (x ∷ xs) ys k =
    let e : length (x ∷ xs) + k ≡ suc (length xs + k) = omega arith in
    ap (slice_get ((x ∷ xs) ++ ys)) e ∙ get_right xs ys k

length-take : {X : Type 0} (xs : List X) (k : ℕ) → k ≤ length xs → length (take k xs) ≡ k
length-take xs zero h = refl
length-take [] (suc k) h = absurd (omega arith)
length-take (x ∷ xs) (suc k) h = let e = length-take xs k (omega arith) in omega arith

-- the clauses up to a gate are those before it and its own
module _ (c : Circuit) (place : ℕ) (gate : Gate) (found : slice_get c.gates place ≡ Some gate) where
  own : List (List Lit)
  own = gate_clauses (variable (c.inputs + place)) gate

  up_to : clauses_from c.inputs (take (place + 1) c.gates) ≡ clauses_from c.inputs (take place c.gates) ++ own
  unfolding own
  up_to =
      let within : place < length c.gates = slice_get_within c.gates place gate found in
      let at : length (take place c.gates) ≡ place = length-take c.gates place (omega arith) in
      ap (clauses_from c.inputs) (take_more c.gates place gate found)
      ∙ clauses_from-append c.inputs (take place c.gates) (gate ∷ [])
      ∙ ap (λ n. clauses_from c.inputs (take place c.gates) ++ clauses_from (c.inputs + n) (gate ∷ [])) at
      ∙ ap (λ cs. clauses_from c.inputs (take place c.gates) ++ cs) (append-nil (gate_clauses (variable (c.inputs + place)) gate))

  rest_of : List (List Lit)
  rest_of = clauses_from (c.inputs + length (take (place + 1) c.gates)) (drop (place + 1) c.gates) ++ goal_clauses c.goal

  clauses_parted : clauses_of c ≡ (clauses_from c.inputs (take place c.gates) ++ own) ++ rest_of
  unfolding own rest_of
  clauses_parted =
      ap (λ gs. clauses_from c.inputs gs ++ goal_clauses c.goal) (parted c.gates (place + 1))
      ∙ ap (λ cs. cs ++ goal_clauses c.goal) (clauses_from-append c.inputs (take (place + 1) c.gates) (drop (place + 1) c.gates))
      ∙ append_assoc (clauses_from c.inputs (take (place + 1) c.gates)) (clauses_from (c.inputs + length (take (place + 1) c.gates)) (drop (place + 1) c.gates)) (goal_clauses c.goal)
      ∙ ap (λ cs. cs ++ rest_of) up_to

  pub found_in_gate : (number rest : ℕ) (r : Option (ArrayVec Lit)) → clauses_before c place ≤ number → number < clauses_before c (place + 1) → rest ≡ number - clauses_before c place → IsClauseAt (gate_clauses (variable (c.inputs + place)) gate) rest r → IsClauseAt (clauses_of c) number r
  unfolding own rest_of
  found_in_gate number rest None before within e past =
      let both = ap length up_to ∙ length-append (clauses_from c.inputs (take place c.gates)) own in
      absurd (omega arith)
  found_in_gate number rest (Some clause) before within e here =
      let first = clauses_from c.inputs (take place c.gates) in
      let at : number ≡ length first + rest = omega arith in
      ap (λ cs. slice_get cs number) clauses_parted
      ∙ ap (slice_get ((first ++ own) ++ rest_of)) at
      ∙ get_left (first ++ own) rest_of (length first + rest) clause.items (get_right first own rest ∙ here)

pub found_in_goal : (c : Circuit) (place number rest : ℕ) (r : Option (ArrayVec Lit)) → place ≤ length c.gates → length c.gates ≤ place → clauses_before c place ≤ number → rest ≡ number - clauses_before c place → IsClauseAt (goal_clauses c.goal) rest r → IsClauseAt (clauses_of c) number r
found_in_goal c place number rest r most least before e here = by r here
  where
    all : clauses_before c place ≡ length (clauses_from c.inputs c.gates)
    all =
        let end : place ≡ length c.gates = omega arith in
        ap (λ n. length (clauses_from c.inputs (take n c.gates))) end
        ∙ ap (λ gs. length (clauses_from c.inputs gs)) (take-length c.gates)

    by : (r : Option (ArrayVec Lit)) → IsClauseAt (goal_clauses c.goal) rest r → IsClauseAt (clauses_of c) number r
    by None past =
        let whole = all in
        let both = length-append (clauses_from c.inputs c.gates) (goal_clauses c.goal) in
        omega arith
    by (Some clause) h =
        let whole = all in
        let at : number ≡ length (clauses_from c.inputs c.gates) + rest = omega arith in
        ap (slice_get (clauses_of c)) at ∙ get_right (clauses_from c.inputs c.gates) (goal_clauses c.goal) rest ∙ h
