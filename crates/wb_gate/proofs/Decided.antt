-- The inputs decide the values of all gates.
use Rattle.std.proofs.Common.{◌≡◌, ℕ, zero, suc, ◌+◌, ◌-◌, ◌<◌, ◌≤◌, ◌⊎◌, inl, inr, Bool, not, ◌&&◌, ◌||◌, if◌then◌else◌, List, [], ◌∷◌, length, Some, refl, sym, ◌∙◌, ap, ap₂, subst, arith, eqb, ◌≢◌, eq-eqb}
use Rattle.std.specs.List.{slice_get}
use Rattle.std.proofs.lemmas.Bool.{ne_eqb}
use Rattle.wb_gate.specs.declared.gates.Lit.{Lit}
use Rattle.wb_gate.specs.declared.gates.Gate.{Gate}
use Rattle.wb_gate.specs.declared.gates.Gate.TheVariants.{And, Xor, Mux, Maj}
use Rattle.wb_gate.specs.Circuit.{Circuit, Assignment, lit_value, gate_value, xor, NamesBelow, IsCircuit, Obeys, variables}
use Rattle.wb_gate.specs.Laws.{HasInputs, InputsDecide}

-- assignments that agree below a number
abbrev AgreeBelow : ℕ → Assignment → Assignment → Type 0
AgreeBelow n v w = (x : ℕ) → x < n → v x ≡ w x

lit_same : (n : ℕ) (v w : Assignment) (l : Lit) → AgreeBelow n v w → l.var < n → lit_value v l ≡ lit_value w l
lit_same n v w l agree below = ap (λ value. if l.neg then not value else value) (agree l.var below)

gate_same : (n : ℕ) (v w : Assignment) (gate : Gate) → AgreeBelow n v w → NamesBelow n gate → gate_value v gate ≡ gate_value w gate
gate_same n v w (And x y) agree below =
    ap₂ (λ p q. p && q) (lit_same n v w x agree below.0) (lit_same n v w y agree below.1)
gate_same n v w (Xor x y) agree below =
    ap₂ xor (lit_same n v w x agree below.0) (lit_same n v w y agree below.1)
gate_same n v w (Mux c x y) agree below =
    ap (λ b. if b then lit_value v x else lit_value v y) (lit_same n v w c agree below.0)
    ∙ ap₂ (λ p q. if lit_value w c then p else q) (lit_same n v w x agree below.1) (lit_same n v w y agree below.2)
gate_same n v w (Maj x y z) agree below =
    ap₂ (λ p q. (p && q) || (p && lit_value v z) || (q && lit_value v z)) (lit_same n v w x agree below.0) (lit_same n v w y agree below.1)
    ∙ ap (λ r. (lit_value w x && lit_value w y) || (lit_value w x && r) || (lit_value w y && r)) (lit_same n v w z agree below.2)

-- one variable's value
set : Assignment → ℕ → Bool → Assignment
set v n value = λ x. if eqb x n then value else v x

set_same : (v : Assignment) (n : ℕ) (value : Bool) → set v n value n ≡ value
unfolding set
set_same v n value = rw (eq-eqb n n refl) refl

set_other : (v : Assignment) (n : ℕ) (value : Bool) (x : ℕ) → x ≢ n → set v n value x ≡ v x
unfolding set
set_other v n value x other = rw (ne_eqb x n other) refl

-- the values of gates, one after the other
values : ℕ → List Gate → Assignment → Assignment
values next [] v = v
values next (gate ∷ gates) v = values (next + 1) gates (set v next (gate_value v gate))

-- each of the gates names variables before its own
abbrev AreEarlier : ℕ → List Gate → Type 0
AreEarlier next gates = (k : ℕ) (gate : Gate) → slice_get gates k ≡ Some gate → NamesBelow (next + k) gate

values_before : (next : ℕ) (gates : List Gate) (v : Assignment) → AgreeBelow next (values next gates v) v
unfolding values
values_before next [] v x below = refl
values_before next (gate ∷ gates) v x below =
    values_before (next + 1) gates (set v next (gate_value v gate)) x (omega arith)
    ∙ set_other v next (gate_value v gate) x (λ e. omega arith)

values_at : (next : ℕ) (gates : List Gate) (v : Assignment) → AreEarlier next gates → (k : ℕ) (gate : Gate) → slice_get gates k ≡ Some gate → values next gates v (next + k) ≡ gate_value (values next gates v) gate
unfolding values
values_at next [] v earlier k gate e = absurd (cc)
values_at next (first ∷ gates) v earlier zero gate e =
    let w = values (next + 1) gates (set v next (gate_value v first)) in
    let same : first ≡ gate = cc in
    let here : next + 0 ≡ next = omega arith in
    let agree : AgreeBelow next v w = λ x below. sym (values_before next (first ∷ gates) v x below) in
    let below : NamesBelow next first = subst (λ n. NamesBelow n first) here (earlier 0 first refl) in
    ap w here
    ∙ values_before (next + 1) gates (set v next (gate_value v first)) next (omega arith)
    ∙ set_same v next (gate_value v first)
    ∙ gate_same next v w first agree below
    ∙ ap (gate_value w) same
values_at next (first ∷ gates) v earlier (suc k) gate e =
    let there : next + suc k ≡ (next + 1) + k = omega arith in
    let w = values (next + 1) gates (set v next (gate_value v first)) in
    ap w there ∙ values_at (next + 1) gates (set v next (gate_value v first)) (λ j g h. shifted j g (earlier (suc j) g h)) k gate e
  where
    shifted : (j : ℕ) (g : Gate) → NamesBelow (next + suc j) g → NamesBelow ((next + 1) + j) g
    shifted j g below =
        let step : next + suc j ≡ (next + 1) + j = omega arith in
        let P : ℕ → Type 0 = λ n. NamesBelow n g in
        subst P step below

some_values : (c : Circuit) (inputs : Assignment) → IsCircuit c → (v : Assignment) × Obeys v c × HasInputs c inputs v
some_values c inputs is =
    (values c.inputs c.gates inputs, record { at = values_at c.inputs c.gates inputs is.earlier }, values_before c.inputs c.gates inputs)

get_within : (gates : List Gate) (k : ℕ) → k < length gates → (gate : Gate) × (slice_get gates k ≡ Some gate)
get_within [] k h = absurd (omega arith)
get_within (x ∷ xs) zero h = (x, refl)
get_within (x ∷ xs) (suc k) h = get_within xs k (omega arith)

split : (i j : ℕ) → (i < j) ⊎ (j ≤ i)
split i j = grind arith

module _ (c : Circuit) (inputs v w : Assignment) (is : IsCircuit c) (of_v : Obeys v c) (in_v : HasInputs c inputs v) (of_w : Obeys w c) (in_w : HasInputs c inputs w) where
  -- the next variable too
  one_more : (n : ℕ) → n < variables c → AgreeBelow n v w → v n ≡ w n
  one_more n below agree = by (split n c.inputs)
    where
      by : (n < c.inputs) ⊎ (c.inputs ≤ n) → v n ≡ w n
      by (inl input) = in_v n input ∙ sym (in_w n input)
      by (inr later) =
          let k = n - c.inputs in
          let e : c.inputs + k ≡ n = omega arith in
          let found = get_within c.gates k (omega arith) in
          let named : NamesBelow n found.0 = subst (λ m. NamesBelow m found.0) e (is.earlier k found.0 found.1) in
          ap v (sym e) ∙ of_v.at k found.0 found.1 ∙ gate_same n v w found.0 agree named
          ∙ sym (of_w.at k found.0 found.1) ∙ ap w e

  agree_all : (n : ℕ) → n ≤ variables c → AgreeBelow n v w
  agree_all zero within x below = absurd (omega arith)
  agree_all (suc n) within x below = by (agree_all n (omega arith)) (split x n)
    where
      by : AgreeBelow n v w → (x < n) ⊎ (n ≤ x) → v x ≡ w x
      by agree (inl before) = agree x before
      by agree (inr last) =
          let e : x ≡ n = omega arith in
          ap v e ∙ one_more n (omega arith) agree ∙ sym (ap w e)

pub inputs_decide : InputsDecide
inputs_decide = record {
  some = some_values;
  one = λ c inputs v w is of_v in_v of_w in_w x below. agree_all c inputs v w is of_v in_v of_w in_w (variables c) (omega arith) x below;
}
