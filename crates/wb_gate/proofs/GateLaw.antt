-- The clauses of gates say the gates' values.
use Rattle.std.proofs.Common.{◌≡◌, ℕ, zero, suc, ◌+◌, Bool, true, false, not, ◌&&◌, if◌then◌else◌, List, [], ◌∷◌, Some, refl, sym, ◌∙◌, ap, arith}
use Rattle.std.specs.List.{slice_get}
use Rattle.std.proofs.lemmas.List.Folds.{list_all-append}
use Rattle.wb_gate.specs.declared.gates.Lit.{Lit}
use Rattle.wb_gate.specs.declared.gates.Gate.{Gate}
use Rattle.wb_gate.specs.declared.gates.Gate.TheVariants.{And, Xor, Mux, Maj}
use Rattle.wb_gate.specs.Circuit.{Assignment, lit_value, minus, variable, gate_value}
use Rattle.wb_gate.specs.Clauses.{gate_clauses, clauses_from, satisfies_clause, SatisfiesAll}
use Rattle.wb_gate.specs.Laws.{ClausesSayTheGates}

lit_value-minus : (v : Assignment) (l : Lit) → lit_value v (minus l) ≡ not (lit_value v l)
lit_value-minus v l = by l.neg (v l.var)
  where
    by : (neg value : Bool) → (if not neg then not value else value) ≡ not (if neg then not value else value)
    by true true = refl
    by true false = refl
    by false value = refl

-- the clauses of a gate are satisfied exactly where its variable has its value
pub gate_true : (v : Assignment) (g : Lit) (gate : Gate) → SatisfiesAll v (gate_clauses g gate) → lit_value v g ≡ gate_value v gate
gate_true v g (And x y) h =
    let e = lit_value-minus v g in
    let f = lit_value-minus v x in
    let k = lit_value-minus v y in
    grind arith
gate_true v g (Xor x y) h =
    let e = lit_value-minus v g in
    let f = lit_value-minus v x in
    let k = lit_value-minus v y in
    grind arith
gate_true v g (Mux c x y) h =
    let e = lit_value-minus v g in
    let d = lit_value-minus v c in
    let f = lit_value-minus v x in
    let k = lit_value-minus v y in
    grind arith
gate_true v g (Maj x y z) h =
    let e = lit_value-minus v g in
    let f = lit_value-minus v x in
    let k = lit_value-minus v y in
    let m = lit_value-minus v z in
    grind arith

pub gate_satisfied : (v : Assignment) (g : Lit) (gate : Gate) → lit_value v g ≡ gate_value v gate → SatisfiesAll v (gate_clauses g gate)
gate_satisfied v g (And x y) h =
    let e = lit_value-minus v g in
    let f = lit_value-minus v x in
    let k = lit_value-minus v y in
    grind arith
gate_satisfied v g (Xor x y) h =
    let e = lit_value-minus v g in
    let f = lit_value-minus v x in
    let k = lit_value-minus v y in
    grind arith
gate_satisfied v g (Mux c x y) h =
    let e = lit_value-minus v g in
    let d = lit_value-minus v c in
    let f = lit_value-minus v x in
    let k = lit_value-minus v y in
    grind arith
gate_satisfied v g (Maj x y z) h =
    let e = lit_value-minus v g in
    let f = lit_value-minus v x in
    let k = lit_value-minus v y in
    let m = lit_value-minus v z in
    grind arith

and_parts : (a b : Bool) → (a && b) ≡ true → (a ≡ true) × (b ≡ true)
and_parts true b h = (refl, h)
and_parts false b h = cc

and_from : (a b : Bool) → a ≡ true → b ≡ true → (a && b) ≡ true
and_from a b h k = rw (h, k) refl

-- gates whose variables begin with this one have their values
record ObeysFrom (v : Assignment) (next : ℕ) (gates : List Gate) : Type 0 where
  at : (k : ℕ) (gate : Gate) → slice_get gates k ≡ Some gate → v (next + k) ≡ gate_value v gate

obeys_from : (v : Assignment) (next : ℕ) (gates : List Gate) → SatisfiesAll v (clauses_from next gates) → ObeysFrom v next gates
obeys_from v next [] h = record { at = λ k gate e. cc }
obeys_from v next (gate ∷ gates) h =
    let parts = and_parts _ _ (sym (list_all-append (satisfies_clause v) (gate_clauses (variable next) gate) (clauses_from (next + 1) gates)) ∙ h) in
    record { at = by (gate_true v (variable next) gate parts.0) (obeys_from v (next + 1) gates parts.1) }
  where
    by : v next ≡ gate_value v gate → ObeysFrom v (next + 1) gates → (k : ℕ) (g : Gate) → slice_get (gate ∷ gates) k ≡ Some g → v (next + k) ≡ gate_value v g
    by first rest zero g e =
        let same : gate ≡ g = cc in
        let here : next + 0 ≡ next = omega arith in
        ap v here ∙ first ∙ ap (gate_value v) same
    by first rest (suc k) g e =
        let there : next + suc k ≡ (next + 1) + k = omega arith in
        ap v there ∙ rest.at k g e

satisfies_from : (v : Assignment) (next : ℕ) (gates : List Gate) → ObeysFrom v next gates → SatisfiesAll v (clauses_from next gates)
satisfies_from v next [] h = refl
satisfies_from v next (gate ∷ gates) h =
    let here : next ≡ next + 0 = omega arith in
    let first : lit_value v (variable next) ≡ gate_value v gate = ap v here ∙ h.at 0 gate refl in
    let rest : ObeysFrom v (next + 1) gates = record { at = λ k g e. ap v (shift k) ∙ h.at (suc k) g e } in
    list_all-append (satisfies_clause v) (gate_clauses (variable next) gate) (clauses_from (next + 1) gates)
    ∙ and_from _ _ (gate_satisfied v (variable next) gate first) (satisfies_from v (next + 1) gates rest)
  where
    shift : (k : ℕ) → (next + 1) + k ≡ next + suc k
    shift k = omega arith

pub clauses_say_the_gates : ClausesSayTheGates
clauses_say_the_gates = record {
  obeyed = λ c v h. record { at = (obeys_from v c.inputs c.gates h).at };
  satisfied = λ c v h. satisfies_from v c.inputs c.gates (record { at = h.at });
}
