-- Gates that are equal, and gates whose literals are brought in order.
use Rattle.std.proofs.Common.{◌≡◌, ℕ, ◌+◌, Bool, true, false, not, ◌&&◌, ◌||◌, if◌then◌else◌, true≢false, Some, slice_get, refl, sym, ◌∙◌, ap, ap₂, arith}
use Rattle.std.proofs.lemmas.Grind.{common_steps}
use Rattle.std.proofs.lemmas.Option.{slice_get_within}
use Rattle.wb_gate.specs.declared.gates.Lit.{Lit}
use Rattle.wb_gate.specs.declared.gates.Gate.{Gate}
use Rattle.wb_gate.specs.declared.gates.Gate.TheVariants.{And, Xor, Mux, Maj}
use Rattle.wb_gate.specs.contracts.gates.GatePartialEq.TheImpl.{ghosts}
use Rattle.wb_gate.specs.Circuit.{Circuit, Assignment, variable, gate_value, lit_value, minus}
use Rattle.wb_gate.specs.Growth.{IsLit}

abbrev pub gate_eq : Gate → Gate → Bool
gate_eq = ghosts.eq

pub gate_eq-same : (a b : Gate) → gate_eq a b ≡ true → a ≡ b
gate_eq-same (And x y) (And x2 y2) h = grind (arith, common_steps)
gate_eq-same (Xor x y) (Xor x2 y2) h = grind (arith, common_steps)
gate_eq-same (Mux c x y) (Mux c2 x2 y2) h = grind (arith, common_steps)
gate_eq-same (Maj x y z) (Maj x2 y2 z2) h = grind (arith, common_steps)
gate_eq-same _ _ h = absurd (true≢false (sym h))

-- the variable of a gate means the gate
pub gate_lit : (c : Circuit) (number : ℕ) (gate : Gate) → slice_get c.gates number ≡ Some gate → IsLit c (variable (c.inputs + number)) (λ v. gate_value v gate)
gate_lit c number gate at = record {
  there = (let within = slice_get_within c.gates number gate at in omega (arith, within));
  value = λ v o. o.at number gate at;
}

-- two of three at least
abbrev most : Bool → Bool → Bool → Bool
most x y z = (x && y) || (x && z) || (y && z)

by_first : (x y z : Bool) → most x y z ≡ ((x && y) || ((x || y) && z))
by_first true true true = refl
by_first true true false = refl
by_first true false true = refl
by_first true false false = refl
by_first false true true = refl
by_first false true false = refl
by_first false false true = refl
by_first false false false = refl

by_last : (x y z : Bool) → most x y z ≡ ((y && z) || ((y || z) && x))
by_last true true true = refl
by_last true true false = refl
by_last true false true = refl
by_last true false false = refl
by_last false true true = refl
by_last false true false = refl
by_last false false true = refl
by_last false false false = refl

most_first : (p q x y z : Bool) → (p && q) ≡ (x && y) → (p || q) ≡ (x || y) → most p q z ≡ most x y z
most_first p q x y z both either = by_first p q z ∙ ap₂ (λ a b. a || (b && z)) both either ∙ sym (by_first x y z)

most_last : (x p q y z : Bool) → (p && q) ≡ (y && z) → (p || q) ≡ (y || z) → most x p q ≡ most x y z
most_last x p q y z both either = by_last x p q ∙ ap₂ (λ a b. a || (b && x)) both either ∙ sym (by_last x y z)

pub most_ordered : (a b c first last middle last2 first2 middle2 : Bool) → (first && last) ≡ (a && b) → (first || last) ≡ (a || b) → (middle && last2) ≡ (last && c) → (middle || last2) ≡ (last || c) →
    (first2 && middle2) ≡ (first && middle) → (first2 || middle2) ≡ (first || middle) → most first2 middle2 last2 ≡ most a b c
most_ordered a b c first last middle last2 first2 middle2 both either both2 either2 both3 either3 =
    most_first first2 middle2 first middle last2 both3 either3 ∙ most_last first middle last2 last c both2 either2 ∙ most_first first last a b c both either

-- the sign of what is chosen is pulled out
not_not : (b : Bool) → not (not b) ≡ b
not_not true = refl
not_not false = refl

minus_value : (v : Assignment) (l : Lit) → lit_value v (minus l) ≡ not (lit_value v l)
minus_value v l = by l.neg (v l.var) where
  by : (n b : Bool) → (if not n then not b else b) ≡ not (if n then not b else b)
  by true b = sym (not_not b)
  by false b = refl

choice_not : (t a b : Bool) → not (if t then not a else not b) ≡ (if t then a else b)
choice_not true a b = not_not a
choice_not false a b = not_not b

pub choice_minus : (v : Assignment) (c x y mx my : Lit) → mx ≡ minus x → my ≡ minus y →
    not (if lit_value v c then lit_value v mx else lit_value v my) ≡ (if lit_value v c then lit_value v x else lit_value v y)
choice_minus v c x y mx my e f =
    ap₂ (λ a b. not (if lit_value v c then a else b)) (ap (lit_value v) e ∙ minus_value v x) (ap (lit_value v) f ∙ minus_value v y)
    ∙ choice_not (lit_value v c) (lit_value v x) (lit_value v y)
