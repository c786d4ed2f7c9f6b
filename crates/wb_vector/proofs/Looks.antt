-- The place that is looked up, bit by bit from the highest.
use Rattle.std.proofs.Common.{◌≡◌, ℕ, ◌+◌, ◌-◌, ◌*◌, ◌%◌, ◌^◌, ◌<◌, Bool, true, false, true≢false, if◌then◌else◌, List, [], ◌∷◌, length, slice_index, refl, sym, ◌∙◌, ap, arith}
use Rattle.std.proofs.Math.Nat.{add_comm}
use Rattle.std.proofs.lemmas.Bool.{and_parts}
use Rattle.std.specs.Cmp.Lexicographic.{pointwise}
use Rattle.std.proofs.lemmas.Grind.{common_steps}
use Rattle.std.proofs.lemmas.Nat.{mod-pow-add, pow_pos}
use Rattle.wb_diagram.specs.declared.nodes.Diagram.{Diagram}
use Rattle.wb_diagram.specs.contracts.nodes.DiagramPartialEq.TheImpl.{ghosts}
use Rattle.wb_diagram.specs.Forest.{Forest}
use Rattle.wb_diagram.specs.Growth.{Grown}
use Rattle.wb_diagram.specs.Values.{value}
use Rattle.wb_vector.specs.Vectors.{bit, number, diagram_at, AreThere, IsNumber}
use Rattle.wb_vector.proofs.Words.{number_kept, pow_next}
use Rattle.wb_vector.proofs.Bits.{number_bit}

-- the powers that a step deals with
pub record Halved (bits rest : ℕ) : Type 0 where
  pub next : rest + 1 ≡ bits
  pub power : 2 ^ bits ≡ 2 ^ rest * 2
  pub some : 0 < 2 ^ rest

pub halved_bits : (bits : ℕ) → 0 < bits → Halved bits (bits - 1)
halved_bits bits h =
    let next : bits - 1 + 1 ≡ bits = omega (arith, h) in
    record {
      next = next;
      power = ap (λ n. 2 ^ n) (sym next) ∙ pow_next (bits - 1);
      some = pow_pos (bits - 1);
    }

-- the low bits of a number
low_bits : (v : ℕ → Bool) (f : Forest) (x : List Diagram) (bits rest : ℕ) → rest < length x → rest + 1 ≡ bits →
    number v f x % 2 ^ bits ≡ bit (value v f (diagram_at x rest)) * 2 ^ rest + number v f x % 2 ^ rest
low_bits v f x bits rest within next =
    ap (λ n. number v f x % 2 ^ n) (sym next ∙ add_comm rest 1) ∙ mod-pow-add (number v f x) 1 rest
    ∙ ap (λ b. b * 2 ^ rest + number v f x % 2 ^ rest) (number_bit v f x rest within)

chosen_place : (words : List ℕ) (b : Bool) (first middle n P m : ℕ) → middle ≡ first + P → m ≡ bit b * P + n →
    (if b then slice_index words (middle + n) else slice_index words (first + n)) ≡ slice_index words (first + m)
chosen_place words true first middle n P m e f = ap (slice_index words) (omega (arith, e, f))
chosen_place words false first middle n P m e f = ap (slice_index words) (omega (arith, f))

known_place : (b : Bool) (first middle from P n m : ℕ) → from ≡ (if b then middle else first) → middle ≡ first + P → m ≡ bit b * P + n → from + n ≡ first + m
known_place true first middle from P n m e f g = omega (arith, e, f, g)
known_place false first middle from P n m e f g = omega (arith, e, g)

pub looked_none : (v : ℕ → Bool) (f : Forest) (x : List Diagram) (words : List ℕ) (bits first : ℕ) → bits ≡ 0 →
    slice_index words first ≡ slice_index words (first + number v f x % 2 ^ bits)
looked_none v f x words bits first e =
    ap (slice_index words) (let none : number v f x % 2 ^ bits ≡ 0 = ap (λ b. number v f x % 2 ^ b) e ∙ mod_one (number v f x) in omega (arith, none)) where
      mod_one : (n : ℕ) → n % 2 ^ 0 ≡ 0
      mod_one n = omega arith

pub looked_known : (old new : Forest) (x w : List Diagram) (words : List ℕ) (bits rest first middle from : ℕ) (b : Bool) → rest < length x → Halved bits rest → middle ≡ first + 2 ^ rest →
    ((v : ℕ → Bool) → value v old (diagram_at x rest) ≡ b) → from ≡ (if b then middle else first) →
    IsNumber new w (λ v. slice_index words (from + number v old x % 2 ^ rest)) → IsNumber new w (λ v. slice_index words (first + number v old x % 2 ^ bits))
looked_known old new x w words bits rest first middle from b within halved is known start number_is = record {
  there = number_is.there;
  value = λ v. number_is.value v ∙ ap (slice_index words)
      (known_place b first middle from (2 ^ rest) (number v old x % 2 ^ rest) (number v old x % 2 ^ bits) start is
      (low_bits v old x bits rest within halved.next ∙ ap (λ b. bit b * 2 ^ rest + number v old x % 2 ^ rest) (known v)));
}

pub looked_chosen : (old mid new last : Forest) (x high low w : List Diagram) (words : List ℕ) (bits rest first middle : ℕ) → rest < length x → Halved bits rest → middle ≡ first + 2 ^ rest →
    AreThere old x → Grown old mid → Grown mid new →
    IsNumber mid high (λ v. slice_index words (middle + number v old x % 2 ^ rest)) → IsNumber new low (λ v. slice_index words (first + number v mid x % 2 ^ rest)) →
    IsNumber last w (λ v. if value v new (diagram_at x rest) then number v new high else number v new low) →
    IsNumber last w (λ v. slice_index words (first + number v old x % 2 ^ bits))
looked_chosen old mid new last x high low w words bits rest first middle within halved is there one two is_high is_low is_w = record {
  there = is_w.there;
  value = λ v.
      let top = value v old (diagram_at x rest) in
      let same = two.values v (diagram_at x rest) (one.diagrams (diagram_at x rest) (there rest)) ∙ one.values v (diagram_at x rest) (there rest) in
      is_w.value v
      ∙ ap (λ b. if b then number v new high else number v new low) same
      ∙ ap (λ h. if top then h else number v new low) (number_kept v mid new high two is_high.there ∙ is_high.value v)
      ∙ ap (λ l. if top then slice_index words (middle + number v old x % 2 ^ rest) else l)
      (is_low.value v ∙ ap (λ n. slice_index words (first + n % 2 ^ rest)) (number_kept v old mid x one there))
      ∙ chosen_place words top first middle (number v old x % 2 ^ rest) (2 ^ rest) (number v old x % 2 ^ bits) is (low_bits v old x bits rest within halved.next);
}

-- words that are found equal
abbrev pub diagram_eq : Diagram → Diagram → Bool
diagram_eq = ghosts.eq

diagram_eq-same : (c d : Diagram) → diagram_eq c d ≡ true → c ≡ d
diagram_eq-same c d h = grind (arith, common_steps)

pub same_words : (xs ys : List Diagram) → pointwise diagram_eq xs ys ≡ true → xs ≡ ys
same_words [] [] h = refl
same_words [] (y ∷ ys) h = absurd (true≢false (sym h))
same_words (x ∷ xs) [] h = absurd (true≢false (sym h))
same_words (x ∷ xs) (y ∷ ys) h =
    let parts = and_parts (diagram_eq x y) (pointwise diagram_eq xs ys) h in
    ap (λ (w : Diagram). w ∷ xs) (diagram_eq-same x y parts.0) ∙ ap (λ (ws : List Diagram). y ∷ ws) (same_words xs ys parts.1)

either_same : (b : Bool) (n : ℕ) → n ≡ (if b then n else n)
either_same true n = refl
either_same false n = refl

pub chosen_same : (v : ℕ → Bool) (f : Forest) (c : Diagram) (xs ys : List Diagram) → xs ≡ ys → number v f xs ≡ (if value v f c then number v f xs else number v f ys)
chosen_same v f c xs ys same = either_same (value v f c) (number v f xs) ∙ ap (λ (ds : List Diagram). if value v f c then number v f xs else number v f ds) same
