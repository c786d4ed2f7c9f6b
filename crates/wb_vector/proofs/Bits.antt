-- The bits of the number of a word.
use Rattle.std.proofs.Common.{◌==◌, ◌≡◌, ◌≢◌, ℕ, zero, suc, ◌+◌, ◌-◌, ◌*◌, ◌/◌, ◌%◌, ◌^◌, ◌<◌, ◌≤◌, nat_lt, Bool, true, false, not, ◌&&◌, ◌||◌, if◌then◌else◌, min, max, List, [], ◌∷◌, length, set, slice_index, refl, sym, ◌∙◌, ap, ap₂, inl, inr, arith, get_or-set_other, get_or-set_same, below_more}
use Rattle.std.proofs.Math.ListN.{length-set}
use Rattle.std.proofs.Math.Nat.{pow-suc}
use Rattle.std.proofs.lemmas.Bool.{cases_lt, lt-ltb, le-ltb}
use Rattle.std.proofs.lemmas.Nat.Bits.{bit_at_lowest, bit_at-suc, bit_at_and, bit_at_or, bit_at_xor, bit_at_above, bit_at-lt, same_from_bits}
use Rattle.std.specs.Bool.{beq}
use Rattle.std.specs.Int.{bit_at}
use Rattle.wb_diagram.specs.declared.nodes.Diagram.{Diagram}
use Rattle.wb_vector.specs.declared.bitwise.Operation.{Operation}
use Rattle.wb_vector.specs.declared.bitwise.Operation.TheVariants.{And, Or, Xor, Choose}
use Rattle.wb_diagram.specs.Forest.{Forest}
use Rattle.wb_diagram.specs.Growth.{Grown}
use Rattle.wb_diagram.specs.Values.{value, IsFunction}
use Rattle.wb_vector.specs.Operations.{on_bits, on_numbers, OperationThere, Combined, Inverted}
use Rattle.wb_vector.specs.Vectors.{bit, number, number_of, diagram_at, AreThere}
use Rattle.wb_vector.proofs.Words.{none, grown_more, there_kept, there_set, number_lt}

lowest : (b : Bool) (n : ℕ) → (bit b + 2 * n) % 2 ≡ bit b
lowest true n = omega arith
lowest false n = omega arith

halved : (b : Bool) (n : ℕ) → (bit b + 2 * n) / 2 ≡ n
halved true n = omega arith
halved false n = omega arith

-- the bit of a place is the diagram's value
pub number_bit : (v : ℕ → Bool) (f : Forest) (ds : List Diagram) (k : ℕ) → k < length ds → bit_at (number v f ds) k ≡ bit (value v f (diagram_at ds k))
number_bit v f [] k h = absurd (omega (arith, h))
number_bit v f (d ∷ ds) zero h = bit_at_lowest (number v f (d ∷ ds)) ∙ lowest (value v f d) (number v f ds)
number_bit v f (d ∷ ds) (suc k) h =
    bit_at-suc (number v f (d ∷ ds)) k ∙ ap (λ n. bit_at n k) (halved (value v f d) (number v f ds))
    ∙ number_bit v f ds k (omega (arith, h))

-- and none is set above
pub number_above : (v : ℕ → Bool) (f : Forest) (ds : List Diagram) (k : ℕ) → length ds ≤ k → bit_at (number v f ds) k ≡ 0
number_above v f ds k h = bit_at_above (number v f ds) (length ds) k (number_lt v f ds) h

-- what holds of the lowest diagrams holds of one more
pub values_more : (v : ℕ → Bool) (mid new : Forest) (done : List Diagram) (d : Diagram) (at : ℕ) (is : ℕ → Bool) → at < length done → Grown mid new → AreThere mid done →
    ((k : ℕ) → k < at → value v mid (diagram_at done k) ≡ is k) → value v new d ≡ is at →
    (k : ℕ) → k < at + 1 → value v new (diagram_at (set done at d) k) ≡ is k
values_more v mid new done d at is within grown there before here = below_more _ at
    (λ k h. let ne : k ≢ at = omega (arith, h) in
    ap (value v new) (get_or-set_other done at k d none ne) ∙ grown.values v (diagram_at done k) (there k) ∙ before k h)
    (ap (value v new) (get_or-set_same done at d none within) ∙ here)

-- an operation's bit is that of the bits
both : (a b : Bool) → min (bit a) (bit b) ≡ bit (a && b)
both true true = refl
both true false = refl
both false true = refl
both false false = refl

either : (a b : Bool) → max (bit a) (bit b) ≡ bit (a || b)
either true true = refl
either true false = refl
either false true = refl
either false false = refl

just_one : (a b : Bool) → (bit a + bit b) % 2 ≡ bit (not (beq a b))
just_one true true = refl
just_one true false = refl
just_one false true = refl
just_one false false = refl

on_numbers_at : (v : ℕ → Bool) (f : Forest) (operation : Operation) (m n i : ℕ) (a b : Bool) → bit_at m i ≡ bit a → bit_at n i ≡ bit b →
    bit_at (on_numbers v f operation m n) i ≡ bit (on_bits v f operation a b)
on_numbers_at v f And m n i a b e g = bit_at_and m n i ∙ ap₂ min e g ∙ both a b
on_numbers_at v f Or m n i a b e g = bit_at_or m n i ∙ ap₂ max e g ∙ either a b
on_numbers_at v f Xor m n i a b e g = bit_at_xor m n i ∙ ap₂ (λ p q. (p + q) % 2) e g ∙ just_one a b
on_numbers_at v f (Choose c) m n i a b e g = by (value v f c) where
  by : (t : Bool) → bit_at (if t then m else n) i ≡ bit (if t then a else b)
  by true = e
  by false = g

none_of_none : (v : ℕ → Bool) (f : Forest) (operation : Operation) → bit (on_bits v f operation false false) ≡ 0
none_of_none v f And = refl
none_of_none v f Or = refl
none_of_none v f Xor = refl
none_of_none v f (Choose c) = by (value v f c) where
  by : (t : Bool) → bit (if t then false else false) ≡ 0
  by true = refl
  by false = refl

pub combined_number : (v : ℕ → Bool) (old new : Forest) (operation : Operation) (x y done : List Diagram) → length x ≡ 16 → length y ≡ 16 → length done ≡ 16 →
    ((k : ℕ) → k < 16 → value v new (diagram_at done k) ≡ on_bits v old operation (value v old (diagram_at x k)) (value v old (diagram_at y k))) →
    number v new done ≡ on_numbers v old operation (number v old x) (number v old y)
combined_number v old new operation x y done in_x in_y in_done same =
    same_from_bits (number v new done) (on_numbers v old operation (number v old x) (number v old y)) (λ i. elim (cases_lt i 16) [
      | inl h ↦
          number_bit v new done i (omega (arith, h, in_done)) ∙ ap bit (same i h)
          ∙ sym (on_numbers_at v old operation (number v old x) (number v old y) i _ _ (number_bit v old x i (omega (arith, h, in_x))) (number_bit v old y i (omega (arith, h, in_y))))
      | inr h ↦
          number_above v new done i (omega (arith, h, in_done)) ∙ sym (none_of_none v old operation)
          ∙ sym (on_numbers_at v old operation (number v old x) (number v old y) i false false (number_above v old x i (omega (arith, h, in_x))) (number_above v old y i (omega (arith, h, in_y))))
    ])

pub operation_kept : (old new : Forest) (operation : Operation) → Grown old new → OperationThere old operation → OperationThere new operation
operation_kept old new And grown h = tt
operation_kept old new Or grown h = tt
operation_kept old new Xor grown h = tt
operation_kept old new (Choose c) grown h = grown.diagrams c h

on_bits_kept : (v : ℕ → Bool) (old new : Forest) (operation : Operation) (a b : Bool) → Grown old new → OperationThere old operation → on_bits v new operation a b ≡ on_bits v old operation a b
on_bits_kept v old new And a b grown h = refl
on_bits_kept v old new Or a b grown h = refl
on_bits_kept v old new Xor a b grown h = refl
on_bits_kept v old new (Choose c) a b grown h = ap (λ t. if t then a else b) (grown.values v c h)

pub combined_more : (old mid new : Forest) (operation : Operation) (x y done : List Diagram) (d : Diagram) (at : ℕ) → at < 16 → OperationThere old operation → AreThere old x → AreThere old y →
    Combined old mid operation x y done at → Grown mid new →
    IsFunction new d (λ v. on_bits v mid operation (value v mid (diagram_at x at)) (value v mid (diagram_at y at))) → Combined old new operation x y (set done at d) (at + 1)
combined_more old mid new operation x y done d at within there x_there y_there so_far grown is =
    let count = so_far.count in
    let before = so_far.grown in
    let inside : at < length done = omega (arith, count, within) in
    record {
      count = length-set done at d ∙ count;
      grown = grown_more old mid new before grown;
      there = there_set new done at d inside (there_kept mid new done grown so_far.there) is.there;
      value = λ v. values_more v mid new done d at _ inside grown so_far.there (so_far.value v)
          (is.value v ∙ on_bits_kept v old mid operation _ _ before there
          ∙ ap₂ (on_bits v old operation) (before.values v (diagram_at x at) (x_there at)) (before.values v (diagram_at y at) (y_there at)));
    }

-- inverted bits
one_of_two : (a b : Bool) → b ≡ not a → bit a + bit b ≡ 1
one_of_two true b e = ap (λ c. 1 + bit c) e
one_of_two false b e = ap (λ c. 0 + bit c) e

opposite : (v : ℕ → Bool) (old new : Forest) (x y : List Diagram) → length x ≡ length y → ((k : ℕ) → k < length x → value v new (diagram_at y k) ≡ not (value v old (diagram_at x k))) →
    number v old x + number v new y + 1 ≡ 2 ^ length x
opposite v old new [] [] same each = refl
opposite v old new [] (e ∷ y) same each = absurd (omega (arith, same))
opposite v old new (d ∷ x) [] same each = absurd (omega (arith, same))
opposite v old new (d ∷ x) (e ∷ y) same each =
    let rest = opposite v old new x y (omega (arith, same)) (λ k h. each (suc k) (omega (arith, h))) in
    let here = one_of_two (value v old d) (value v new e) (each 0 (omega arith)) in
    let p : 2 ^ length (d ∷ x) ≡ 2 ^ length x * 2 = pow-suc 2 (length x) in
    omega (arith, rest, here, p)

pub inverted_number : (v : ℕ → Bool) (old new : Forest) (x y : List Diagram) → length x ≡ 16 → length y ≡ 16 →
    ((k : ℕ) → k < 16 → value v new (diagram_at y k) ≡ not (value v old (diagram_at x k))) → number v new y ≡ 65535 - number v old x
inverted_number v old new x y in_x in_y each =
    let all = opposite v old new x y (in_x ∙ sym in_y) (λ k h. each k (omega (arith, h, in_x))) in
    let whole : 2 ^ length x ≡ 65536 = ap (λ n. 2 ^ n) in_x in
    omega (arith, all, whole)

pub inverted_more : (old mid new : Forest) (x done : List Diagram) (d : Diagram) (at : ℕ) → at < 16 → AreThere old x →
    Inverted old mid x done at → Grown mid new → IsFunction new d (λ v. not (value v mid (diagram_at x at))) → Inverted old new x (set done at d) (at + 1)
inverted_more old mid new x done d at within x_there so_far grown is =
    let count = so_far.count in
    let before = so_far.grown in
    let inside : at < length done = omega (arith, count, within) in
    record {
      count = length-set done at d ∙ count;
      grown = grown_more old mid new before grown;
      there = there_set new done at d inside (there_kept mid new done grown so_far.there) is.there;
      value = λ v. values_more v mid new done d at _ inside grown so_far.there (so_far.value v)
          (is.value v ∙ ap not (before.values v (diagram_at x at) (x_there at)));
    }

pub bit_of_bit : (b : ℕ) → b < 2 → bit (b == 1) ≡ b
bit_of_bit zero h = refl
bit_of_bit (suc zero) h = refl
bit_of_bit (suc (suc b)) h = absurd (omega (arith, h))

-- the bits of a known number
pub known_number : (v : ℕ → Bool) (f : Forest) (ds : List Diagram) (n : ℕ) → length ds ≡ 16 → n < 65536 →
    ((k : ℕ) → k < 16 → value v f (diagram_at ds k) ≡ (bit_at n k == 1)) → number v f ds ≡ n
known_number v f ds n in_ds small each = same_from_bits (number v f ds) n (λ i. elim (cases_lt i 16) [
  | inl h ↦ number_bit v f ds i (omega (arith, h, in_ds)) ∙ ap bit (each i h) ∙ bit_of_bit (bit_at n i) (bit_at-lt n i)
  | inr h ↦ number_above v f ds i (omega (arith, h, in_ds)) ∙ sym (bit_at_above n 16 i small h)
])

-- the lowest diagrams are those of variables
bit_same : (b c : Bool) (m n : ℕ) → b ≡ c → m ≡ n → bit b + 2 * m ≡ bit c + 2 * n
bit_same b c m n e g = ap₂ (λ (a : Bool) (k : ℕ). bit a + 2 * k) e g

spelled : (v : ℕ → Bool) (f : Forest) (ds : List Diagram) (names : List ℕ) → length names ≤ length ds →
    ((k : ℕ) → k < length names → value v f (diagram_at ds k) ≡ v (slice_index names k)) →
    ((k : ℕ) → length names ≤ k → k < length ds → value v f (diagram_at ds k) ≡ false) → number v f ds ≡ number_of v names
spelled v f [] [] few each above = refl
spelled v f [] (x ∷ names) few each above = absurd (omega (arith, few))
spelled v f (d ∷ ds) [] few each above =
    bit_same (value v f d) false (number v f ds) 0 (above 0 (omega arith) (omega arith))
    (spelled v f ds [] (omega arith) (λ k h. absurd (omega (arith, h))) (λ k h l. above (suc k) (omega arith) (omega (arith, l))))
spelled v f (d ∷ ds) (x ∷ names) few each above =
    bit_same (value v f d) (v x) (number v f ds) (number_of v names) (each 0 (omega arith))
    (spelled v f ds names (omega (arith, few)) (λ k h. each (suc k) (omega (arith, h))) (λ k h l. above (suc k) (omega (arith, h)) (omega (arith, l))))

pub named_number : (v : ℕ → Bool) (f : Forest) (ds : List Diagram) (names : List ℕ) (at : ℕ) → at ≡ length names → at ≤ length ds →
    ((k : ℕ) → k < length ds → value v f (diagram_at ds k) ≡ (if nat_lt k at then v (slice_index names k) else false)) → number v f ds ≡ number_of v names
named_number v f ds names at same few each = spelled v f ds names (omega (arith, same, few))
    (λ k h. each k (omega (arith, h, same, few)) ∙ ap (λ (b : Bool). if b then v (slice_index names k) else false) (lt-ltb k at (omega (arith, h, same))))
    (λ k h l. each k l ∙ ap (λ (b : Bool). if b then v (slice_index names k) else false) (le-ltb k at (omega (arith, h, same))))
