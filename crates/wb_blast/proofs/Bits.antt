-- The bits of a number of entries.
use Rattle.std.proofs.Common.{◌==◌, ◌≡◌, ◌≢◌, ℕ, zero, suc, ◌+◌, ◌-◌, ◌*◌, ◌/◌, ◌%◌, ◌^◌, ◌<◌, ◌≤◌, Bool, true, false, not, ◌&&◌, ◌||◌, if◌then◌else◌, min, max, List, [], ◌∷◌, length, set, refl, sym, ◌∙◌, ap, ap₂, inl, inr, arith, get_or-set_other, get_or-set_same, below_more}
use Rattle.std.proofs.Math.Nat.{pow-suc}
use Rattle.std.proofs.lemmas.Bool.{cases_lt}
use Rattle.std.proofs.lemmas.Nat.Bits.{bit_at_lowest, bit_at-suc, bit_at_and, bit_at_or, bit_at_xor, bit_at_above, bit_at-lt, same_from_bits}
use Rattle.std.specs.Int.{bit_at}
use Rattle.wb_gate.specs.Circuit.{Circuit, Assignment, variables, xor}
use Rattle.wb_gate.specs.Growth.{Extends}
use Rattle.wb_term.specs.Numbers.{bit}
use Rattle.wb_equal.specs.declared.entries.Entry.{Entry}
use Rattle.wb_equal.specs.declared.entries.Entry.TheVariants.{T}
use Rattle.wb_blast.specs.declared.bitwise.Operation.{Operation}
use Rattle.wb_blast.specs.declared.bitwise.Operation.TheVariants.{And, Or, Xor, Choose}
use Rattle.wb_equal.specs.Entries.{entry_value, IsEntry}
use Rattle.wb_blast.specs.Operations.{on_bits, on_numbers, OperationBelow, Combined}
use Rattle.wb_blast.specs.Words.{number, entry_at}
use Rattle.wb_blast.proofs.Sums.{below_kept, below_set, extends_more, number_lt}

lowest : (b : Bool) (n : ℕ) → (bit b + 2 * n) % 2 ≡ bit b
lowest true n = omega arith
lowest false n = omega arith

halved : (b : Bool) (n : ℕ) → (bit b + 2 * n) / 2 ≡ n
halved true n = omega arith
halved false n = omega arith

-- the bit of a place is the entry's value
pub number_bit : (v : Assignment) (es : List Entry) (k : ℕ) → k < length es → bit_at (number v es) k ≡ bit (entry_value v (entry_at es k))
number_bit v [] k h = absurd (omega (arith, h))
number_bit v (e ∷ es) zero h = bit_at_lowest (number v (e ∷ es)) ∙ lowest (entry_value v e) (number v es)
number_bit v (e ∷ es) (suc k) h =
    bit_at-suc (number v (e ∷ es)) k ∙ ap (λ n. bit_at n k) (halved (entry_value v e) (number v es))
    ∙ number_bit v es k (omega (arith, h))

-- and none is set above
pub number_above : (v : Assignment) (es : List Entry) (k : ℕ) → length es ≤ k → bit_at (number v es) k ≡ 0
number_above v es k h = bit_at_above (number v es) (length es) k (number_lt v es) h

-- an operation's bit is that of the bits
both : (a b : Bool) → min (bit a) (bit b) ≡ bit (a && b)
both true true = refl
both true false = refl
both false true = refl
both false false = refl

either : (a b : Bool) → max (bit a) (bit b) ≡ bit (a || b)
either true true = refl
either true false = refl
either false true = refl
either false false = refl

just_one : (a b : Bool) → (bit a + bit b) % 2 ≡ bit (xor a b)
just_one true true = refl
just_one true false = refl
just_one false true = refl
just_one false false = refl

on_numbers_at : (v : Assignment) (operation : Operation) (m n i : ℕ) (a b : Bool) → bit_at m i ≡ bit a → bit_at n i ≡ bit b →
    bit_at (on_numbers v operation m n) i ≡ bit (on_bits v operation a b)
on_numbers_at v And m n i a b e f = bit_at_and m n i ∙ ap₂ min e f ∙ both a b
on_numbers_at v Or m n i a b e f = bit_at_or m n i ∙ ap₂ max e f ∙ either a b
on_numbers_at v Xor m n i a b e f = bit_at_xor m n i ∙ ap₂ (λ p q. (p + q) % 2) e f ∙ just_one a b
on_numbers_at v (Choose c) m n i a b e f = by (entry_value v c) where
  by : (t : Bool) → bit_at (if t then m else n) i ≡ bit (if t then a else b)
  by true = e
  by false = f

none_of_none : (v : Assignment) (operation : Operation) → bit (on_bits v operation false false) ≡ 0
none_of_none v And = refl
none_of_none v Or = refl
none_of_none v Xor = refl
none_of_none v (Choose c) = by (entry_value v c) where
  by : (t : Bool) → bit (if t then false else false) ≡ 0
  by true = refl
  by false = refl

pub combined_number : (v : Assignment) (operation : Operation) (x y done : List Entry) → length x ≡ 16 → length y ≡ 16 → length done ≡ 16 →
    ((k : ℕ) → k < 16 → entry_value v (entry_at done k) ≡ on_bits v operation (entry_value v (entry_at x k)) (entry_value v (entry_at y k))) →
    number v done ≡ on_numbers v operation (number v x) (number v y)
combined_number v operation x y done in_x in_y in_done same =
    same_from_bits (number v done) (on_numbers v operation (number v x) (number v y)) (λ i. elim (cases_lt i 16) [
      | inl h ↦
          number_bit v done i (omega (arith, h, in_done)) ∙ ap bit (same i h)
          ∙ sym (on_numbers_at v operation (number v x) (number v y) i _ _ (number_bit v x i (omega (arith, h, in_x))) (number_bit v y i (omega (arith, h, in_y))))
      | inr h ↦
          number_above v done i (omega (arith, h, in_done)) ∙ sym (none_of_none v operation)
          ∙ sym (on_numbers_at v operation (number v x) (number v y) i false false (number_above v x i (omega (arith, h, in_x))) (number_above v y i (omega (arith, h, in_y))))
    ])

pub operation_kept : (old new : Circuit) (room : ℕ) (operation : Operation) → Extends old new room → OperationBelow (variables old) operation → OperationBelow (variables new) operation
operation_kept old new room And ext h = tt
operation_kept old new room Or ext h = tt
operation_kept old new room Xor ext h = tt
operation_kept old new room (Choose c) ext h = below_kept old new room c ext h

pub combined_more : (old mid new : Circuit) (operation : Operation) (x y done : List Entry) (e : Entry) (at : ℕ) → at < length done →
    Combined old mid operation x y done at → Extends mid new 1 →
    IsEntry new e (λ v. on_bits v operation (entry_value v (entry_at x at)) (entry_value v (entry_at y at))) → Combined old new operation x y (set done at e) (at + 1)
combined_more old mid new operation x y done e at within so_far ext is = record {
  extends = extends_more old mid new at 1 (at + 1) (omega arith) so_far.extends ext;
  there = below_set (variables new) done at e within (λ k. below_kept mid new 1 (entry_at done k) ext (so_far.there k)) is.there;
  value = λ v o. below_more _ at
      (λ k h. let ne : k ≢ at = omega (arith, h) in ap (entry_value v) (get_or-set_other done at k e T ne) ∙ so_far.value v (ext.obeys v o) k h)
      (ap (entry_value v) (get_or-set_same done at e T within) ∙ is.value v o);
}

-- inverted bits
one_of_two : (a b : Bool) → b ≡ not a → bit a + bit b ≡ 1
one_of_two true b e = ap (λ c. 1 + bit c) e
one_of_two false b e = ap (λ c. 0 + bit c) e

opposite : (v : Assignment) (x y : List Entry) → length x ≡ length y → ((k : ℕ) → k < length x → entry_value v (entry_at y k) ≡ not (entry_value v (entry_at x k))) →
    number v x + number v y + 1 ≡ 2 ^ length x
opposite v [] [] same each = refl
opposite v [] (e ∷ y) same each = absurd (omega (arith, same))
opposite v (e ∷ x) [] same each = absurd (omega (arith, same))
opposite v (e ∷ x) (f ∷ y) same each =
    let rest = opposite v x y (omega (arith, same)) (λ k h. each (suc k) (omega (arith, h))) in
    let here = one_of_two (entry_value v e) (entry_value v f) (each 0 (omega arith)) in
    let p : 2 ^ length (e ∷ x) ≡ 2 ^ length x * 2 = pow-suc 2 (length x) in
    omega (arith, rest, here, p)

pub inverted_number : (v : Assignment) (x y : List Entry) → length x ≡ 16 → length y ≡ 16 →
    ((k : ℕ) → k < 16 → entry_value v (entry_at y k) ≡ not (entry_value v (entry_at x k))) → number v y ≡ 65535 - number v x
inverted_number v x y in_x in_y each =
    let all = opposite v x y (in_x ∙ sym in_y) (λ k h. each k (omega (arith, h, in_x))) in
    let whole : 2 ^ length x ≡ 65536 = ap (λ n. 2 ^ n) in_x in
    omega (arith, all, whole)

pub inverted_more : (v : Assignment) (x done : List Entry) (e : Entry) (at : ℕ) → at < length done → entry_value v e ≡ not (entry_value v (entry_at x at)) →
    ((k : ℕ) → k < at → entry_value v (entry_at done k) ≡ not (entry_value v (entry_at x k))) →
    (k : ℕ) → k < at + 1 → entry_value v (entry_at (set done at e) k) ≡ not (entry_value v (entry_at x k))
inverted_more v x done e at within is each = below_more _ at
    (λ k h. let ne : k ≢ at = omega (arith, h) in ap (entry_value v) (get_or-set_other done at k e T ne) ∙ each k h)
    (ap (entry_value v) (get_or-set_same done at e T within) ∙ is)

pub bit_of_bit : (b : ℕ) → b < 2 → bit (b == 1) ≡ b
bit_of_bit zero h = refl
bit_of_bit (suc zero) h = refl
bit_of_bit (suc (suc b)) h = absurd (omega (arith, h))

-- the bits of a known number
pub known_number : (v : Assignment) (es : List Entry) (n : ℕ) → length es ≡ 16 → n < 65536 →
    ((k : ℕ) → k < 16 → entry_value v (entry_at es k) ≡ (bit_at n k == 1)) → number v es ≡ n
known_number v es n in_es small each = same_from_bits (number v es) n (λ i. elim (cases_lt i 16) [
  | inl h ↦ number_bit v es i (omega (arith, h, in_es)) ∙ ap bit (each i h) ∙ bit_of_bit (bit_at n i) (bit_at-lt n i)
  | inr h ↦ number_above v es i (omega (arith, h, in_es)) ∙ sym (bit_at_above n 16 i small h)
])

pub known_more : (v : Assignment) (done : List Entry) (n : ℕ) (e : Entry) (at : ℕ) → at < length done → entry_value v e ≡ (bit_at n at == 1) →
    ((k : ℕ) → k < at → entry_value v (entry_at done k) ≡ (bit_at n k == 1)) → (k : ℕ) → k < at + 1 → entry_value v (entry_at (set done at e) k) ≡ (bit_at n k == 1)
known_more v done n e at within is each = below_more _ at
    (λ k h. let ne : k ≢ at = omega (arith, h) in ap (entry_value v) (get_or-set_other done at k e T ne) ∙ each k h)
    (ap (entry_value v) (get_or-set_same done at e T within) ∙ is)
