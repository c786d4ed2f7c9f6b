-- Sums and differences of words, from their lowest bits on.
use Rattle.std.proofs.Common.{◌≡◌, ℕ, zero, suc, ◌+◌, ◌-◌, ◌*◌, ◌%◌, ◌^◌, ◌<◌, ◌≤◌, Bool, true, false, ◌==◌, ◌&&◌, nat_lt, List, [], ◌∷◌, ◌++◌, length, take, set, refl, sym, ◌∙◌, ap, ap₂, subst, inl, inr, arith}
use Rattle.std.proofs.Math.Nat.{pow-suc}
use Rattle.std.proofs.Math.ListN.{length-set}
use Rattle.std.proofs.lemmas.Bool.{cases_lt, lt-ltb, le-ltb}
use Rattle.std.proofs.lemmas.List.{take_more, take_more_set, length-take, take_all}
use Rattle.std.specs.Bool.{beq}
use Rattle.wb_diagram.specs.declared.nodes.Diagram.{Diagram}
use Rattle.wb_diagram.specs.Forest.{Forest}
use Rattle.wb_diagram.specs.Growth.{Grown}
use Rattle.wb_diagram.specs.Values.{value, IsFunction}
use Rattle.wb_vector.specs.Sums.{differ, carry_bit, borrow_bit, Added, Subtracted, Carried, Borrowed, Agreeing}
use Rattle.wb_vector.specs.Vectors.{bit, number, diagram_at, AreThere, IsNumber}
use Rattle.wb_vector.proofs.Words.{none, grown_more, there_kept, there_set, number_lt, number_small, bit_few}

-- the number of the lowest diagrams, with one more
pushed : (a b m n P Q : ℕ) → m ≡ n + b * P → Q ≡ P * 2 → a + 2 * m ≡ (a + 2 * n) + b * Q
pushed a b m n P Q e q = rw q (rw e (grind arith))

number_push : (v : ℕ → Bool) (f : Forest) (ds : List Diagram) (d : Diagram) → number v f (ds ++ d ∷ []) ≡ number v f ds + bit (value v f d) * 2 ^ length ds
number_push v f [] d = grind arith
number_push v f (x ∷ xs) d =
    pushed (bit (value v f x)) (bit (value v f d)) (number v f (xs ++ d ∷ [])) (number v f xs) (2 ^ length xs) (2 ^ length (x ∷ xs))
    (number_push v f xs d) (pow-suc 2 (length xs))

pow_next : (at : ℕ) → 2 ^ (at + 1) ≡ 2 ^ at * 2
pow_next at = let one : at + 1 ≡ suc at = omega arith in ap (λ n. 2 ^ n) one ∙ pow-suc 2 at

number_taken : (v : ℕ → Bool) (f : Forest) (ds : List Diagram) (at : ℕ) → at < length ds →
    number v f (take (at + 1) ds) ≡ number v f (take at ds) + bit (value v f (diagram_at ds at)) * 2 ^ at
number_taken v f ds at h =
    ap (number v f) (take_more ds at none h) ∙ number_push v f (take at ds) (diagram_at ds at)
    ∙ (let short : length (take at ds) ≡ at = grind (arith, length-take) in ap (λ n. number v f (take at ds) + bit (value v f (diagram_at ds at)) * 2 ^ n) short)

taken_lt : (v : ℕ → Bool) (f : Forest) (ds : List Diagram) (at : ℕ) → at < length ds → number v f (take at ds) < 2 ^ at
taken_lt v f ds at h =
    let short : length (take at ds) ≡ at = grind (arith, length-take) in
    subst (λ n. number v f (take at ds) < 2 ^ n) short (number_lt v f (take at ds))

taken_kept : (v : ℕ → Bool) (old new : Forest) (at : ℕ) (ds : List Diagram) → Grown old new → AreThere old ds → number v new (take at ds) ≡ number v old (take at ds)
taken_kept v old new zero ds grown all = refl
taken_kept v old new (suc at) [] grown all = refl
taken_kept v old new (suc at) (d ∷ ds) grown all =
    ap₂ (λ (b : Bool) (n : ℕ). bit b + 2 * n) (grown.values v d (all 0)) (taken_kept v old new at ds grown (λ k. all (suc k)))

-- a word that was filled up to a place, with one more
number_set : (v : ℕ → Bool) (old new : Forest) (ds : List Diagram) (at : ℕ) (d : Diagram) → at < length ds → Grown old new → AreThere old ds →
    number v new (take (at + 1) (set ds at d)) ≡ number v old (take at ds) + bit (value v new d) * 2 ^ at
number_set v old new ds at d h grown all =
    ap (number v new) (take_more_set ds at d h) ∙ number_push v new (take at ds) d
    ∙ (let short : length (take at ds) ≡ at = grind (arith, length-take) in ap (λ n. number v new (take at ds) + bit (value v new d) * 2 ^ n) short)
    ∙ ap (λ n. n + bit (value v new d) * 2 ^ at) (taken_kept v old new at ds grown all)

whole : (v : ℕ → Bool) (f : Forest) (ds : List Diagram) → length ds ≡ 16 → number v f (take 16 ds) ≡ number v f ds
whole v f ds h = ap (number v f) (take_all 16 ds (omega (arith, h)))

-- sums
full_adder : (x y z : Bool) → bit (differ (differ x y) z) + 2 * bit (carry_bit x y z) ≡ bit x + bit y + bit z
full_adder true true true = refl
full_adder true true false = refl
full_adder true false true = refl
full_adder true false false = refl
full_adder false true true = refl
full_adder false true false = refl
full_adder false false true = refl
full_adder false false false = refl

added_step : (S b h P X Y z c xa ya Q : ℕ) → S + c * P ≡ X + Y + z → b + 2 * h ≡ xa + ya + c → Q ≡ P * 2 →
    (S + b * P) + h * Q ≡ (X + xa * P) + (Y + ya * P) + z
added_step S b h P X Y z c xa ya Q e f q = rw q (let g = ap (λ n. n * P) f in grind (arith, e, g))

pub added_more : (old mid new : Forest) (x y : List Diagram) (c : Diagram) (sum : List Diagram) (carry low high : Diagram) (at : ℕ) →
    at < 16 → length x ≡ 16 → length y ≡ 16 → AreThere old x → AreThere old y → Added old mid x y c sum carry at → Grown mid new →
    IsFunction new low (λ v. differ (differ (value v mid (diagram_at x at)) (value v mid (diagram_at y at))) (value v mid carry)) →
    IsFunction new high (λ v. carry_bit (value v mid (diagram_at x at)) (value v mid (diagram_at y at)) (value v mid carry)) →
    Added old new x y c (set sum at low) high (at + 1)
added_more old mid new x y c sum carry low high at within in_x in_y x_there y_there so_far grown is_low is_high =
    let count = so_far.count in
    let inside : at < length sum = omega (arith, count, within) in
    let before = so_far.grown in
    record {
      count = length-set sum at low ∙ count;
      grown = grown_more old mid new before grown;
      sum_there = there_set new sum at low inside (there_kept mid new sum grown so_far.sum_there) is_low.there;
      carry_there = is_high.there;
      value = λ v.
          let a = value v mid (diagram_at x at) in
          let b = value v mid (diagram_at y at) in
          let held = value v mid carry in
          ap (λ n. n + bit (value v new high) * 2 ^ (at + 1)) (number_set v mid new sum at low inside grown so_far.sum_there)
          ∙ added_step (number v mid (take at sum)) (bit (value v new low)) (bit (value v new high)) (2 ^ at) (number v old (take at x)) (number v old (take at y))
          (bit (value v old c)) (bit held) (bit (value v old (diagram_at x at))) (bit (value v old (diagram_at y at))) (2 ^ (at + 1))
          (so_far.value v)
          (ap₂ (λ l h. bit l + 2 * bit h) (is_low.value v) (is_high.value v) ∙ full_adder a b held
          ∙ ap₂ (λ m n. bit m + bit n + bit held) (before.values v (diagram_at x at) (x_there at)) (before.values v (diagram_at y at) (y_there at)))
          (pow_next at)
          ∙ ap₂ (λ m n. m + n + bit (value v old c)) (sym (number_taken v old x at (omega (arith, in_x, within)))) (sym (number_taken v old y at (omega (arith, in_y, within))));
    }

cut_off : (s h t : ℕ) → s < 65536 → s + h * 65536 ≡ t → s ≡ t % 65536
cut_off s h t small e = rw (sym e) (omega (arith, small))

pub added_sum : (old new : Forest) (x y : List Diagram) (c : Diagram) (sum : List Diagram) (carry : Diagram) → length x ≡ 16 → length y ≡ 16 →
    Added old new x y c sum carry 16 → IsNumber new sum (λ v. (number v old x + number v old y + bit (value v old c)) % 65536)
added_sum old new x y c sum carry in_x in_y added = record {
  there = added.sum_there;
  value = λ v. cut_off (number v new sum) (bit (value v new carry)) _ (number_small v new sum added.count)
      (ap (λ n. n + bit (value v new carry) * 65536) (sym (whole v new sum added.count)) ∙ added.value v
      ∙ ap₂ (λ a b. a + b + bit (value v old c)) (whole v old x in_x) (whole v old y in_y));
}

-- the carry alone
carried_next : (X Y z P Q : ℕ) (a b c : Bool) → X < P → Y < P → z ≤ 1 → Q ≡ P * 2 → c ≡ nat_lt (P - 1) (X + Y + z) →
    carry_bit a b c ≡ nat_lt (Q - 1) ((X + bit a * P) + (Y + bit b * P) + z)
carried_next X Y z P Q true true c h k few q e = sym (lt-ltb _ _ (omega (arith, h, q)))
carried_next X Y z P Q false false c h k few q e = sym (le-ltb _ _ (omega (arith, h, k, few, q)))
carried_next X Y z P Q true false c h k few q e = e ∙ elim (cases_lt (P - 1) (X + Y + z)) [
  | inl over ↦ lt-ltb _ _ over ∙ sym (lt-ltb _ _ (omega (arith, h, over, q)))
  | inr under ↦ le-ltb _ _ under ∙ sym (le-ltb _ _ (omega (arith, h, under, q)))
]
carried_next X Y z P Q false true c h k few q e = e ∙ elim (cases_lt (P - 1) (X + Y + z)) [
  | inl over ↦ lt-ltb _ _ over ∙ sym (lt-ltb _ _ (omega (arith, h, over, q)))
  | inr under ↦ le-ltb _ _ under ∙ sym (le-ltb _ _ (omega (arith, h, under, q)))
]

pub carried_more : (old mid new : Forest) (x y : List Diagram) (c carry next : Diagram) (at : ℕ) →
    at < 16 → length x ≡ 16 → length y ≡ 16 → AreThere old x → AreThere old y → Carried old mid x y c carry at → Grown mid new →
    IsFunction new next (λ v. carry_bit (value v mid (diagram_at x at)) (value v mid (diagram_at y at)) (value v mid carry)) →
    Carried old new x y c next (at + 1)
carried_more old mid new x y c carry next at within in_x in_y x_there y_there so_far grown is =
    let before = so_far.grown in
    let x_long : at < length x = omega (arith, in_x, within) in
    let y_long : at < length y = omega (arith, in_y, within) in
    record {
      grown = grown_more old mid new before grown;
      means = record {
        there = is.there;
        value = λ v.
            is.value v
            ∙ ap₂ (λ a b. carry_bit a b (value v mid carry)) (before.values v (diagram_at x at) (x_there at)) (before.values v (diagram_at y at) (y_there at))
            ∙ carried_next (number v old (take at x)) (number v old (take at y)) (bit (value v old c)) (2 ^ at) (2 ^ (at + 1))
            (value v old (diagram_at x at)) (value v old (diagram_at y at)) (value v mid carry)
            (taken_lt v old x at x_long) (taken_lt v old y at y_long) (bit_few (value v old c)) (pow_next at) (so_far.means.value v)
            ∙ ap₂ (λ m n. nat_lt (2 ^ (at + 1) - 1) (m + n + bit (value v old c))) (sym (number_taken v old x at x_long)) (sym (number_taken v old y at y_long));
      };
    }

pub carried_all : (old new : Forest) (x y : List Diagram) (c carry : Diagram) → length x ≡ 16 → length y ≡ 16 → Carried old new x y c carry 16 →
    IsFunction new carry (λ v. nat_lt 65535 (number v old x + number v old y + bit (value v old c)))
carried_all old new x y c carry in_x in_y carried = record {
  there = carried.means.there;
  value = λ v. carried.means.value v ∙ ap₂ (λ m n. nat_lt 65535 (m + n + bit (value v old c))) (whole v old x in_x) (whole v old y in_y);
}

-- differences
full_subtractor : (x y z : Bool) → bit (differ (differ x y) z) + bit y + bit z ≡ bit x + 2 * bit (borrow_bit x y z)
full_subtractor true true true = refl
full_subtractor true true false = refl
full_subtractor true false true = refl
full_subtractor true false false = refl
full_subtractor false true true = refl
full_subtractor false true false = refl
full_subtractor false false true = refl
full_subtractor false false false = refl

subtracted_step : (D d h P X Y z c xa ya Q : ℕ) → D + Y + z ≡ X + c * P → d + ya + c ≡ xa + 2 * h → Q ≡ P * 2 →
    (D + d * P) + (Y + ya * P) + z ≡ (X + xa * P) + h * Q
subtracted_step D d h P X Y z c xa ya Q e f q = rw q (let g = ap (λ n. n * P) f in grind (arith, e, g))

pub subtracted_more : (old mid new : Forest) (x y : List Diagram) (c : Diagram) (difference : List Diagram) (borrow low high : Diagram) (at : ℕ) →
    at < 16 → length x ≡ 16 → length y ≡ 16 → AreThere old x → AreThere old y → Subtracted old mid x y c difference borrow at → Grown mid new →
    IsFunction new low (λ v. differ (differ (value v mid (diagram_at x at)) (value v mid (diagram_at y at))) (value v mid borrow)) →
    IsFunction new high (λ v. borrow_bit (value v mid (diagram_at x at)) (value v mid (diagram_at y at)) (value v mid borrow)) →
    Subtracted old new x y c (set difference at low) high (at + 1)
subtracted_more old mid new x y c difference borrow low high at within in_x in_y x_there y_there so_far grown is_low is_high =
    let count = so_far.count in
    let inside : at < length difference = omega (arith, count, within) in
    let before = so_far.grown in
    record {
      count = length-set difference at low ∙ count;
      grown = grown_more old mid new before grown;
      difference_there = there_set new difference at low inside (there_kept mid new difference grown so_far.difference_there) is_low.there;
      borrow_there = is_high.there;
      value = λ v.
          let a = value v mid (diagram_at x at) in
          let b = value v mid (diagram_at y at) in
          let held = value v mid borrow in
          let same_a = before.values v (diagram_at x at) (x_there at) in
          let same_b = before.values v (diagram_at y at) (y_there at) in
          ap₂ (λ m n. m + n + bit (value v old c)) (number_set v mid new difference at low inside grown so_far.difference_there)
          (number_taken v old y at (omega (arith, in_y, within)))
          ∙ subtracted_step (number v mid (take at difference)) (bit (value v new low)) (bit (value v new high)) (2 ^ at) (number v old (take at x)) (number v old (take at y))
          (bit (value v old c)) (bit held) (bit (value v old (diagram_at x at))) (bit (value v old (diagram_at y at))) (2 ^ (at + 1))
          (so_far.value v)
          (ap₂ (λ l n. bit l + bit n + bit held) (is_low.value v) (sym same_b) ∙ full_subtractor a b held
          ∙ ap₂ (λ m h. bit m + 2 * bit h) same_a (sym (is_high.value v)))
          (pow_next at)
          ∙ ap (λ n. n + bit (value v new high) * 2 ^ (at + 1)) (sym (number_taken v old x at (omega (arith, in_x, within))));
    }

cut_below : (d x n h : ℕ) → d < 65536 → n ≤ 65536 → d + n ≡ x + h * 65536 → d ≡ (x + 65536 - n) % 65536
cut_below d x n h small most e = omega (arith, small, most, e)

pub subtracted_difference : (old new : Forest) (x y : List Diagram) (c : Diagram) (difference : List Diagram) (borrow : Diagram) → length x ≡ 16 → length y ≡ 16 →
    Subtracted old new x y c difference borrow 16 → IsNumber new difference (λ v. (number v old x + 65536 - (number v old y + bit (value v old c))) % 65536)
subtracted_difference old new x y c difference borrow in_x in_y subtracted = record {
  there = subtracted.difference_there;
  value = λ v.
      let small = number_small v old y in_y in
      let few = bit_few (value v old c) in
      let d = sym (whole v new difference subtracted.count) in
      let sum = subtracted.value v in
      let n = whole v old y in_y in
      let m = whole v old x in_x in
      cut_below (number v new difference) (number v old x) (number v old y + bit (value v old c)) (bit (value v new borrow)) (number_small v new difference subtracted.count)
      (omega (arith, small, few)) (omega (arith, d, sum, n, m));
}

-- the borrow alone
borrowed_next : (X Y z P : ℕ) (a b c : Bool) → X < P → Y < P → z ≤ 1 → c ≡ nat_lt X (Y + z) →
    borrow_bit a b c ≡ nat_lt (X + bit a * P) ((Y + bit b * P) + z)
borrowed_next X Y z P true false c h k few e = sym (le-ltb _ _ (omega (arith, k, few)))
borrowed_next X Y z P false true c h k few e = sym (lt-ltb _ _ (omega (arith, h)))
borrowed_next X Y z P true true c h k few e = e ∙ elim (cases_lt X (Y + z)) [
  | inl over ↦ lt-ltb _ _ over ∙ sym (lt-ltb _ _ (omega (arith, over)))
  | inr under ↦ le-ltb _ _ under ∙ sym (le-ltb _ _ (omega (arith, under)))
]
borrowed_next X Y z P false false c h k few e = e ∙ elim (cases_lt X (Y + z)) [
  | inl over ↦ lt-ltb _ _ over ∙ sym (lt-ltb _ _ (omega (arith, over)))
  | inr under ↦ le-ltb _ _ under ∙ sym (le-ltb _ _ (omega (arith, under)))
]

pub borrowed_more : (old mid new : Forest) (x y : List Diagram) (c borrow next : Diagram) (at : ℕ) →
    at < 16 → length x ≡ 16 → length y ≡ 16 → AreThere old x → AreThere old y → Borrowed old mid x y c borrow at → Grown mid new →
    IsFunction new next (λ v. borrow_bit (value v mid (diagram_at x at)) (value v mid (diagram_at y at)) (value v mid borrow)) →
    Borrowed old new x y c next (at + 1)
borrowed_more old mid new x y c borrow next at within in_x in_y x_there y_there so_far grown is =
    let before = so_far.grown in
    let x_long : at < length x = omega (arith, in_x, within) in
    let y_long : at < length y = omega (arith, in_y, within) in
    record {
      grown = grown_more old mid new before grown;
      means = record {
        there = is.there;
        value = λ v.
            is.value v
            ∙ ap₂ (λ a b. borrow_bit a b (value v mid borrow)) (before.values v (diagram_at x at) (x_there at)) (before.values v (diagram_at y at) (y_there at))
            ∙ borrowed_next (number v old (take at x)) (number v old (take at y)) (bit (value v old c)) (2 ^ at)
            (value v old (diagram_at x at)) (value v old (diagram_at y at)) (value v mid borrow)
            (taken_lt v old x at x_long) (taken_lt v old y at y_long) (bit_few (value v old c)) (so_far.means.value v)
            ∙ ap₂ (λ m n. nat_lt m (n + bit (value v old c))) (sym (number_taken v old x at x_long)) (sym (number_taken v old y at y_long));
      };
    }

pub borrowed_all : (old new : Forest) (x y : List Diagram) (c borrow : Diagram) → length x ≡ 16 → length y ≡ 16 → Borrowed old new x y c borrow 16 →
    IsFunction new borrow (λ v. nat_lt (number v old x) (number v old y + bit (value v old c)))
borrowed_all old new x y c borrow in_x in_y borrowed = record {
  there = borrowed.means.there;
  value = λ v. borrowed.means.value v ∙ ap₂ (λ m n. nat_lt m (n + bit (value v old c))) (whole v old x in_x) (whole v old y in_y);
}

-- equality
same_next : (m n P : ℕ) (a b s : Bool) → m < P → n < P → s ≡ (m == n) → (beq a b && s) ≡ ((m + bit a * P) == (n + bit b * P))
same_next m n P true true s h k e = grind (arith, e)
same_next m n P true false s h k e = grind (arith, e, h, k)
same_next m n P false true s h k e = grind (arith, e, h, k)
same_next m n P false false s h k e = grind (arith, e)

pub agreeing_more : (old mid new : Forest) (x y : List Diagram) (same next : Diagram) (at : ℕ) →
    at < 16 → length x ≡ 16 → length y ≡ 16 → AreThere old x → AreThere old y → Agreeing old mid x y same at → Grown mid new →
    IsFunction new next (λ v. beq (value v mid (diagram_at x at)) (value v mid (diagram_at y at)) && value v mid same) →
    Agreeing old new x y next (at + 1)
agreeing_more old mid new x y same next at within in_x in_y x_there y_there so_far grown is =
    let before = so_far.grown in
    let x_long : at < length x = omega (arith, in_x, within) in
    let y_long : at < length y = omega (arith, in_y, within) in
    record {
      grown = grown_more old mid new before grown;
      means = record {
        there = is.there;
        value = λ v.
            is.value v
            ∙ ap₂ (λ a b. beq a b && value v mid same) (before.values v (diagram_at x at) (x_there at)) (before.values v (diagram_at y at) (y_there at))
            ∙ same_next (number v old (take at x)) (number v old (take at y)) (2 ^ at) (value v old (diagram_at x at)) (value v old (diagram_at y at)) (value v mid same)
            (taken_lt v old x at x_long) (taken_lt v old y at y_long) (so_far.means.value v)
            ∙ ap₂ (λ m n. m == n) (sym (number_taken v old x at x_long)) (sym (number_taken v old y at y_long));
      };
    }

pub agreeing_all : (old new : Forest) (x y : List Diagram) (same : Diagram) → length x ≡ 16 → length y ≡ 16 → Agreeing old new x y same 16 →
    IsFunction new same (λ v. number v old x == number v old y)
agreeing_all old new x y same in_x in_y agreeing = record {
  there = agreeing.means.there;
  value = λ v. agreeing.means.value v ∙ ap₂ (λ m n. m == n) (whole v old x in_x) (whole v old y in_y);
}
