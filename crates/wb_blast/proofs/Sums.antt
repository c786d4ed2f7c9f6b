-- Numbers of entries, and the sum of two of them.
use Rattle.std.proofs.Common.{◌≡◌, ℕ, suc, ◌+◌, ◌*◌, ◌^◌, ◌<◌, ◌≤◌, Bool, true, false, not, ◌-◌, ◌==◌, ◌&&◌, ◌||◌, nat_lt, List, [], ◌∷◌, ◌++◌, length, take, get_or, set, refl, sym, ◌∙◌, ap, ap₂, subst, inl, inr, arith, get_or-set_other, get_or-set_same}
use Rattle.std.proofs.Math.Nat.{pow-suc}
use Rattle.std.proofs.lemmas.Bool.{cases_eq, cases_lt, lt-ltb, le-ltb}
use Rattle.std.proofs.lemmas.List.{take_more, take_more_set, length-take, take_all}
use Rattle.wb_gate.specs.Circuit.{Circuit, Assignment, variables, xor, Obeys}
use Rattle.wb_gate.specs.Growth.{Extends}
use Rattle.wb_term.specs.Numbers.{bit, cut, less}
use Rattle.wb_equal.specs.declared.entries.Entry.{Entry}
use Rattle.wb_equal.specs.declared.entries.Entry.TheVariants.{T, F}
use Rattle.wb_equal.specs.declared.entries.Entry.TheVariants as entry
use Rattle.wb_equal.specs.Entries.{entry_value, EntryBelow, IsEntry}
use Rattle.wb_blast.specs.Words.{number, entry_at, AreBelow, IsNumber, IsSumOf, Added, Carried, Differing}

pub below_kept : (old new : Circuit) (room : ℕ) (e : Entry) → Extends old new room → EntryBelow (variables old) e → EntryBelow (variables new) e
below_kept old new room T ext h = tt
below_kept old new room F ext h = tt
below_kept old new room (entry.Lit l) ext h = let same = ext.same_inputs in let longer = ext.longer in omega (arith, h, same, longer)

pub extends_more : (old mid new : Circuit) (a b c : ℕ) → a + b ≤ c → Extends old mid a → Extends mid new b → Extends old new c
extends_more old mid new a b c room one two = record {
  obeys = λ v o. one.obeys v (two.obeys v o);
  same_inputs = two.same_inputs ∙ one.same_inputs;
  same_limit = two.same_limit ∙ one.same_limit;
  longer = let h = one.longer in let k = two.longer in omega (arith, h, k);
  most = let h = one.most in let k = two.most in omega (arith, h, k, room);
}

pub full_adder : (x y z : Bool) → bit (xor (xor x y) z) + 2 * bit ((x && y) || (x && z) || (y && z)) ≡ bit x + bit y + bit z
full_adder true true true = refl
full_adder true true false = refl
full_adder true false true = refl
full_adder true false false = refl
full_adder false true true = refl
full_adder false true false = refl
full_adder false false true = refl
full_adder false false false = refl

pub bit_few : (b : Bool) → bit b ≤ 1
bit_few true = omega arith
bit_few false = omega arith

pushed : (a b m n P Q : ℕ) → m ≡ n + b * P → Q ≡ P * 2 → a + 2 * m ≡ (a + 2 * n) + b * Q
pushed a b m n P Q e q = rw q (rw e (grind arith))

pub number_push : (v : Assignment) (es : List Entry) (e : Entry) → number v (es ++ e ∷ []) ≡ number v es + bit (entry_value v e) * 2 ^ length es
number_push v [] e = grind arith
number_push v (x ∷ xs) e =
    pushed (bit (entry_value v x)) (bit (entry_value v e)) (number v (xs ++ e ∷ [])) (number v xs) (2 ^ length xs) (2 ^ length (x ∷ xs))
    (number_push v xs e) (pow-suc 2 (length xs))

pub number_lt : (v : Assignment) (es : List Entry) → number v es < 2 ^ length es
number_lt v [] = omega arith
number_lt v (x ∷ xs) =
    let rest = number_lt v xs in
    let few = bit_few (entry_value v x) in
    let p : 2 ^ length (x ∷ xs) ≡ 2 ^ length xs * 2 = pow-suc 2 (length xs) in
    omega (arith, rest, few, p)

pub pow_next : (at : ℕ) → 2 ^ (at + 1) ≡ 2 ^ at * 2
pow_next at = let one : at + 1 ≡ suc at = omega arith in ap (λ n. 2 ^ n) one ∙ pow-suc 2 at

pub number_taken : (v : Assignment) (es : List Entry) (at : ℕ) → at < length es →
    number v (take (at + 1) es) ≡ number v (take at es) + bit (entry_value v (entry_at es at)) * 2 ^ at
number_taken v es at h =
    ap (number v) (take_more es at T h) ∙ number_push v (take at es) (entry_at es at)
    ∙ (let short : length (take at es) ≡ at = grind (arith, length-take) in ap (λ n. number v (take at es) + bit (entry_value v (entry_at es at)) * 2 ^ n) short)

number_set : (v : Assignment) (es : List Entry) (at : ℕ) (e : Entry) → at < length es →
    number v (take (at + 1) (set es at e)) ≡ number v (take at es) + bit (entry_value v e) * 2 ^ at
number_set v es at e h =
    ap (number v) (take_more_set es at e h) ∙ number_push v (take at es) e
    ∙ (let short : length (take at es) ≡ at = grind (arith, length-take) in ap (λ n. number v (take at es) + bit (entry_value v e) * 2 ^ n) short)

pub below_set : (n : ℕ) (es : List Entry) (at : ℕ) (e : Entry) → at < length es → AreBelow n es → EntryBelow n e → AreBelow n (set es at e)
below_set n es at e h all one k = elim (cases_eq k at) [
  | inl same ↦ subst (λ i. EntryBelow n (get_or (set es at e) i T)) (sym same) (subst (EntryBelow n) (sym (get_or-set_same es at e T h)) one)
  | inr ne ↦ subst (EntryBelow n) (sym (get_or-set_other es at k e T ne)) (all k)
]

added_step : (S b h P X Y z c xa ya Q : ℕ) → S + c * P ≡ X + Y + z → b + 2 * h ≡ xa + ya + c → Q ≡ P * 2 →
    (S + b * P) + h * Q ≡ (X + xa * P) + (Y + ya * P) + z
added_step S b h P X Y z c xa ya Q e f q = rw q (let g = ap (λ n. n * P) f in grind (arith, e, g))

pub added_more : (old mid new : Circuit) (x y : List Entry) (c : Entry) (sum : List Entry) (carry low high : Entry) (at : ℕ) →
    at < length x → at < length y → at < length sum → Added old mid x y c sum carry at → Extends mid new 3 →
    IsSumOf new low high (entry_at x at) (entry_at y at) carry → Added old new x y c (set sum at low) high (at + 1)
added_more old mid new x y c sum carry low high at in_x in_y in_sum so_far ext is = record {
  extends = extends_more old mid new (3 * at) 3 (3 * (at + 1)) (omega arith) so_far.extends ext;
  sum_there = below_set (variables new) sum at low in_sum (λ k. below_kept mid new 3 (entry_at sum k) ext (so_far.sum_there k)) is.low_there;
  carry_there = is.high_there;
  value = λ v o.
      ap₂ (λ a b. a + b) (number_set v sum at low in_sum) refl
      ∙ added_step (number v (take at sum)) (bit (entry_value v low)) (bit (entry_value v high)) (2 ^ at) (number v (take at x)) (number v (take at y))
      (bit (entry_value v c)) (bit (entry_value v carry)) (bit (entry_value v (entry_at x at))) (bit (entry_value v (entry_at y at))) (2 ^ (at + 1))
      (so_far.value v (ext.obeys v o)) (is.value v o) (pow_next at)
      ∙ ap₂ (λ a b. a + b + bit (entry_value v c)) (sym (number_taken v x at in_x)) (sym (number_taken v y at in_y));
}

cut_off : (s h t : ℕ) → s < 65536 → s + h * 65536 ≡ t → s ≡ cut t
cut_off s h t small e = rw (sym e) (omega (arith, small))

carried : (b : Bool) (s t : ℕ) → s < 65536 → s + bit b * 65536 ≡ t → b ≡ nat_lt 65535 t
carried true s t small e = let over : 65535 < t = omega (arith, e) in grind (arith, over)
carried false s t small e = let under : t ≤ 65535 = omega (arith, e, small) in grind (arith, under)

added_all : (old new : Circuit) (x y : List Entry) (c : Entry) (sum : List Entry) (carry : Entry) → length x ≡ 16 → length y ≡ 16 → length sum ≡ 16 →
    Added old new x y c sum carry 16 → (v : Assignment) → Obeys v new → number v sum + bit (entry_value v carry) * 65536 ≡ number v x + number v y + bit (entry_value v c)
added_all old new x y c sum carry in_x in_y in_sum added v o =
    let whole : (es : List Entry) → length es ≡ 16 → number v (take 16 es) ≡ number v es = λ es h. ap (number v) (take_all 16 es (omega (arith, h))) in
    ap (λ n. n + bit (entry_value v carry) * 65536) (sym (whole sum in_sum)) ∙ added.value v o
    ∙ ap₂ (λ a b. a + b + bit (entry_value v c)) (whole x in_x) (whole y in_y)

pub number_small : (v : Assignment) (es : List Entry) → length es ≡ 16 → number v es < 65536
number_small v es h = subst (λ n. number v es < 2 ^ n) h (number_lt v es)

pub added_sum : (old new : Circuit) (x y : List Entry) (c : Entry) (sum : List Entry) (carry : Entry) → length x ≡ 16 → length y ≡ 16 → length sum ≡ 16 →
    Added old new x y c sum carry 16 → IsNumber new sum (λ v. cut (number v x + number v y + bit (entry_value v c)))
added_sum old new x y c sum carry in_x in_y in_sum added = record {
  there = added.sum_there;
  value = λ v o. cut_off (number v sum) (bit (entry_value v carry)) _ (number_small v sum in_sum) (added_all old new x y c sum carry in_x in_y in_sum added v o);
}

pub added_carry : (old new : Circuit) (x y : List Entry) (c : Entry) (sum : List Entry) (carry : Entry) → length x ≡ 16 → length y ≡ 16 → length sum ≡ 16 →
    Added old new x y c sum carry 16 → IsEntry new carry (λ v. nat_lt 65535 (number v x + number v y + bit (entry_value v c)))
added_carry old new x y c sum carry in_x in_y in_sum added = record {
  there = added.carry_there;
  value = λ v o. carried (entry_value v carry) (number v sum) _ (number_small v sum in_sum) (added_all old new x y c sum carry in_x in_y in_sum added v o);
}

-- the carry alone
low_next : (low P Q : ℕ) (b : Bool) → low < P → Q ≡ P * 2 → low + bit b * P < Q
low_next low P Q true h q = rw q (grind (arith, h))
low_next low P Q false h q = rw q (grind (arith, h))

pub carried_more : (old mid new : Circuit) (x y : List Entry) (c carry next : Entry) (at : ℕ) → at < length x → at < length y →
    Carried old mid x y c carry at → Extends mid new 1 →
    IsEntry new next (λ v. (entry_value v (entry_at x at) && entry_value v (entry_at y at)) || (entry_value v (entry_at x at) && entry_value v carry) || (entry_value v (entry_at y at) && entry_value v carry)) →
    Carried old new x y c next (at + 1)
carried_more old mid new x y c carry next at in_x in_y so_far ext is = record {
  extends = extends_more old mid new at 1 (at + 1) (omega arith) so_far.extends ext;
  there = is.there;
  value = λ v o.
      let before = so_far.value v (ext.obeys v o) in
      let a = entry_value v (entry_at x at) in
      let b = entry_value v (entry_at y at) in
      let held = entry_value v carry in
      let here = xor (xor a b) held in (
        before.0 + bit here * 2 ^ at,
        low_next before.0 (2 ^ at) (2 ^ (at + 1)) here before.1 (pow_next at),
        added_step before.0 (bit here) (bit (entry_value v next)) (2 ^ at) (number v (take at x)) (number v (take at y))
            (bit (entry_value v c)) (bit held) (bit a) (bit b) (2 ^ (at + 1)) before.2
            (ap (λ h. bit here + 2 * bit h) (is.value v o) ∙ full_adder a b held) (pow_next at)
            ∙ ap₂ (λ m n. m + n + bit (entry_value v c)) (sym (number_taken v x at in_x)) (sym (number_taken v y at in_y)),
      );
}

-- a difference is the sum of the first and the inverted second
bit_not : (b : Bool) → bit b + bit (not b) ≡ 1
bit_not true = refl
bit_not false = refl

inverted_sum : (x y i : ℕ) (c d : Bool) → y < 65536 → i ≡ 65535 - y → d ≡ not c → x + i + bit d ≡ x + 65536 - (y + bit c)
inverted_sum x y i c d small e f =
    let one = bit_not c in
    let same : bit d ≡ bit (not c) = ap bit f in
    omega (arith, small, e, one, same)

pub subtracted : (v : Assignment) (x y i : List Entry) (c d : Entry) → length y ≡ 16 → number v i ≡ 65535 - number v y → entry_value v d ≡ not (entry_value v c) →
    cut (number v x + number v i + bit (entry_value v d)) ≡ less (number v x) (number v y + bit (entry_value v c))
subtracted v x y i c d in_y e f = ap cut (inverted_sum (number v x) (number v y) (number v i) (entry_value v c) (entry_value v d) (number_small v y in_y) e f)

pub borrowed : (v : Assignment) (x y i : List Entry) (c d : Entry) → length y ≡ 16 → number v i ≡ 65535 - number v y → entry_value v d ≡ not (entry_value v c) →
    not (nat_lt 65535 (number v x + number v i + bit (entry_value v d))) ≡ nat_lt (number v x) (number v y + bit (entry_value v c))
borrowed v x y i c d in_y e f =
    let small = number_small v y in_y in
    let few = bit_few (entry_value v c) in
    let same = inverted_sum (number v x) (number v y) (number v i) (entry_value v c) (entry_value v d) small e f in
    elim (cases_lt (number v x) (number v y + bit (entry_value v c))) [
      | inl h ↦ ap not (le-ltb _ _ (omega (arith, h, same, small, few))) ∙ sym (lt-ltb _ _ h)
      | inr h ↦ ap not (lt-ltb _ _ (omega (arith, h, same, small, few))) ∙ sym (le-ltb _ _ h)
    ]

-- equal words
same_next : (m n P : ℕ) (a b d : Bool) → m < P → n < P → (m == n) ≡ not d → ((m + bit a * P) == (n + bit b * P)) ≡ not (d || xor a b)
same_next m n P true true d h k e = grind (arith, e)
same_next m n P true false d h k e = grind (arith, e, h, k)
same_next m n P false true d h k e = grind (arith, e, h, k)
same_next m n P false false d h k e = grind (arith, e)

pub taken_lt : (v : Assignment) (es : List Entry) (at : ℕ) → at < length es → number v (take at es) < 2 ^ at
taken_lt v es at h =
    let short : length (take at es) ≡ at = grind (arith, length-take) in
    subst (λ n. number v (take at es) < 2 ^ n) short (number_lt v (take at es))

pub differing_more : (old mid next new : Circuit) (x y : List Entry) (differs here so_far : Entry) (at : ℕ) → at < length x → at < length y →
    Differing old mid x y differs at → Extends mid next 1 → Extends next new 1 →
    IsEntry next here (λ v. xor (entry_value v (entry_at x at)) (entry_value v (entry_at y at))) →
    IsEntry new so_far (λ v. entry_value v differs || entry_value v here) → Differing old new x y so_far (at + 1)
differing_more old mid next new x y differs here so_far at in_x in_y before one two is all = record {
  extends = extends_more old next new (2 * at + 1) 1 (2 * (at + 1)) (omega arith)
      (extends_more old mid next (2 * at) 1 (2 * at + 1) (omega arith) before.extends one) two;
  there = all.there;
  value = λ v o.
      let then = two.obeys v o in
      ap₂ (λ m n. m == n) (number_taken v x at in_x) (number_taken v y at in_y)
      ∙ same_next (number v (take at x)) (number v (take at y)) (2 ^ at) (entry_value v (entry_at x at)) (entry_value v (entry_at y at)) (entry_value v differs)
      (taken_lt v x at in_x) (taken_lt v y at in_y) (before.value v (one.obeys v then))
      ∙ ap (λ b. not (entry_value v differs || b)) (sym (is.value v then))
      ∙ ap not (sym (all.value v o));
}

pub differing_all : (old new : Circuit) (x y : List Entry) (differs result : Entry) → length x ≡ 16 → length y ≡ 16 → Differing old new x y differs 16 →
    ((v : Assignment) → entry_value v result ≡ not (entry_value v differs)) → ((n : ℕ) → EntryBelow n differs → EntryBelow n result) →
    IsEntry new result (λ v. number v x == number v y)
differing_all old new x y differs result in_x in_y is inverse there =
    let whole : (v : Assignment) (es : List Entry) → length es ≡ 16 → number v (take 16 es) ≡ number v es = λ v es h. ap (number v) (take_all 16 es (omega (arith, h))) in
    record {
      there = there _ is.there;
      value = λ v o. inverse v ∙ sym (is.value v o) ∙ ap₂ (λ m n. m == n) (whole v x in_x) (whole v y in_y);
    }
