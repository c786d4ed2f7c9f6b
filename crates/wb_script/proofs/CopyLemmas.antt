-- Copies of a list, one after the other.
use Rattle.std.proofs.Common.{◌≡◌, ℕ, ◌+◌, ◌-◌, ◌*◌, ◌<◌, ◌≤◌, List, [], ◌∷◌, ◌++◌, length, take, drop, replicate, sym, refl, ap, ◌∙◌, arith, append_assoc, suc, zero}
use Rattle.std.specs.List.{flat_map}
use Rattle.std.proofs.lemmas.Grind.{flat_map-append, replicate_next}
use Rattle.std.proofs.lemmas.List.{append-nil, length-append, length-drop, drop-append-le, take-append-drop, take_all, drop_all}
use Rattle.std.proofs.Math.Nat.{suc-mul, mul-le-mul_right}
use Rattle.std.proofs.Math.Seq.{take-append_seam}
use Rattle.wb_script.specs.declared.items.Item.{Item}
use Rattle.wb_script.specs.Script.{copies}
use Rattle.wb_script.proofs.FrontLemmas.{length-copies}

copies_more : (n : ℕ) (items : List Item) → copies (n + 1) items ≡ copies n items ++ items
copies_more n items = ap (flat_map {X = ℕ} (λ _. items)) (replicate_next n 0) ∙ flat_map-append {X = ℕ} (λ _. items) (replicate n 0) (0 ∷ []) ∙ ap (λ xs. copies n items ++ xs) (append-nil items)

copies_of_none : (n : ℕ) → copies n [] ≡ []
copies_of_none zero = refl
copies_of_none (suc n) = copies_of_none n

-- the part that is repeated stands where it stood
same_part : (items more : List Item) (start end : ℕ) → start ≤ length items → end ≡ length items → take (end - start) (drop start (items ++ more)) ≡ drop start items
same_part items more start end within at_end =
    let long : end - start ≡ length (drop start items) = omega (arith, length-drop start items) in
    rw (drop-append-le start items more within, long) (take-append_seam (drop start items) more)

-- one copy more
pub one_more : (items now : List Item) (start end n : ℕ) → start ≤ length items → end ≡ length items → 1 ≤ n → now ≡ items ++ copies (n - 1) (drop start items)
    → now ++ take (end - start) (drop start now) ≡ items ++ copies (n + 1 - 1) (drop start items)
one_more items now start end n within at_end some same =
    let next : n + 1 - 1 ≡ (n - 1) + 1 = omega arith in
    rw (same, next, same_part items (copies (n - 1) (drop start items)) start end within at_end, copies_more (n - 1) (drop start items))
    (append_assoc items (copies (n - 1) (drop start items)) (drop start items))

-- all copies
pub all_copies : (items now : List Item) (start times : ℕ) → 0 < times → now ≡ items ++ copies (times - 1) (drop start items) → now ≡ take start items ++ copies times (drop start items)
all_copies items now start zero some same = absurd (omega arith)
all_copies items now start (suc times) some same =
    let less : suc times - 1 ≡ times = omega arith in
    rw (same, less) (sym (sym (append_assoc (take start items) (drop start items) (copies times (drop start items))) ∙ ap (λ xs. xs ++ copies times (drop start items)) (take-append-drop start items)))

-- copies of nothing
pub no_copies : (items : List Item) (start times : ℕ) → length items ≤ start → items ≡ take start items ++ copies times (drop start items)
no_copies items start times past = rw (drop_all start items past, copies_of_none times) (sym (append-nil (take start items) ∙ take_all start items past))

product_below : (n times width : ℕ) → suc (suc n) ≤ times → n * width + width + width ≤ times * width
product_below n times width within =
    let first = suc-mul (suc n) width in
    let second = suc-mul n width in
    let most = mul-le-mul_right width within in
    omega (arith, first, second, most)

-- the room of all copies has room for one copy more
pub room_for_one : (items now : List Item) (start end n times : ℕ) → start ≤ length items → end ≡ length items → 1 ≤ n → n < times → now ≡ items ++ copies (n - 1) (drop start items)
    → length now + (end - start) ≤ start + times * (length items - start)
room_for_one items now start end zero times within at_end some below same = absurd (omega arith)
room_for_one items now start end (suc n) times within at_end some below same =
    let width = length-drop start items in
    let copied = length-copies n (drop start items) in
    let less : suc n - 1 ≡ n = omega arith in
    let all : length now ≡ length items + n * (length items - start) =
    ap length (rw less at same) ∙ length-append items (copies n (drop start items)) ∙ ap (λ k. length items + k) (copied ∙ ap (λ k. n * k) width) in
    let product = product_below n times (length items - start) (omega arith) in
    omega (arith, all, product, within, at_end)
