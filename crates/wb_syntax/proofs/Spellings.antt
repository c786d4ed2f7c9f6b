-- The bytes of a token.
use Rattle.std.proofs.Common.{◌≡◌, ℕ, ◌-◌, ◌<◌, ◌≤◌, ◌⊎◌, inl, inr, min, List, [], length, take, drop, sym, refl, ap, ◌∙◌, arith, take_all}
use Rattle.std.specs.Prelude.{slice_range}
use Rattle.std.proofs.lemmas.Bool.{cases_lt}
use Rattle.std.proofs.lemmas.List.{drop_all, length-drop}

-- what lies past a text makes no difference
pub cut_to_text : (text : List ℕ) (start end : ℕ) → slice_range text (min start (min end (length text))) (min end (length text)) ≡ slice_range text start end
cut_to_text text start end = by (cases_lt end (length text)) (cases_lt start (min end (length text)))
  where
    by : (end < length text) ⊎ (length text ≤ end) → (start < min end (length text)) ⊎ (min end (length text) ≤ start)
        → slice_range text (min start (min end (length text))) (min end (length text)) ≡ slice_range text start end
    by (inl inside) (inl before) =
        let a : min end (length text) ≡ end = omega arith in
        let b : min start (min end (length text)) ≡ start = omega arith in
        rw (b, a) refl
    by (inl inside) (inr after) =
        let a : min end (length text) ≡ end = omega arith in
        let b : min start (min end (length text)) ≡ min end (length text) = omega arith in
        let none : end - start ≡ 0 = omega arith in
        let zero_left : end - end ≡ 0 = omega arith in
        rw (b, a, none, zero_left) refl
    by (inr past) (inl before) =
        let a : min end (length text) ≡ length text = omega arith in
        let b : min start (min end (length text)) ≡ start = omega arith in
        rw (b, a) (take_all (length text - start) (drop start text) (omega (arith, length-drop start text)) ∙ sym (take_all (end - start) (drop start text) (omega (arith, length-drop start text))))
    by (inr past) (inr after) =
        let a : min end (length text) ≡ length text = omega arith in
        let b : min start (min end (length text)) ≡ min end (length text) = omega arith in
        rw (b, a) (
        ap (take (length text - length text)) (drop_all (length text) text (omega arith))
        ∙ (take_all (length text - length text) [] (omega arith) ∙ sym (take_all (end - start) [] (omega arith)))
        ∙ ap (take (end - start)) (sym (drop_all start text (omega arith))))
