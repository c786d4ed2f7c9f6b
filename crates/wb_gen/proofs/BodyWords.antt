-- Bodies word by word, and how they are written.
use Rattle.std.proofs.Common.{◌≡◌, ℕ, suc, ◌+◌, ◌/◌, ◌^◌, ◌<◌, ◌≤◌, Bool, true, false, not, List, [], ◌∷◌, ◌++◌, length, get_or, drop, refl, sym, ap, ◌∙◌, arith, append_assoc, append-nil, length-append}
use Rattle.std.proofs.lemmas.List.{drop_more}
use Rattle.std.proofs.Math.ListN.{drop_of_length-le}
use Rattle.std.proofs.lemmas.List.FromFn.{length-map-range_with_len, get_or-map-range_with_len}
use Rattle.wb_gen.specs.Demo.{next_drawn, drawn, word_of_bits, body_word, body_of, padded}

pub body_length : (number : ℕ) → length (body_of number) ≡ 64
unfolding body_of
body_length number = length-map-range_with_len (body_word number) 1 64

body_at : (number i : ℕ) → i < 64 → get_or (body_of number) i 0 ≡ body_word number (i + 1)
unfolding body_of
body_at number i less = get_or-map-range_with_len (body_word number) 1 64 i (i + 1) 0 less (omega arith)

body_drop : (number i : ℕ) → i < 64 → drop i (body_of number) ≡ body_word number (i + 1) ∷ drop (i + 1) (body_of number)
body_drop number i less =
    drop_more (body_of number) i 0 (let e = body_length number in omega arith)
    ∙ ap (λ (w : ℕ). w ∷ drop (i + 1) (body_of number)) (body_at number i less)

padded_first : (followed : Bool) (word : ℕ) (rest : List ℕ)
    → padded followed (word ∷ rest) ≡ padded followed (word ∷ []) ++ padded (not followed) rest
padded_first true word rest = refl
padded_first false word rest = refl

padded_length : (followed : Bool) (word : ℕ) → length (padded followed (word ∷ [])) ≤ 2
padded_length true word = omega arith
padded_length false word = omega arith

drawn_more : (number i : ℕ) → drawn number (i + 1) ≡ next_drawn (drawn number i)
unfolding drawn
drawn_more number i = ap (drawn number) (let e : i + 1 ≡ suc i = omega arith in e)

-- so many words of the body of a number are written to the ends of both programs
pub record AreWritten (number count : ℕ) (first_before second_before first second : List ℕ) (draw : ℕ) (followed : Bool) : Type 0 where
  pub draws : draw ≡ drawn number count
  pub first_whole : first ++ drop count (body_of number) ≡ first_before ++ body_of number
  pub second_whole : second ++ padded followed (drop count (body_of number)) ≡ second_before ++ padded true (body_of number)
  pub first_length : length first ≡ length first_before + count
  pub second_length : length second ≤ length second_before + (count + count)

pub one_written : (number count : ℕ) (first_before second_before first second first_after second_after : List ℕ) (draw draw_after : ℕ) (followed : Bool) (word : ℕ)
    → count < 64
    → AreWritten number count first_before second_before first second draw followed
    → draw_after ≡ next_drawn draw
    → word ≡ word_of_bits (draw_after / 2 ^ 40)
    → first_after ≡ first ++ word ∷ []
    → second_after ≡ second ++ padded followed (word ∷ [])
    → AreWritten number (count + 1) first_before second_before first_after second_after draw_after (not followed)
one_written number count first_before second_before first second first_after second_after draw draw_after followed word less so_far drew is put put_padded =
    let next : draw_after ≡ drawn number (count + 1) = drew ∙ (ap next_drawn so_far.draws ∙ sym (drawn_more number count)) in
    let body_is : word ≡ body_word number (count + 1) = is ∙ ap (λ (x : ℕ). word_of_bits (x / 2 ^ 40)) next in
    let rest = drop (count + 1) (body_of number) in
    let split : drop count (body_of number) ≡ word ∷ rest = body_drop number count less ∙ ap (λ (w : ℕ). w ∷ rest) (sym body_is) in
    let l1 = so_far.first_length in
    let l2 = so_far.second_length in
    let p = padded_length followed word in
    let e1 = ap length put in
    let e2 = ap length put_padded in
    record {
      draws = next;
      first_whole =
          ap (λ (t : List ℕ). t ++ rest) put
          ∙ (append_assoc first (word ∷ []) rest
          ∙ (ap (λ (t : List ℕ). first ++ t) (sym split) ∙ so_far.first_whole));
      second_whole =
          ap (λ (t : List ℕ). t ++ padded (not followed) rest) put_padded
          ∙ (append_assoc second (padded followed (word ∷ [])) (padded (not followed) rest)
          ∙ (ap (λ (t : List ℕ). second ++ t) (sym (padded_first followed word rest))
          ∙ (ap (λ (t : List ℕ). second ++ padded followed t) (sym split) ∙ so_far.second_whole)));
      first_length = omega (arith, e1, length-append first (word ∷ []));
      second_length = omega (arith, e2, length-append second (padded followed (word ∷ [])));
    }

pub none_written : (number : ℕ) (first second : List ℕ) → AreWritten number 0 first second first second number true
unfolding drawn
none_written number first second =
    record { draws = refl; first_whole = refl; second_whole = refl; first_length = omega arith; second_length = omega arith }

-- nothing is left of a body after its 64 words
body_end : (number count : ℕ) → 64 ≤ count → drop count (body_of number) ≡ []
body_end number count past = drop_of_length-le (body_of number) (let e = body_length number in omega arith)

pub all_written_first : (number count : ℕ) (first_before second_before first second : List ℕ) (draw : ℕ) (followed : Bool)
    → 64 ≤ count → AreWritten number count first_before second_before first second draw followed
    → first ≡ first_before ++ body_of number
all_written_first number count first_before second_before first second draw followed past h =
    sym (append-nil first) ∙ (ap (λ (t : List ℕ). first ++ t) (sym (body_end number count past)) ∙ h.first_whole)

pub all_written_second : (number count : ℕ) (first_before second_before first second : List ℕ) (draw : ℕ) (followed : Bool)
    → 64 ≤ count → AreWritten number count first_before second_before first second draw followed
    → second ≡ second_before ++ padded true (body_of number)
all_written_second number count first_before second_before first second draw followed past h =
    sym (append-nil second) ∙ (ap (λ (t : List ℕ). second ++ t) (sym (none followed)) ∙ h.second_whole)
  where
    none : (f : Bool) → padded f (drop count (body_of number)) ≡ []
    none f = ap (padded f) (body_end number count past) ∙ empty f
      where
        empty : (f : Bool) → padded f [] ≡ []
        empty f = refl
