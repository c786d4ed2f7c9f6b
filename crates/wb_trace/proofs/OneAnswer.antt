-- A text is a moves file or has a first bad line, and never both.
use Rattle.std.proofs.Common.{◌≡◌, ℕ, zero, suc, ◌+◌, ◌<◌, ◌≤◌, ◌⊎◌, inl, inr, List, [], ◌∷◌, length, take, map, Some, None, Option, refl, sym, ◌∙◌, ap, ap₂, arith}
use Rattle.std.specs.List.{slice_get}
use Rattle.std.proofs.lemmas.List.{length-map}
use Rattle.std.proofs.lemmas.Option.{slice_get_within}
use Rattle.wb_trace.specs.declared.moves.Move.{Move}
use Rattle.wb_trace.specs.Moves.{lines, move_of, most_lines, AreMovesOf, IsBad, IsBadAt, IsFirstBad, EachTextHasOneAnswer}

-- the moves at the front of a list, up to the first line that is none, or to its end
record Front (said : List (Option Move)) : Type 0 where
  moves : List Move
  are : take (length moves) said ≡ map Some moves
  end : (said ≡ map Some moves) ⊎ (slice_get said (length moves) ≡ Some None)

front : (said : List (Option Move)) → Front said
front [] = record { moves = []; are = refl; end = inl refl }
front (None ∷ said) = record { moves = []; are = refl; end = inr refl }
front (Some mv ∷ said) =
    let more = front said in
    record {
      moves = mv ∷ more.moves;
      are = ap (λ ms. Some mv ∷ ms) more.are;
      end = by more.moves more.end;
    }
  where
    by : (ms : List Move) → (said ≡ map Some ms) ⊎ (slice_get said (length ms) ≡ Some None) → (Some mv ∷ said ≡ map Some (mv ∷ ms)) ⊎ (slice_get (Some mv ∷ said) (length (mv ∷ ms)) ≡ Some None)
    by ms (inl whole) = inl (ap (λ m. Some mv ∷ m) whole)
    by ms (inr bad) = inr bad

-- a front of moves has shorter fronts, and a line at each place within
take_map : (n : ℕ) (moves : List Move) → take n (map Some moves) ≡ map Some (take n moves)
take_map zero moves = refl
take_map (suc n) [] = refl
take_map (suc n) (mv ∷ moves) = ap (λ ms. Some mv ∷ ms) (take_map n moves)

take_take : (m n : ℕ) (xs : List (Option Move)) → m ≤ n → take m (take n xs) ≡ take m xs
take_take zero n xs h = refl
take_take (suc m) zero xs h = absurd (omega arith)
take_take (suc m) (suc n) [] h = refl
take_take (suc m) (suc n) (x ∷ xs) h = ap (λ ys. x ∷ ys) (take_take m n xs (omega arith))

get_front : (n k : ℕ) (xs : List (Option Move)) → k < n → slice_get (take n xs) k ≡ slice_get xs k
get_front zero k xs h = absurd (omega arith)
get_front (suc n) k [] h = refl
get_front (suc n) zero (x ∷ xs) h = refl
get_front (suc n) (suc k) (x ∷ xs) h = get_front n k xs (omega arith)

get_within : (xs : List (Option Move)) (k : ℕ) → k < length xs → (x : Option Move) × (slice_get xs k ≡ Some x)
get_within [] k h = absurd (omega arith)
get_within (x ∷ xs) zero h = (x, refl)
get_within (x ∷ xs) (suc k) h = get_within xs k (omega arith)

-- a line among moves is a move
get_move : (moves : List Move) (k : ℕ) → slice_get (map Some moves) k ≡ Some None → ⊥
get_move [] k e = cc
get_move (mv ∷ moves) zero e = cc
get_move (mv ∷ moves) (suc k) e = get_move moves k e

-- past the most lines
too_many : (said : List (Option Move)) (moves : List Move) → take (length moves) said ≡ map Some moves → most_lines ≤ length moves → most_lines < length said → IsBadAt said most_lines
too_many said moves are many more =
    let found = get_within said most_lines more in
    record {
      earlier = take most_lines moves;
      earlier_are = sym (take_take most_lines (length moves) said many) ∙ ap (take most_lines) are ∙ take_map most_lines moves;
      line = found.0;
      found = found.1;
      bad = inr (omega arith);
      within = omega arith;
    }

same_moves : (moves others : List Move) → map Some moves ≡ map Some others → moves ≡ others
same_moves [] [] e = refl
same_moves [] (y ∷ ys) e = cc
same_moves (x ∷ xs) [] e = cc
same_moves (x ∷ xs) (y ∷ ys) e =
    let first : x ≡ y = cc in
    let rest : map Some xs ≡ map Some ys = cc in
    ap₂ (λ z zs. z ∷ zs) first (same_moves xs ys rest)

split : (m n : ℕ) → (m < n) ⊎ (n ≤ m)
split m n = grind arith

some_answer : (text : List ℕ) → ((moves : List Move) × AreMovesOf text moves) ⊎ ((line : ℕ) × IsFirstBad text line)
some_answer text = by (front (map move_of (lines text)))
  where
    past : (f : Front (map move_of (lines text))) → most_lines < length f.moves → most_lines < length (map move_of (lines text)) → ((moves : List Move) × AreMovesOf text moves) ⊎ ((line : ℕ) × IsFirstBad text line)
    past f many more = inr (most_lines + 1, (most_lines, refl, too_many (map move_of (lines text)) f.moves f.are (omega arith) more))

    all_moves : (f : Front (map move_of (lines text))) → map move_of (lines text) ≡ map Some f.moves → (most_lines < length f.moves) ⊎ (length f.moves ≤ most_lines) → ((moves : List Move) × AreMovesOf text moves) ⊎ ((line : ℕ) × IsFirstBad text line)
    all_moves f whole (inl many) =
        let same : length (map move_of (lines text)) ≡ length f.moves = ap length whole ∙ length-map f.moves Some in
        past f many (omega arith)
    all_moves f whole (inr few) = inl (f.moves, record { moves_are = whole; few = few })

    one_bad : (f : Front (map move_of (lines text))) → slice_get (map move_of (lines text)) (length f.moves) ≡ Some None → (most_lines < length f.moves) ⊎ (length f.moves ≤ most_lines) → ((moves : List Move) × AreMovesOf text moves) ⊎ ((line : ℕ) × IsFirstBad text line)
    one_bad f bad (inl many) =
        let within : length f.moves < length (map move_of (lines text)) = slice_get_within (map move_of (lines text)) (length f.moves) None bad in
        past f many (omega arith)
    one_bad f bad (inr few) =
        inr (
          length f.moves + 1,
          (
            length f.moves,
            refl,
            record {
              earlier = f.moves;
              earlier_are = f.are;
              line = None;
              found = bad;
              bad = inl refl;
              within = few;
            },
          ),
        )

    by_end : (f : Front (map move_of (lines text))) → (map move_of (lines text) ≡ map Some f.moves) ⊎ (slice_get (map move_of (lines text)) (length f.moves) ≡ Some None) → ((moves : List Move) × AreMovesOf text moves) ⊎ ((line : ℕ) × IsFirstBad text line)
    by_end f (inl whole) = all_moves f whole (split most_lines (length f.moves))
    by_end f (inr bad) = one_bad f bad (split most_lines (length f.moves))

    by : Front (map move_of (lines text)) → ((moves : List Move) × AreMovesOf text moves) ⊎ ((line : ℕ) × IsFirstBad text line)
    by f = by_end f f.end

-- no line before a bad one is bad
not_before : (said : List (Option Move)) (p q : ℕ) → IsBadAt said p → IsBadAt said q → p < q → ⊥
not_before said p q at_p at_q before = by at_p.bad
  where
    by : IsBad at_p.line p → ⊥
    by (inl none) =
        get_move at_q.earlier p
        (ap (λ xs. slice_get xs p) (sym at_q.earlier_are) ∙ get_front q p said before ∙ at_p.found ∙ ap (λ l. Some l) none)
    by (inr many) = let few = at_q.within in omega arith

never_both : (text : List ℕ) (moves : List Move) (place : ℕ) → AreMovesOf text moves → IsBadAt (map move_of (lines text)) place → ⊥
never_both text moves place are at = by at.bad
  where
    by : IsBad at.line place → ⊥
    by (inl none) =
        get_move moves place
        (ap (λ xs. slice_get xs place) (sym are.moves_are) ∙ at.found ∙ ap (λ l. Some l) none)
    by (inr many) =
        let few = are.few in
        let same : length (map move_of (lines text)) ≡ length moves = ap length are.moves_are ∙ length-map moves Some in
        let within : place < length (map move_of (lines text)) = slice_get_within (map move_of (lines text)) place at.line at.found in
        omega arith

one_place : (said : List (Option Move)) (p q : ℕ) → IsBadAt said p → IsBadAt said q → p ≡ q
one_place said p q at_p at_q = by (split p q) (split q p)
  where
    by : (p < q) ⊎ (q ≤ p) → (q < p) ⊎ (p ≤ q) → p ≡ q
    by (inl before) _ = absurd (not_before said p q at_p at_q before)
    by (inr _) (inl after) = absurd (not_before said q p at_q at_p after)
    by (inr h) (inr k) = omega arith

pub each_text_has_one_answer : EachTextHasOneAnswer
each_text_has_one_answer = record {
  some = some_answer;
  never_both = λ text moves line are bad. never_both text moves bad.0 are bad.2;
  one_list = λ text moves others are also. same_moves moves others (sym are.moves_are ∙ also.moves_are);
  one_line = λ text line other bad also.
      bad.1 ∙ ap (λ n. n + 1) (one_place (map move_of (lines text)) bad.0 also.0 bad.2 also.2) ∙ sym also.1;
}
