-- The lines of a text one by one, and the moves that they are.
use Rattle.std.proofs.Common.{◌≡◌, ℕ, ◌+◌, ◌<◌, ◌≤◌, Bool, true, false, List, [], ◌∷◌, ◌++◌, length, take, drop, map, cond, ltb, refl, sym, ◌∙◌, ap, subst, arith, append_assoc, length-append}
use Rattle.std.specs.List.{slice_get, slice_split, onto_first, position, position_or_len}
use Rattle.std.specs.declared.option.Option.{Option}
use Rattle.std.specs.declared.option.Option.TheVariants.{Some, None}
use Rattle.std.proofs.lemmas.List.Splits.{slice_split_first, slice_split_none}
use Rattle.std.proofs.lemmas.Bool.{ne_eqb, ltb-true, ltb-false}
use Rattle.std.proofs.Math.Seq.{take-append_seam}
use Rattle.std.proofs.lemmas.List.{map-append, append-nil, length-map}
use Rattle.std.proofs.lemmas.List.Sums.{fails_before_first}
use Rattle.wb_trace.specs.declared.moves.Move.{Move}
use Rattle.wb_trace.specs.Moves.{is_feed, without_empty_end, lines, move_of, most_lines, AreMovesOf, IsBad, IsFirstBad}

-- a list has at least one part
record Parts (xs : List ℕ) : Type 0 where
  first : List ℕ
  others : List (List ℕ)
  split : slice_split is_feed xs ≡ first ∷ others

parts : (xs : List ℕ) → Parts xs
parts [] = record { first = []; others = []; split = refl }
parts (x ∷ xs) = by (is_feed x) refl (parts xs)
  where
    by : (b : Bool) → is_feed x ≡ b → Parts xs → Parts (x ∷ xs)
    by true e more = record { first = []; others = slice_split is_feed xs; split = rw e refl }
    by false e more = record { first = x ∷ more.first; others = more.others; split = rw e (ap (onto_first x) more.split) }

before_other_parts : (x : List ℕ) (xs : List (List ℕ)) (y : List ℕ) (ys : List (List ℕ)) → xs ≡ y ∷ ys → without_empty_end (x ∷ xs) ≡ x ∷ without_empty_end xs
before_other_parts x xs y ys e = rw e refl

abbrev feed : List ℕ → ℕ
feed text = position_or_len is_feed text

-- a line feed ends the first line
first_line : (text : List ℕ) → feed text < length text → lines text ≡ take (feed text) text ∷ lines (drop (feed text + 1) text)
first_line text within =
    let more = parts (drop (feed text + 1) text) in
    ap without_empty_end (slice_split_first is_feed text 0 within) ∙ before_other_parts _ _ _ _ more.split

-- without one, the text is its only line
only_line : (text : List ℕ) → 0 < length text → length text ≤ feed text → lines text ≡ text ∷ []
only_line text some none =
    ap without_empty_end (slice_split_none is_feed text (λ k d below. fails_before_first is_feed text k d (omega arith)))
    ∙ rw (ne_eqb (length text) 0 (λ e. absurd (omega arith))) refl

-- where the first line feed is found, or none is
abbrev FirstLine : List ℕ → Option ℕ → Type 0
FirstLine text (Some end) = (end < length text) × (lines text ≡ take end text ∷ lines (drop (end + 1) text))
FirstLine text None = 0 < length text → lines text ≡ text ∷ []

pub line_found : (text : List ℕ) (found : Option ℕ) → found ≡ position is_feed text → FirstLine text found
line_found text found e = subst (FirstLine text) (sym e) (by (ltb (feed text) (length text)) refl)
  where
    by : (b : Bool) → ltb (feed text) (length text) ≡ b → FirstLine text (cond b (Some (feed text)) None)
    by true within = (ltb-true _ _ within, first_line text (ltb-true _ _ within))
    by false past = λ some. only_line text some (ltb-false _ _ past)

-- what is read and what is left of a text
pub record IsSoFar (text rest : List ℕ) (moves : List Move) : Type 0 where
  pub front : map move_of (lines text) ≡ map Some moves ++ map move_of (lines rest)
  pub short : length moves + length rest ≤ length text
  pub few : length moves ≤ most_lines

pub begin : (text : List ℕ) (moves : List Move) → moves ≡ [] → IsSoFar text text moves
begin text moves none = rw none (record { front = refl; short = omega arith; few = omega arith })

pub advance : (text rest line after : List ℕ) (moves : List Move) (mv : Move) → IsSoFar text rest moves → lines rest ≡ line ∷ lines after → move_of line ≡ Some mv → length moves < most_lines → length after < length rest → IsSoFar text after (moves ++ (mv ∷ []))
advance text rest line after moves mv so_far split is room shorter =
    let long = length-append moves (mv ∷ []) in
    record {
      front =
          so_far.front ∙ ap (λ ls. map Some moves ++ map move_of ls) split
          ∙ ap (λ m. map Some moves ++ (m ∷ map move_of (lines after))) is
          ∙ sym (append_assoc (map Some moves) (Some mv ∷ []) (map move_of (lines after)))
          ∙ ap (λ ms. ms ++ map move_of (lines after)) (sym (map-append Some moves (mv ∷ [])));
      short = let h = so_far.short in omega arith;
      few = omega arith;
    }

pub whole : (text rest : List ℕ) (moves : List Move) → IsSoFar text rest moves → length rest ≡ 0 → AreMovesOf text moves
whole text [] moves so_far none = record { moves_are = so_far.front ∙ append-nil (map Some moves); few = so_far.few }
whole text (x ∷ xs) moves so_far none = absurd (omega arith)

refuse : (text rest line after : List ℕ) (moves : List Move) → IsSoFar text rest moves → lines rest ≡ line ∷ lines after → IsBad (move_of line) (length moves) → IsFirstBad text (length moves + 1)
refuse text rest line after moves so_far split bad =
    let said = map move_of (lines text) in
    let front : said ≡ map Some moves ++ (move_of line ∷ map move_of (lines after)) = so_far.front ∙ ap (λ ls. map Some moves ++ map move_of ls) split in
    let few = so_far.few in (
      length moves,
      refl,
      record {
        earlier = moves;
        earlier_are = rw front (ap (λ n. take n (map Some moves ++ (move_of line ∷ map move_of (lines after)))) (sym (length-map moves Some)) ∙ take-append_seam (map Some moves) (move_of line ∷ map move_of (lines after)));
        line = move_of line;
        found = rw front (get_at moves (move_of line) (map move_of (lines after)));
        bad = bad;
        within = few;
      },
    )
  where
    get_at : (ms : List Move) (m : Option Move) (rest : List (Option Move)) → slice_get (map Some ms ++ (m ∷ rest)) (length ms) ≡ Some m
    get_at [] m rest = refl
    get_at (x ∷ xs) m rest = get_at xs m rest

pub refuse_after : (text rest line after : List ℕ) (moves : List Move) (count : ℕ) → count ≡ length moves → IsSoFar text rest moves → lines rest ≡ line ∷ lines after → IsBad (move_of line) count → IsFirstBad text (count + 1)
refuse_after text rest line after moves count e so_far split bad =
    let P : ℕ → Type 0 = λ n. IsBad (move_of line) n → IsFirstBad text (n + 1) in
    subst P (sym e) (refuse text rest line after moves so_far split) bad
