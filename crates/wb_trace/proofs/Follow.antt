-- A trace follows its moves.
use Rattle.std.proofs.Common.{◌≡◌, ℕ, zero, suc, ◌+◌, ◌-◌, ◌<◌, ◌≤◌, min, Bool, true, false, eqb, List, [], ◌∷◌, ◌++◌, length, take, drop, if◌then◌else◌, refl, sym, ◌∙◌, ap, ap₂, arith, length-append, ◌⊎◌, inl, inr}
use Rattle.std.specs.List.{flat_map}
use Rattle.std.proofs.lemmas.Grind.{flat_map-append}
use Rattle.std.proofs.lemmas.List.{drop-append-le}
use Rattle.std.proofs.lemmas.Bool.{ne_eqb}
use Rattle.wb_word.specs.declared.sides.Side.{Side}
use Rattle.wb_word.specs.declared.sides.Side.TheVariants as side
use Rattle.wb_rom.specs.declared.images.Image.{Image}
use Rattle.wb_port.specs.declared.accesses.Access.TheVariants as access
use Rattle.wb_port.specs.declared.accesses.Event.{Event}
use Rattle.wb_port.specs.declared.accesses.Event.TheVariants as event
use Rattle.wb_port.specs.declared.chips.Chip.{Chip}
use Rattle.wb_port.specs.Monitor.{capped}
use Rattle.wb_port.specs.Schedule.{applied, after}
use Rattle.wb_law.specs.Counts.{AppliedChipsFollow}
use Rattle.wb_trace.specs.declared.moves.Move.{Move}
use Rattle.wb_trace.specs.declared.moves.Move.TheVariants as move
use Rattle.wb_trace.specs.declared.answers.Line.{Line}
use Rattle.wb_trace.specs.declared.chips.Chips.{Chips}
use Rattle.wb_trace.specs.Standing.{Standing, begun, events, fresh, chip_after, chips_after, are_ready, added, taken_back, after_move, after_moves, answer, answers}
use Rattle.wb_trace.specs.Trace.{Tracing, both_applied, latest, advanced, back_to, went_back, moved_on, traced, traced_lines}
use Rattle.wb_trace.specs.Laws.{chips_before_last, trace_of, TracesFollowTheirMoves}
use Rattle.wb_trace.proofs.Lists.{all_but_last, last_is}

-- a count that is held is held
capped_twice : (c : Chip) → capped (capped c) ≡ capped c
capped_twice c =
    let with_count : ℕ → Chip = λ n. record c { monitor = record c.monitor { count = n } } in
    ap with_count (omega arith)

-- what is held before an event may be held after it
capped_before : AppliedChipsFollow → (image : Image) (e : Event) (c : Chip) → capped (applied image e (capped c)) ≡ capped (applied image e c)
capped_before law image e c =
    sym (capped_twice (applied image e (capped c))) ∙ law image (event.Host access.Status ∷ e ∷ []) c

after-append : (image : Image) (s t : List Event) (c : Chip) → after image (s ++ t) c ≡ after image t (after image s c)
after-append image [] t c = refl
after-append image (e ∷ s) t c = after-append image s t (applied image e c)

-- one more move is its events
chip_after-push : (image : Image) (s : Side) (moves : List Move) (mv : Move) → chip_after image s (moves ++ (mv ∷ [])) ≡ after image (events s mv ++ []) (chip_after image s moves)
chip_after-push image s moves mv =
    ap (λ l. after image l fresh) (flat_map-append (events s) moves (mv ∷ []))
    ∙ after-append image (flat_map (events s) moves) (events s mv ++ []) fresh

no_event : (image : Image) (s : Side) (moves : List Move) (mv : Move) → events s mv ≡ [] → capped (chip_after image s moves) ≡ capped (chip_after image s (moves ++ (mv ∷ [])))
no_event image s moves mv none =
    ap capped (sym (chip_after-push image s moves mv ∙ ap (λ l. after image (l ++ []) (chip_after image s moves)) none))

one_event : AppliedChipsFollow → (image : Image) (s : Side) (moves : List Move) (mv : Move) (e : Event) → events s mv ≡ e ∷ [] → capped (applied image e (capped (chip_after image s moves))) ≡ capped (chip_after image s (moves ++ (mv ∷ [])))
one_event law image s moves mv e one =
    capped_before law image e (chip_after image s moves)
    ∙ ap capped (sym (chip_after-push image s moves mv ∙ ap (λ l. after image (l ++ []) (chip_after image s moves)) one))

abbrev pair : Chip → Chip → Chips
pair x y = record { a = x; b = y }

module _ (law : AppliedChipsFollow) (a b : Image) where
  step_a_chips : (moves : List Move) → pair (capped (applied a event.Step (chips_after a b moves).a)) (chips_after a b moves).b ≡ chips_after a b (moves ++ (move.StepA ∷ []))
  step_a_chips moves =
      ap₂ pair (one_event law a side.A moves move.StepA event.Step refl) (no_event b side.B moves move.StepA refl)

  step_b_chips : (moves : List Move) → pair (chips_after a b moves).a (capped (applied b event.Step (chips_after a b moves).b)) ≡ chips_after a b (moves ++ (move.StepB ∷ []))
  step_b_chips moves =
      ap₂ pair (no_event a side.A moves move.StepB refl) (one_event law b side.B moves move.StepB event.Step refl)

  both_chips : (moves : List Move) (mv : Move) (e : Event) → events side.A mv ≡ e ∷ [] → events side.B mv ≡ e ∷ [] → both_applied a b e (chips_after a b moves) ≡ chips_after a b (moves ++ (mv ∷ []))
  both_chips moves mv e of_a of_b =
      ap₂ pair (one_event law a side.A moves mv e of_a) (one_event law b side.B moves mv e of_b)

-- the pairs before the last moves
module _ (a b : Image) where
  length-chips_before_last : (count : ℕ) (moves : List Move) → length (chips_before_last a b count moves) ≡ count
  length-chips_before_last zero moves = refl
  length-chips_before_last (suc count) moves =
      let fewer = take (length moves - 1) moves in
      let shorter = length-chips_before_last count fewer in
      let whole = length-append (chips_before_last a b count fewer) (chips_after a b fewer ∷ []) in
      omega arith

  -- one more move, and one more that can be taken back
  one_more : (count : ℕ) (moves : List Move) (mv : Move) → chips_before_last a b (suc count) (moves ++ (mv ∷ [])) ≡ chips_before_last a b count moves ++ (chips_after a b moves ∷ [])
  one_more count moves mv =
      ap (λ fewer. chips_before_last a b count fewer ++ (chips_after a b fewer ∷ [])) (all_but_last moves mv)

  -- without the first pair, one fewer
  drop-chips_before_last : (count : ℕ) (moves : List Move) → drop 1 (chips_before_last a b (suc count) moves) ≡ chips_before_last a b count moves
  drop-chips_before_last zero moves = refl
  drop-chips_before_last (suc count) moves =
      let fewer = take (length moves - 1) moves in
      let some : 1 ≤ length (chips_before_last a b (suc count) fewer) = omega (arith, length-chips_before_last (suc count) fewer) in
      drop-append-le 1 (chips_before_last a b (suc count) fewer) (chips_after a b fewer ∷ []) some
      ∙ ap (λ xs. xs ++ (chips_after a b fewer ∷ [])) (drop-chips_before_last count fewer)

  -- the kept pairs after one more move, where there is room for one more, and where there is none
  module _ (depth count : ℕ) (moves : List Move) (mv : Move) where
    pushed : List Chips
    pushed = chips_before_last a b count moves ++ (chips_after a b moves ∷ [])

    length-pushed : length pushed ≡ count + 1
    unfolding pushed
    length-pushed =
        length-append (chips_before_last a b count moves) (chips_after a b moves ∷ [])
        ∙ ap (λ n. n + 1) (length-chips_before_last count moves)

    with_room : count < depth → latest depth pushed ≡ chips_before_last a b (min (count + 1) depth) (moves ++ (mv ∷ []))
    unfolding pushed
    with_room room =
        let long = length-pushed in
        let none : length pushed - depth ≡ 0 = omega arith in
        let more : suc count ≡ min (count + 1) depth = omega arith in
        ap (λ n. drop n pushed) none ∙ sym (one_more count moves mv)
        ∙ ap (λ n. chips_before_last a b n (moves ++ (mv ∷ []))) more

    when_full : count ≡ depth → latest depth pushed ≡ chips_before_last a b (min (count + 1) depth) (moves ++ (mv ∷ []))
    unfolding pushed
    when_full full =
        let long = length-pushed in
        let one : length pushed - depth ≡ 1 = omega arith in
        let same : count ≡ min (count + 1) depth = omega arith in
        ap (λ n. drop n pushed) one ∙ ap (drop 1) (sym (one_more count moves mv))
        ∙ drop-chips_before_last count (moves ++ (mv ∷ []))
        ∙ ap (λ n. chips_before_last a b n (moves ++ (mv ∷ []))) same

    pairs_advance : count ≤ depth → latest depth (chips_before_last a b count moves ++ (chips_after a b moves ∷ [])) ≡ chips_before_last a b (min (count + 1) depth) (moves ++ (mv ∷ []))
    unfolding pushed
    pairs_advance within = by (split within)
      where
        split : count ≤ depth → (count < depth) ⊎ (count ≡ depth)
        split h = grind arith

        by : (count < depth) ⊎ (count ≡ depth) → latest depth pushed ≡ chips_before_last a b (min (count + 1) depth) (moves ++ (mv ∷ []))
        by (inl room) = with_room room
        by (inr full) = when_full full

-- one move
module _ (law : AppliedChipsFollow) (a b : Image) (depth : ℕ) where
  abbrev trace : Standing → Tracing
  trace s = trace_of a b depth s

  advance : (s : Standing) (mv : Move) (chips : Chips) → s.undoable ≤ depth → chips ≡ chips_after a b (s.moves ++ (mv ∷ [])) → advanced chips (trace s) ≡ trace (added depth mv s)
  advance s mv chips within e =
      let by_parts : Chips → List Chips → Tracing = λ x xs. record { chips = x; earlier = xs; depth = depth } in
      ap₂ by_parts e (pairs_advance a b depth s.undoable s.moves mv within)

  transfer : (s : Standing) (mv : Move) (e : Event) (ready : Bool) → s.undoable ≤ depth → events side.A mv ≡ e ∷ [] → events side.B mv ≡ e ∷ [] → (if ready then advanced (both_applied a b e (trace s).chips) (trace s) else trace s) ≡ trace (if ready then added depth mv s else s)
  transfer s mv e true within of_a of_b =
      advance s mv (both_applied a b e (chips_after a b s.moves)) within (both_chips law a b s.moves mv e of_a of_b)
  transfer s mv e false within of_a of_b = refl

  undo : (moves : List Move) (count : ℕ) → went_back (trace (record { moves = moves; undoable = count })) ≡ trace (taken_back (record { moves = moves; undoable = count }))
  undo moves zero = refl
  undo moves (suc count) =
      let fewer = take (length moves - 1) moves in
      let xs = chips_before_last a b count fewer in
      let x = chips_after a b fewer in
      let t = trace (record { moves = moves; undoable = suc count }) in
      let by_parts : ℕ → List Chips → Tracing = λ n ys. record { chips = x; earlier = ys; depth = depth } in
      ap (λ o. back_to o t) (last_is xs x) ∙ ap (by_parts count) (all_but_last xs x)
      ∙ ap (λ n. trace (record { moves = fewer; undoable = n })) (sub_one count)
      ∙ ap (λ none. trace (if none then record { moves = moves; undoable = suc count } else record { moves = fewer; undoable = suc count - 1 })) (sym (some count))
    where
      some : (n : ℕ) → eqb (suc n) 0 ≡ false
      some n = ne_eqb (suc n) 0 (λ e. absurd (omega arith))

      sub_one : (n : ℕ) → n ≡ suc n - 1
      sub_one n = omega arith

  one_move : (mv : Move) (s : Standing) → s.undoable ≤ depth → moved_on a b mv (trace s) ≡ trace (after_move a b depth mv s)
  one_move move.StepA s within = advance s move.StepA _ within (step_a_chips law a b s.moves)
  one_move move.StepB s within = advance s move.StepB _ within (step_b_chips law a b s.moves)
  one_move move.Read s within = transfer s move.Read (event.Host access.Read) (are_ready (chips_after a b s.moves)) within refl refl
  one_move (move.Write byte) s within = transfer s (move.Write byte) (event.Host (access.Write byte)) (are_ready (chips_after a b s.moves)) within refl refl
  one_move move.Undo s within = undo s.moves s.undoable
  one_move move.Status s within = refl
  one_move move.Show s within = refl

  -- at most depth moves can be taken back
  within_depth : (mv : Move) (s : Standing) → s.undoable ≤ depth → (after_move a b depth mv s).undoable ≤ depth
  within_depth move.StepA s within = omega arith
  within_depth move.StepB s within = omega arith
  within_depth move.Read s within = either (are_ready (chips_after a b s.moves)) s move.Read within
    where
      either : (ready : Bool) (s : Standing) (mv : Move) → s.undoable ≤ depth → (if ready then added depth mv s else s).undoable ≤ depth
      either true s mv within = omega arith
      either false s mv within = within
  within_depth (move.Write byte) s within = either (are_ready (chips_after a b s.moves)) s (move.Write byte) within
    where
      either : (ready : Bool) (s : Standing) (mv : Move) → s.undoable ≤ depth → (if ready then added depth mv s else s).undoable ≤ depth
      either true s mv within = omega arith
      either false s mv within = within
  within_depth move.Undo s within = either (eqb s.undoable 0)
    where
      either : (none : Bool) → (if none then s else record { moves = take (length s.moves - 1) s.moves; undoable = s.undoable - 1 }).undoable ≤ depth
      either true = within
      either false = omega arith
  within_depth move.Status s within = within
  within_depth move.Show s within = within

  all_moves : (moves : List Move) (s : Standing) → s.undoable ≤ depth → traced a b moves (trace s) ≡ trace (after_moves a b depth moves s)
  all_moves [] s within = refl
  all_moves (mv ∷ moves) s within =
      ap (traced a b moves) (one_move mv s within)
      ∙ all_moves moves (after_move a b depth mv s) (within_depth mv s within)

  all_lines : (moves : List Move) (s : Standing) → s.undoable ≤ depth → traced_lines a b moves (trace s) ≡ answers a b depth moves s
  all_lines [] s within = refl
  all_lines (mv ∷ moves) s within =
      let line : ℕ → Line = λ n. record { mv = mv; moved = answer (chips_after a b s.moves) n mv } in
      ap₂ (λ x xs. x ∷ xs) (ap line (length-chips_before_last a b s.undoable s.moves))
      (ap (traced_lines a b moves) (one_move mv s within)
      ∙ all_lines moves (after_move a b depth mv s) (within_depth mv s within))

pub follow : AppliedChipsFollow → TracesFollowTheirMoves
follow law = record {
  trace = λ a b depth moves. all_moves law a b depth moves begun (omega arith);
  lines = λ a b depth moves. all_lines law a b depth moves begun (omega arith);
}
