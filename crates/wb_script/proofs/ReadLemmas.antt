-- What the reader holds is the front of a script.
use Rattle.std.proofs.Common.{◌≡◌, ℕ, ◌+◌, ◌*◌, ◌-◌, ◌<◌, ◌≤◌, Option, Some, None, Result, Ok, Err, List, [], ◌∷◌, ◌++◌, length, map, take, drop, sym, refl, ap, ◌∙◌, inl, arith, append_assoc, subst}
use Rattle.std.specs.Option.{IfSome, MatchOption, option_to_list}
use Rattle.std.specs.List.{flat_map}
use Rattle.std.specs.Str.Lines.{lines}
use Rattle.std.proofs.lemmas.List.{append-nil, length-append, length-map}
use Rattle.std.proofs.Math.Seq.{take-append_seam, drop-append_seam}
use Rattle.wb_script.specs.declared.items.Item.{Item}
use Rattle.wb_script.specs.declared.reader.Opening.{Opening}
use Rattle.std.specs.Result.{IsErrAnd, IfErr}
use Rattle.wb_script.specs.declared.table.Statement.{Statement}
use Rattle.wb_script.specs.declared.table.Statement.TheVariants.{Row, Repeat, End}
use Rattle.wb_script.specs.Statement.{statement_of}
use Rattle.wb_script.specs.Script.{Block, Open, Front, spelled, unrolled, items_of, copies, total, IsFront, IsBadAfter, IsBadAt, IsFirstBad, IsScript, statements}
use Rattle.wb_script.specs.Reading.{HasRoom, Continues, IsRefused, IsRefusal}
use Rattle.wb_script.proofs.FrontLemmas.{items_at, front_of, add, closed, grown, total-add, total-closed, total-is, items-add, items-closed, front-grown}
use Rattle.wb_script.proofs.AnswerLemmas.{IsCounted, counted_line, bad_at, script_at_end, unclosed_at_end}

-- where the open repetition of a front began
abbrev pub opening_at : List Block → Option Open → Option Opening
opening_at bs None = None
opening_at bs (Some part) = Some (record { line = length (flat_map spelled bs) + 1; times = part.times; start = length (flat_map unrolled bs) })

abbrev opening_of : ℕ → ℕ → ℕ → Option Opening
opening_of line times start = Some (record { line = line; times = times; start = start })

-- these are the items and the opening of a front of these lines
pub record Holds (done : List (Option Statement)) (items : List Item) (opening : Option Opening) : Type 0 where
  pub blocks : List Block
  pub open_part : Option Open
  pub is : IsFront done (front_of blocks open_part)
  pub same_items : items ≡ items_at blocks open_part
  pub same_opening : opening ≡ opening_at blocks open_part
  pub room : HasRoom items opening

few_items : (bs : List Block) (o : Option Open) (done : List (Option Statement)) → IsFront done (front_of bs o) → length (items_at bs o) ≤ 65536
few_items bs o done is = let few = is.few in let same = total-is (front_of bs o) in omega arith

-- one line more, of a front that has grown
held : (done : List (Option Statement)) (bs : List Block) (o : Option Open) (statement : Statement) (after : Front) (items : List Item) (opening : Option Opening) →
    IsFront done (front_of bs o) → grown bs o statement ≡ Some after → total after ≤ 65536 → items ≡ items_at after.blocks after.open_part → opening ≡ opening_at after.blocks after.open_part
    → IfSome opening (λ opening. (opening.start ≤ length items) × (0 < opening.times)) → Holds (done ++ Some statement ∷ []) items opening
held done bs o statement after items opening is e few same_items same_opening began =
    let grown_is = front-grown done bs o statement after is e few in
    record {
      blocks = after.blocks;
      open_part = after.open_part;
      is = grown_is;
      same_items = same_items;
      same_opening = same_opening;
      room = record { few = rw same_items (few_items after.blocks after.open_part _ grown_is); began = began };
    }

-- the line's number is that of a repetition's first line
starts_here : (done : List (Option Statement)) (bs : List Block) → IsFront done (front_of bs None) → length done ≡ length (flat_map spelled bs)
starts_here done bs is = ap length (is.spelling ∙ ap (map Some) (append-nil (flat_map spelled bs))) ∙ length-map (flat_map spelled bs) Some

-- how many items the open repetition has
inside : (bs : List Block) (part : Open) → length (items_at bs (Some part)) - length (flat_map unrolled bs) ≡ length (items_of part.rows)
inside bs part = omega (arith, length-append (flat_map unrolled bs) (items_of part.rows))

same_openings : (line line' times start start' : ℕ) → line ≡ line' → start ≡ start' → Some (record { line = line; times = times; start = start }) ≡ opening_of line' times start'
same_openings line line' times start start' e f = ap (λ n. opening_of n times start) e ∙ ap (λ n. opening_of line' times n) f

-- a row more
keeps_row : (done : List (Option Statement)) (bs : List Block) (o : Option Open) (row : Option Item) (items : List Item) (opening : Option Opening) →
    IsFront done (front_of bs o) → HasRoom (items_at bs o) (opening_at bs o) → items ≡ items_at bs o ++ option_to_list row → opening ≡ opening_at bs o → length items ≤ 65536
    → Holds (done ++ Some (Row row) ∷ []) items opening
keeps_row done bs o row items opening is room more same few =
    let all = total-add bs o row in
    let before = total-is (front_of bs o) in
    let now : length items ≡ length (items_at bs o) + length (option_to_list row) = ap length more ∙ length-append (items_at bs o) (option_to_list row) in
    held done bs o (Row row) (add bs o row) items opening is refl (omega arith) (more ∙ sym (items-add bs o row)) (same ∙ opening_kept bs o row) (rw same (by o room.began now))
  where
    opening_kept : (bs : List Block) (o : Option Open) (row : Option Item) → opening_at bs o ≡ opening_at (add bs o row).blocks (add bs o row).open_part
    opening_kept bs None row = refl
    opening_kept bs (Some part) row = refl

    by : (o : Option Open) → IfSome (opening_at bs o) (λ opening. (opening.start ≤ length (items_at bs o)) × (0 < opening.times)) → length items ≡ length (items_at bs o) + length (option_to_list row)
        → IfSome (opening_at bs o) (λ opening. (opening.start ≤ length items) × (0 < opening.times))
    by None began now = tt
    by (Some part) began now = let start = began.0 in (omega arith, began.1)

-- a repetition that begins
keeps_repeat : (done : List (Option Statement)) (bs : List Block) (line times : ℕ) (items : List Item) (opening : Option Opening) →
    IsFront done (front_of bs None) → line ≡ length done + 1 → 0 < times → items ≡ items_at bs None → opening ≡ opening_of line times (length (items_at bs None))
    → Holds (done ++ Some (Repeat times) ∷ []) items opening
keeps_repeat done bs line times items opening is at some same began =
    let few = is.few in
    let here : line ≡ length (flat_map spelled bs) + 1 = at ∙ ap (λ n. n + 1) (starts_here done bs is) in
    let place : length (items_at bs None) ≡ length (flat_map unrolled bs) = ap length (append-nil (flat_map unrolled bs)) in
    let long = ap length same in
    held done bs None (Repeat times) (front_of bs (Some (record { times = times; rows = [] }))) items opening is refl (omega arith) same
    (began ∙ same_openings _ _ times _ _ here place) (rw began (omega arith, some))

-- a repetition that ends
keeps_end : (done : List (Option Statement)) (bs : List Block) (part : Open) (items : List Item) (opening : Option Opening) →
    IsFront done (front_of bs (Some part)) → length (flat_map unrolled bs) + part.times * (length (items_at bs (Some part)) - length (flat_map unrolled bs)) ≤ 65536
    → items ≡ take (length (flat_map unrolled bs)) (items_at bs (Some part)) ++ copies part.times (drop (length (flat_map unrolled bs)) (items_at bs (Some part))) → opening ≡ None
    → Holds (done ++ Some End ∷ []) items opening
keeps_end done bs part items opening is few more ended =
    let many = rw (inside bs part) at few in
    let all = total-closed bs part in
    let front = take-append_seam (flat_map unrolled bs) (items_of part.rows) in
    let back = drop-append_seam (flat_map unrolled bs) (items_of part.rows) in
    held done bs (Some part) End (closed bs part) items opening is refl (omega arith) (more ∙ rw (front, back) (sym (items-closed bs part))) ended (rw ended tt)

-- a line that may follow
pub keeps : (done : List (Option Statement)) (bs : List Block) (o : Option Open) (line : ℕ) (statement : Option Statement) (items : List Item) (opening : Option Opening) →
    IsFront done (front_of bs o) → line ≡ length done + 1 → IsCounted statement → HasRoom (items_at bs o) (opening_at bs o) → Continues (items_at bs o) (opening_at bs o) line statement items opening
    → Holds (done ++ statement ∷ []) items opening
keeps done bs o line None items opening is at counted room follows = absurd follows
keeps done bs o line (Some (Row None)) items opening is at counted room follows =
    let few = room.few in
    let long = ap length follows.0 in
    keeps_row done bs o None items opening is room (follows.0 ∙ sym (append-nil (items_at bs o))) follows.1 (omega arith)
keeps done bs o line (Some (Row (Some item))) items opening is at counted room follows =
    let few = follows.2 in
    let long = ap length follows.0 ∙ length-append (items_at bs o) (item ∷ []) in
    keeps_row done bs o (Some item) items opening is room follows.0 follows.1 (omega arith)
keeps done bs None line (Some (Repeat times)) items opening is at counted room follows = keeps_repeat done bs line times items opening is at counted follows.0 follows.1
keeps done bs (Some part) line (Some (Repeat times)) items opening is at counted room follows = absurd follows
keeps done bs None line (Some End) items opening is at counted room follows = absurd follows
keeps done bs (Some part) line (Some End) items opening is at counted room follows = keeps_end done bs part items opening is follows.2 follows.0 follows.1

-- a line that may not
pub refuses : (bs : List Block) (o : Option Open) (statement : Option Statement) → IsRefused (items_at bs o) (opening_at bs o) statement → IsBadAfter (front_of bs o) statement
refuses bs o None refused = tt
refuses bs o (Some (Row None)) refused = absurd refused
refuses bs o (Some (Row (Some item))) refused = let all = total-is (front_of bs o) in omega arith
refuses bs None (Some (Repeat times)) refused = absurd refused
refuses bs (Some part) (Some (Repeat times)) refused = refl
refuses bs None (Some End) refused = tt
refuses bs (Some part) (Some End) refused = rw (inside bs part) at refused

-- how far the reading has come
pub record Progress (text rest : List ℕ) (line : ℕ) (items : List Item) (opening : Option Opening) : Type 0 where
  pub done : List (Option Statement)
  pub split : statements text ≡ done ++ statements rest
  pub count : line ≡ length done
  pub holds : Holds done items opening

pub begin : (text : List ℕ) (items : List Item) (opening : Option Opening) → items ≡ [] → opening ≡ None → Progress text text 0 items opening
begin text items opening none closed_is = record {
  done = [];
  split = refl;
  count = refl;
  holds = record {
    blocks = [];
    open_part = None;
    is = record { spelling = refl; few = omega arith };
    same_items = none;
    same_opening = closed_is;
    room = record { few = rw none (omega arith); began = rw closed_is tt };
  };
}

-- a line more has been read
pub advance : (text rest first after : List ℕ) (line : ℕ) (items items' : List Item) (opening opening' : Option Opening) → Progress text rest line items opening → lines rest ≡ first ∷ lines after
    → Continues items opening (line + 1) (statement_of first) items' opening' → Progress text after (line + 1) items' opening'
advance text rest first after line items items' opening opening' p cut follows =
    let h = p.holds in
    let follows_front = rw (h.same_items, h.same_opening) at follows in
    let room_front : HasRoom (items_at h.blocks h.open_part) (opening_at h.blocks h.open_part) = rw (← h.same_items, ← h.same_opening) h.room in
    record {
      done = p.done ++ statement_of first ∷ [];
      split = p.split ∙ ap (λ ls. p.done ++ map statement_of ls) cut ∙ sym (append_assoc p.done (statement_of first ∷ []) (statements after));
      count = ap (λ n. n + 1) p.count ∙ sym (length-append p.done (statement_of first ∷ []));
      holds = keeps p.done h.blocks h.open_part (line + 1) (statement_of first) items' opening' h.is (ap (λ n. n + 1) p.count) (counted_line first) room_front follows_front;
    }

-- a line is refused
pub refused : (text rest first after : List ℕ) (line : ℕ) (items : List Item) (opening : Option Opening) → Progress text rest line items opening → lines rest ≡ first ∷ lines after
    → IsRefused items opening (statement_of first) → IsFirstBad text (line + 1)
refused text rest first after line items opening p cut why =
    let h = p.holds in
    let why_front = rw (h.same_items, h.same_opening) at why in
    let bad = bad_at p.done (statements after) (statement_of first) (front_of h.blocks h.open_part) h.is (refuses h.blocks h.open_part (statement_of first) why_front) in
    (length p.done, ap (λ n. n + 1) p.count, inl (subst (λ said. IsBadAt said (length p.done)) (sym (p.split ∙ ap (λ ls. p.done ++ map statement_of ls) cut)) bad))

-- the lines are all read
pub finished : (text : List ℕ) (line : ℕ) (items : List Item) (opening : Option Opening) → Progress text [] line items opening → MatchOption opening (IsScript text items) (λ opening. IsFirstBad text opening.line)
finished text line items opening p = rw p.holds.same_opening (by p.holds.open_part p.holds.is p.holds.same_items)
  where
    all : statements text ≡ p.done
    all = p.split ∙ append-nil p.done

    by : (o : Option Open) → IsFront p.done (front_of p.holds.blocks o) → items ≡ items_at p.holds.blocks o → MatchOption (opening_at p.holds.blocks o) (IsScript text items) (λ opening. IsFirstBad text opening.line)
    by None is same =
        subst (IsScript text) (sym (same ∙ append-nil (flat_map unrolled p.holds.blocks)))
        (script_at_end text p.holds.blocks (subst (λ said. IsFront said (front_of p.holds.blocks None)) (sym all) is))
    by (Some part) is same = unclosed_at_end text p.holds.blocks part (subst (λ said. IsFront said (front_of p.holds.blocks (Some part))) (sym all) is)

-- what a refusal says of the text
pub refused_by : (text rest first after : List ℕ) (line : ℕ) (items : List Item) (opening : Option Opening) (statement : Option Statement) (answered : ℕ) → Progress text rest line items opening
    → lines rest ≡ first ∷ lines after → statement ≡ statement_of first → IsRefusal items opening (line + 1) statement answered → IsFirstBad text answered
refused_by text rest first after line items opening statement answered p cut says refusal =
    rw refusal.0 (refused text rest first after line items opening p cut (rw says at refusal.1))

-- a line that is handed on
pub handed_on : {X : Type 0} (result : Result X ℕ) (line : ℕ) (text : List ℕ) → IsErrAnd result (λ e. e ≡ line) → IsFirstBad text line → IfErr result (IsFirstBad text)
handed_on (Ok x) line text same why = tt
handed_on (Err e) line text same why = rw same why
