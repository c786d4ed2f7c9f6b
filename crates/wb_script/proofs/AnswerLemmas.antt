-- A text has one answer: its lines lead to one front, or to one first bad line.
use Rattle.std.proofs.Common.{◌≡◌, ℕ, ◌+◌, ◌*◌, ◌<◌, ◌≤◌, Bool, true, false, cond, leb, nat_lt, codes, Option, Some, None, List, [], ◌∷◌, ◌++◌, length, map, take, sym, refl, ap, ◌∙◌, ◌⊎◌, inl, inr, arith, append_assoc, suc, zero, subst}
use Rattle.std.specs.Bool.{⊤}
use Rattle.std.specs.Option.{option_to_list, option_and_then, option_map}
use Rattle.std.specs.List.{flat_map, AllByRecursion, slice_get}
use Rattle.std.specs.Str.{bytes_eq}
use Rattle.std.specs.Str.Lines.{lines}
use Rattle.std.proofs.lemmas.Grind.{flat_map-append}
use Rattle.std.proofs.lemmas.List.{map-append, append-nil, length-append, take-take}
use Rattle.std.proofs.Math.Seq.{take-append_seam}
use Rattle.std.proofs.Math.Nat.{suc-mul}
use Rattle.std.proofs.lemmas.Bool.{ltb-true, leb-true, leb-false, lt-leb, le-leb, cases_order}
use Rattle.wb_script.specs.declared.items.Item.{Item}
use Rattle.wb_script.specs.declared.items.Item.TheVariants.{Wait, Step, Status, Read, Write}
use Rattle.wb_script.specs.declared.table.Statement.{Statement}
use Rattle.wb_script.specs.declared.table.Statement.TheVariants.{Row, Repeat, End}
use Rattle.wb_script.specs.Statement.{statement_of, by_fields, word_alone, word_and_value, repetition, byte_of, number_of, fields, before_comment}
use Rattle.wb_script.specs.Script.{Block, Lone, Repeated, Open, Front, spelled, unrolled, items_of, open_lines, total, IsFront, IsBadAfter, IsBadAt, IsUnclosedAt, IsScript, IsFirstBad, statements}
use Rattle.wb_script.proofs.FrontLemmas.{front_of, add, closed, grown, within, next, total-add, total-closed, front-grown}

-- ---- a repetition runs at least once

abbrev pub IsCounted : Option Statement → Type 0
IsCounted (Some (Repeat times)) = 0 < times
IsCounted _ = ⊤

counted_row : (o : Option ℕ) (f : ℕ → Item) → IsCounted (option_map (λ n. Row (Some (f n))) o)
counted_row None f = tt
counted_row (Some n) f = tt

counted_repetition : (o : Option ℕ) → IsCounted (repetition o)
counted_repetition None = tt
counted_repetition (Some n) = by (nat_lt 0 n) refl
  where
    by : (b : Bool) → nat_lt 0 n ≡ b → IsCounted (cond b (Some (Repeat n)) None)
    by true e = ltb-true _ _ e
    by false e = tt

alone_by : (r s e : Bool) → IsCounted (cond r (Some (Row (Some Read))) (cond s (Some (Row (Some Status))) (cond e (Some End) None)))
alone_by true s e = tt
alone_by false true e = tt
alone_by false false true = tt
alone_by false false false = tt

counted_alone : (word : List ℕ) → IsCounted (word_alone word)
unfolding word_alone
counted_alone word = alone_by (bytes_eq word (codes "R")) (bytes_eq word (codes "S")) (bytes_eq word (codes "END"))

value_by : (w a s r : Bool) (byte number : Option ℕ) → IsCounted (cond w (option_map (λ n. Row (Some (Write n))) byte)
    (cond a (option_map (λ n. Row (Some (Wait n))) number) (cond s (option_map (λ n. Row (Some (Step n))) number) (cond r (repetition number) None))))
value_by true a s r byte number = counted_row byte (λ n. Write n)
value_by false true s r byte number = counted_row number (λ n. Wait n)
value_by false false true r byte number = counted_row number (λ n. Step n)
value_by false false false true byte number = counted_repetition number
value_by false false false false byte number = tt

counted_and_value : (word value : List ℕ) → IsCounted (word_and_value word value)
unfolding word_and_value
counted_and_value word value =
    value_by (bytes_eq word (codes "W")) (bytes_eq word (codes "WAIT")) (bytes_eq word (codes "STEP")) (bytes_eq word (codes "REPEAT")) (byte_of value) (number_of value)

counted_fields : (fs : List (List ℕ)) → IsCounted (by_fields fs)
counted_fields [] = tt
counted_fields (word ∷ []) = counted_alone word
counted_fields (word ∷ value ∷ []) = counted_and_value word value
counted_fields (_ ∷ _ ∷ _ ∷ _) = tt

pub counted_line : (line : List ℕ) → IsCounted (statement_of line)
unfolding statement_of
counted_line line = counted_fields (fields (before_comment line))

abbrev AllCounted : List (Option Statement) → Type 0
AllCounted said = AllByRecursion IsCounted said

counted_lines : (ls : List (List ℕ)) → AllCounted (map statement_of ls)
counted_lines [] = tt
counted_lines (l ∷ ls) = (counted_line l, counted_lines ls)

counted_take : (n : ℕ) (said : List (Option Statement)) → AllCounted said → AllCounted (take n said)
counted_take zero said all = tt
counted_take (suc n) [] all = tt
counted_take (suc n) (l ∷ said) all = (all.0, counted_take n said all.1)

abbrev Counted : Block → Type 0
Counted (Lone row) = ⊤
Counted (Repeated times rows) = 0 < times

counted_rest : (rows : List (Option Item)) (others more : List Statement) → AllCounted (map Some (((map Row rows ++ End ∷ []) ++ others) ++ more)) → AllCounted (map Some (others ++ more))
counted_rest [] others more all = all.1
counted_rest (row ∷ rows) others more all = counted_rest rows others more all.1

counted_blocks : (bs : List Block) (more : List Statement) → AllCounted (map Some (flat_map spelled bs ++ more)) → AllByRecursion Counted bs
counted_blocks [] more all = tt
counted_blocks (Lone row ∷ bs) more all = (tt, counted_blocks bs more all.1)
counted_blocks (Repeated times rows ∷ bs) more all = (all.0, counted_blocks bs more (counted_rest rows (flat_map spelled bs) more all.1))

-- ---- the front that lines lead to

abbrev pub reach : List (Option Statement) → Front → Option Front
reach [] front = Some front
reach (line ∷ said) front = option_and_then (reach said) (next front line)

reach-append : (xs ys : List (Option Statement)) (front : Front) → reach (xs ++ ys) front ≡ option_and_then (reach ys) (reach xs front)
reach-append [] ys front = refl
reach-append (x ∷ xs) ys front = by (next front x) (λ g. reach-append xs ys g)
  where
    by : (o : Option Front) → ((g : Front) → reach (xs ++ ys) g ≡ option_and_then (reach ys) (reach xs g))
        → option_and_then (reach (xs ++ ys)) o ≡ option_and_then (reach ys) (option_and_then (reach xs) o)
    by None more = refl
    by (Some g) more = more g

next_fits : (bs : List Block) (o : Option Open) (statement : Statement) (front : Front) → grown bs o statement ≡ Some front → total front ≤ 65536 → next (front_of bs o) (Some statement) ≡ Some front
next_fits bs o statement front e few = ap (option_and_then within) e ∙ rw (le-leb _ _ few) refl

-- one line that fits, and those after it
reach_line : (said : List (Option Statement)) (bs : List Block) (o : Option Open) (statement : Statement) (front : Front) → grown bs o statement ≡ Some front → total front ≤ 65536 → reach (Some statement ∷ said) (front_of bs o) ≡ reach said front
reach_line said bs o statement front e few = ap (option_and_then (reach said)) (next_fits bs o statement front e few)

abbrev part_of : ℕ → List (Option Item) → Open
part_of times rows = record { times = times; rows = rows }

length-items : (xs ys : List (Option Item)) → length (items_of xs) ≤ length (items_of (xs ++ ys))
length-items xs ys = rw (flat_map-append option_to_list xs ys) (omega (arith, length-append (items_of xs) (items_of ys)))

length-unrolled : (bs cs : List Block) → length (flat_map unrolled bs) ≤ length (flat_map unrolled (bs ++ cs))
length-unrolled bs cs = rw (flat_map-append unrolled bs cs) (omega (arith, length-append (flat_map unrolled bs) (flat_map unrolled cs)))

reach_rows : (rows : List (Option Item)) (bs : List Block) (times : ℕ) (before : List (Option Item)) → total (front_of bs (Some (part_of times (before ++ rows)))) ≤ 65536
    → reach (map Some (map Row rows)) (front_of bs (Some (part_of times before))) ≡ Some (front_of bs (Some (part_of times (before ++ rows))))
reach_rows [] bs times before few = ap (λ xs. Some (front_of bs (Some (part_of times xs)))) (sym (append-nil before))
reach_rows (row ∷ rows) bs times before few =
    let joined : (before ++ row ∷ []) ++ rows ≡ before ++ row ∷ rows = append_assoc before (row ∷ []) rows in
    let few_in_all : total (front_of bs (Some (part_of times ((before ++ row ∷ []) ++ rows)))) ≤ 65536 = rw joined few in
    let few_here : total (front_of bs (Some (part_of times (before ++ row ∷ [])))) ≤ 65536 = omega (arith, length-items (before ++ row ∷ []) rows) in
    reach_line (map Some (map Row rows)) bs (Some (part_of times before)) (Row row) _ refl few_here
    ∙ reach_rows rows bs times (before ++ row ∷ []) few_in_all
    ∙ ap (λ xs. Some (front_of bs (Some (part_of times xs)))) joined

at_least_once : (times n : ℕ) → 0 < times → n ≤ times * n
at_least_once zero n some = absurd (omega arith)
at_least_once (suc times) n some = omega (arith, suc-mul times n)

reach_block : (b : Block) (bs : List Block) → total (front_of (bs ++ b ∷ []) None) ≤ 65536 → Counted b → reach (map Some (spelled b)) (front_of bs None) ≡ Some (front_of (bs ++ b ∷ []) None)
reach_block (Lone row) bs few counted = reach_line [] bs None (Row row) _ refl few
reach_block (Repeated times rows) bs few counted =
    let whole = total-closed bs (part_of times rows) in
    let once = at_least_once times (length (items_of rows)) counted in
    let few_rows : total (front_of bs (Some (part_of times rows))) ≤ 65536 = omega arith in
    let few_none : total (front_of bs (Some (part_of times []))) ≤ 65536 = omega arith in
    reach_line (map Some (map Row rows ++ End ∷ [])) bs None (Repeat times) _ refl few_none
    ∙ ap (λ xs. reach xs (front_of bs (Some (part_of times [])))) (map-append Some (map Row rows) (End ∷ []))
    ∙ reach-append (map Some (map Row rows)) (Some End ∷ []) (front_of bs (Some (part_of times [])))
    ∙ ap (option_and_then (reach (Some End ∷ []))) (reach_rows rows bs times [] few_rows)
    ∙ reach_line [] bs (Some (part_of times rows)) End _ refl few

reach_blocks : (cs bs : List Block) → total (front_of (bs ++ cs) None) ≤ 65536 → AllByRecursion Counted cs → reach (map Some (flat_map spelled cs)) (front_of bs None) ≡ Some (front_of (bs ++ cs) None)
reach_blocks [] bs few counted = ap (λ xs. Some (front_of xs None)) (sym (append-nil bs))
reach_blocks (c ∷ cs) bs few counted =
    let joined : (bs ++ c ∷ []) ++ cs ≡ bs ++ c ∷ cs = append_assoc bs (c ∷ []) cs in
    let few_in_all : total (front_of ((bs ++ c ∷ []) ++ cs) None) ≤ 65536 = rw joined few in
    let few_here : total (front_of (bs ++ c ∷ []) None) ≤ 65536 = omega (arith, length-unrolled (bs ++ c ∷ []) cs) in
    ap (λ xs. reach xs (front_of bs None)) (map-append Some (spelled c) (flat_map spelled cs))
    ∙ reach-append (map Some (spelled c)) (map Some (flat_map spelled cs)) (front_of bs None)
    ∙ ap (option_and_then (reach (map Some (flat_map spelled cs)))) (reach_block c bs few_here counted.0)
    ∙ reach_blocks cs (bs ++ c ∷ []) few_in_all counted.1
    ∙ ap (λ xs. Some (front_of xs None)) joined

abbrev pub start : Front
start = front_of [] None

reach_open : (bs : List Block) (o : Option Open) → total (front_of bs o) ≤ 65536 → reach (map Some (open_lines o)) (front_of bs None) ≡ Some (front_of bs o)
reach_open bs None few = refl
reach_open bs (Some part) few =
    let few_none : total (front_of bs (Some (part_of part.times []))) ≤ 65536 = omega arith in
    reach_line (map Some (map Row part.rows)) bs None (Repeat part.times) _ refl few_none
    ∙ reach_rows part.rows bs part.times [] few

-- lines that are a front lead to it
pub reach_front : (said : List (Option Statement)) (front : Front) → AllCounted said → IsFront said front → reach said start ≡ Some front
reach_front said front counted is =
    let bs = front.blocks in
    let o = front.open_part in
    let few = is.few in
    let few_blocks : total (front_of bs None) ≤ 65536 = omega arith in
    let all = counted_blocks bs (open_lines o) (subst AllCounted is.spelling counted) in
    ap (λ xs. reach xs start) (is.spelling ∙ map-append Some (flat_map spelled bs) (open_lines o))
    ∙ reach-append (map Some (flat_map spelled bs)) (map Some (open_lines o)) start
    ∙ ap (option_and_then (reach (map Some (open_lines o)))) (reach_blocks bs [] few_blocks all)
    ∙ reach_open bs o few

-- ---- a bad line leads nowhere

next_bad : (front : Front) (line : Option Statement) → IsBadAfter front line → next front line ≡ None
next_bad front None bad = refl
next_bad front (Some (Row None)) bad = absurd bad
next_bad front (Some (Row (Some item))) bad =
    let more = total-add front.blocks front.open_part (Some item) in
    let over : 65536 < total (add front.blocks front.open_part (Some item)) = omega arith in
    rw (lt-leb _ _ over) refl
next_bad front (Some (Repeat times)) bad = by front.open_part bad
  where
    by : (o : Option Open) → IsBadAfter (front_of front.blocks o) (Some (Repeat times)) → next (front_of front.blocks o) (Some (Repeat times)) ≡ None
    by None h = cc
    by (Some part) h = refl
next_bad front (Some End) bad = by front.open_part bad
  where
    by : (o : Option Open) → IsBadAfter (front_of front.blocks o) (Some End) → next (front_of front.blocks o) (Some End) ≡ None
    by None h = refl
    by (Some part) h =
        let more = total-closed front.blocks part in
        let over : 65536 < total (closed front.blocks part) = omega arith in
        rw (lt-leb _ _ over) refl

-- a list, cut at an element
record Cut (said : List (Option Statement)) (place : ℕ) (line : Option Statement) : Type 0 where
  more : List (Option Statement)
  whole : said ≡ take place said ++ line ∷ more

cut : (said : List (Option Statement)) (place : ℕ) (line : Option Statement) → slice_get said place ≡ Some line → Cut said place line
cut [] place line e = cc
cut (x ∷ xs) zero line e = record { more = xs; whole = let same : x ≡ line = cc in ap (λ y. y ∷ xs) same }
cut (x ∷ xs) (suc place) line e = let c = cut xs place line e in record { more = c.more; whole = ap (λ ys. x ∷ ys) c.whole }

pub reach_bad : (said : List (Option Statement)) (place : ℕ) → AllCounted said → IsBadAt said place → reach said start ≡ None
reach_bad said place counted bad =
    let c = cut said place bad.line bad.found in
    ap (λ xs. reach xs start) c.whole
    ∙ reach-append (take place said) (bad.line ∷ c.more) start
    ∙ ap (option_and_then (reach (bad.line ∷ c.more))) (reach_front (take place said) bad.front (counted_take place said counted) bad.earlier)
    ∙ ap (option_and_then (reach c.more)) (next_bad bad.front bad.line bad.bad)

-- ---- the four laws

front_of_script : (text : List ℕ) (items : List Item) (is : IsScript text items) → IsFront (statements text) (front_of is.blocks None)
front_of_script text items is = record {
  spelling = is.spelling ∙ ap (map Some) (sym (append-nil (flat_map spelled is.blocks)));
  few = let few = is.few in let same = ap length is.unrolling in omega arith;
}

reach_script : (text : List ℕ) (items : List Item) (is : IsScript text items) → reach (statements text) start ≡ Some (front_of is.blocks None)
reach_script text items is = reach_front (statements text) _ (counted_lines (lines text)) (front_of_script text items is)

reach_unclosed : (text : List ℕ) (place : ℕ) (is : IsUnclosedAt (statements text) place) → reach (statements text) start ≡ Some is.front
reach_unclosed text place is = reach_front (statements text) is.front (counted_lines (lines text)) is.whole

pub never_both : (text : List ℕ) (items : List Item) (line : ℕ) → IsScript text items → IsFirstBad text line → ⊥
never_both text items line is bad = by bad.2
  where
    by : IsBadAt (statements text) bad.0 ⊎ IsUnclosedAt (statements text) bad.0 → ⊥
    by (inl at) =
        let none = reach_bad (statements text) bad.0 (counted_lines (lines text)) at in
        let some = reach_script text items is in
        cc
    by (inr open_at) =
        let one = reach_script text items is in
        let other = reach_unclosed text bad.0 open_at in
        let same : front_of is.blocks None ≡ open_at.front = cc in
        let none : None ≡ open_at.front.open_part = ap (λ f. f.open_part) same in
        let some = open_at.unclosed in
        cc

pub one_script : (text : List ℕ) (items others : List Item) → IsScript text items → IsScript text others → items ≡ others
one_script text items others is also =
    let one = reach_script text items is in
    let other = reach_script text others also in
    let same : front_of is.blocks None ≡ front_of also.blocks None = cc in
    is.unrolling ∙ ap (λ f. flat_map unrolled f.blocks) same ∙ sym also.unrolling

slice_get-take : (said : List (Option Statement)) (n place : ℕ) → place < n → slice_get (take n said) place ≡ slice_get said place
slice_get-take said zero place h = absurd (omega arith)
slice_get-take [] (suc n) place h = refl
slice_get-take (x ∷ xs) (suc n) zero h = refl
slice_get-take (x ∷ xs) (suc n) (suc place) h = slice_get-take xs n place (omega arith)

-- no line is bad before a bad one
not_before : (said : List (Option Statement)) (p q : ℕ) → AllCounted said → IsBadAt said p → IsBadAt said q → p < q → ⊥
not_before said p q counted first second less =
    let none = reach_bad (take q said) p (counted_take q said counted) (record {
      front = first.front;
      earlier = rw (take-take p q said (omega arith)) first.earlier;
      line = first.line;
      found = slice_get-take said q p less ∙ first.found;
      bad = first.bad;
    }) in
    let some = reach_front (take q said) second.front (counted_take q said counted) second.earlier in
    cc

pub one_line : (text : List ℕ) (line other : ℕ) → IsFirstBad text line → IsFirstBad text other → line ≡ other
one_line text line other bad worse = bad.1 ∙ ap (λ n. n + 1) (by bad.2 worse.2) ∙ sym worse.1
  where
    by : IsBadAt (statements text) bad.0 ⊎ IsUnclosedAt (statements text) bad.0 → IsBadAt (statements text) worse.0 ⊎ IsUnclosedAt (statements text) worse.0 → bad.0 ≡ worse.0
    by (inl a) (inl b) = elim (cases_order bad.0 worse.0) [
      | inl e ↦ e
      | inr apart ↦ elim apart [
        | inl less ↦ absurd (not_before (statements text) bad.0 worse.0 (counted_lines (lines text)) a b less)
        | inr more ↦ absurd (not_before (statements text) worse.0 bad.0 (counted_lines (lines text)) b a more)
      ]
    ]
    by (inl a) (inr b) =
        let none = reach_bad (statements text) bad.0 (counted_lines (lines text)) a in
        let some = reach_unclosed text worse.0 b in
        cc
    by (inr a) (inl b) =
        let none = reach_bad (statements text) worse.0 (counted_lines (lines text)) b in
        let some = reach_unclosed text bad.0 a in
        cc
    by (inr a) (inr b) =
        let one = reach_unclosed text bad.0 a in
        let two = reach_unclosed text worse.0 b in
        let same : a.front ≡ b.front = cc in
        a.start ∙ ap (λ f. length (flat_map spelled f.blocks)) same ∙ sym b.start

-- a line that may not follow is the first bad one
pub bad_at : (done more : List (Option Statement)) (line : Option Statement) (front : Front) → IsFront done front → IsBadAfter front line → IsBadAt (done ++ line ∷ more) (length done)
bad_at done more line front is bad = record {
  front = front;
  earlier = rw (take-append_seam done (line ∷ more)) is;
  line = line;
  found = at_seam done more line;
  bad = bad;
}
  where
    at_seam : (done more : List (Option Statement)) (line : Option Statement) → slice_get (done ++ line ∷ more) (length done) ≡ Some line
    at_seam [] more line = refl
    at_seam (x ∷ xs) more line = at_seam xs more line

-- a line may follow, or it is bad
abbrev Follows : List (Option Statement) → Front → Option Statement → Type 0
Follows done front line = ((after : Front) × IsFront (done ++ line ∷ []) after) ⊎ IsBadAfter front line

follows_row : (done : List (Option Statement)) (front : Front) (row : Option Item) → IsFront done front → Follows done front (Some (Row row))
follows_row done front row is = by row (leb (total (add front.blocks front.open_part row)) 65536) refl
  where
    by : (row : Option Item) (b : Bool) → leb (total (add front.blocks front.open_part row)) 65536 ≡ b → Follows done front (Some (Row row))
    by row true e = inl (add front.blocks front.open_part row, front-grown done front.blocks front.open_part (Row row) _ is refl (leb-true _ _ e))
    by None false e =
        let over = leb-false _ _ e in
        let same = total-add front.blocks front.open_part None in
        let few = is.few in
        absurd (omega arith)
    by (Some item) false e =
        let over = leb-false _ _ e in
        let same = total-add front.blocks front.open_part (Some item) in
        inr (omega arith)

follows : (done : List (Option Statement)) (bs : List Block) (o : Option Open) (line : Option Statement) → IsFront done (front_of bs o) → Follows done (front_of bs o) line
follows done bs o None is = inr tt
follows done bs o (Some (Row row)) is = follows_row done (front_of bs o) row is
follows done bs None (Some (Repeat times)) is = inl (_, front-grown done bs None (Repeat times) _ is refl (let few = is.few in omega arith))
follows done bs (Some part) (Some (Repeat times)) is = inr refl
follows done bs None (Some End) is = inr tt
follows done bs (Some part) (Some End) is = by (leb (total (closed bs part)) 65536) refl
  where
    by : (b : Bool) → leb (total (closed bs part)) 65536 ≡ b → Follows done (front_of bs (Some part)) (Some End)
    by true e = inl (closed bs part, front-grown done bs (Some part) End _ is refl (leb-true _ _ e))
    by false e =
        let over = leb-false _ _ e in
        let same = total-closed bs part in
        inr (omega arith)

abbrev Ends : List (Option Statement) → Type 0
Ends said = ((place : ℕ) × IsBadAt said place) ⊎ ((front : Front) × IsFront said front)

ends : (more done : List (Option Statement)) (front : Front) → IsFront done front → Ends (done ++ more)
ends [] done front is = inr (front, rw (append-nil done) is)
ends (line ∷ more) done front is = by (follows done front.blocks front.open_part line is) (λ after next_is. ends more (done ++ line ∷ []) after next_is)
  where
    by : Follows done front line → ((after : Front) → IsFront (done ++ line ∷ []) after → Ends ((done ++ line ∷ []) ++ more)) → Ends (done ++ line ∷ more)
    by (inl good) go_on = subst Ends (append_assoc done (line ∷ []) more) (go_on good.0 good.1)
    by (inr bad) go_on = inl (length done, bad_at done more line front is bad)

-- the end of a text: a script, or a repetition that is open
pub script_at_end : (text : List ℕ) (bs : List Block) → IsFront (statements text) (front_of bs None) → IsScript text (flat_map unrolled bs)
script_at_end text bs is = record {
  blocks = bs;
  spelling = is.spelling ∙ ap (map Some) (append-nil (flat_map spelled bs));
  unrolling = refl;
  few = let few = is.few in omega arith;
}

pub unclosed_at_end : (text : List ℕ) (bs : List Block) (part : Open) → IsFront (statements text) (front_of bs (Some part)) → IsFirstBad text (length (flat_map spelled bs) + 1)
unclosed_at_end text bs part is = (length (flat_map spelled bs), refl, inr (record { front = front_of bs (Some part); whole = is; part = part; unclosed = refl; start = refl }))

pub some_answer : (text : List ℕ) → ((items : List Item) × IsScript text items) ⊎ ((line : ℕ) × IsFirstBad text line)
some_answer text = by (ends (statements text) [] start (record { spelling = refl; few = omega arith }))
  where
    at_end : (bs : List Block) (o : Option Open) → IsFront (statements text) (front_of bs o) → ((items : List Item) × IsScript text items) ⊎ ((line : ℕ) × IsFirstBad text line)
    at_end bs None is = inl (flat_map unrolled bs, script_at_end text bs is)
    at_end bs (Some part) is = inr (length (flat_map spelled bs) + 1, unclosed_at_end text bs part is)

    by : Ends (statements text) → ((items : List Item) × IsScript text items) ⊎ ((line : ℕ) × IsFirstBad text line)
    by (inl bad) = inr (bad.0 + 1, (bad.0, refl, inl bad.1))
    by (inr good) = at_end good.0.blocks good.0.open_part good.1
