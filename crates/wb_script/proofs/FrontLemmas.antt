-- How the front of a script grows, line by line.
use Rattle.std.proofs.Common.{◌≡◌, ℕ, ◌+◌, ◌*◌, ◌≤◌, cond, leb, Option, Some, None, List, [], ◌∷◌, ◌++◌, length, map, sym, ap, ◌∙◌, append_assoc, suc, zero, subst, add_comm}
use Rattle.std.proofs.Math.Nat.{zero-mul, suc-mul}
use Rattle.std.specs.Option.{option_to_list, option_and_then}
use Rattle.std.specs.List.{flat_map}
use Rattle.std.proofs.lemmas.Grind.{flat_map-append}
use Rattle.std.proofs.lemmas.List.{map-append, append-nil, length-append}
use Rattle.wb_script.specs.declared.items.Item.{Item}
use Rattle.wb_script.specs.declared.table.Statement.{Statement}
use Rattle.wb_script.specs.declared.table.Statement.TheVariants.{Row, Repeat, End}
use Rattle.wb_script.specs.Script.{Block, Lone, Repeated, Open, Front, spelled, unrolled, items_of, copies, open_lines, open_items, total, IsFront}

-- the lines of a front, and its items
abbrev pub lines_of : List Block → Option Open → List Statement
lines_of bs o = flat_map spelled bs ++ open_lines o

abbrev pub items_at : List Block → Option Open → List Item
items_at bs o = flat_map unrolled bs ++ open_items o

abbrev pub front_of : List Block → Option Open → Front
front_of bs o = record { blocks = bs; open_part = o }

-- a front and a row more
abbrev pub with_row : Open → Option Item → Open
with_row part row = record { times = part.times; rows = part.rows ++ row ∷ [] }

abbrev pub add : List Block → Option Open → Option Item → Front
add bs None row = front_of (bs ++ Lone row ∷ []) None
add bs (Some part) row = front_of bs (Some (with_row part row))

abbrev pub closed : List Block → Open → Front
closed bs part = front_of (bs ++ Repeated part.times part.rows ∷ []) None

-- a front and a line more, whatever its items are
abbrev pub grown : List Block → Option Open → Statement → Option Front
grown bs o (Row row) = Some (add bs o row)
grown bs None (Repeat times) = Some (front_of bs (Some (record { times = times; rows = [] })))
grown bs (Some part) (Repeat times) = None
grown bs None End = None
grown bs (Some part) End = Some (closed bs part)

-- the front after a line, or None where the line is bad
abbrev pub within : Front → Option Front
within front = cond (leb (total front) 65536) (Some front) None

abbrev pub next : Front → Option Statement → Option Front
next front None = None
next front (Some statement) = option_and_then within (grown front.blocks front.open_part statement)

-- one line more, and the items that it adds
pub lines-add : (bs : List Block) (o : Option Open) (row : Option Item) → lines_of (add bs o row).blocks (add bs o row).open_part ≡ lines_of bs o ++ Row row ∷ []
lines-add bs None row = simp (flat_map-append, append-nil)
lines-add bs (Some part) row = simp (map-append, append_assoc)

pub lines-closed : (bs : List Block) (part : Open) → lines_of (closed bs part).blocks None ≡ lines_of bs (Some part) ++ End ∷ []
lines-closed bs part = simp (flat_map-append, append-nil, append_assoc)

pub items-add : (bs : List Block) (o : Option Open) (row : Option Item) → items_at (add bs o row).blocks (add bs o row).open_part ≡ items_at bs o ++ option_to_list row
items-add bs None row = simp (flat_map-append, append-nil)
items-add bs (Some part) row = simp (flat_map-append, append-nil, append_assoc)

pub items-closed : (bs : List Block) (part : Open) → items_at (closed bs part).blocks None ≡ flat_map unrolled bs ++ copies part.times (items_of part.rows)
items-closed bs part = simp (flat_map-append, append-nil)

-- a total is the length of the items
pub total-is : (front : Front) → total front ≡ length (items_at front.blocks front.open_part)
total-is front = sym (length-append (flat_map unrolled front.blocks) (open_items front.open_part))

pub total-add : (bs : List Block) (o : Option Open) (row : Option Item) → total (add bs o row) ≡ total (front_of bs o) + length (option_to_list row)
total-add bs o row =
    total-is (add bs o row) ∙ ap length (items-add bs o row) ∙ length-append (items_at bs o) (option_to_list row)
    ∙ ap (λ n. n + length (option_to_list row)) (sym (total-is (front_of bs o)))

pub length-copies : (times : ℕ) (items : List Item) → length (copies times items) ≡ times * length items
length-copies zero items = sym (zero-mul (length items))
length-copies (suc times) items = length-append items (copies times items) ∙ ap (λ n. length items + n) (length-copies times items) ∙ add_comm (length items) (times * length items) ∙ sym (suc-mul times (length items))

pub total-closed : (bs : List Block) (part : Open) → total (closed bs part) ≡ length (flat_map unrolled bs) + part.times * length (items_of part.rows)
total-closed bs part =
    total-is (closed bs part) ∙ ap length (items-closed bs part) ∙ length-append (flat_map unrolled bs) (copies part.times (items_of part.rows))
    ∙ ap (λ n. length (flat_map unrolled bs) + n) (length-copies part.times (items_of part.rows))

-- the lines of a front that has grown
pub lines-grown : (bs : List Block) (o : Option Open) (statement : Statement) (front : Front) → grown bs o statement ≡ Some front → lines_of front.blocks front.open_part ≡ lines_of bs o ++ statement ∷ []
lines-grown bs o (Row row) front e =
    let same : add bs o row ≡ front = cc in
    subst (λ f. lines_of f.blocks f.open_part ≡ lines_of bs o ++ Row row ∷ []) same (lines-add bs o row)
lines-grown bs None (Repeat times) front e =
    let same : front_of bs (Some (record { times = times; rows = [] })) ≡ front = cc in
    subst (λ f. lines_of f.blocks f.open_part ≡ lines_of bs None ++ Repeat times ∷ []) same (simp append-nil)
lines-grown bs (Some part) (Repeat times) front e = cc
lines-grown bs None End front e = cc
lines-grown bs (Some part) End front e =
    let same : closed bs part ≡ front = cc in
    subst (λ f. lines_of f.blocks f.open_part ≡ lines_of bs (Some part) ++ End ∷ []) same (lines-closed bs part)

pub front-grown : (said : List (Option Statement)) (bs : List Block) (o : Option Open) (statement : Statement) (front : Front) →
    IsFront said (front_of bs o) → grown bs o statement ≡ Some front → total front ≤ 65536 → IsFront (said ++ Some statement ∷ []) front
front-grown said bs o statement front is e few = record {
  spelling =
      ap (λ xs. xs ++ Some statement ∷ []) is.spelling ∙ sym (map-append Some (lines_of bs o) (statement ∷ []))
      ∙ ap (map Some) (sym (lines-grown bs o statement front e));
  few = few;
}
