-- Which texts are scripts, of which items, and which line is the first bad one of a text that is none.
use Rattle.std.specs.Prelude.{◌≡◌, ℕ, ◌+◌, ◌*◌, ◌<◌, ◌≤◌, ◌⊎◌, ⊤, List, [], ◌∷◌, ◌++◌, length, take, map, replicate, slice_get, IsSome, MatchOption}
use Rattle.std.specs.Option.{option_to_list}
use Rattle.std.specs.List.{flat_map}
use Rattle.std.specs.Str.Lines.{lines}
use Rattle.std.specs.declared.option.Option.{Option}
use Rattle.std.specs.declared.option.Option.TheVariants.{Some, None}
use Rattle.wb_script.specs.declared.items.Item.{Item}
use Rattle.wb_script.specs.declared.faults.ScriptFault.{ScriptFault}
use Rattle.wb_script.specs.declared.faults.ScriptFault.TheVariants.{BadLine, OutOfMemory}
use Rattle.wb_script.specs.declared.table.Statement.{Statement}
use Rattle.wb_script.specs.declared.table.Statement.TheVariants.{Row, Repeat, End}
use Rattle.wb_script.specs.Statement.{statement_of}

-- what each line of a text says. A line ends at a line feed, and a carriage return right before that is no
-- part of it; the last line may lack its line feed, and then keeps a carriage return at its end
abbrev pub statements : List ℕ → List (Option Statement)
statements text = map statement_of (lines text)

-- a part of a script: one row, which is an item or empty, or a repetition of rows
pub data Block : Type 0 where
  Lone : Option Item → Block
  Repeated : ℕ → List (Option Item) → Block

-- the lines that spell a block
abbrev pub spelled : Block → List Statement
spelled (Lone row) = Row row ∷ []
spelled (Repeated times rows) = Repeat times ∷ (map Row rows ++ (End ∷ []))

-- the items of rows, each once
abbrev pub items_of : List (Option Item) → List Item
items_of rows = flat_map option_to_list rows

-- a list so many times, one after the other
abbrev pub copies : ℕ → List Item → List Item
copies times items = flat_map {X = ℕ} (λ _. items) (replicate times 0)

-- the items of a block
abbrev pub unrolled : Block → List Item
unrolled (Lone row) = option_to_list row
unrolled (Repeated times rows) = copies times (items_of rows)

-- the text is a script of these items: its lines spell blocks that unroll to them
pub record IsScript (text : List ℕ) (items : List Item) : Type 0 where
  pub blocks : List Block
  pub spelling : statements text ≡ map Some (flat_map spelled blocks)
  pub unrolling : items ≡ flat_map unrolled blocks
  pub few : length items ≤ 65536

-- a repetition whose end is still to come
pub record Open : Type 0 where
  pub times : ℕ
  pub rows : List (Option Item)

-- the blocks that end before some place of a script, and the repetition that is open there
pub record Front : Type 0 where
  pub blocks : List Block
  pub open_part : Option Open

abbrev pub open_lines : Option Open → List Statement
open_lines None = []
open_lines (Some part) = Repeat part.times ∷ map Row part.rows

abbrev pub open_items : Option Open → List Item
open_items None = []
open_items (Some part) = items_of part.rows

-- how many items stand before that place; those of the open repetition count once
abbrev pub total : Front → ℕ
total front = length (flat_map unrolled front.blocks) + length (open_items front.open_part)

-- lines that are the front of a script, up to the limit of items
pub record IsFront (said : List (Option Statement)) (front : Front) : Type 0 where
  pub spelling : said ≡ map Some (flat_map spelled front.blocks ++ open_lines front.open_part)
  pub few : total front ≤ 65536

-- a line that may not follow this front: one that says nothing known, an item too many, a repetition within a
-- repetition, an end without one, or an end that makes too many items
abbrev pub IsBadAfter : Front → Option Statement → Type 0
IsBadAfter front None = ⊤
IsBadAfter front (Some (Row None)) = ⊥
IsBadAfter front (Some (Row (Some item))) = 65536 < total front + 1
IsBadAfter front (Some (Repeat times)) = IsSome front.open_part
IsBadAfter front (Some End) = MatchOption front.open_part ⊤ (λ part. 65536 < length (flat_map unrolled front.blocks) + part.times * length (items_of part.rows))

-- the line at this place, counted from 0, is bad, and those before it are the front of a script
pub record IsBadAt (said : List (Option Statement)) (place : ℕ) : Type 0 where
  pub front : Front
  pub earlier : IsFront (take place said) front
  pub line : Option Statement
  pub found : slice_get said place ≡ Some line
  pub bad : IsBadAfter front line

-- the lines are the front of a script, and end within the repetition that starts at this place
pub record IsUnclosedAt (said : List (Option Statement)) (place : ℕ) : Type 0 where
  pub front : Front
  pub whole : IsFront said front
  pub part : Open
  pub unclosed : front.open_part ≡ Some part
  pub start : place ≡ length (flat_map spelled front.blocks)

-- the number of the first bad line of a text, counted from 1
abbrev pub IsFirstBad : List ℕ → ℕ → Type 0
IsFirstBad text line = (place : ℕ) × (line ≡ place + 1) × (IsBadAt (statements text) place ⊎ IsUnclosedAt (statements text) place)

-- when a fault may be answered; want of memory is free
abbrev pub IsFaultOf : List ℕ → ScriptFault → Type 0
IsFaultOf text (BadLine line) = IsFirstBad text line
IsFaultOf text OutOfMemory = ⊤
