-- The image of a text, said of a map from names to numbers and of the placements of words in each memory.
use Rattle.std.specs.Prelude.{◌≡◌, ◌≢◌, ◌↔◌, ⊤, ℕ, ◌+◌, ◌<◌, pos, negsuc, ◌-◌, ◌^◌, List, [], ◌∷◌, ◌++◌, map, length, slice_index_or}
use Rattle.std.specs.Int.RustNames.{unsigned_abs}
use Rattle.std.specs.declared.option.Option.{Option}
use Rattle.std.specs.declared.option.Option.TheVariants.{Some, None}
use Rattle.wb_rom.specs.declared.images.Image.{Image}
use Rattle.wb_syntax.specs.declared.spans.Span.{Span}
use Rattle.wb_syntax.specs.declared.statements.Body.{Body}
use Rattle.wb_syntax.specs.declared.statements.Body.TheVariants.{Org, Dorg, Equ}
use Rattle.wb_syntax.specs.declared.statements.Statement.{Statement}
use Rattle.wb_asm.specs.declared.counters.Counters.{Counters}
use Rattle.wb_asm.specs.Assembly.{Says, IsImageOfText}
use Rattle.wb_asm.specs.Layout.{program_words, data_words}
use Rattle.wb_asm.specs.Value.{Names, number_named, name_of, exact, value_fault}
use Rattle.wb_asm.specs.Words.{contents, content_word, data_values, data_word, here_at, values_fault}

-- a word of a memory, and the line that places it
pub record Placement : Type 0 where
  pub address : ℕ
  pub word : ℕ
  pub line : ℕ

-- each of these is so
abbrev pub Each : {X : Type 0} → (X → Type 0) → List X → Type 0
Each P [] = ⊤
Each P (x ∷ xs) = P x × Each P xs

-- no two words stand at one address
abbrev pub AreApart : List Placement → Type 0
AreApart [] = ⊤
AreApart (placement ∷ placements) = Each (λ other. other.address ≢ placement.address) placements × AreApart placements

-- words of a line, one after the other from an address on
abbrev pub standing : ℕ → ℕ → List ℕ → List Placement
standing line at [] = []
standing line at (word ∷ words) = record { address = at; word = word; line = line } ∷ standing line (at + 1) words

-- a name is new among these
abbrev pub IsNew : Names → List ℕ → Type 0
IsNew names name = number_named names name ≡ None

-- a statement, by the names of earlier lines and the counters before it
module _ (text : List ℕ) (earlier : Names) (at : Counters) where
  -- a label is new, and its number is the counter of the memory that the statement speaks of
  abbrev pub IsLabel : Body → Option Span → Names → Type 0
  IsLabel body None own = own ≡ []
  IsLabel body (Some label) own = IsNew earlier (name_of text label) × (own ≡ (name_of text label, pos (here_at at body)) ∷ [])

  -- the name of an `.equ` is new, also beside the label of its line, and its number is the value of its expression
  abbrev pub IsEqu : Names → Body → Names → Type 0
  IsEqu label (Equ name x) own =
      IsNew (earlier ++ label) (name_of text name) × (own ≡ (name_of text name, exact text earlier at.prog x) ∷ [])
  IsEqu label _ own = own ≡ []

  -- an expression that may use names of earlier lines alone has a value in its range
  abbrev pub IsEarly : Body → Type 0
  IsEarly (Org x) = value_fault text earlier at.prog (pos 0) (pos 2047) x ≡ None
  IsEarly (Dorg x) = value_fault text earlier at.drom (pos 0) (pos 1023) x ≡ None
  IsEarly (Equ name x) = value_fault text earlier at.prog (negsuc (2 ^ 63 - 1)) (pos (2 ^ 63 - 1)) x ≡ None
  IsEarly _ = ⊤

  -- the counters after it: `.org` and `.dorg` set one, and each placed word moves one on
  abbrev pub IsProgAfter : Body → ℕ → Type 0
  IsProgAfter (Org x) next = next ≡ unsigned_abs (exact text earlier at.prog x)
  IsProgAfter body next = next ≡ at.prog + program_words body

  abbrev pub IsDromAfter : Body → ℕ → Type 0
  IsDromAfter (Dorg x) next = next ≡ unsigned_abs (exact text earlier at.drom x)
  IsDromAfter body next = next ≡ at.drom + data_words body

-- the rules of one statement: what it defines, how the counters move, and which words it places; the expressions of
-- words may use all names of the text
pub record IsRuled (text : List ℕ) (names earlier : Names) (at next : Counters) (statement : Statement) (label equ : Names) (prog drom : List Placement) : Type 0 where
  pub labelled : IsLabel text earlier at statement.body statement.label label
  pub equated : IsEqu text earlier at label statement.body equ
  pub early : IsEarly text earlier at statement.body
  pub prog_after : IsProgAfter text earlier at statement.body next.prog
  pub drom_after : IsDromAfter text earlier at statement.body next.drom
  pub values : values_fault text names at statement.body ≡ None
  pub prog_words : prog ≡ standing statement.line at.prog (map (content_word text names (here_at at statement.body)) (contents statement.body))
  pub drom_words : drom ≡ standing statement.line at.drom (map (data_word text names (here_at at statement.body)) (data_values statement.body))

-- the rules of all statements, from these counters and names of earlier lines on
abbrev pub AreRuled : List ℕ → Names → Names → Counters → List Statement → List Placement → List Placement → Type 0
AreRuled text names earlier at [] prog drom = (names ≡ earlier) × (prog ≡ []) × (drom ≡ [])
AreRuled text names earlier at (statement ∷ statements) prog drom =
    (next : Counters) × (label : Names) × (equ : Names) × (own_prog : List Placement) × (own_drom : List Placement)
    × (later_prog : List Placement) × (later_drom : List Placement)
    × IsRuled text names earlier at next statement label equ own_prog own_drom
    × (prog ≡ own_prog ++ later_prog)
    × (drom ≡ own_drom ++ later_drom)
    × AreRuled text names (earlier ++ label ++ equ) next statements later_prog later_drom

-- no name is given twice
abbrev pub AreOnce : Names → Type 0
AreOnce [] = ⊤
AreOnce (entry ∷ names) = Each (λ other. other.0 ≢ entry.0) names × AreOnce names

-- names and placements that satisfy every rule
pub record IsPlacing (text : List ℕ) (statements : List Statement) (names : Names) (prog drom : List Placement) : Type 0 where
  pub rules : AreRuled text names [] (record { prog = 0; drom = 0 }) statements prog drom
  pub prog_within : Each (λ placement. placement.address < 2048) prog
  pub drom_within : Each (λ placement. placement.address < 1024) drom
  pub prog_apart : AreApart prog
  pub drom_apart : AreApart drom

-- a memory of so many places has its words at their addresses, and 0 elsewhere
pub record HasPlaced (size : ℕ) (placements : List Placement) (memory : List ℕ) : Type 0 where
  pub places : length memory ≡ size
  pub words : Each (λ placement. slice_index_or memory placement.address 0 ≡ placement.word) placements
  pub elsewhere : (address : ℕ) → Each (λ placement. placement.address ≢ address) placements → slice_index_or memory address 0 ≡ 0

-- names and placements of a text, and its image by them
pub record IsPlacedImage (text : List ℕ) (statements : List Statement) (image : Image) : Type 0 where
  pub names : Names
  pub prog : List Placement
  pub drom : List Placement
  pub placing : IsPlacing text statements names prog drom
  pub in_prog : HasPlaced 2048 prog image.prog
  pub in_drom : HasPlaced 1024 drom image.drom

-- an image is that of a text exactly where it is that of names and placements that satisfy every rule
abbrev pub ImagesArePlacings : Type 0
ImagesArePlacings = (text : List ℕ) (statements : List Statement) → Says text statements → (image : Image)
    → IsImageOfText text image ↔ IsPlacedImage text statements image

-- a text has at most one such pair
abbrev pub PlacingsAreOne : Type 0
PlacingsAreOne = (text : List ℕ) (statements : List Statement) (names other_names : Names) (prog other_prog drom other_drom : List Placement)
    → IsPlacing text statements names prog drom → IsPlacing text statements other_names other_prog other_drom
    → (names ≡ other_names) × (prog ≡ other_prog) × (drom ≡ other_drom)

-- and gives no name twice
abbrev pub NamesAreOnce : Type 0
NamesAreOnce = (text : List ℕ) (statements : List Statement) (names : Names) (prog drom : List Placement)
    → IsPlacing text statements names prog drom → AreOnce names
