-- The contents are checked in the order of their files: each is what its file must hold, until one isn't.
use Rattle.std.specs.Prelude.{◌≡◌, ◌≢◌, ◌⊎◌, ℕ, ◌+◌, List, [], ◌∷◌, length}
use Rattle.std.specs.declared.result.Result.{Result}
use Rattle.std.specs.declared.result.Result.TheVariants.{Ok, Err}
use Rattle.wb_asm.specs.Assembly.{IsImageOfText, IsFirstFault}
use Rattle.wb_rom.specs.declared.images.Image.{Image}
use Rattle.wb_rom.specs.ImageBytes.{IsImageOf}
use Rattle.wb_script.specs.declared.items.Item.{Item}
use Rattle.wb_script.specs.Script.{IsScript, IsFirstBad}
use Rattle.wb_trace.specs.declared.moves.Move.{Move}
use Rattle.wb_trace.specs.Moves as moves_file
use Rattle.wb_cli.specs.declared.files.Kind.{Kind}
use Rattle.wb_cli.specs.declared.files.Kind.TheVariants as kind
use Rattle.wb_cli.specs.declared.refusals.Refusal.{Refusal}
use Rattle.wb_cli.specs.declared.refusals.Refusal.TheVariants as refusal
use Rattle.wb_cli.specs.declared.refusals.Stop.{Stop}
use Rattle.wb_cli.specs.declared.refusals.Stop.TheVariants.{Refused, OutOfMemory}

-- what a content holds
pub data Held : Type 0 where
  AnImage : Image → Held
  AScript : List Item → Held
  SomeMoves : List Move → Held

-- the content of a file that must hold something of this kind holds this
abbrev pub Holds : Kind → List ℕ → Held → Type 0
Holds kind.Image bytes (AnImage image) = IsImageOf bytes image
Holds kind.Script text (AScript items) = IsScript text items
Holds kind.Source text (AnImage image) = IsImageOfText text image
Holds kind.Moves text (SomeMoves moves) = moves_file.AreMovesOf text moves
Holds _ _ _ = ⊥

-- the content at a place, counted from 0, isn't of this kind, and is refused so
abbrev pub IsRefused : Kind → ℕ → List ℕ → Refusal → Type 0
IsRefused kind.Image place bytes (refusal.ImageLength at found) =
    (at ≡ place) × (found ≡ length bytes) × (length bytes ≢ 8192)
IsRefused kind.Script place text (refusal.ScriptLine line) = IsFirstBad text line
IsRefused kind.Source place text (refusal.SourceFault fault) = IsFirstFault text fault
IsRefused kind.Moves place text (refusal.MovesLine line) = moves_file.IsFirstBad text line
IsRefused _ _ _ _ = ⊥

-- what checking the content at a place comes to
abbrev pub ChecksTo : Kind → ℕ → List ℕ → Result Held Stop → Type 0
ChecksTo kind place bytes (Ok held) = Holds kind bytes held
ChecksTo kind place bytes (Err (Refused refusal)) = IsRefused kind place bytes refusal
ChecksTo kind place bytes (Err OutOfMemory) = Unit {0}

-- each content is of its kind
abbrev pub HoldsAll : List Kind → List (List ℕ) → List Held → Type 0
HoldsAll [] [] [] = Unit {0}
HoldsAll (kind ∷ kinds) (bytes ∷ contents) (held ∷ rest) = Holds kind bytes held × HoldsAll kinds contents rest
HoldsAll _ _ _ = ⊥

-- the first content, from this place on, that isn't of its kind is refused so
abbrev pub FirstRefused : ℕ → List Kind → List (List ℕ) → Refusal → Type 0
FirstRefused place (kind ∷ kinds) (bytes ∷ contents) refusal =
    IsRefused kind place bytes refusal
    ⊎ (((held : Held) × Holds kind bytes held) × FirstRefused (place + 1) kinds contents refusal)
FirstRefused place _ _ refusal = ⊥
