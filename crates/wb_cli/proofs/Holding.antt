-- What a content holds is determined, and so is why it is refused; and it is never both.
use Rattle.std.proofs.Common.{◌≡◌, ℕ, ◌+◌, List, [], ◌∷◌, refl, ap, inl, inr}
use Rattle.wb_rom.specs.declared.images.Image.{Image}
use Rattle.wb_rom.specs.ImageBytes.{IsImageOf}
use Rattle.wb_script.specs.declared.items.Item.{Item}
use Rattle.wb_script.specs.Script.{IsScript, IsFirstBad}
use Rattle.wb_cli.specs.declared.files.Kind.{Kind}
use Rattle.wb_cli.specs.declared.files.Kind.TheVariants as kind
use Rattle.wb_cli.specs.declared.refusals.Refusal.{Refusal}
use Rattle.wb_cli.specs.declared.refusals.Refusal.TheVariants as refusal
use Rattle.wb_asm.specs.declared.faults.AsmFault.{AsmFault}
use Rattle.wb_asm.specs.Assembly.{IsImageOfText, IsFirstFault}
use Rattle.wb_trace.specs.Moves.{EachTextHasOneAnswer}
use Rattle.wb_cli.specs.Checks.{Held, AnImage, AScript, SomeMoves, Holds, IsRefused, HoldsAll, FirstRefused}

-- what the crates below say of images and scripts
pub record KindLaws : Type 0 where
  pub one_image : (bytes : List ℕ) (first second : Image) → IsImageOf bytes first → IsImageOf bytes second → first ≡ second
  pub one_script : (text : List ℕ) (items others : List Item) → IsScript text items → IsScript text others → items ≡ others
  pub one_line : (text : List ℕ) (line other : ℕ) → IsFirstBad text line → IsFirstBad text other → line ≡ other
  pub script_never_both : (text : List ℕ) (items : List Item) (line : ℕ) → IsScript text items → IsFirstBad text line → ⊥
  pub moves : EachTextHasOneAnswer
  pub one_source_image : (text : List ℕ) (first second : Image) → IsImageOfText text first → IsImageOfText text second → first ≡ second
  pub one_source_fault : (text : List ℕ) (first second : AsmFault) → IsFirstFault text first → IsFirstFault text second → first ≡ second
  pub source_never_both : (text : List ℕ) (image : Image) (fault : AsmFault) → IsImageOfText text image → IsFirstFault text fault → ⊥

never_both : KindLaws → (kind : Kind) (place : ℕ) (bytes : List ℕ) (held : Held) (refusal : Refusal) → Holds kind bytes held → IsRefused kind place bytes refusal → ⊥
never_both laws kind.Image place bytes (AnImage image) (refusal.ImageLength at found) holds refused = refused.2 holds.len
never_both laws kind.Image place bytes (AnImage image) _ holds refused = refused
never_both laws kind.Script place text (AScript items) (refusal.ScriptLine line) holds refused = laws.script_never_both text items line holds refused
never_both laws kind.Script place text (AScript items) _ holds refused = refused
never_both laws kind.Source place text (AnImage image) (refusal.SourceFault fault) holds refused =
    laws.source_never_both text image fault holds refused
never_both laws kind.Source place text (AnImage image) _ holds refused = refused
never_both laws kind.Moves place text (SomeMoves moves) (refusal.MovesLine line) holds refused =
    laws.moves.never_both text moves line holds refused
never_both laws kind.Moves place text (SomeMoves moves) _ holds refused = refused
never_both laws _ place bytes _ refusal holds refused = holds

one_held : KindLaws → (kind : Kind) (bytes : List ℕ) (held other : Held) → Holds kind bytes held → Holds kind bytes other → held ≡ other
one_held laws kind.Image bytes (AnImage image) (AnImage other) h k = ap AnImage (laws.one_image bytes image other h k)
one_held laws kind.Image bytes (AnImage image) _ h k = absurd k
one_held laws kind.Script text (AScript items) (AScript others) h k = ap AScript (laws.one_script text items others h k)
one_held laws kind.Script text (AScript items) _ h k = absurd k
one_held laws kind.Source text (AnImage image) (AnImage other) h k = ap AnImage (laws.one_source_image text image other h k)
one_held laws kind.Source text (AnImage image) _ h k = absurd k
one_held laws kind.Moves text (SomeMoves moves) (SomeMoves others) h k = ap SomeMoves (laws.moves.one_list text moves others h k)
one_held laws kind.Moves text (SomeMoves moves) _ h k = absurd k
one_held laws _ bytes _ other h k = absurd h

one_refusal : KindLaws → (kind : Kind) (place : ℕ) (bytes : List ℕ) (refusal other : Refusal) → IsRefused kind place bytes refusal → IsRefused kind place bytes other → refusal ≡ other
one_refusal laws kind.Image place bytes (refusal.ImageLength at found) (refusal.ImageLength also count) h k = cc
one_refusal laws kind.Image place bytes (refusal.ImageLength at found) _ h k = absurd k
one_refusal laws kind.Script place text (refusal.ScriptLine line) (refusal.ScriptLine other) h k = ap refusal.ScriptLine (laws.one_line text line other h k)
one_refusal laws kind.Script place text (refusal.ScriptLine line) _ h k = absurd k
one_refusal laws kind.Source place text (refusal.SourceFault fault) (refusal.SourceFault other) h k =
    ap refusal.SourceFault (laws.one_source_fault text fault other h k)
one_refusal laws kind.Source place text (refusal.SourceFault fault) _ h k = absurd k
one_refusal laws kind.Moves place text (refusal.MovesLine line) (refusal.MovesLine other) h k =
    ap refusal.MovesLine (laws.moves.one_line text line other h k)
one_refusal laws kind.Moves place text (refusal.MovesLine line) _ h k = absurd k
one_refusal laws _ place bytes _ other h k = absurd h

-- the same of all contents
pub held_once : KindLaws → (kinds : List Kind) (contents : List (List ℕ)) (held others : List Held) → HoldsAll kinds contents held → HoldsAll kinds contents others → held ≡ others
held_once laws [] [] [] [] h k = refl
held_once laws [] [] [] (_ ∷ _) h k = absurd k
held_once laws (kind ∷ kinds) (bytes ∷ contents) (held ∷ rest) (other ∷ others) h k =
    let one : held ≡ other = one_held laws kind bytes held other h.0 k.0 in
    let more : rest ≡ others = held_once laws kinds contents rest others h.1 k.1 in
    cc
held_once laws (kind ∷ kinds) (bytes ∷ contents) (held ∷ rest) [] h k = absurd k
held_once laws _ _ _ others h k = absurd h

pub refused_once : KindLaws → (place : ℕ) (kinds : List Kind) (contents : List (List ℕ)) (refusal other : Refusal) → FirstRefused place kinds contents refusal → FirstRefused place kinds contents other → refusal ≡ other
refused_once laws place (kind ∷ kinds) (bytes ∷ contents) refusal other h k = elim h [
  | inl here ↦ elim k [
    | inl there ↦ one_refusal laws kind place bytes refusal other here there
    | inr later ↦ absurd (never_both laws kind place bytes later.0.0 refusal later.0.1 here)
  ]
  | inr later ↦ elim k [
    | inl there ↦ absurd (never_both laws kind place bytes later.0.0 other later.0.1 there)
    | inr also ↦ refused_once laws (place + 1) kinds contents refusal other later.1 also.1
  ]
]
refused_once laws place _ _ refusal other h k = absurd h

pub held_or_refused : KindLaws → (place : ℕ) (kinds : List Kind) (contents : List (List ℕ)) (held : List Held) (refusal : Refusal) → HoldsAll kinds contents held → FirstRefused place kinds contents refusal → ⊥
held_or_refused laws place (kind ∷ kinds) (bytes ∷ contents) (held ∷ rest) refusal h k = elim k [
  | inl here ↦ never_both laws kind place bytes held refusal h.0 here
  | inr later ↦ held_or_refused laws (place + 1) kinds contents rest refusal h.1 later.1
]
held_or_refused laws place (kind ∷ kinds) (bytes ∷ contents) [] refusal h k = h
held_or_refused laws place _ _ held refusal h k = k
