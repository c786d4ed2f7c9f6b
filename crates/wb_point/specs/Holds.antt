-- When a question about two images holds.
use Rattle.std.specs.Prelude.{◌≡◌, ◌≢◌, ℕ, false, ◌==◌, List, [], ◌∷◌, ◌++◌, All, Contains, slice_index}
use Rattle.std.specs.Int.{bit_at}
use Rattle.wb_term.specs.Inputs.{Assignment}
use Rattle.wb_rom.specs.declared.images.Image.{Image}
use Rattle.wb_port.specs.declared.accesses.Access.{Access}
use Rattle.wb_port.specs.declared.accesses.Power.{Power}
use Rattle.wb_port.specs.declared.points.Point.{Point}
use Rattle.wb_port.specs.declared.runs.Run.TheVariants.{Answered}
use Rattle.wb_port.specs.Talk.{Talk}
use Rattle.wb_port.specs.Verdicts.{Asks}
use Rattle.wb_port.specs.Run.{EndsAs}
use Rattle.wb_port.specs.Points.{Passes, image_of}
use Rattle.wb_point.specs.declared.question.FixedBit.{FixedBit}
use Rattle.wb_point.specs.declared.question.Query.{Query}
use Rattle.wb_point.specs.Dialogues.{dialogue_under}

-- the held run of the dialogue passes the point, on the point's side
abbrev pub IsPassed : Image → Image → ℕ → Talk → Point → Type 0
IsPassed a b k d p = Passes (image_of a b p.side) p.side k d p

-- the bit of the inputs' byte has its value
abbrev pub HasValue : Assignment → FixedBit → Type 0
HasValue inputs f = (bit_at (slice_index inputs.bytes f.place) f.bit == 1) ≡ f.value

-- the dialogue, and then one access
abbrev pub followed_by : Talk → Access → Talk
followed_by d x = record d { accesses = d.accesses ++ x ∷ [] }

-- both images answer the dialogue followed by an access that asks for a byte, and their replies to this differ
pub record AnswersDiffer (a b : Image) (k : ℕ) (d : Talk) (x : Access) : Type 0 where
  pub asks : Asks x
  pub first_said : List ℕ
  pub first_reply : ℕ
  pub second_said : List ℕ
  pub second_reply : ℕ
  pub first : EndsAs a k false (followed_by d x) (Answered (first_said ++ first_reply ∷ []))
  pub second : EndsAs b k false (followed_by d x) (Answered (second_said ++ second_reply ∷ []))
  pub differ : first_reply ≢ second_reply

-- there are no last accesses, or the answers to one of them differ
abbrev pub IsToldApart : Image → Image → ℕ → Talk → List Access → Type 0
IsToldApart a b k d [] = Unit {0}
IsToldApart a b k d (x ∷ xs) = (y : Access) × Contains (x ∷ xs) y × AnswersDiffer a b k d y

-- The question holds under inputs at a pace and a power: its dialogue passes each marked point, each fixed bit has
-- its value, and the last accesses, where there are some, tell the images apart.
pub record HoldsUnder (a b : Image) (k : ℕ) (p : Power) (q : Query) (inputs : Assignment) : Type 0 where
  pub marks : All (IsPassed a b k (dialogue_under q.kinds inputs p)) q.marks
  pub fixed : All (HasValue inputs) q.fixed
  pub last : IsToldApart a b k (dialogue_under q.kinds inputs p) q.last
