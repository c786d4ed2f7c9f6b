-- What is true of the demo pair of every body, so of every number.
use Rattle.std.specs.Prelude.{ℕ, List, [], ◌∷◌}
use Rattle.wb_word.specs.declared.sides.Side.TheVariants as side
use Rattle.wb_rom.specs.declared.images.Image.{Image}
use Rattle.wb_port.specs.declared.accesses.Letter.{Letter}
use Rattle.wb_port.specs.declared.accesses.Letter.TheVariants as letter
use Rattle.wb_port.specs.declared.accesses.Power.{Power}
use Rattle.wb_port.specs.Talk.{Talk}
use Rattle.wb_port.specs.Dialogue.{Fits}
use Rattle.wb_port.specs.Points.{ReachedAtMostOn, ReachedAtMost}
use Rattle.wb_port.specs.Alike.{AnswersAlike, NeverBreaches}
use Rattle.wb_port.specs.Verdicts.{Overruns, Differs}
use Rattle.wb_gen.specs.Demo.{body_of, IsBody, IsPairOf}

-- the demo compares dialogues of at most so many transfers, at this pace, of this shape
abbrev pub demo_transfers : ℕ
demo_transfers = 4

abbrev pub demo_pace : ℕ
demo_pace = 101

abbrev pub demo_shape : List Letter
demo_shape = letter.W ∷ letter.R ∷ letter.W ∷ letter.R ∷ []

-- the dialogue is one of those
abbrev pub FitsDemo : Power → Talk → Type 0
FitsDemo power d = Fits demo_transfers demo_shape power d

-- no such dialogue's held run overruns on the image
abbrev pub NeverOverruns : Image → Power → Type 0
NeverOverruns image power = (d : Talk) → FitsDemo power d → Overruns image d demo_pace → ⊥

-- few points are reached on each side
pub record FewPoints (a b : Image) (power : Power) : Type 0 where
  pub first : ReachedAtMostOn a side.A demo_transfers demo_pace demo_shape power 283
  pub second : ReachedAtMostOn b side.B demo_transfers demo_pace demo_shape power 411
  pub both : ReachedAtMost a b demo_transfers demo_pace demo_shape power 694

-- neither side breaches or overruns
pub record KeepsGoing (a b : Image) (power : Power) : Type 0 where
  pub first_unbroken : NeverBreaches a demo_transfers demo_pace demo_shape power
  pub second_unbroken : NeverBreaches b demo_transfers demo_pace demo_shape power
  pub first_paced : NeverOverruns a power
  pub second_paced : NeverOverruns b power

-- no dialogue differs, and any two hosts that hold the same talk hear the same
pub record SaysTheSame (a b : Image) (power : Power) : Type 0 where
  pub equal : (d : Talk) → FitsDemo power d → Differs a b d demo_pace → ⊥
  pub alike : AnswersAlike a b demo_transfers demo_pace demo_shape power

-- The body of every number is a body.
abbrev pub NumbersHaveBodies : Type 0
NumbersHaveBodies = (number : ℕ) → IsBody (body_of number)

-- At most 283 points are reached on the first side of a demo pair, and at most 411 on the second.
abbrev pub PairsReachFewPoints : Type 0
PairsReachFewPoints =
    (body : List ℕ) (a b : Image) (power : Power) → IsBody body → IsPairOf body a b → FewPoints a b power

-- No held run on a demo pair breaches or overruns.
abbrev pub PairsKeepGoing : Type 0
PairsKeepGoing =
    (body : List ℕ) (a b : Image) (power : Power) → IsBody body → IsPairOf body a b → KeepsGoing a b power

-- No dialogue differs on a demo pair.
abbrev pub PairsSayTheSame : Type 0
PairsSayTheSame =
    (body : List ℕ) (a b : Image) (power : Power) → IsBody body → IsPairOf body a b → SaysTheSame a b power
