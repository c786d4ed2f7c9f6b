-- What each verdict says of two images.
use Rattle.std.specs.Prelude.{◌≡◌, ℕ, Bool, false, List, [], ◌∷◌, ◌++◌, All}
use Rattle.wb_word.specs.declared.sides.Side.{Side}
use Rattle.wb_word.specs.declared.sides.Side.TheVariants as side
use Rattle.wb_rom.specs.declared.images.Image.{Image}
use Rattle.wb_gate.specs.Circuit.{Circuit}
use Rattle.wb_port.specs.declared.accesses.Access.{Access}
use Rattle.wb_port.specs.declared.accesses.Event.{Event}
use Rattle.wb_port.specs.Schedule.{talk}
use Rattle.wb_port.specs.Talk.{Talk, IsTransfer}
use Rattle.wb_port.specs.Points.{image_of, ReachedAtMost}
use Rattle.wb_port.specs.Alike.{IsObedient, IsFaithful, AnswersAlike, NeverBreaches}
use Rattle.wb_port.specs.Verdicts.{Differs, Breaks, Overruns}
use Rattle.wb_law.specs.Schedules.{RepliesAlike}
use Rattle.wb_solve.specs.declared.search.Answer.{Answer}
use Rattle.wb_query.specs.Asking.{IsWrong}
use Rattle.wb_compare.specs.declared.questions.Question.{Question}
use Rattle.wb_compare.specs.declared.verdicts.Pace.{Pace}
use Rattle.wb_compare.specs.declared.verdicts.Pace.TheVariants as pace
use Rattle.wb_compare.specs.declared.verdicts.Verdict.{Verdict}
use Rattle.wb_compare.specs.declared.verdicts.Verdict.TheVariants as verdict
use Rattle.wb_compare.specs.declared.verdicts.CompareFault.{CompareFault}
use Rattle.wb_compare.specs.declared.verdicts.CompareFault.TheVariants as fault
use Rattle.wb_compare.specs.Questions.{FitsQuestion, IsPlainOf}
use Rattle.wb_compare.specs.Licences.{IsLicence, IsAskedOf}

-- no fitting dialogue's held run overruns its pace
abbrev pub NeverOverruns : Image → Question → Type 0
NeverOverruns image q = (d : Talk) → FitsQuestion q d → Overruns image d q.k → ⊥

-- no fitting dialogue's held run breaches
abbrev pub IsUnbroken : Image → Question → Type 0
IsUnbroken image q = NeverBreaches image q.n q.k q.shape q.power

-- every schedule in which host and chip obey and whose talk fits comes to what the eager host comes to
abbrev pub IsFaithfulThroughout : Image → Question → Type 0
IsFaithfulThroughout image q =
    (start : List ℕ) (s : List Event) → IsObedient image q.k start s
    → FitsQuestion q (talk image start s) → IsFaithful image q.k start s

-- What EQUAL says: any two obedient schedules of one talk that fits give the same bytes; so do the eager hosts in
-- every fitting dialogue; no held run breaches, so obedient schedules are faithful; and few points are reached.
pub record AreEqual (a b : Image) (q : Question) : Type 0 where
  pub alike : AnswersAlike a b q.n q.k q.shape q.power
  pub replies : RepliesAlike a b q.n q.k q.shape q.power
  pub first_unbroken : IsUnbroken a q
  pub second_unbroken : IsUnbroken b q
  pub first_faithful : IsFaithfulThroughout a q
  pub second_faithful : IsFaithfulThroughout b q
  pub points : ReachedAtMost a b q.n q.k q.shape q.power q.budget.points

-- an overrun of the second side is told only where the first has none
abbrev pub IsFirstTo : Image → Question → Side → Type 0
IsFirstTo a q side.A = Unit {0}
IsFirstTo a q side.B = NeverOverruns a q

-- both sides keep the pace in every fitting dialogue; or the held run of this one overruns on this side
abbrev pub IsPace : Image → Image → Question → Pace → Type 0
IsPace a b q pace.Kept = NeverOverruns a q × NeverOverruns b q
IsPace a b q (pace.Overrun s d) = IsPlainOf q d × Overruns (image_of a b s) d q.k × IsFirstTo a q s

-- only the last access may be a status read
pub record EndsTransfers (d : Talk) : Type 0 where
  pub front : List Access
  pub last : Access
  pub parts : d.accesses ≡ front ++ last ∷ []
  pub transfers : All IsTransfer front

abbrev pub IsVerdict : Image → Image → Question → Verdict → Type 0
IsVerdict a b q (verdict.Equal p) = AreEqual a b q × IsPace a b q p
IsVerdict a b q (verdict.Different d) = FitsQuestion q d × EndsTransfers d × Differs a b d q.k
IsVerdict a b q (verdict.Breach s d at) = IsPlainOf q d × Breaks (image_of a b s) d q.k at
IsVerdict a b q (verdict.Unknown spent) = IsLicence a b q spent

-- why there is no verdict: an oracle that isn't sound gave a wrong answer to a question about the images, or none
abbrev pub IsCause : Image → Image → Question → Bool → CompareFault → Type 0
IsCause a b q sound (fault.BadAnswer asked answer) =
    IsAskedOf a b q asked × IsWrong asked.blasted.formula answer × (sound ≡ false)
IsCause a b q sound fault.OutOfMemory = Unit {0}

-- what holds of the answer that a fault carries, with its formula
abbrev pub OfBadAnswer : (Circuit → Answer → Type 0) → CompareFault → Type 0
OfBadAnswer P (fault.BadAnswer asked answer) = P asked.blasted.formula answer
OfBadAnswer P fault.OutOfMemory = Unit {0}

-- what holds where the images were compared to the end, or told apart
abbrev pub OfAnswered : Type 0 → Verdict → Type 0
OfAnswered P (verdict.Equal p) = P
OfAnswered P (verdict.Different d) = P
OfAnswered P (verdict.Breach s d at) = Unit {0}
OfAnswered P (verdict.Unknown spent) = Unit {0}
