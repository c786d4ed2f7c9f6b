-- Why an exploration stops before its end.
use Rattle.std.specs.Prelude.{◌≡◌, ℕ, ◌+◌, ◌<◌, Bool, true, false, Option, Some, None, List, [], length, slice_get, All}
use Rattle.wb_rom.specs.declared.images.Image.{Image}
use Rattle.wb_blast.specs.declared.places.Place.{Place}
use Rattle.wb_blast.specs.declared.places.Place.TheVariants.{Byte, Cell}
use Rattle.wb_port.specs.declared.accesses.Kind.{Kind}
use Rattle.wb_port.specs.declared.accesses.Power.{Power}
use Rattle.wb_port.specs.declared.points.Point.{Point}
use Rattle.wb_port.specs.Verdicts.{Breaks}
use Rattle.wb_gate.specs.Circuit.{Circuit}
use Rattle.wb_solve.specs.declared.search.Answer.{Answer}
use Rattle.wb_solve.specs.Answers.{IsSpent}
use Rattle.wb_query.specs.Asking.{IsWrong}
use Rattle.wb_query.specs.Oracles.{AnswersNext}
use Rattle.wb_point.specs.Says.{Says}
use Rattle.wb_explore.specs.declared.plan.Plan.{Plan}
use Rattle.wb_explore.specs.declared.reached.ReachedPoint.{ReachedPoint}
use Rattle.wb_explore.specs.declared.faults.Asked.{Asked}
use Rattle.wb_explore.specs.declared.faults.ExploreFault.{ExploreFault}
use Rattle.wb_explore.specs.declared.faults.ExploreFault.TheVariants as fault
use Rattle.wb_explore.specs.Purses.{Holding, AreDifferent}
use Rattle.wb_explore.specs.Plans.{IsPlanned, is_write, is_any}
use Rattle.wb_explore.specs.Layers.{AddsPassed}

-- one point more than the budget has, pairwise different: those that the purse had, then points that were added
pub record AreTooMany (image : Image) (p : Plan) (before : Holding) (list : List ReachedPoint) : Type 0 where
  pub adds : AddsPassed image p before.reached list
  pub different : AreDifferent list
  pub count : length list ≡ before.budget.points + 1

-- the place is a bit of a byte that a write of these kinds gives, or of a word of the start where any is allowed
abbrev pub IsChosenPlace : List Kind → Power → Place → Type 0
IsChosenPlace ks p (Byte place b) = (b < 8) × (is_write (slice_get ks place) ≡ true)
IsChosenPlace ks p (Cell place b) = (place < 256) × (b < 16) × (is_any p ≡ true)

-- The formula says its question, which is about the plan's dialogues alone: it marks points of the plan's side, and
-- asks for no last access. The formula has a place for each input variable; the places are pairwise different, and
-- bits that the dialogues choose.
pub record IsAsked (image : Image) (p : Plan) (a : Asked) : Type 0 where
  pub says : Says image image p.pace p.power a.blasted.formula a.blasted.places.items a.query
  pub kinds : a.query.kinds ≡ p.kinds
  pub marks : All (λ (m : Point). m.side ≡ p.side) a.query.marks
  pub last : a.query.last ≡ []
  pub inputs : a.blasted.formula.inputs ≡ length a.blasted.places.items
  pub once : (j k : ℕ) (place : Place) → slice_get a.blasted.places.items j ≡ Some place → slice_get a.blasted.places.items k ≡ Some place → j ≡ k
  pub places : All (IsChosenPlace p.kinds p.power) a.blasted.places.items

-- What each fault says, where the oracle is sound or not, and of the purse before the call.
abbrev pub IsCause : Image → Plan → Bool → Holding → ExploreFault → Type 0
IsCause image p sound before (fault.Breach d at) = IsPlanned p d × Breaks image d p.pace at
IsCause image p sound before (fault.Points list) = AreTooMany image p before list
IsCause image p sound before (fault.Conflicts asked steps) =
    IsAsked image p asked × IsSpent asked.blasted.formula before.budget.conflicts steps × (sound ≡ true)
IsCause image p sound before (fault.BadAnswer asked answer) =
    IsAsked image p asked × IsWrong asked.blasted.formula answer × (sound ≡ false)
IsCause image p sound before fault.OutOfMemory = Unit {0}

-- what holds of the answer that a fault carries, with its formula
abbrev pub OfBadAnswer : (Circuit → Answer → Type 0) → ExploreFault → Type 0
OfBadAnswer P (fault.BadAnswer asked answer) = P asked.blasted.formula answer
OfBadAnswer P (fault.Breach d at) = Unit {0}
OfBadAnswer P (fault.Points list) = Unit {0}
OfBadAnswer P (fault.Conflicts asked steps) = Unit {0}
OfBadAnswer P fault.OutOfMemory = Unit {0}

-- where the oracle tells the answers that it holds and how many it has given, the answer is the one given last
abbrev pub IsLastAnswer : Option (List Answer) → Option ℕ → Option ℕ → Circuit → Answer → Type 0
IsLastAnswer (Some answers) (Some first) given c answer = (before : ℕ) × AnswersNext c (Some answers) (Some before) given answer
IsLastAnswer (Some answers) None given c answer = Unit {0}
IsLastAnswer None first given c answer = Unit {0}

-- where the oracle told how many of its answers it has given, it tells so still
abbrev pub StillTells : Option (List Answer) → Option ℕ → Option ℕ → Type 0
StillTells (Some answers) (Some before) after = (given : ℕ) × (after ≡ Some given)
StillTells (Some answers) None after = Unit {0}
StillTells None before after = Unit {0}
