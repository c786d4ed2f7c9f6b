-- The headline: two images answer alike, for any two schedules that hold the same talk.
use Rattle.std.specs.Prelude.{◌≡◌, ℕ, true, false, None, List}
use Rattle.wb_rom.specs.declared.images.Image.{Image}
use Rattle.wb_port.specs.declared.accesses.Event.{Event}
use Rattle.wb_port.specs.declared.accesses.Letter.{Letter}
use Rattle.wb_port.specs.declared.accesses.Power.{Power}
use Rattle.wb_port.specs.declared.runs.Run.TheVariants.{Answered, Breach}
use Rattle.wb_word.specs.declared.numbers.Addr.{Addr}
use Rattle.wb_port.specs.Schedule.{powered, after, IsPolite, KeepsPace, talk, said}
use Rattle.wb_port.specs.Talk.{Talk}
use Rattle.wb_port.specs.Dialogue.{Fits}
use Rattle.wb_port.specs.Run.{EndsAs}

-- a host that obeys the chip: from the start, it transfers data only while a request stands, and the chip
-- executes at most k instructions between requests
pub record IsObedient (image : Image) (k : ℕ) (start : List ℕ) (s : List Event) : Type 0 where
  pub polite : IsPolite image s (powered start)
  pub paced : KeepsPace image k s (powered start)

-- For every start and any two schedules, one on each image, in which both hosts obey their chips and hold
-- the same talk, and this talk fits: the two schedules give the same bytes.
abbrev pub AnswersAlike : Image → Image → ℕ → ℕ → List Letter → Power → Type 0
AnswersAlike a b n k shape power =
    (start : List ℕ) (s t : List Event)
    → IsObedient a k start s → IsObedient b k start t
    → talk a start s ≡ talk b start t → Fits n shape power (talk a start s)
    → said a start s ≡ said b start t

-- no fitting dialogue's held run on the image comes to a breach
abbrev pub NeverBreaches : Image → ℕ → ℕ → List Letter → Power → Type 0
NeverBreaches image n k shape power =
    (d : Talk) (at : Addr) → Fits n shape power d → EndsAs image k true d (Breach at) → ⊥

-- What every obedient schedule comes to: the plain run of its talk is answered with the bytes that the
-- schedule said, and no breach was seen.
pub record IsFaithful (image : Image) (k : ℕ) (start : List ℕ) (s : List Event) : Type 0 where
  pub answered : EndsAs image k false (talk image start s) (Answered (said image start s))
  pub unbroken : (after image s (powered start)).monitor.breach ≡ None

-- The law that carries the headline: where no fitting dialogue's held run breaches, each obedient schedule
-- whose talk fits comes to what the eager host comes to, however host and chip interleave.
abbrev pub EverySchedule : Image → ℕ → ℕ → List Letter → Power → Type 0
EverySchedule image n k shape power =
    NeverBreaches image n k shape power
    → (start : List ℕ) (s : List Event) → IsObedient image k start s
    → Fits n shape power (talk image start s) → IsFaithful image k start s
