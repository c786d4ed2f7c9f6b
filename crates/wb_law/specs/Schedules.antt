-- Every schedule, and two images: what the eager host hears speaks for all hosts.
use Rattle.std.specs.Prelude.{◌≡◌, ℕ, false, List, [], ◌∷◌, ◌++◌, All}
use Rattle.wb_word.specs.declared.numbers.Addr.{Addr}
use Rattle.wb_rom.specs.declared.images.Image.{Image}
use Rattle.wb_port.specs.declared.accesses.Access.{Access}
use Rattle.wb_port.specs.declared.accesses.Event.{Event}
use Rattle.wb_port.specs.declared.accesses.Letter.{Letter}
use Rattle.wb_port.specs.declared.accesses.Power.{Power}
use Rattle.wb_port.specs.declared.chips.Chip.{Chip}
use Rattle.wb_port.specs.declared.runs.Run.TheVariants.{Answered}
use Rattle.wb_port.specs.Port.{access_reply}
use Rattle.wb_port.specs.Schedule.{powered, talk, said}
use Rattle.wb_port.specs.Talk.{Talk, dialogue, IsTransfer}
use Rattle.wb_port.specs.Dialogue.{Fits}
use Rattle.wb_port.specs.Run.{EndsAs}
use Rattle.wb_law.specs.Course.{AsksAfter}
use Rattle.wb_port.specs.Verdicts.{Breaks, Differs}
use Rattle.wb_port.specs.Alike.{IsObedient, IsFaithful, AnswersAlike, NeverBreaches, EverySchedule}

-- An obedient schedule is faithful where the held run of its own talk doesn't breach: then the plain run of
-- the talk is answered with the bytes that the schedule said, and the schedule saw no breach.
abbrev pub OwnTalkSuffices : Type 0
OwnTalkSuffices =
    (image : Image) (k : ℕ) (start : List ℕ) (s : List Event)
    → IsObedient image k start s
    → ((at : Addr) → Breaks image (talk image start s) k at → ⊥)
    → IsFaithful image k start s

-- Where no fitting dialogue's held run breaches, every obedient schedule whose talk fits is faithful.
abbrev pub ObedientSchedulesAreFaithful : Type 0
ObedientSchedulesAreFaithful =
    (image : Image) (n k : ℕ) (shape : List Letter) (power : Power) → EverySchedule image n k shape power

-- an obedient schedule that holds the dialogue and says these bytes
pub record IsSpoken (image : Image) (k : ℕ) (d : Talk) (bytes : List ℕ) : Type 0 where
  pub schedule : List Event
  pub obedient : IsObedient image k d.start schedule
  pub talks : talk image d.start schedule ≡ d
  pub says : said image d.start schedule ≡ bytes

-- An eager host is a host: a plain run that is answered is an obedient schedule that says the replies.
abbrev pub AnsweredRunsAreSchedules : Type 0
AnsweredRunsAreSchedules =
    (image : Image) (k : ℕ) (d : Talk) (replies : List ℕ)
    → EndsAs image k false d (Answered replies) → IsSpoken image k d replies

-- Where two images differ in a fitting dialogue, they don't answer alike.
abbrev pub DifferencesRefute : Type 0
DifferencesRefute =
    (a b : Image) (n k : ℕ) (shape : List Letter) (power : Power) (d : Talk)
    → Fits n shape power d → Differs a b d k → AnswersAlike a b n k shape power → ⊥

-- the two images give the same replies in each fitting dialogue that both answer
abbrev pub RepliesAlike : Image → Image → ℕ → ℕ → List Letter → Power → Type 0
RepliesAlike a b n k shape power =
    (d : Talk) (x y : List ℕ)
    → Fits n shape power d
    → EndsAs a k false d (Answered x) → EndsAs b k false d (Answered y) → x ≡ y

-- Two images answer alike where neither breaches in the held run of a fitting dialogue, and both give the same
-- replies in each fitting dialogue that both answer.
abbrev pub RepliesDecide : Type 0
RepliesDecide =
    (a b : Image) (n k : ℕ) (shape : List Letter) (power : Power)
    → NeverBreaches a n k shape power → NeverBreaches b n k shape power
    → RepliesAlike a b n k shape power → AnswersAlike a b n k shape power

-- The two images answer alike at each request: after the same data transfers from the same start, an access at
-- the first request gives the same on both, wherever the dialogue with this access at its end fits.
abbrev pub RequestsAlike : Image → Image → ℕ → ℕ → List Letter → Power → Type 0
RequestsAlike a b n k shape power =
    (start : List ℕ) (front : List Access) (x : Access) (c d : Chip)
    → All IsTransfer front → Fits n shape power (dialogue start (front ++ x ∷ []))
    → AsksAfter a k front (powered start) c → AsksAfter b k front (powered start) d
    → access_reply x c.machine ≡ access_reply x d.machine

-- Two images that answer alike at each request answer each dialogue alike, status reads included.
abbrev pub RequestsDecide : Type 0
RequestsDecide =
    (a b : Image) (n k : ℕ) (shape : List Letter) (power : Power)
    → RequestsAlike a b n k shape power → RepliesAlike a b n k shape power
