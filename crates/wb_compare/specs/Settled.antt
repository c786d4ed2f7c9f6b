-- What is settled of the dialogues of some kinds: that none breaches, which points they pass, and that both images
-- give the same replies at the request that follows.
use Rattle.std.specs.Prelude.{◌≡◌, ◌<◌, ℕ, Bool, Option, None, List, length, Contains}
use Rattle.wb_word.specs.declared.numbers.Addr.{Addr}
use Rattle.wb_word.specs.declared.sides.Side.{Side}
use Rattle.wb_word.specs.declared.sides.Side.TheVariants as side
use Rattle.wb_rom.specs.declared.images.Image.{Image}
use Rattle.wb_term.specs.Inputs.{Assignment, IsAssignment}
use Rattle.wb_port.specs.declared.accesses.Access.{Access}
use Rattle.wb_port.specs.declared.accesses.Kind.{Kind}
use Rattle.wb_port.specs.declared.accesses.Kind.TheVariants as kind
use Rattle.wb_port.specs.declared.chips.Chip.{Chip}
use Rattle.wb_port.specs.declared.points.Point.{Point}
use Rattle.wb_port.specs.Dialogue.{AllowsEach}
use Rattle.wb_port.specs.Port.{access_reply}
use Rattle.wb_port.specs.Talk.{Talk}
use Rattle.wb_port.specs.Points.{Passes, image_of}
use Rattle.wb_port.specs.Verdicts.{Breaks, Overruns}
use Rattle.wb_point.specs.Dialogues.{dialogue_under}
use Rattle.wb_explore.specs.declared.plan.Plan.{Plan}
use Rattle.wb_explore.specs.Runs.{Runs, Asks}
use Rattle.wb_explore.specs.Plans.{runs_of}
use Rattle.wb_replies.specs.Differences.{asked_for}
use Rattle.wb_compare.specs.declared.questions.Question.{Question}
use Rattle.wb_compare.specs.Growing.{allows_next}

-- what is explored of the dialogues of these kinds on one side
abbrev pub plan_of : Question → Side → List Kind → Plan
plan_of q s ks = record { side = s; pace = q.k; power = q.power; kinds = ks }

-- the held runs of these dialogues on a side
abbrev pub runs_on : Image → Image → Question → Side → List Kind → Runs
runs_on a b q s ks = runs_of (image_of a b s) (plan_of q s ks)

-- no held run of these dialogues breaches, and each point that one passes is among the points
pub record IsFollowed (a b : Image) (q : Question) (s : Side) (points : List Point) (ks : List Kind) : Type 0 where
  pub breaches : (i : Assignment) → IsAssignment i → (at : Addr) → Breaks (image_of a b s) (dialogue_under ks i q.power) q.k at → ⊥
  pub passed : (i : Assignment) → IsAssignment i → (x : Point) → Passes (image_of a b s) s q.k (dialogue_under ks i q.power) x → Contains points x

-- no held run of these dialogues overruns
abbrev pub IsPaced : Image → Image → Question → Side → List Kind → Type 0
IsPaced a b q s ks = (i : Assignment) → IsAssignment i → Overruns (image_of a b s) (dialogue_under ks i q.power) q.k → ⊥

-- whether a data read may follow
abbrev pub wants_read : Question → List Kind → Bool
wants_read q ks = allows_next q.shape ks kind.Read

-- At the request after the same dialogue, both images give the same reply to a status read and, where it may follow,
-- to a data read.
abbrev pub IsAlike : Image → Image → Question → List Kind → Type 0
IsAlike a b q ks =
    (i : Assignment) → IsAssignment i → (c d : Chip)
    → Asks (runs_on a b q side.A ks) i c → Asks (runs_on a b q side.B ks) i d
    → (x : Access) → Contains (asked_for (wants_read q ks)) x
    → access_reply x c.machine ≡ access_reply x d.machine

-- so it is for all kinds that the shape allows, of fewer transfers than this
abbrev pub AreAlikeBelow : Image → Image → Question → ℕ → Type 0
AreAlikeBelow a b q m = (ks : List Kind) → AllowsEach q.shape ks → length ks < m → IsAlike a b q ks

-- after these dialogues no request follows on the side
abbrev pub IsSilent : Image → Image → Question → Side → List Kind → Type 0
IsSilent a b q s ks = (i : Assignment) → IsAssignment i → (c : Chip) → Asks (runs_on a b q s ks) i c → ⊥

-- The dialogues of these kinds are settled: on each side they are followed and, where no overrun is kept, in pace;
-- and their replies are alike.
pub record IsSettled (a b : Image) (q : Question) (points : List Point) (kept : Side → Option Talk) (ks : List Kind) : Type 0 where
  pub followed : (s : Side) → IsFollowed a b q s points ks
  pub paced : (s : Side) → kept s ≡ None → IsPaced a b q s ks
  pub alike : IsAlike a b q ks
