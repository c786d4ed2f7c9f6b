-- Which calls get through: their words have a plan, their files are told and valid, and no fault was counted.
use Rattle.std.specs.Prelude.{◌≡◌, ◌⊎◌, ℕ, ◌≤◌, ◌^◌, List, [], ◌∷◌, length}
use Rattle.std.specs.declared.option.Option.TheVariants.{Some}
use Rattle.wb_base.specs.Faults.{Rose}
use Rattle.wb_rom.specs.declared.images.Image.{Image}
use Rattle.wb_port.specs.Dialogue.{input_bits}
use Rattle.wb_port.specs.Points.{ReachedAtMost}
use Rattle.wb_compare.specs.declared.questions.Question.{Question}
use Rattle.wb_cli.specs.declared.outcomes.Outcome.{Outcome}
use Rattle.wb_cli.specs.declared.statuses.Status.{Status}
use Rattle.wb_cli.specs.declared.statuses.Status.TheVariants as status
use Rattle.wb_cli.specs.Answers.{Answers, Met, Put}
use Rattle.wb_cli.specs.Checks.{Held, AnImage, HoldsAll}
use Rattle.wb_cli.specs.Files.{Contents, limit_of}
use Rattle.wb_cli.specs.Outcome.{Makes}
use Rattle.wb_cli.specs.Plan.{NamedFile, Plan, Task, Run, Compare, kinds_of, plan_of}
use Rattle.wb_cli.specs.Report.{outcome_ending}
use Rattle.wb_cli.specs.Status.{ending_status}

-- the shelf tells these contents of the files, none longer than it may be
abbrev pub Tells : Contents → List NamedFile → List (List ℕ) → Type 0
Tells told [] [] = Unit {0}
Tells told (file ∷ files) (bytes ∷ contents) =
    (told file.name ≡ Some (Some bytes)) × (length bytes ≤ limit_of file.kind) × Tells told files contents
Tells told _ _ = ⊥

-- the words have this plan, the files are told and hold this, and no fault was counted
pub record IsValid (met : Met) (put : Put) (plan : Plan) (held : List Held) : Type 0 where
  pub planned : plan_of met.words ≡ Some plan
  pub contents : List (List ℕ)
  pub tells : Tells met.told plan.files contents
  pub holds : HoldsAll (kinds_of plan.files) contents held
  pub no_read_fault : Rose met.faults_before met.faults_after → ⊥
  pub no_write_fault : Rose put.refused_before put.refused_after → ⊥

-- the work was done: the status is that of what the task made of what the files hold
pub record IsDone (task : Task) (held : List Held) (answer : Status) : Type 0 where
  pub made : Outcome
  pub makes : Makes task held made
  pub answer_is : answer ≡ ending_status (outcome_ending made)

-- valid calls do their work, or are refused memory
abbrev pub ValidCallsAreDone : Type 0
ValidCallsAreDone = (met : Met) (put : Put) (answer : Status) (plan : Plan) (held : List Held)
    → Answers met put answer → IsValid met put plan held → (answer ≡ status.NoMemory) ⊎ IsDone plan.task held answer

-- the statuses of work that was done: 0, and 1 for a script that ended early or silent; those of the four verdicts for
-- a comparison
abbrev pub IsExpected : Task → Status → Type 0
IsExpected Run status.Shown = Unit {0}
IsExpected (Compare question) status.Shown = Unit {0}
IsExpected (Compare question) status.Breach = Unit {0}
IsExpected (Compare question) (status.Unknown spent) = Unit {0}
IsExpected _ status.Fine = Unit {0}
IsExpected _ _ = ⊥

-- done work ends with a status of its task
abbrev pub DoneWorkIsExpected : Type 0
DoneWorkIsExpected = (task : Task) (held : List Held) (answer : Status) → IsDone task held answer → IsExpected task answer

-- the statuses of a comparison that isn't left open
abbrev pub IsDecided : Status → Type 0
IsDecided status.Fine = Unit {0}
IsDecided status.Shown = Unit {0}
IsDecided status.Breach = Unit {0}
IsDecided _ = ⊥

-- A comparison isn't left open where its budget has as many points as are reached, and as many conflicts as the inputs
-- of a fitting dialogue have values.
abbrev pub BudgetsSuffice : Type 0
BudgetsSuffice = (a b : Image) (q : Question) (answer : Status)
    → ReachedAtMost a b q.n q.k q.shape q.power q.budget.points
    → 2 ^ input_bits q.shape q.power ≤ q.budget.conflicts
    → IsDone (Compare q) (AnImage a ∷ AnImage b ∷ []) answer → IsDecided answer
