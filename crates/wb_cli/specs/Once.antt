-- Calls have one answer: their words and the contents of their files decide the status and the text.
use Rattle.std.specs.Prelude.{◌≡◌, ◌≢◌, ℕ, List}
use Rattle.std.specs.declared.option.Option.{Option}
use Rattle.std.specs.declared.option.Option.TheVariants.{None, Some}
use Rattle.wb_base.specs.Faults.{Rose}
use Rattle.wb_base.specs.Sink.{Appends}
use Rattle.wb_cli.specs.declared.statuses.Status.{Status}
use Rattle.wb_cli.specs.declared.statuses.Status.TheVariants as status
use Rattle.wb_cli.specs.Answers.{Answers, Met, Put}
use Rattle.wb_cli.specs.Plan.{Plan, Task, Compare, Demo, plan_of}

-- a task other than a comparison, of whose several differences any may be told, and than a demo, which has a law of its
-- own
abbrev pub IsSettled : Task → Type 0
IsSettled (Compare question) = ⊥
IsSettled (Demo number) = ⊥
IsSettled _ = Unit {0}

-- the words have no plan, or a plan for such a task
abbrev pub IsSettledPlan : Option Plan → Type 0
IsSettledPlan None = Unit {0}
IsSettledPlan (Some plan) = IsSettled plan.task

-- two calls with the same words, on shelves that tell the same
pub record AreAlike (met other : Met) : Type 0 where
  pub words : met.words ≡ other.words
  pub contents : (name : List ℕ) → met.told name ≡ other.told name

-- the shelf tells its contents, no fault was counted, and memory wasn't refused
pub record IsCalm (met : Met) (put : Put) (answer : Status) : Type 0 where
  pub tells : (name : List ℕ) → met.told name ≢ None
  pub no_read_fault : Rose met.faults_before met.faults_after → ⊥
  pub no_write_fault : Rose put.refused_before put.refused_after → ⊥
  pub had_memory : answer ≢ status.NoMemory

-- two sinks took one text
pub record TookOneText (put other : Put) : Type 0 where
  pub text : List ℕ
  pub first : Appends put.taken_before put.taken_after text
  pub second : Appends other.taken_before other.taken_after text

-- two calm calls that are alike and settled have one status, and write one text
abbrev pub OneAnswer : Type 0
OneAnswer = (met other : Met) (put also : Put) (answer second : Status) → AreAlike met other
    → IsSettledPlan (plan_of met.words)
    → IsCalm met put answer → IsCalm other also second → Answers met put answer → Answers other also second
    → (answer ≡ second) × TookOneText put also
