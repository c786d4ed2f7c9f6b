-- What a call answers: its report and its exit status.
use Rattle.std.specs.Prelude.{◌≡◌, ℕ, ◌<◌, List, length, take, Option}
use Rattle.std.specs.declared.result.Result.{Result}
use Rattle.wb_base.specs.Faults.{Rose}
use Rattle.wb_base.specs.Sink.{Appends, Keeps}
use Rattle.wb_cli.specs.declared.outcomes.Outcome.{Outcome}
use Rattle.wb_cli.specs.declared.refusals.Refusal.{Refusal}
use Rattle.wb_cli.specs.declared.statuses.Ending.{Ending}
use Rattle.wb_cli.specs.declared.statuses.Ending.TheVariants as ending
use Rattle.wb_cli.specs.declared.statuses.Status.{Status}
use Rattle.wb_cli.specs.declared.statuses.Status.TheVariants as status
use Rattle.wb_cli.specs.Files.{Contents}
use Rattle.wb_cli.specs.Outcome.{ComesTo}
use Rattle.wb_cli.specs.Plan.{plan_of}
use Rattle.wb_cli.specs.Report.{IsReply}

-- what a call met: what its shelf tells and its count of faults before and after, and the words
pub record Met : Type 0 where
  pub told : Contents
  pub faults_before : ℕ
  pub faults_after : ℕ
  pub words : List (List ℕ)

-- a report with its ending is right: it is that of what the call came to
pub record IsRight (met : Met) (end : Ending) (text : List ℕ) : Type 0 where
  pub result : Result Outcome Refusal
  pub came_to : ComesTo met.told met.faults_before met.faults_after (plan_of met.words) result
  pub reply : IsReply result end text

-- what a sink took, and its count of faults, before and after
pub record Put : Type 0 where
  pub taken_before : Option (List ℕ)
  pub taken_after : Option (List ℕ)
  pub refused_before : ℕ
  pub refused_after : ℕ

-- the right report was written whole, without a fault of the sink
pub record Writes (met : Met) (put : Put) (end : Ending) : Type 0 where
  pub text : List ℕ
  pub right : IsRight met end text
  pub written : Appends put.taken_before put.taken_after text
  pub calm : put.refused_after ≡ put.refused_before

-- a front part of the right report, and not all of it, was written before a counted fault
pub record WritesPart (met : Met) (put : Put) : Type 0 where
  pub end : Ending
  pub text : List ℕ
  pub right : IsRight met end text
  pub rose : Rose put.refused_before put.refused_after
  pub front : (k : ℕ) × (k < length text) × Appends put.taken_before put.taken_after (take k text)

-- what each exit status says
abbrev pub Answers : Met → Put → Status → Type 0
Answers met put status.Fine = Writes met put ending.Fine
Answers met put status.Shown = Writes met put ending.Shown
Answers met put status.BadWords = Writes met put ending.BadWords
Answers met put status.Refused = Writes met put ending.Refused
Answers met put status.Breach = Writes met put ending.Breach
Answers met put (status.Unknown spent) = Writes met put (ending.Unknown spent)
Answers met put status.ReadFault = Writes met put ending.ReadFault
Answers met put status.WriteFault = WritesPart met put
Answers met put status.NoMemory = Keeps put.taken_before put.taken_after × (put.refused_after ≡ put.refused_before)
