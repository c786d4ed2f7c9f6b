-- A count of faults stays but where its fault is answered.
use Rattle.std.proofs.Common.{◌≡◌, ℕ, List, Option, None, Some, Result, Ok, Err}
use Rattle.wb_cli.specs.declared.outcomes.Outcome.{Outcome}
use Rattle.wb_cli.specs.declared.refusals.Refusal.{Refusal}
use Rattle.wb_cli.specs.declared.refusals.Refusal.TheVariants as refusal
use Rattle.wb_cli.specs.declared.statuses.Ending.{Ending}
use Rattle.wb_cli.specs.declared.statuses.Ending.TheVariants as ending
use Rattle.wb_cli.specs.declared.statuses.Status.{Status}
use Rattle.wb_cli.specs.declared.statuses.Status.TheVariants as status
use Rattle.wb_cli.specs.Answers.{Answers, IsRight, Met, Put}
use Rattle.wb_cli.specs.Counts.{CountsStay, ReadsWentWell}
use Rattle.wb_cli.specs.Files.{Contents}
use Rattle.wb_cli.specs.Outcome.{ComesTo}
use Rattle.wb_cli.specs.Plan.{Plan, plan_of}
use Rattle.wb_cli.specs.Report.{IsReply}

read_well : (told : Contents) (before now : ℕ) (plan : Option Plan) (result : Result Outcome Refusal) (end : Ending) (text : List ℕ)
    → (end ≡ ending.ReadFault → ⊥) → ComesTo told before now plan result → IsReply result end text → now ≡ before
read_well told before now (Some plan) (Ok made) end text other comes reply = comes.calm
read_well told before now (Some plan) (Err (refusal.ReadFault place)) end text other comes reply = absurd (other reply.0)
read_well told before now (Some plan) (Err (refusal.TooLong place)) end text other comes reply = comes.1
read_well told before now (Some plan) (Err refused) end text other comes reply = comes.calm
read_well told before now None (Err refusal.BadWords) end text other comes reply = comes
read_well told before now None _ end text other comes reply = absurd comes

right_well : (met : Met) (end : Ending) (text : List ℕ) → (end ≡ ending.ReadFault → ⊥) → IsRight met end text → ReadsWentWell met
right_well met end text other right =
    read_well met.told met.faults_before met.faults_after (plan_of met.words) right.result end text other right.came_to right.reply

pub counts_stay : (met : Met) (put : Put) (answer : Status) → Answers met put answer → CountsStay met put answer
counts_stay met put status.Fine h = (right_well met ending.Fine h.text (λ e. cc) h.right, h.calm)
counts_stay met put status.Shown h = (right_well met ending.Shown h.text (λ e. cc) h.right, h.calm)
counts_stay met put status.BadWords h = (right_well met ending.BadWords h.text (λ e. cc) h.right, h.calm)
counts_stay met put status.Refused h = (right_well met ending.Refused h.text (λ e. cc) h.right, h.calm)
counts_stay met put status.Breach h = (right_well met ending.Breach h.text (λ e. cc) h.right, h.calm)
counts_stay met put (status.Unknown spent) h = (right_well met (ending.Unknown spent) h.text (λ e. cc) h.right, h.calm)
counts_stay met put status.ReadFault h = h.calm
counts_stay met put status.WriteFault h = tt
counts_stay met put status.NoMemory h = h.1
