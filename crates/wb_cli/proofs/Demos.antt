-- What every demo prints, and that budgets suffice.
use Rattle.std.proofs.Common.{◌≡◌, ℕ, ◌^◌, ◌≤◌, List, [], ◌∷◌, ◌++◌, Option, None, Some, Result, Ok, Err, refl, sym, ◌∙◌, ap, subst}
use Rattle.std.specs.Prelude.{codes}
use Rattle.wb_base.specs.Sink.{Appends}
use Rattle.wb_rom.specs.declared.images.Image.{Image}
use Rattle.wb_port.specs.Dialogue.{input_bits}
use Rattle.wb_port.specs.Points.{ReachedAtMost}
use Rattle.wb_compare.specs.declared.questions.Question.{Question}
use Rattle.wb_compare.specs.declared.verdicts.Pace.TheVariants as pace
use Rattle.wb_compare.specs.declared.verdicts.Verdict.{Verdict}
use Rattle.wb_compare.specs.declared.verdicts.Verdict.TheVariants as verdict
use Rattle.wb_report.specs.Digits.{with_feed}
use Rattle.wb_report.specs.Verdicts.{IsVerdictText, heading}
use Rattle.wb_cli.specs.declared.comparing.Compared.{Compared}
use Rattle.wb_cli.specs.declared.outcomes.Outcome.{Outcome}
use Rattle.wb_cli.specs.declared.outcomes.Outcome.TheVariants as outcome
use Rattle.wb_cli.specs.declared.refusals.Refusal.{Refusal}
use Rattle.wb_cli.specs.declared.refusals.Refusal.TheVariants as refusal
use Rattle.wb_cli.specs.declared.statuses.Ending.{Ending}
use Rattle.wb_cli.specs.declared.statuses.Ending.TheVariants as ending
use Rattle.wb_cli.specs.declared.statuses.Status.{Status}
use Rattle.wb_cli.specs.declared.statuses.Status.TheVariants as status
use Rattle.wb_cli.specs.Answers.{Answers, IsRight, Met, Put}
use Rattle.wb_cli.specs.Checks.{Held, AnImage}
use Rattle.wb_cli.specs.Comparison.{IsDemonstration, demo_question}
use Rattle.wb_cli.specs.Complete.{IsDone, IsDecided, BudgetsSuffice}
use Rattle.wb_cli.specs.Demo.{demo_text, IsDemoAnswer, DemosKeepPace}
use Rattle.wb_cli.specs.Files.{Contents}
use Rattle.wb_cli.specs.Outcome.{Makes, PlanComesTo, ComesTo}
use Rattle.wb_cli.specs.Plan.{Plan, Compare, Demo, demo_of, plan_of}
use Rattle.wb_cli.specs.Report.{IsReply, IsTextOf, demo_line, words_line, outcome_ending, verdict_ending}
use Rattle.wb_cli.specs.Status.{ending_status}
use Rattle.wb_cli.proofs.Deciding.{DemoLaws, demo_keeps, decided}

-- the ending and the text of a demo
record IsDemo (number : ℕ) (end : Ending) (text : List ℕ) : Type 0 where
  fine : end ≡ ending.Fine
  one : text ≡ demo_text number

kept_text : (a b : Image) (q : Question) (v : Verdict) (text : List ℕ) → q ≡ demo_question → v ≡ verdict.Equal pace.Kept → IsVerdictText a b q v text → text ≡ with_feed (heading (codes "EQUAL ") demo_question) ++ with_feed (codes "PACE KEPT")
kept_text a b q v text same kept h =
    subst (λ (r : Question). IsVerdictText a b r (verdict.Equal pace.Kept) text) same
    (subst (λ (u : Verdict). IsVerdictText a b q u text) kept h)

made_demo : DemoLaws → (number : ℕ) (held : List Held) (made : Outcome) (end : Ending) (text : List ℕ) → Makes (Demo number) held made → IsReply (Ok made) end text → IsDemo number end text
made_demo laws number [] (outcome.Demonstrated of c) end text makes reply =
    let kept : c.verdict ≡ verdict.Equal pace.Kept = demo_keeps laws number c makes.1 in
    let begun = reply.1 in
    let rest : begun.holds.rest ≡ with_feed (heading (codes "EQUAL ") demo_question) ++ with_feed (codes "PACE KEPT") =
    kept_text c.first c.second c.comparison.question c.verdict begun.holds.rest makes.1.compared.question kept begun.holds.holds in
    record {
      fine = reply.0 ∙ ap verdict_ending kept;
      one =
          begun.parts
          ∙ ap (λ n. with_feed (demo_line n) ++ begun.rest) makes.0
          ∙ ap (λ xs. with_feed (demo_line number) ++ xs) (begun.holds.parts ∙ ap (λ xs. with_feed words_line ++ xs) rest);
    }
made_demo laws number _ _ end text makes reply = absurd makes

came_demo : DemoLaws → (number : ℕ) (told : Contents) (before now : ℕ) (result : Result Outcome Refusal) (end : Ending) (text : List ℕ) → PlanComesTo told before now (demo_of number) result → IsReply result end text → IsDemo number end text
came_demo laws number told before now (Ok made) end text comes reply =
    made_demo laws number comes.holds.held made end text comes.holds.makes reply
came_demo laws number told before now (Err (refusal.ReadFault place)) end text comes reply = absurd comes
came_demo laws number told before now (Err (refusal.TooLong place)) end text comes reply = absurd comes.0
came_demo laws number told before now (Err refused) end text comes reply = absurd comes.holds

right_demo : DemoLaws → (number : ℕ) (met : Met) (end : Ending) (text : List ℕ) → plan_of met.words ≡ Some (demo_of number) → IsRight met end text → IsDemo number end text
right_demo laws number met end text planned right =
    came_demo laws number met.told met.faults_before met.faults_after right.result end text
    (subst (λ p. ComesTo met.told met.faults_before met.faults_after p right.result) planned right.came_to) right.reply

pub demo_answers : DemoLaws → DemosKeepPace
demo_answers laws number met put status.Fine planned h =
    subst (λ text. Appends put.taken_before put.taken_after text) (right_demo laws number met ending.Fine h.text planned h.right).one h.written
demo_answers laws number met put status.Shown planned h =
    let wrong : ending.Shown ≡ ending.Fine = (right_demo laws number met ending.Shown h.text planned h.right).fine in absurd (cc)
demo_answers laws number met put status.BadWords planned h =
    let wrong : ending.BadWords ≡ ending.Fine = (right_demo laws number met ending.BadWords h.text planned h.right).fine in absurd (cc)
demo_answers laws number met put status.Refused planned h =
    let wrong : ending.Refused ≡ ending.Fine = (right_demo laws number met ending.Refused h.text planned h.right).fine in absurd (cc)
demo_answers laws number met put status.Breach planned h =
    let wrong : ending.Breach ≡ ending.Fine = (right_demo laws number met ending.Breach h.text planned h.right).fine in absurd (cc)
demo_answers laws number met put (status.Unknown spent) planned h =
    let wrong : ending.Unknown spent ≡ ending.Fine = (right_demo laws number met (ending.Unknown spent) h.text planned h.right).fine in absurd (cc)
demo_answers laws number met put status.ReadFault planned h =
    let wrong : ending.ReadFault ≡ ending.Fine = (right_demo laws number met ending.ReadFault h.text planned h.right).fine in absurd (cc)
demo_answers laws number met put status.WriteFault planned h = tt
demo_answers laws number met put status.NoMemory planned h = tt

decided_by : (a b : Image) (q : Question) (made : Outcome) → ReachedAtMost a b q.n q.k q.shape q.power q.budget.points → 2 ^ input_bits q.shape q.power ≤ q.budget.conflicts → Makes (Compare q) (AnImage a ∷ AnImage b ∷ []) made → IsDecided (ending_status (outcome_ending made))
decided_by a b q (outcome.Compared c) points conflicts makes = decided a b q c.verdict points conflicts makes.verdict
decided_by a b q _ points conflicts makes = absurd makes

pub suffice : BudgetsSuffice
suffice a b q answer points conflicts done =
    subst IsDecided (sym done.answer_is) (decided_by a b q done.made points conflicts done.makes)
