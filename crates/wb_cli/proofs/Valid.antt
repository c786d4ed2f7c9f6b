-- Valid calls do their work.
use Rattle.std.proofs.Common.{◌≡◌, ◌⊎◌, ℕ, zero, suc, ◌<◌, ◌≤◌, List, [], ◌∷◌, length, Some, Result, Ok, Err, refl, sym, ap, subst, inl, inr, arith}
use Rattle.wb_base.specs.Faults.{Rose}
use Rattle.wb_cli.specs.declared.outcomes.Outcome.{Outcome}
use Rattle.wb_cli.specs.declared.outcomes.Outcome.TheVariants as outcome
use Rattle.wb_cli.specs.declared.refusals.Refusal.{Refusal}
use Rattle.wb_cli.specs.declared.refusals.Refusal.TheVariants as refusal
use Rattle.wb_cli.specs.declared.statuses.Ending.{Ending}
use Rattle.wb_cli.specs.declared.statuses.Ending.TheVariants as ending
use Rattle.wb_cli.specs.declared.statuses.Status.{Status}
use Rattle.wb_cli.specs.declared.statuses.Status.TheVariants as status
use Rattle.wb_session.specs.declared.transcripts.Ended.{Ended}
use Rattle.wb_session.specs.declared.transcripts.Transcript.{Transcript}
use Rattle.wb_session.specs.declared.transcripts.Ended.TheVariants.{Done, Early, Silent}
use Rattle.wb_cli.specs.Answers.{Answers, IsRight, Met, Put}
use Rattle.wb_cli.specs.Checks.{Held, AnImage, AScript, SomeMoves, HoldsAll}
use Rattle.wb_cli.specs.Complete.{Tells, IsValid, IsDone, IsExpected}
use Rattle.wb_cli.specs.Files.{Contents, limit_of, ReadsAll, FirstUnread, CouldNot, TooLong}
use Rattle.wb_cli.specs.Outcome.{Makes, PlanComesTo, ComesTo}
use Rattle.wb_cli.specs.Plan.{NamedFile, Plan, Task, Run, Assemble, Disassemble, Trace, Compare, Demo, kinds_of}
use Rattle.wb_cli.specs.Report.{IsReply, outcome_ending, transcript_ending, verdict_ending}
use Rattle.wb_compare.specs.declared.questions.Question.{Question}
use Rattle.wb_compare.specs.declared.verdicts.Verdict.{Verdict}
use Rattle.wb_compare.specs.declared.verdicts.Verdict.TheVariants as verdict
use Rattle.wb_cli.specs.declared.comparing.Compared.{Compared}
use Rattle.wb_cli.specs.Comparison.{IsDemonstration}
use Rattle.wb_cli.proofs.Deciding.{DemoLaws, demo_keeps}
use Rattle.wb_cli.specs.Status.{ending_status}
use Rattle.wb_cli.proofs.Holding.{KindLaws, held_once, held_or_refused}

-- files that are told and short are read, where no fault is counted
told_is_read : (told : Contents) (Cause : NamedFile → Type 0) (files : List NamedFile) (contents : List (List ℕ)) (place : ℕ)
    → ((file : NamedFile) (bytes : List ℕ) → told file.name ≡ Some (Some bytes) → length bytes ≤ limit_of file.kind → Cause file → ⊥)
    → Tells told files contents → FirstUnread told Cause files place → ⊥
told_is_read told Cause [] contents place never tells unread = unread
told_is_read told Cause (file ∷ files) [] place never tells unread = tells
told_is_read told Cause (file ∷ files) (bytes ∷ contents) zero never tells unread = never file bytes tells.0 tells.1 unread
told_is_read told Cause (file ∷ files) (bytes ∷ contents) (suc place) never tells unread =
    told_is_read told Cause files contents place never tells.2 unread.1

-- what was read is what is told
told_once : (told : Contents) (files : List NamedFile) (contents others : List (List ℕ)) → Tells told files contents → ReadsAll told files others → others ≡ contents
told_once told [] [] [] tells reads = refl
told_once told [] [] (_ ∷ _) tells reads = absurd reads
told_once told [] (_ ∷ _) others tells reads = absurd tells
told_once told (file ∷ files) [] others tells reads = absurd tells
told_once told (file ∷ files) (bytes ∷ contents) [] tells reads = absurd reads
told_once told (file ∷ files) (bytes ∷ contents) (other ∷ others) tells reads =
    let one : other ≡ bytes = reads.0.told bytes tells.0 in
    let more : others ≡ contents = told_once told files contents others tells.2 reads.1 in
    cc

no_cause : (told : Contents) (before now : ℕ) → (Rose before now → ⊥) → (file : NamedFile) (bytes : List ℕ)
    → told file.name ≡ Some (Some bytes) → length bytes ≤ limit_of file.kind → CouldNot told before now file → ⊥
no_cause told before now calm file bytes tells short cause = elim cause [ inl rose ↦ calm rose | inr absent ↦ cc ]

not_longer : (told : Contents) (file : NamedFile) (bytes : List ℕ)
    → told file.name ≡ Some (Some bytes) → length bytes ≤ limit_of file.kind → TooLong told file → ⊥
not_longer told file bytes tells short longer = let more : limit_of file.kind < length bytes = longer.told bytes tells in absurd (omega arith)

-- a report of work that was done, on what the files hold
record IsReportOf (task : Task) (held : List Held) (end : Ending) : Type 0 where
  made : Outcome
  makes : Makes task held made
  end_is : end ≡ outcome_ending made

plan_is_done : KindLaws → (met : Met) (put : Put) (plan : Plan) (held : List Held) (end : Ending) (text : List ℕ) (result : Result Outcome Refusal)
    → IsValid met put plan held → PlanComesTo met.told met.faults_before met.faults_after plan result → IsReply result end text → IsReportOf plan.task held end
plan_is_done laws met put plan held end text (Ok made) valid comes reply =
    let same : comes.contents ≡ valid.contents = told_once met.told plan.files valid.contents comes.contents valid.tells comes.whole in
    let holds : HoldsAll (kinds_of plan.files) valid.contents comes.holds.held =
    subst (λ contents. HoldsAll (kinds_of plan.files) contents comes.holds.held) same comes.holds.holds in
    let one : comes.holds.held ≡ held = held_once laws (kinds_of plan.files) valid.contents comes.holds.held held holds valid.holds in
    record { made = made; makes = subst (λ xs. Makes plan.task xs made) one comes.holds.makes; end_is = reply.0 }
plan_is_done laws met put plan held end text (Err (refusal.ReadFault place)) valid comes reply =
    absurd (told_is_read met.told (CouldNot met.told met.faults_before met.faults_after) plan.files valid.contents place
    (no_cause met.told met.faults_before met.faults_after valid.no_read_fault) valid.tells comes)
plan_is_done laws met put plan held end text (Err (refusal.TooLong place)) valid comes reply =
    absurd (told_is_read met.told (TooLong met.told) plan.files valid.contents place (not_longer met.told) valid.tells comes.0)
plan_is_done laws met put plan held end text (Err refused) valid comes reply =
    let same : comes.contents ≡ valid.contents = told_once met.told plan.files valid.contents comes.contents valid.tells comes.whole in
    let holds : HoldsAll (kinds_of plan.files) comes.contents held =
    subst (λ contents. HoldsAll (kinds_of plan.files) contents held) (sym same) valid.holds in
    absurd (held_or_refused laws 0 (kinds_of plan.files) comes.contents held refused holds comes.holds)

right_is_done : KindLaws → (met : Met) (put : Put) (plan : Plan) (held : List Held) (end : Ending) (text : List ℕ)
    → IsValid met put plan held → IsRight met end text → IsDone plan.task held (ending_status end)
right_is_done laws met put plan held end text valid right =
    let comes : PlanComesTo met.told met.faults_before met.faults_after plan right.result =
    subst (λ p. ComesTo met.told met.faults_before met.faults_after p right.result) valid.planned right.came_to in
    let done = plan_is_done laws met put plan held end text right.result valid comes right.reply in
    record { made = done.made; makes = done.makes; answer_is = ap ending_status done.end_is }

pub valid_is_done : KindLaws → (met : Met) (put : Put) (answer : Status) (plan : Plan) (held : List Held)
    → Answers met put answer → IsValid met put plan held → (answer ≡ status.NoMemory) ⊎ IsDone plan.task held answer
valid_is_done laws met put status.Fine plan held answers valid = inr (right_is_done laws met put plan held ending.Fine answers.text valid answers.right)
valid_is_done laws met put status.Shown plan held answers valid = inr (right_is_done laws met put plan held ending.Shown answers.text valid answers.right)
valid_is_done laws met put status.BadWords plan held answers valid = inr (right_is_done laws met put plan held ending.BadWords answers.text valid answers.right)
valid_is_done laws met put status.Refused plan held answers valid = inr (right_is_done laws met put plan held ending.Refused answers.text valid answers.right)
valid_is_done laws met put status.Breach plan held answers valid = inr (right_is_done laws met put plan held ending.Breach answers.text valid answers.right)
valid_is_done laws met put (status.Unknown spent) plan held answers valid = inr (right_is_done laws met put plan held (ending.Unknown spent) answers.text valid answers.right)
valid_is_done laws met put status.ReadFault plan held answers valid = inr (right_is_done laws met put plan held ending.ReadFault answers.text valid answers.right)
valid_is_done laws met put status.WriteFault plan held answers valid = absurd (valid.no_write_fault answers.rose)
valid_is_done laws met put status.NoMemory plan held answers valid = inl refl

-- the statuses of a run
run_is_expected : (ended : Ended) → IsExpected Run (ending_status (transcript_ending ended))
run_is_expected Done = tt
run_is_expected (Early number) = tt
run_is_expected (Silent number) = tt

verdict_is_expected : (q : Question) (v : Verdict) → IsExpected (Compare q) (ending_status (verdict_ending v))
verdict_is_expected q (verdict.Equal p) = tt
verdict_is_expected q (verdict.Different d) = tt
verdict_is_expected q (verdict.Breach s d at) = tt
verdict_is_expected q (verdict.Unknown spent) = tt

demo_is_expected : DemoLaws → (number : ℕ) (c : Compared) → IsDemonstration number c → IsExpected (Demo number) (ending_status (verdict_ending c.verdict))
demo_is_expected laws number c h =
    subst (λ v. IsExpected (Demo number) (ending_status (verdict_ending v))) (sym (demo_keeps laws number c h)) tt

outcome_is_expected : DemoLaws → (task : Task) (held : List Held) (made : Outcome) → Makes task held made → IsExpected task (ending_status (outcome_ending made))
outcome_is_expected laws Run (AnImage image ∷ AScript items ∷ []) (outcome.Ran transcript) makes = run_is_expected transcript.ended
outcome_is_expected laws Assemble (AnImage image ∷ []) (outcome.Assembled built) makes = tt
outcome_is_expected laws Disassemble (AnImage image ∷ []) (outcome.Listed listed) makes = tt
outcome_is_expected laws (Trace depth) (AnImage a ∷ AnImage b ∷ SomeMoves moves ∷ []) (outcome.Traced text) makes = tt
outcome_is_expected laws (Compare q) (AnImage a ∷ AnImage b ∷ []) (outcome.Compared c) makes = verdict_is_expected q c.verdict
outcome_is_expected laws (Demo number) [] (outcome.Demonstrated of c) makes = demo_is_expected laws number c makes.1
outcome_is_expected laws _ _ _ makes = absurd makes

pub done_is_expected : DemoLaws → (task : Task) (held : List Held) (answer : Status) → IsDone task held answer → IsExpected task answer
done_is_expected laws task held answer done = subst (IsExpected task) (sym done.answer_is) (outcome_is_expected laws task held done.made done.makes)
