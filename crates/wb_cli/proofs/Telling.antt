-- The status of a comparison tells of the images in its files.
use Rattle.std.proofs.Common.{◌≡◌, ℕ, List, [], ◌∷◌, None, Some, Result, Ok, Err, refl, sym, ◌∙◌, ap, subst}
use Rattle.wb_rom.specs.declared.images.Image.{Image}
use Rattle.wb_compare.specs.declared.questions.Question.{Question}
use Rattle.wb_compare.specs.declared.verdicts.Spent.{Spent}
use Rattle.wb_compare.specs.declared.verdicts.Verdict.{Verdict}
use Rattle.wb_compare.specs.declared.verdicts.Verdict.TheVariants as verdict
use Rattle.wb_compare.specs.Licences.{IsLicence}
use Rattle.wb_compare.specs.Verdicts.{IsVerdict, AreEqual}
use Rattle.wb_cli.specs.declared.outcomes.Outcome.{Outcome}
use Rattle.wb_cli.specs.declared.outcomes.Outcome.TheVariants as outcome
use Rattle.wb_cli.specs.declared.refusals.Refusal.{Refusal}
use Rattle.wb_cli.specs.declared.refusals.Refusal.TheVariants as refusal
use Rattle.wb_cli.specs.declared.statuses.Ending.{Ending}
use Rattle.wb_cli.specs.declared.statuses.Ending.TheVariants as ending
use Rattle.wb_cli.specs.declared.statuses.Status.{Status}
use Rattle.wb_cli.specs.declared.statuses.Status.TheVariants as status
use Rattle.wb_cli.specs.Answers.{Answers, IsRight, Met, Put}
use Rattle.wb_cli.specs.Checks.{Held, AnImage, HoldsAll}
use Rattle.wb_cli.specs.Files.{Contents, ReadsAll}
use Rattle.wb_cli.specs.Outcome.{Makes, PlanComesTo, ComesTo}
use Rattle.wb_cli.specs.Plan.{Plan, Compare, comparison_of, kinds_of, plan_of}
use Rattle.wb_cli.specs.Report.{IsReply, verdict_ending}
use Rattle.wb_cli.specs.Told.{OnImages, AreToldApart, IsBroken, ComparisonsTell}

-- an ending that tells a verdict
abbrev IsVerdictEnding : Ending → Type 0
IsVerdictEnding ending.Fine = Unit {0}
IsVerdictEnding ending.Shown = Unit {0}
IsVerdictEnding ending.Breach = Unit {0}
IsVerdictEnding (ending.Unknown spent) = Unit {0}
IsVerdictEnding _ = ⊥

-- what an ending tells of two images
abbrev TellsOf : Question → Ending → Image → Image → Type 0
TellsOf q ending.Fine a b = AreEqual a b q
TellsOf q ending.Shown a b = AreToldApart q a b
TellsOf q ending.Breach a b = IsBroken q a b
TellsOf q (ending.Unknown spent) a b = IsLicence a b q spent
TellsOf q _ a b = Unit {0}

verdict_tells : (a b : Image) (q : Question) (v : Verdict) → IsVerdict a b q v → TellsOf q (verdict_ending v) a b
verdict_tells a b q (verdict.Equal p) h = h.0
verdict_tells a b q (verdict.Different d) h = record { dialogue = d; fits = h.0; differs = h.2 }
verdict_tells a b q (verdict.Breach s d at) h =
    record { side = s; dialogue = d; at = at; fits = h.0.fits; breaks = h.1 }
verdict_tells a b q (verdict.Unknown spent) h = h

module _ (met : Met) (first second : List ℕ) (q : Question) (end : Ending) (text : List ℕ) where
  on_contents : (P : Image → Image → Type 0) (a b : Image) (contents : List (List ℕ)) → ReadsAll met.told (comparison_of first second q).files contents → HoldsAll (kinds_of (comparison_of first second q).files) contents (AnImage a ∷ AnImage b ∷ []) → P a b → OnImages met (comparison_of first second q) P
  on_contents P a b [] read holds h = absurd holds
  on_contents P a b (bytes ∷ []) read holds h = absurd holds.1
  on_contents P a b (bytes ∷ more ∷ []) read holds h =
      record {
        first_bytes = bytes;
        second_bytes = more;
        read = read;
        first = a;
        second = b;
        first_is = holds.0;
        second_is = holds.1.0;
        holds = h;
      }
  on_contents P a b (bytes ∷ more ∷ last ∷ rest) read holds h = absurd holds.1.1

  made_tells : (contents : List (List ℕ)) (held : List Held) (made : Outcome) → ReadsAll met.told (comparison_of first second q).files contents → HoldsAll (kinds_of (comparison_of first second q).files) contents held → Makes (Compare q) held made → IsReply (Ok made) end text → OnImages met (comparison_of first second q) (TellsOf q end)
  made_tells contents (AnImage a ∷ AnImage b ∷ []) (outcome.Compared c) read holds makes reply =
      on_contents (TellsOf q end) a b contents read holds
      (subst (λ e. TellsOf q e a b) (sym reply.0) (verdict_tells a b q c.verdict makes.verdict))
  made_tells contents _ _ read holds makes reply = absurd makes

  came_tells : (before now : ℕ) (result : Result Outcome Refusal) → IsVerdictEnding end → PlanComesTo met.told before now (comparison_of first second q) result → IsReply result end text → OnImages met (comparison_of first second q) (TellsOf q end)
  came_tells before now (Ok made) ends comes reply =
      made_tells comes.contents comes.holds.held made comes.whole comes.holds.holds comes.holds.makes reply
  came_tells before now (Err refusal.BadWords) ends comes reply = absurd (subst IsVerdictEnding reply.0 ends)
  came_tells before now (Err (refusal.ReadFault place)) ends comes reply = absurd (subst IsVerdictEnding reply.0 ends)
  came_tells before now (Err (refusal.TooLong place)) ends comes reply = absurd (subst IsVerdictEnding reply.0 ends)
  came_tells before now (Err (refusal.ImageLength place found)) ends comes reply = absurd (subst IsVerdictEnding reply.0 ends)
  came_tells before now (Err (refusal.ScriptLine line)) ends comes reply = absurd (subst IsVerdictEnding reply.0 ends)
  came_tells before now (Err (refusal.SourceFault fault)) ends comes reply = absurd (subst IsVerdictEnding reply.0 ends)
  came_tells before now (Err (refusal.MovesLine line)) ends comes reply = absurd (subst IsVerdictEnding reply.0 ends)

  right_tells : IsVerdictEnding end → plan_of met.words ≡ Some (comparison_of first second q) → IsRight met end text → OnImages met (comparison_of first second q) (TellsOf q end)
  right_tells ends planned right =
      came_tells met.faults_before met.faults_after right.result ends
      (subst (λ p. ComesTo met.told met.faults_before met.faults_after p right.result) planned right.came_to) right.reply

pub tell : ComparisonsTell
tell first second q met put status.Fine planned h = right_tells met first second q ending.Fine h.text tt planned h.right
tell first second q met put status.Shown planned h = right_tells met first second q ending.Shown h.text tt planned h.right
tell first second q met put status.Breach planned h = right_tells met first second q ending.Breach h.text tt planned h.right
tell first second q met put (status.Unknown spent) planned h =
    right_tells met first second q (ending.Unknown spent) h.text tt planned h.right
tell first second q met put status.BadWords planned h = tt
tell first second q met put status.Refused planned h = tt
tell first second q met put status.ReadFault planned h = tt
tell first second q met put status.WriteFault planned h = tt
tell first second q met put status.NoMemory planned h = tt
