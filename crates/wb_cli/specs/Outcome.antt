-- What a call comes to: the first step of the one order that stops it, with its cause, or what the work gave.
-- The order is: the words are planned; the files are read in the order of the words, each whole; the contents are
-- checked in the same order; the work is done.
use Rattle.std.specs.Prelude.{◌≡◌, ℕ, List, [], ◌∷◌}
use Rattle.std.specs.declared.option.Option.{Option}
use Rattle.std.specs.declared.option.Option.TheVariants.{Some, None}
use Rattle.std.specs.declared.result.Result.{Result}
use Rattle.std.specs.declared.result.Result.TheVariants.{Ok, Err}
use Rattle.wb_session.specs.Transcript.{IsTranscript}
use Rattle.wb_trace.specs.Texts.{trace_bytes}
use Rattle.wb_cli.specs.declared.files.Kind.{Kind}
use Rattle.wb_cli.specs.declared.outcomes.Outcome.{Outcome}
use Rattle.wb_cli.specs.declared.outcomes.Outcome.TheVariants as outcome
use Rattle.wb_cli.specs.declared.refusals.Refusal.{Refusal}
use Rattle.wb_cli.specs.declared.refusals.Refusal.TheVariants as refusal
use Rattle.wb_cli.specs.declared.refusals.Stop.{Stop}
use Rattle.wb_cli.specs.declared.refusals.Stop.TheVariants.{Refused, OutOfMemory}
use Rattle.wb_cli.specs.Checks.{Held, AnImage, AScript, SomeMoves, HoldsAll, FirstRefused}
use Rattle.wb_cli.specs.Comparison.{IsComparison, IsDemonstration}
use Rattle.wb_cli.specs.Files.{Contents, ReadsAll, FirstUnread, CouldNot, TooLong}
use Rattle.wb_cli.specs.Plan.{Plan, Task, Run, Assemble, Disassemble, Trace, Compare, Demo, kinds_of}

-- what a task makes of what the files hold
abbrev pub Makes : Task → List Held → Outcome → Type 0
Makes Run (AnImage image ∷ AScript items ∷ []) (outcome.Ran transcript) = IsTranscript image items transcript
Makes Assemble (AnImage image ∷ []) (outcome.Assembled assembled) = assembled ≡ image
Makes Disassemble (AnImage image ∷ []) (outcome.Listed listed) = listed ≡ image
Makes (Trace depth) (AnImage a ∷ AnImage b ∷ SomeMoves moves ∷ []) (outcome.Traced text) =
    text ≡ trace_bytes a b depth moves
Makes (Compare question) (AnImage a ∷ AnImage b ∷ []) (outcome.Compared compared) =
    IsComparison a b question compared
Makes (Demo number) [] (outcome.Demonstrated of compared) = (of ≡ number) × IsDemonstration number compared
Makes _ _ _ = ⊥

-- the contents are of these kinds, and the task made this of them
pub record Works (task : Task) (kinds : List Kind) (contents : List (List ℕ)) (made : Outcome) : Type 0 where
  pub held : List Held
  pub holds : HoldsAll kinds contents held
  pub makes : Makes task held made

-- what checking the contents and working on them comes to
abbrev pub WorksTo : Task → List Kind → List (List ℕ) → Result Outcome Stop → Type 0
WorksTo task kinds contents (Ok made) = Works task kinds contents made
WorksTo task kinds contents (Err (Refused refusal)) = FirstRefused 0 kinds contents refusal
WorksTo task kinds contents (Err OutOfMemory) = Unit {0}

-- the files were read whole without a counted fault, and P holds of their contents
pub record OnContents (told : Contents) (before now : ℕ) (plan : Plan) (P : List (List ℕ) → Type 0) : Type 0 where
  pub contents : List (List ℕ)
  pub whole : ReadsAll told plan.files contents
  pub calm : now ≡ before
  pub holds : P contents

-- what a plan comes to on a shelf that tells this, while its count of faults went from one number to another
abbrev pub PlanComesTo : Contents → ℕ → ℕ → Plan → Result Outcome Refusal → Type 0
PlanComesTo told before now plan (Ok made) = OnContents told before now plan (λ contents. Works plan.task (kinds_of plan.files) contents made)
PlanComesTo told before now plan (Err (refusal.ReadFault place)) = FirstUnread told (CouldNot told before now) plan.files place
PlanComesTo told before now plan (Err (refusal.TooLong place)) = FirstUnread told (TooLong told) plan.files place × (now ≡ before)
PlanComesTo told before now plan (Err refused) = OnContents told before now plan (λ contents. FirstRefused 0 (kinds_of plan.files) contents refused)

-- what a call comes to whose words have this plan, or none
abbrev pub ComesTo : Contents → ℕ → ℕ → Option Plan → Result Outcome Refusal → Type 0
ComesTo told before now (Some plan) result = PlanComesTo told before now plan result
ComesTo told before now None (Err refusal.BadWords) = now ≡ before
ComesTo told before now None _ = ⊥

-- the same for what may be refused memory, which happens without a counted fault
abbrev pub GoesTo : Contents → ℕ → ℕ → Plan → Result Outcome Stop → Type 0
GoesTo told before now plan (Ok made) = PlanComesTo told before now plan (Ok made)
GoesTo told before now plan (Err (Refused refused)) = PlanComesTo told before now plan (Err refused)
GoesTo told before now plan (Err OutOfMemory) = now ≡ before
