-- What is written of what a call came to, and how the call ends that writes it whole.
use Rattle.std.specs.Prelude.{◌≡◌, ℕ, ◌+◌, List, [], ◌∷◌, ◌++◌, codes}
use Rattle.std.specs.Fmt.{decimal}
use Rattle.std.specs.declared.result.Result.{Result}
use Rattle.std.specs.declared.result.Result.TheVariants.{Ok, Err}
use Rattle.wb_session.specs.declared.transcripts.Ended.{Ended}
use Rattle.wb_session.specs.declared.transcripts.Ended.TheVariants.{Done, Early, Silent}
use Rattle.wb_asm.specs.declared.faults.AsmKind.{AsmKind}
use Rattle.wb_asm.specs.declared.faults.AsmKind.TheVariants as kind
use Rattle.wb_dis.specs.Listing.{listing}
use Rattle.wb_rom.specs.ImageBytes.{IsImageOf}
use Rattle.wb_session.specs.Texts.{transcript_bytes}
use Rattle.wb_compare.specs.declared.verdicts.Verdict.{Verdict}
use Rattle.wb_compare.specs.declared.verdicts.Verdict.TheVariants as verdict
use Rattle.wb_report.specs.Verdicts.{Begins, IsVerdictText}
use Rattle.wb_cli.specs.declared.comparing.Compared.{Compared}
use Rattle.wb_cli.specs.declared.outcomes.Outcome.{Outcome}
use Rattle.wb_cli.specs.declared.outcomes.Outcome.TheVariants as outcome
use Rattle.wb_cli.specs.declared.refusals.Refusal.{Refusal}
use Rattle.wb_cli.specs.declared.refusals.Refusal.TheVariants as refusal
use Rattle.wb_cli.specs.declared.statuses.Ending.{Ending}
use Rattle.wb_cli.specs.declared.statuses.Ending.TheVariants as ending

-- a script that was done is fine; one that ended early or silent is shown
abbrev pub transcript_ending : Ended → Ending
transcript_ending Done = ending.Fine
transcript_ending (Early _) = ending.Shown
transcript_ending (Silent _) = ending.Shown

-- equal images are fine; a difference is shown
abbrev pub verdict_ending : Verdict → Ending
verdict_ending (verdict.Equal pace) = ending.Fine
verdict_ending (verdict.Different d) = ending.Shown
verdict_ending (verdict.Breach side d at) = ending.Breach
verdict_ending (verdict.Unknown spent) = ending.Unknown spent

-- how a call ends that came to an outcome
abbrev pub outcome_ending : Outcome → Ending
outcome_ending (outcome.Ran transcript) = transcript_ending transcript.ended
outcome_ending (outcome.Assembled image) = ending.Fine
outcome_ending (outcome.Listed image) = ending.Fine
outcome_ending (outcome.Traced text) = ending.Fine
outcome_ending (outcome.Compared compared) = verdict_ending compared.verdict
outcome_ending (outcome.Demonstrated number compared) = verdict_ending compared.verdict

-- the text is that of the verdict
abbrev pub IsTextOf : Compared → List ℕ → Type 0
IsTextOf compared text = IsVerdictText compared.first compared.second compared.comparison.question compared.verdict text

abbrev pub demo_line : ℕ → List ℕ
demo_line number = codes "DEMO " ++ decimal number

-- how many words the programs of every demo pair have
abbrev pub words_line : List ℕ
words_line = codes "WORDS 70 102"

-- the text is the report of an outcome
abbrev pub IsReport : Outcome → List ℕ → Type 0
IsReport (outcome.Ran transcript) text = text ≡ transcript_bytes transcript
IsReport (outcome.Assembled image) text = IsImageOf text image
IsReport (outcome.Listed image) text = text ≡ listing image
IsReport (outcome.Traced traced) text = text ≡ traced
IsReport (outcome.Compared compared) text = IsTextOf compared text
IsReport (outcome.Demonstrated number compared) text =
    Begins (demo_line number) (Begins words_line (IsTextOf compared)) text

-- how a call ends that was refused
abbrev pub refusal_ending : Refusal → Ending
refusal_ending refusal.BadWords = ending.BadWords
refusal_ending (refusal.ReadFault place) = ending.ReadFault
refusal_ending (refusal.TooLong place) = ending.Refused
refusal_ending (refusal.ImageLength place found) = ending.Refused
refusal_ending (refusal.ScriptLine line) = ending.Refused
refusal_ending (refusal.SourceFault fault) = ending.Refused
refusal_ending (refusal.MovesLine line) = ending.Refused

-- places of file words are printed from 1
abbrev pub printed_place : ℕ → List ℕ
printed_place place = decimal (place + 1)

-- what is wrong on a line of a source
abbrev pub fault_text : AsmKind → List ℕ
fault_text (kind.Byte column) = codes "BYTE " ++ decimal column
fault_text kind.Wide = codes "WIDE"
fault_text kind.Syntax = codes "SYNTAX"
fault_text kind.Twice = codes "TWICE"
fault_text kind.Unknown = codes "UNKNOWN"
fault_text kind.Range = codes "RANGE"
fault_text kind.Overlap = codes "OVERLAP"
fault_text kind.Past = codes "PAST"

-- the line that says why, without its line feed
abbrev pub refusal_line : Refusal → List ℕ
refusal_line refusal.BadWords = codes "BAD WORDS"
refusal_line (refusal.ReadFault place) = codes "READ FAULT " ++ printed_place place
refusal_line (refusal.TooLong place) = codes "FILE " ++ printed_place place ++ codes " TOO LONG"
refusal_line (refusal.ImageLength place found) =
    codes "IMAGE " ++ printed_place place ++ codes " LENGTH " ++ decimal found
refusal_line (refusal.ScriptLine line) = codes "LINE " ++ decimal line ++ codes " SCRIPT"
refusal_line (refusal.SourceFault fault) = codes "LINE " ++ decimal fault.line ++ codes " " ++ fault_text fault.kind
refusal_line (refusal.MovesLine line) = codes "LINE " ++ decimal line ++ codes " MOVES"

-- the ending and the report of what a call came to
abbrev pub IsReply : Result Outcome Refusal → Ending → List ℕ → Type 0
IsReply (Ok made) end text = (end ≡ outcome_ending made) × IsReport made text
IsReply (Err refused) end text = (end ≡ refusal_ending refused) × (text ≡ refusal_line refused ++ 10 ∷ [])
