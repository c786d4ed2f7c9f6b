-- What every demo prints.
use Rattle.std.specs.Prelude.{◌≡◌, ℕ, List, ◌++◌, codes}
use Rattle.std.specs.declared.option.Option.TheVariants.{Some}
use Rattle.wb_base.specs.Sink.{Appends}
use Rattle.wb_report.specs.Digits.{with_feed}
use Rattle.wb_report.specs.Verdicts.{heading}
use Rattle.wb_cli.specs.declared.statuses.Status.{Status}
use Rattle.wb_cli.specs.declared.statuses.Status.TheVariants as status
use Rattle.wb_cli.specs.Answers.{Answers, Met, Put}
use Rattle.wb_cli.specs.Comparison.{demo_question}
use Rattle.wb_cli.specs.Plan.{demo_of, plan_of}
use Rattle.wb_cli.specs.Report.{demo_line, words_line}

-- the pair of every number answers alike, and keeps the pace
abbrev pub demo_text : ℕ → List ℕ
demo_text number =
    with_feed (demo_line number)
    ++ (with_feed words_line ++ (with_feed (heading (codes "EQUAL ") demo_question) ++ with_feed (codes "PACE KEPT")))

-- the text of the demo was written whole, or couldn't be, or memory was refused
abbrev pub IsDemoAnswer : ℕ → Put → Status → Type 0
IsDemoAnswer number put status.Fine = Appends put.taken_before put.taken_after (demo_text number)
IsDemoAnswer number put status.WriteFault = Unit {0}
IsDemoAnswer number put status.NoMemory = Unit {0}
IsDemoAnswer number put _ = ⊥

-- Every demo prints its text.
abbrev pub DemosKeepPace : Type 0
DemosKeepPace = (number : ℕ) (met : Met) (put : Put) (answer : Status)
    → plan_of met.words ≡ Some (demo_of number) → Answers met put answer → IsDemoAnswer number put answer
