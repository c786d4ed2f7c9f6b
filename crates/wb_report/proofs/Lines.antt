-- One more line of a dialogue.
use Rattle.std.proofs.Common.{◌≡◌, ℕ, ◌+◌, List, ◌++◌, drop, append_assoc, refl, ◌∙◌, ap}
use Rattle.std.specs.List.{slice_get}
use Rattle.std.specs.declared.option.Option.TheVariants.{Some}
use Rattle.wb_port.specs.declared.accesses.Access.{Access}
use Rattle.wb_report.specs.Digits.{with_feed}
use Rattle.wb_report.specs.Dialogues.{access_line, access_lines, asked}
use Rattle.wb_report.specs.declared.heard.Heard.{Heard}
use Rattle.wb_report.specs.Verdicts.{Adds, Begins}
use Rattle.wb_report.proofs.Lists.{drop_at}

pub line_more : (h : Heard) (accesses : List Access) (place before n : ℕ) (a : Access) (text more bytes : List ℕ) → slice_get accesses place ≡ Some a → more ≡ text ++ with_feed bytes → bytes ≡ access_line h before a → n ≡ asked a → more ++ access_lines h (before + n) (drop (place + 1) accesses) ≡ text ++ access_lines h before (drop place accesses)
line_more h accesses place before n a text more bytes found grown line count =
    rw (grown, line, count, drop_at accesses place a found)
    (append_assoc text (with_feed (access_line h before a)) (access_lines h (before + asked a) (drop (place + 1) accesses)))

-- what is added after a line begins with it, together with the line
pub line_before : (line : List ℕ) (P : List ℕ → Type 0) (old middle new : List ℕ) → middle ≡ old ++ with_feed line → Adds P middle new → Adds (Begins line P) old new
line_before line P old middle new e h =
    record {
      rest = with_feed line ++ h.rest;
      parts = h.parts ∙ ap (λ xs. xs ++ h.rest) e ∙ append_assoc old (with_feed line) h.rest;
      holds = record { rest = h.rest; parts = refl; holds = h.holds };
    }
