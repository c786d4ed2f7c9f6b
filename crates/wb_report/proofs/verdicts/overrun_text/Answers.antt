use Rattle.std.proofs.Common.{◌≡◌, ◌++◌, ◌∙◌, ap}
use Rattle.std.specs.Prelude.{codes}
use Rattle.wb_report.specs.Digits.{with_feed}
use Rattle.wb_report.specs.Verdicts.{IsHeldText, heading, overrun_line}
use Rattle.wb_report.proofs.Lines.{line_before}
use Rattle.wb_report.proofs.verdicts.overrun_text.Goals as goal

pub returns : goal.returns
returns c =
    let q = c.args.question.now in
    let line = overrun_line c.args.side in
    let head : c.in_ok-text.text.items ≡ with_feed (heading (codes "EQUAL ") q) =
    c.in_ok-text.ensures ∙ ap with_feed c.heading.ensures in
    let both : c.push_line.new.text.items ≡ with_feed (heading (codes "EQUAL ") q) ++ with_feed line =
    c.in_ok-push_line.ensures
    ∙ ap (λ l. c.in_ok-text.text.items ++ with_feed l) c.overrun_line.ensures
    ∙ ap (λ xs. xs ++ with_feed line) head in
    line_before line (IsHeldText c.args.image.now q.k c.args.talk.now) (with_feed (heading (codes "EQUAL ") q))
    c.push_line.new.text.items c.push_held.new.text.items both c.in_ok-push_held.ensures
