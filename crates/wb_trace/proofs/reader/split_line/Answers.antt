use Rattle.std.proofs.Common.{Some, None, sym, ◌∙◌}
use Rattle.std.proofs.lemmas.List.{take_rest}
use Rattle.wb_trace.proofs.Reading.{line_found}
use Rattle.wb_trace.proofs.reader.split_line.Goals as goal

pub returns-in-Some-clause-first : goal.returns-in-Some-clause-first
returns-in-Some-clause-first c =
    rw take_rest ((line_found c.args.text.now (Some c.in-Some.end) (sym c.in-Some.is ∙ c.feed_in.ensures)).1)

pub returns-in-None-clause-first : goal.returns-in-None-clause-first
returns-in-None-clause-first c =
    line_found c.args.text.now None (sym c.in-None.is ∙ c.feed_in.ensures) c.requires
