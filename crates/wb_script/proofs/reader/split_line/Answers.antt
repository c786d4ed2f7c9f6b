use Rattle.std.proofs.Common.{◌<◌, ◌≤◌, length, arith}
use Rattle.std.proofs.lemmas.List.{take_rest, drop_all}
use Rattle.wb_script.proofs.LineLemmas.{feed, first_line, only_line}
use Rattle.wb_script.proofs.reader.split_line.Goals as goal

pub returns-then-end-text-clause-first : goal.returns-then-end-text-clause-first
returns-then-end-text-clause-first c =
    let text = c.args.text.now in
    let none : length text ≤ feed text = let at = c.place_of-end.ensures.place in omega arith in
    rw (take_rest, drop_all c.place_of-end.result text (omega arith)) (only_line text c.requires none)

pub returns-clause-first : goal.returns-clause-first
returns-clause-first c =
    let text = c.args.text.now in
    let at = c.place_of-end.ensures.place in
    let within = c.place_of-end.ensures.within in
    let not_end = c.if-end-text.false in
    let some : feed text < length text = omega arith in
    rw take_rest (rw c.without_return.ensures (rw at (first_line text some)))
