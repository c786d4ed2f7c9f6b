use Rattle.std.proofs.Common.{◌≡◌, ◌<◌, length, take, sym, ◌∙◌}
use Rattle.std.specs.List.{position_or_len}
use Rattle.std.proofs.lemmas.List.{take_rest}
use Rattle.wb_script.specs.Statement.{is_blank}
use Rattle.wb_script.proofs.FieldLemmas.{first_field, no_field}
use Rattle.wb_script.proofs.fields.split_field.Goals as goal

pub returns-clause-none : goal.returns-clause-none
returns-clause-none c = λ none.
    let line = c.after_blanks-line.result.now in
    let none_there : length (take (position_or_len is_blank line) line) ≡ 0 = rw (← c.first_blank-end.ensures.place) none in
    sym c.after_blanks-line.ensures.same ∙ no_field line c.after_blanks-line.ensures.first none_there

pub returns-clause-some : goal.returns-clause-some
returns-clause-some c = λ some.
    let line = c.after_blanks-line.result.now in
    let some_there : 0 < length (take (position_or_len is_blank line) line) = rw (← c.first_blank-end.ensures.place) some in
    rw take_rest (sym c.after_blanks-line.ensures.same ∙ rw (c.first_blank-end.ensures.place) (first_field line some_there))
