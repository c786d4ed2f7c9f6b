use Rattle.std.proofs.Common.{length, sym, arith}
use Rattle.std.proofs.lemmas.List.Sums.{position_or_len_is}
use Rattle.wb_script.specs.Statement.{is_blank}
use Rattle.wb_script.proofs.fields.first_blank.Goals as goal

pub returns-then-is_blank-clause-place : goal.returns-then-is_blank-clause-place
returns-then-is_blank-clause-place c =
    sym (position_or_len_is is_blank c.args.line.now c.loop-place.place 0 (omega arith) c.loop-place.invariant (λ _. cc))

pub returns-clause-place : goal.returns-clause-place
returns-clause-place c =
    let line = c.args.line.now in
    sym (position_or_len_is is_blank line (length line) 0 (omega arith) (λ k below. c.loop-place.invariant k (omega arith)) (λ h. absurd (omega arith)))
