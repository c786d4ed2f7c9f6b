use Rattle.std.proofs.Common.{◌≡◌, ◌<◌, ◌^◌, Some, arith, ap, sym, ◌∙◌, min, get_or, take, take_all, length, option_map}
use Rattle.std.specs.Str.Parse.{AllDigits}
use Rattle.wb_lex.proofs.NumberLemmas.{digit_read, more_digits, numeral_of_digits}
use Rattle.wb_lex.proofs.words.numeral.Goals as goal

pub loop-byte-preserved : goal.loop-byte-preserved
loop-byte-preserved c =
    let digits = c.args.digits.now in
    let place = c.loop-byte.byte-index in
    let digit = digit_read c.args.base (get_or digits place 0) c.in_ok-value.field-0 (sym c.digit.ensures ∙ c.in_ok-value.was) in
    let more = more_digits c.args.base digits place c.loop-byte.value c.in_ok-value.field-0 c.requires.least c.loop-byte-test.true c.loop-byte.invariant.digits c.loop-byte.invariant.value digit in
    record { digits = more.digits; value = cc (more.capped_at, c.min-value.ensures, c.from.ensures) }

pub returns : goal.returns
returns c =
    let digits = c.args.digits.now in
    let whole : take c.loop-byte.byte-index digits ≡ digits = take_all c.loop-byte.byte-index digits c.loop-byte-test.false in
    let all : AllDigits c.args.base digits = rw whole at c.loop-byte.invariant.digits in
    let value = rw whole at c.loop-byte.invariant.value in
    let some : 0 < length digits = grind (arith, c.if-is_empty.ensures) in
    ap Some value ∙ sym (ap (option_map (λ n. min n (2 ^ 32))) (numeral_of_digits c.args.base digits some all))
