use Rattle.std.proofs.Common.{arith, ◌≡◌, Some, get_or, take, take_all, ap, sym, ◌∙◌}
use Rattle.std.specs.Str.Parse.{AllDigits}
use Rattle.wb_script.proofs.FieldLemmas.{digit_read, few_digits, more_digits, tested}
use Rattle.wb_script.proofs.fields.decimal.Goals as goal

pub overflow_mul-value : goal.overflow_mul-value
overflow_mul-value c =
    let small = few_digits c.args.digits.now c.loop-byte.byte-index c.loop-byte-test.true c.requires c.loop-byte.invariant.digits in
    omega (arith, small)

pub overflow_add-value : goal.overflow_add-value
overflow_add-value c =
    let small = few_digits c.args.digits.now c.loop-byte.byte-index c.loop-byte-test.true c.requires c.loop-byte.invariant.digits in
    let digit = digit_read (get_or c.args.digits.now c.loop-byte.byte-index 0) c.in_ok-value.field-0 (sym c.digit.ensures ∙ c.in_ok-value.was) in
    omega (arith, small, digit.small, digit.same)

pub loop-byte-preserved : goal.loop-byte-preserved
loop-byte-preserved c =
    let digit = digit_read (get_or c.args.digits.now c.loop-byte.byte-index 0) c.in_ok-value.field-0 (sym c.digit.ensures ∙ c.in_ok-value.was) in
    let more = more_digits c.args.digits.now c.loop-byte.byte-index c.loop-byte.value c.in_ok-value.field-0 c.loop-byte-test.true c.loop-byte.invariant.digits c.loop-byte.invariant.value digit in
    record { digits = more.digits; value = more.value }

pub returns : goal.returns
returns c =
    let ds = c.args.digits.now in
    let whole : take c.loop-byte.byte-index ds ≡ ds = take_all c.loop-byte.byte-index ds c.loop-byte-test.false in
    let all : AllDigits 10 ds = rw whole at c.loop-byte.invariant.digits in
    let value = rw whole at c.loop-byte.invariant.value in
    ap Some value ∙ sym (tested ds all)
