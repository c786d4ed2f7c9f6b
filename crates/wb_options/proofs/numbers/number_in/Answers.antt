use Rattle.std.proofs.Common.{rules, ◌≡◌, ◌<◌, length, true}
use Rattle.std.specs.Char.{is_digit}
use Rattle.std.specs.List.{list_all}
use Rattle.wb_options.proofs.Digits.{past_range}
use Rattle.wb_options.proofs.numbers.number_in.Goals as goal

pub returns-in_default-3-clause-number : goal.returns-in_default-3-clause-number
returns-in_default-3-clause-number c =
    let some : 0 < length c.args.word.now = search rules in
    let all : list_all (λ digit. is_digit digit 10) c.args.word.now ≡ true = search rules in
    past_range c.args.least c.args.most c.args.word.now c.ranges.most.fits some all c.in_default.ensures.value.0
