use Rattle.std.proofs.Common.{◌&&◌, ◌||◌}
use Rattle.wb_gate.specs.Circuit.{lit_value}
use Rattle.wb_equal.proofs.Boards.{chosen, kept, most_is}
use Rattle.wb_equal.proofs.functions.Functions.majority_of.Goals as goal

pub returns-clause-value : goal.returns-clause-value
returns-clause-value c =
    let x = c.args.x in
    let y = c.args.y in
    let z = c.args.z in
    let either = kept c.either_of.new.self c.both_of.new.self _ c.in_ok-either.either c.in_ok-both.ensures.keeps c.in_ok-either.ensures.value in
    chosen c.both_of.new.self c.choice_of.new.self (λ v. lit_value v x) (λ v. lit_value v y || lit_value v z) (λ v. lit_value v y && lit_value v z) _ c.in_ok-either.either c.in_ok-both.both c.choice_of.result
    c.choice_of.ensures.value either c.in_ok-both.ensures.value (λ v. most_is (lit_value v x) (lit_value v y) (lit_value v z))
