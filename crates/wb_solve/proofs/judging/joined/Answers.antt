use Rattle.std.proofs.Common.{◌≡◌}
use Rattle.std.proofs.lemmas.Bool.{false≢true}
use Rattle.wb_solve.proofs.Quiet.{joined_stays, joined_makes, joined_apart}
use Rattle.wb_solve.proofs.judging.joined.Goals as goal

pub returns-in-Stays : goal.returns-in-Stays
returns-in-Stays c = λ p clause seen next. joined_stays p c.args.first.lit clause c.args.first.truth c.args.rest c.in-Open.is c.in-Stays.is seen next

pub returns-in-Falsified : goal.returns-in-Falsified
returns-in-Falsified c = λ p clause seen next. joined_makes p c.args.first.lit clause c.args.first.truth c.args.rest c.in-Open.is c.in-Falsified.is seen next

pub returns-else-is_same : goal.returns-else-is_same
returns-else-is_same c =
    let apart : c.args.first.lit ≡ c.in-Makes.other → ⊥ = λ same. false≢true (c.if-is_same.ensures.1 same) in
    λ p clause seen next. joined_apart p c.args.first.lit c.in-Makes.other clause c.args.first.truth c.args.rest c.in-Open.is c.in-Makes.is apart seen next
