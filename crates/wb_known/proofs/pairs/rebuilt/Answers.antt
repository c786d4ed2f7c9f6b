use Rattle.std.proofs.Common.{◌≡◌, rules, sym}
use Rattle.wb_known.proofs.PartLaws.{or_and_sum}
use Rattle.wb_known.proofs.pairs.rebuilt.Goals as goal

pub returns-in-And-clause-value : goal.returns-in-And-clause-value
returns-in-And-clause-value c inputs is =
    let x = c.in-Or.ensures.value inputs in
    let y = c.in-And.ensures.value inputs in
    let a : c.in-Or.a ≡ c.in-And.d = search rules in
    let b : c.in-Or.b ≡ c.in-And.e = search rules in
    rw (x, y, ← a, ← b) (sym (or_and_sum _ _))
