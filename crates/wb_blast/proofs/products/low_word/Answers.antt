use Rattle.std.proofs.Common.{arith}
use Rattle.wb_blast.proofs.Sums.{number_small}
use Rattle.wb_blast.proofs.products.low_word.Goals as goal

pub returns-clause-value : goal.returns-clause-value
returns-clause-value c v = let small = number_small v c.args.x.now.low (omega arith) in omega (arith, small)
