use Rattle.std.proofs.Common.{arith}
use Rattle.wb_blast.proofs.Doubled.{extended_number}
use Rattle.wb_blast.proofs.products.extend.Goals as goal

pub returns-clause-value : goal.returns-clause-value
returns-clause-value c v = extended_number v c.args.x.now (omega arith)
