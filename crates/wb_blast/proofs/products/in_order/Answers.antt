use Rattle.wb_blast.specs.Words.{number}
use Rattle.wb_blast.proofs.Orders.{product_comm}
use Rattle.wb_blast.proofs.products.in_order.Goals as goal

pub returns-then-ranks_below-clause-value : goal.returns-then-ranks_below-clause-value
returns-then-ranks_below-clause-value c = λ v. product_comm (number v c.args.y.now) (number v c.args.x.now)
