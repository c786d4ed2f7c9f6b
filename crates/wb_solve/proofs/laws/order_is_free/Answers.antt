use Rattle.wb_solve.proofs.Orders.{order_is_free}
use Rattle.wb_solve.proofs.laws.order_is_free.Goals as goal

pub returns : goal.returns
returns c = order_is_free
