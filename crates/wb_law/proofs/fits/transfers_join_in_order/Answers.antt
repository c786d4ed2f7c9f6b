use Rattle.wb_law.proofs.Fitting.{join_in_order}
use Rattle.wb_law.proofs.fits.transfers_join_in_order.Goals as goal

pub returns : goal.returns
returns c = join_in_order
