use Rattle.wb_law.proofs.Fitting.{are_left}
use Rattle.wb_law.proofs.fits.transfers_are_left.Goals as goal

pub returns : goal.returns
returns c = are_left
