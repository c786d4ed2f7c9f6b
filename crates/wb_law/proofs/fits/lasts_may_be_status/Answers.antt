use Rattle.wb_law.proofs.Fitting.{lasts_may_be_status}
use Rattle.wb_law.proofs.fits.lasts_may_be_status.Goals as goal

pub returns : goal.returns
returns c = lasts_may_be_status
