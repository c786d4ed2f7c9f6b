use Rattle.wb_law.proofs.Fitting.{fronts_fit}
use Rattle.wb_law.proofs.fits.fronts_fit.Goals as goal

pub returns : goal.returns
returns c = fronts_fit
