use Rattle.wb_law.proofs.Fitting.{status_reads_fit}
use Rattle.wb_law.proofs.fits.status_reads_always_fit.Goals as goal

pub returns : goal.returns
returns c = status_reads_fit
