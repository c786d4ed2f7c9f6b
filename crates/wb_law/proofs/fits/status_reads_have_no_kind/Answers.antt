use Rattle.wb_law.proofs.Fitting.{no_kind}
use Rattle.wb_law.proofs.fits.status_reads_have_no_kind.Goals as goal

pub returns : goal.returns
returns c = no_kind
