use Rattle.wb_point.proofs.Told.{shown_told}
use Rattle.wb_point.proofs.keys.shown.Goals as goal

pub returns-clause-stands : goal.returns-clause-stands
returns-clause-stands c i g m st = shown_told i g c.args.state.now m st
