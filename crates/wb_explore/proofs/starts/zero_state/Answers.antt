use Rattle.wb_machine.specs.State.{reset}
use Rattle.wb_explore.proofs.starts.zero_state.Goals as goal

pub returns-clause-stands : goal.returns-clause-stands
unfolding reset
returns-clause-stands c = c.reset.ensures.stands
