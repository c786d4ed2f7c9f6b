use Rattle.std.proofs.Common.{◌∙◌, ap}
use Rattle.wb_port.specs.Wait.{instr_raises, raises_request}
use Rattle.wb_port.proofs.loops.raises.Goals as goal

pub returns : goal.returns
unfolding raises_request
returns c = c.raises_rqm.ensures ∙ ap instr_raises c.decode.ensures.value
