use Rattle.std.proofs.Common.{◌∙◌, ap}
use Rattle.wb_port.specs.Wait.{instr_touches, touches}
use Rattle.wb_port.proofs.loops.touches.Goals as goal

pub returns : goal.returns
unfolding touches
returns c = c.touches_port.ensures ∙ ap instr_touches c.decode.ensures.value
