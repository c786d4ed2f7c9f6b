use Rattle.std.proofs.Common.{◌∙◌, ap}
use Rattle.wb_port.specs.Wait.{instr_tests, is_test}
use Rattle.wb_port.proofs.loops.is_test.Goals as goal

pub returns : goal.returns
unfolding is_test
returns c = c.tests_rqm.ensures ∙ ap instr_tests c.decode.ensures.value
