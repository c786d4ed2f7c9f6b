use Rattle.wb_port.proofs.Facts.{gates_are_tests}
use Rattle.wb_port.proofs.laws_single.gates_are_tests.Goals as goal

pub returns : goal.returns
returns c = gates_are_tests
