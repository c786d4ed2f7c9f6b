use Rattle.wb_port.proofs.Facts.{test_at_gate}
use Rattle.wb_port.proofs.laws_single.tests_are_gates.Goals as goal

pub returns : goal.returns
returns c = test_at_gate
