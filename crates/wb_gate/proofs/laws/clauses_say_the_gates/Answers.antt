use Rattle.wb_gate.proofs.GateLaw.{clauses_say_the_gates}
use Rattle.wb_gate.proofs.laws.clauses_say_the_gates.Goals as goal

pub returns : goal.returns
returns c = clauses_say_the_gates
