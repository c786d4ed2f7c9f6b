use Rattle.std.proofs.Common.{◌/◌, arith}
use Rattle.std.proofs.lemmas.Nat.{xor_lt}
use Rattle.wb_machine.proofs.effects.high_step.Goals as goal

pub returns-clause-below : goal.returns-clause-below
returns-clause-below c = xor_lt 4 (c.args.dp / 16) c.args.high (omega arith) (omega arith)
