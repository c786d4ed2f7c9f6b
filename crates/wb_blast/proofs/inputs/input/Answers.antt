use Rattle.wb_blast.proofs.Moves.{given_bit}
use Rattle.std.proofs.Common.{sym}
use Rattle.std.proofs.lemmas.Nat.Bits.{bit_at_above}
use Rattle.wb_blast.proofs.inputs.input.Goals as goal

pub returns-then-at-count-clause-value : goal.returns-then-at-count-clause-value
returns-then-at-count-clause-value c v word small given = given_bit word c.args.at _ (given c.args.at c.if-at-count.true)

pub returns-else-at-count-clause-value : goal.returns-else-at-count-clause-value
returns-else-at-count-clause-value c v word small given = sym (bit_at_above word c.args.count c.args.at small c.if-at-count.false)
