use Rattle.wb_syntax.proofs.Chains.{one_tree}
use Rattle.wb_syntax.proofs.laws.expressions_are_read_in_one_way.Goals as goal

pub returns : goal.returns
returns c = one_tree
