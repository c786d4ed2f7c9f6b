use Rattle.std.proofs.Common.{true}
use Rattle.wb_gate.specs.Circuit.{lit_value}
use Rattle.wb_equal.proofs.Boards.{chosen, either_is}
use Rattle.wb_equal.proofs.functions.Functions.either_of.Goals as goal

pub returns-clause-value : goal.returns-clause-value
returns-clause-value c =
    chosen c.args.self.now c.choice_of.new.self (λ v. lit_value v c.args.x) (λ _. true) (λ v. lit_value v c.args.y) _ c.leaf-yes.result c.in_ok-no.no c.choice_of.result
    c.choice_of.ensures.value c.leaf-yes.ensures c.in_ok-no.ensures (λ v. either_is (lit_value v c.args.x) (lit_value v c.args.y))
