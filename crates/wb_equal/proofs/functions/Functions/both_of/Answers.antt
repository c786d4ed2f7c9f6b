use Rattle.std.proofs.Common.{false}
use Rattle.wb_gate.specs.Circuit.{lit_value}
use Rattle.wb_equal.proofs.Boards.{chosen, both_is}
use Rattle.wb_equal.proofs.functions.Functions.both_of.Goals as goal

pub returns-clause-value : goal.returns-clause-value
returns-clause-value c =
    chosen c.args.self.now c.choice_of.new.self (λ v. lit_value v c.args.x) (λ v. lit_value v c.args.y) (λ _. false) _ c.in_ok-yes.yes c.leaf-no.result c.choice_of.result
    c.choice_of.ensures.value c.in_ok-yes.ensures c.leaf-no.ensures (λ v. both_is (lit_value v c.args.x) (lit_value v c.args.y))
