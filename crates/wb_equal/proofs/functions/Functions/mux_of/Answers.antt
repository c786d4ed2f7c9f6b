use Rattle.std.proofs.Common.{refl}
use Rattle.wb_gate.specs.Circuit.{lit_value}
use Rattle.wb_equal.proofs.Boards.{chosen}
use Rattle.wb_equal.proofs.functions.Functions.mux_of.Goals as goal

pub returns-clause-value : goal.returns-clause-value
returns-clause-value c =
    chosen c.args.self.now c.choice_of.new.self (λ v. lit_value v c.args.test) (λ v. lit_value v c.args.x) (λ v. lit_value v c.args.y) _ c.in_ok-yes.yes c.in_ok-no.no c.choice_of.result
    c.choice_of.ensures.value c.in_ok-yes.ensures c.in_ok-no.ensures (λ v. refl)
