use Rattle.wb_equal.proofs.Boards.{entered}
use Rattle.wb_equal.proofs.sharing.Sharing.gate.Goals as goal

pub invariant_of-self-in_default-insert : goal.invariant_of-self-in_default-insert
invariant_of-self-in_default-insert c =
    entered c.self.inside.formula c.append.new.formula c.self.inside.functions c.function_of-function.new.self c.enter.new.self c.args.gate c.in_ok-lit.lit c.function_of-function.result
    c.self.invariant c.function_of-function.ensures.keeps c.function_of-function.ensures.value c.in_ok-lit.ensures.variable c.in_ok-lit.ensures.means c.in_ok-lit.ensures.extends
    c.enter.ensures.few c.enter.ensures.right

pub invariant_of-self-2 : goal.invariant_of-self-2
invariant_of-self-2 c =
    entered c.self.inside.formula c.append.new.formula c.self.inside.functions c.function_of-function.new.self c.enter.new.self c.args.gate c.in_ok-lit.lit c.function_of-function.result
    c.self.invariant c.function_of-function.ensures.keeps c.function_of-function.ensures.value c.in_ok-lit.ensures.variable c.in_ok-lit.ensures.means c.in_ok-lit.ensures.extends
    c.enter.ensures.few c.enter.ensures.right
