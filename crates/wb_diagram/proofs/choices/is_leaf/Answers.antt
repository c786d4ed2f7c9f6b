use Rattle.std.proofs.Common.{◌≢◌, arith}
use Rattle.wb_diagram.specs.Forest.{leaf_number}
use Rattle.wb_diagram.proofs.Reach.{reaches-not}
use Rattle.wb_diagram.proofs.choices.is_leaf.Goals as goal

pub returns-clause-no : goal.returns-clause-no
returns-clause-no c unequal =
    let number = c.leaf.ensures.number in
    let differs : c.args.d.number ≢ leaf_number c.args.constant = λ e. grind arith in
    reaches-not c.args.diagrams.now c.leaf.ensures.forest c.args.constant c.args.d c.requires differs
