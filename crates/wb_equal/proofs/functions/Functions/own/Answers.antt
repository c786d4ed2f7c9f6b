use Rattle.std.proofs.Common.{◌≡◌, subst, sym}
use Rattle.wb_equal.specs.Functions.{Board}
use Rattle.wb_equal.specs.Order.{named}
use Rattle.wb_equal.proofs.Boards.{own_says}
use Rattle.wb_equal.proofs.functions.Functions.own.Goals as goal

pub returns-clause-says : goal.returns-clause-says
returns-clause-says c v =
    let board : Board = record { forest = c.self.inside.diagrams; names = c.self.inside.order; variables = c.self.inside.variables.items } in
    let stands = subst (λ (b : Board). named b.names v c.in_ok-variable.variable ≡ v c.args.var) (sym c.self.view_is) (c.in_ok-variable.ensures.stands v) in
    own_says board c.variable.new.self c.negated.new.self v c.in_ok-variable.variable (v c.args.var) c.in-Ok.yes c.in-Ok-negated.no
    c.in-Ok.ensures.keeps c.in-Ok-negated.ensures.keeps c.in-Ok.ensures.value c.in-Ok-negated.ensures.value stands
