use Rattle.std.proofs.Common.{subst}
use Rattle.wb_equal.specs.Functions.{Board, Keeps}
use Rattle.wb_equal.proofs.Boards.{board_grows, keeps, with_forest}
use Rattle.wb_equal.proofs.functions.Functions.variable.Goals as goal

pub invariant_of-self : goal.invariant_of-self
invariant_of-self c = board_grows (record { forest = c.self.inside.diagrams; names = c.self.inside.order; variables = c.self.inside.variables.items }) _ c.self.invariant c.variable.ensures.grown

pub returns-clause-keeps : goal.returns-clause-keeps
returns-clause-keeps c =
    let board : Board = record { forest = c.self.inside.diagrams; names = c.self.inside.order; variables = c.self.inside.variables.items } in
    subst (λ (b : Board). Keeps b (with_forest board c.variable.new.self)) c.self.view_is (keeps board _ c.self.invariant c.variable.ensures.grown)
