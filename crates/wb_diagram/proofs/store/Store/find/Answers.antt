use Rattle.std.proofs.Common.{◌≡◌, ◌∙◌, Some, slice_get, sym, subst}
use Rattle.wb_diagram.specs.Forest.{Forest}
use Rattle.wb_diagram.proofs.Find.{found_at}
use Rattle.wb_diagram.proofs.store.Store.find.Goals as goal

pub returns-clause-found : goal.returns-clause-found
returns-clause-found c =
    subst (λ (f : Forest). slice_get f.nodes c.in-Some.index ≡ Some c.args.node) c.self.view_is
    (found_at c.args.node c.self.inside.nodes.keys c.in-Some.index (sym c.get_index_of.ensures.index ∙ c.in-Some.is))
