use Rattle.std.proofs.Common.{subst}
use Rattle.wb_graph.specs.Functions.{Board}
use Rattle.wb_graph.proofs.Boards.{known_value, KnownValue}
use Rattle.wb_graph.proofs.functions.Functions.known_bit.Goals as goal

pub returns : goal.returns
returns c =
    subst (λ (b : Board). KnownValue b.forest c.args.d c.known_bit.result) c.self.view_is
    (known_value c.self.inside.diagrams c.args.d c.known_bit.result c.known_bit.ensures.some)
