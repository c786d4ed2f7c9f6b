use Rattle.std.proofs.Common.{subst}
use Rattle.wb_graph.specs.Functions.{Board}
use Rattle.wb_graph.proofs.Boards.{known_number, KnownNumber}
use Rattle.wb_graph.proofs.functions.Functions.known_word.Goals as goal

pub returns : goal.returns
returns c =
    subst (λ (b : Board). KnownNumber b.forest c.args.w.now c.known_word.result) c.self.view_is
    (known_number c.self.inside.diagrams c.args.w.now c.known_word.result c.known_word.ensures.some)
