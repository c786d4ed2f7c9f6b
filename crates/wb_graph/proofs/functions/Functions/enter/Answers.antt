use Rattle.std.proofs.Common.{rules}
use Rattle.wb_graph.proofs.Boards.{entered}
use Rattle.wb_graph.proofs.functions.Functions.enter.Goals as goal

pub returns : goal.returns
returns c =
    entered c.args.self.now c.self.inside.diagrams c.self.inside.summaries.items c.push.new.self.items c.args.number c.args.summary c.self.view_is
    c.in-Ok.ensures.items (search rules)
