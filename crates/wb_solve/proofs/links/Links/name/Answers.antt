use Rattle.wb_solve.proofs.Linked.{ends_put}
use Rattle.wb_solve.proofs.links.Links.name.Goals as goal

pub returns-clause-ends : goal.returns-clause-ends
returns-clause-ends c = ends_put c.args.self.now.ends.items c.args.named c.args.end c.requires
