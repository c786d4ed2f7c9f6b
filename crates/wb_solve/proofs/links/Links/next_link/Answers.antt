use Rattle.std.proofs.Common.{length}
use Rattle.wb_solve.proofs.Linked.{kept_end}
use Rattle.wb_solve.proofs.links.Links.next_link.Goals as goal

pub returns : goal.returns
returns c =
    let f = c.args.formula.now in
    let count = length c.args.self.now.gates.items in
    record {
      clause = c.requires.linked.clause_count;
      first = kept_end f count c.args.self.now c.args.named.first.var c.index.result.now c.requires.linked c.requires.below.0 c.index.ensures;
      second = kept_end f count c.args.self.now c.args.named.second.var c.index-2.result.now c.requires.linked c.requires.below.1 c.index-2.ensures;
      third = kept_end f count c.args.self.now c.args.named.third.var c.index-3.result.now c.requires.linked c.requires.below.2 c.index-3.ensures;
    }
