use Rattle.wb_law.proofs.Ranks.{on_the_way}
use Rattle.wb_law.proofs.requests.requests_are_on_the_way.Goals as goal

pub returns : goal.returns
returns c = on_the_way
