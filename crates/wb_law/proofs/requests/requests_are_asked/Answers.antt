use Rattle.wb_law.proofs.Asked.{requests_are_asked}
use Rattle.wb_law.proofs.requests.requests_are_asked.Goals as goal

pub returns : goal.returns
returns c = requests_are_asked c.port_facts.ensures
