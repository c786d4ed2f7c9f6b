use Rattle.wb_law.proofs.FreshRequests.{fresh_requests_first}
use Rattle.wb_law.proofs.requests.fresh_requests_are_first.Goals as goal

pub returns : goal.returns
returns c = fresh_requests_first c.port_facts.ensures
