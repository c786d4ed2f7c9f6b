use Rattle.wb_law.proofs.FreshRequests.{first_requests_fresh}
use Rattle.wb_law.proofs.requests.first_requests_are_fresh.Goals as goal

pub returns : goal.returns
returns c = first_requests_fresh c.port_facts.ensures
