use Rattle.wb_explore.proofs.Standing.{knowledge_grown}
use Rattle.wb_explore.proofs.laws.knowledge_stays.Goals as goal

pub returns : goal.returns
returns c image other p q old new known adds = knowledge_grown image other p q old new known adds
