use Rattle.wb_known.proofs.BoundLaws.{excluded}
use Rattle.wb_known.proofs.bounds.can_be.Goals as goal

pub returns : goal.returns
returns c e inputs is = excluded _ _ _ (c.possible_bits.ensures.keeps inputs is) e
