use Rattle.wb_diagram.proofs.Seen.{IsAdded-inserted}
use Rattle.wb_diagram.proofs.sizes.see.Goals as goal

pub returns : goal.returns
returns c =
    let stored = c.in-Ok.ensures.stored in
    IsAdded-inserted _ _ _ stored.0 _ c.in-Ok.ensures.keys stored.1 stored.2
