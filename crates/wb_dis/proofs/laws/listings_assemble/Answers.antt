use Rattle.wb_dis.proofs.Listed.{listing_assembles}
use Rattle.wb_dis.proofs.laws.listings_assemble.Goals as goal

pub returns : goal.returns
returns c = listing_assembles c.coding_laws.ensures.word
