use Rattle.wb_gen.proofs.BodyKinds.{numbers_have_bodies}
use Rattle.wb_gen.proofs.laws.numbers_have_bodies.Goals as goal

pub returns : goal.returns
returns c = numbers_have_bodies c.coding_laws.ensures.instr
