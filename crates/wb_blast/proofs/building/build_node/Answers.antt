use Rattle.wb_blast.proofs.Builds.{met}
use Rattle.wb_blast.proofs.building.build_node.Goals as goal

pub build_word-requires-clause-can : goal.build_word-requires-clause-can
build_word-requires-clause-can c = c.requires.can _ (met c.args.rows.now.slots c.args.number c.slot.result c.slot.ensures c.if-slot-eq0.false) c.in-Word.ensures.node

pub build_bit-requires-clause-can : goal.build_bit-requires-clause-can
build_bit-requires-clause-can c = c.requires.can _ (met c.args.rows.now.slots c.args.number c.slot.result c.slot.ensures c.if-slot-eq0.false) c.in-Bit.ensures.node
