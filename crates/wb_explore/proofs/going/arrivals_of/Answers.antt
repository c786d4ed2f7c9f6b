use Rattle.std.proofs.Common.{subst}
use Rattle.wb_symstep.specs.declared.stepped.Stepped.{Stepped}
use Rattle.wb_explore.specs.Pending.{StepsTo}
use Rattle.wb_explore.proofs.going.arrivals_of.Goals as goal

pub one_way-requires-clause-stands : goal.one_way-requires-clause-stands
one_way-requires-clause-stands c = subst (λ (r : Stepped). StepsTo c.args.graph.now c.args.image.now c.args.entry.now r) c.in-One.is c.requires.stands

pub fork-requires-clause-stands : goal.fork-requires-clause-stands
fork-requires-clause-stands c = subst (λ (r : Stepped). StepsTo c.args.graph.now c.args.image.now c.args.entry.now r) c.in-Fork.is c.requires.stands
