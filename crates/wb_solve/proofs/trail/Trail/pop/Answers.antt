use Rattle.std.proofs.Common.{subst}
use Rattle.wb_solve.specs.Trails.{IsTrail}
use Rattle.wb_solve.proofs.Trailing.{trail_pop}
use Rattle.wb_solve.proofs.trail.Trail.pop.Goals as goal

pub invariant_of-self : goal.invariant_of-self
invariant_of-self c =
    trail_pop c.pop.new.self.items c.self.inside.values.items c.in-Some.entry
    (subst (λ es. IsTrail es c.self.inside.values.items) c.in-Some.ensures.items c.self.invariant)
