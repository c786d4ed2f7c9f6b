use Rattle.wb_explore.specs.Walk.{to_go}
use Rattle.wb_explore.proofs.Turning.{IsSoFar, IsSteady}
use Rattle.wb_explore.proofs.walking.walk.Given as goal

abbrev pub invariant-turns : goal.invariant-turns
invariant-turns g l =
    IsSoFar l.image l.plan l.initial.graph l.graph l.initial.purse l.purse l.initial.pending.items l.pending.items l.findings.requests.items l.initial.findings.overrun l.findings.overrun
    × IsSteady (g.O.Oracle.is_sound l.initial.oracle) (g.O.Oracle.is_sound l.oracle) (g.O.Oracle.limit_of l.initial.oracle) (g.O.Oracle.limit_of l.oracle) (g.O.Oracle.held l.initial.oracle) (g.O.Oracle.held l.oracle) (g.O.Oracle.given l.initial.oracle) (g.O.Oracle.given l.oracle)

abbrev pub decreases-turns : goal.decreases-turns
decreases-turns g l = to_go l.purse.budget.points l.purse.reached l.pending.items
