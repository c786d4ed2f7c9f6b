use Rattle.std.proofs.Common.{[], refl, subst}
use Rattle.wb_explore.specs.declared.budget.Budget.{Budget}
use Rattle.wb_explore.specs.declared.faults.ExploreFault.TheVariants as fault
use Rattle.wb_explore.specs.Explored.{first_plan}
use Rattle.wb_explored.specs.Explorations.{StopsWithin}
use Rattle.wb_explored.proofs.Stages.{stops_first, stops_sooner}
use Rattle.wb_explored.proofs.exploring.explore.Goals as goal

pub returns-in_default-clause-cause : goal.returns-in_default-clause-cause
returns-in_default-clause-cause g c =
    stops_first c.args.image.now (first_plan c.args.setting.side c.args.setting.pace c.args.setting.power) c.args.kinds.now (g.O.Oracle.is_sound c.args.oracle.now)
    (record { budget = c.args.setting.budget; reached = [] }) c.args.setting.budget fault.OutOfMemory refl tt

pub returns-in-Err-clause-cause : goal.returns-in-Err-clause-cause
returns-in-Err-clause-cause g c =
    let plan = first_plan c.args.setting.side c.args.setting.pace c.args.setting.power in
    subst (λ (b : Budget). StopsWithin c.args.image.now plan c.args.kinds.now (g.O.Oracle.is_sound c.args.oracle.now) b c.in-Err.fault) c.new-purse.ensures.budget
    (stops_sooner c.args.image.now plan c.args.kinds.now (g.O.Oracle.is_sound c.args.oracle.now) c.new-purse.result.budget c.in-Err.fault c.in-Err.ensures.cause)
