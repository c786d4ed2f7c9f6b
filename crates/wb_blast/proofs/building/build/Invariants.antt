use Rattle.wb_blast.specs.Building.{Building}
use Rattle.wb_blast.proofs.building.build.Given as goal

abbrev pub invariant-loop-number : goal.invariant-loop-number
invariant-loop-number l = Building l.graph l.fn.rows l.fn.formula.limit l.formula l.rows l.number
