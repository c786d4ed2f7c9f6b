use Rattle.std.proofs.Common.{◌≡◌, true, take}
use Rattle.std.specs.List.{list_all}
use Rattle.wb_gate.specs.Clauses.{satisfies_clause, clauses_of}
use Rattle.wb_query.specs.Oracles.{assigned}
use Rattle.wb_query.proofs.satisfaction.are_clauses_true.Given as goal

abbrev pub invariant-loop-number : goal.invariant-loop-number
invariant-loop-number l = list_all (satisfies_clause (assigned l.values)) (take l.number (clauses_of l.formula)) ≡ true
