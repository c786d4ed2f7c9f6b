use Rattle.std.proofs.Common.{◌≡◌}
use Rattle.wb_graph.specs.Worlds.{own_variable}
use Rattle.wb_graph.proofs.Names.{Naming}
use Rattle.wb_graph.proofs.functions.Functions.own_word.Given as goal

abbrev pub invariant-loop-at : goal.invariant-loop-at
invariant-loop-at l = Naming l.names 16 l.at (λ k x. x ≡ own_variable l.number k)
