use Rattle.std.proofs.Common.{◌≡◌, ◌⊎◌}
use Rattle.wb_graph.specs.Worlds.{byte_by_byte, side_by_side}
use Rattle.wb_graph.proofs.Names.{Naming}
use Rattle.wb_graph.proofs.functions.Functions.byte_function.Given as goal

abbrev pub invariant-loop-bit : goal.invariant-loop-bit
invariant-loop-bit l = Naming l.names 8 l.bit (λ k x. (x ≡ byte_by_byte l.place k) ⊎ (x ≡ side_by_side l.place k))
