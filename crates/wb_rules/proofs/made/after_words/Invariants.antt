use Rattle.std.specs.Prelude.{◌+◌, ◌≤◌, length}
use Rattle.wb_rules.specs.Made.{AllThere}
use Rattle.wb_rules.proofs.made.after_words.Given as goal

abbrev pub invariant-loop-step : goal.invariant-loop-step
invariant-loop-step l = record {
  there : AllThere l.graph l.made;
  longer : length l.graph.nodes ≤ length l.fn.graph.nodes + l.step-index;
}
