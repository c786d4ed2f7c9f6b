use Rattle.std.proofs.Common.{◌≡◌}
use Rattle.wb_word.specs.declared.sides.Side.TheVariants.{A}
use Rattle.wb_term.specs.Terms.{table_of, table_words}
use Rattle.wb_symstep.specs.State.{IsSymState}
use Rattle.wb_executed.proofs.symstep.words_do_what_the_machine_does.Given as goal

abbrev pub invariant-loop-k : goal.invariant-loop-k
invariant-loop-k g l = IsSymState l.graph l.state × (table_words l.graph.tables (table_of l.graph.tables A) ≡ l.image.drom)
