-- What the third reading hands to the fourth. No public clause cites this.
use Rattle.std.specs.Prelude.{◌≡◌, ℕ, ◌+◌, ◌≤◌, List, [], ◌∷◌}
use Rattle.std.specs.declared.option.Option.TheVariants.{None}
use Rattle.wb_syntax.specs.declared.statements.Statement.{Statement}
use Rattle.wb_asm.specs.declared.counters.Counters.{Counters}
use Rattle.wb_asm.specs.declared.laying.Placing.{Placing}
use Rattle.wb_asm.specs.Counters.{first_misplaced, laid_out, counters}
use Rattle.wb_asm.specs.Layout.{start, program_words, data_words}

-- the words of each statement have room from its counters on
abbrev pub HaveRoom : List Statement → List Counters → Type 0
HaveRoom [] _ = Unit {0}
HaveRoom (statement ∷ statements) [] = ⊥
HaveRoom (statement ∷ statements) (at ∷ later) =
    (at.prog + program_words statement.body ≤ 2048) × (at.drom + data_words statement.body ≤ 1024) × HaveRoom statements later

-- the statements have no fault in definitions and placing, and this is what they come to
pub record IsLaidOut (text : List ℕ) (statements : List Statement) (placing : Placing) : Type 0 where
  pub fault : first_misplaced text start statements ≡ None
  pub names : placing.names ≡ (laid_out text start statements).names
  pub before : placing.counters.items ≡ counters text start statements
