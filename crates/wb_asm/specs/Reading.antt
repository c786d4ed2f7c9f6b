-- What the parts of a line's reading give. No public clause cites this.
use Rattle.std.specs.Prelude.{◌≡◌, ℕ, ℤ, pos, List, true}
use Rattle.std.specs.declared.option.Option.TheVariants.{None}
use Rattle.wb_syntax.specs.declared.statements.Body.{Body}
use Rattle.wb_syntax.specs.declared.statements.Body.TheVariants.{Org, Dorg}
use Rattle.wb_asm.specs.declared.layout.Layout.{Layout}
use Rattle.wb_asm.specs.Layout.{early_number, early_fault, program_words, data_words, place_fault, program_after, data_after, with_equ}
use Rattle.wb_asm.specs.Space.{with_words}
use Rattle.wb_asm.specs.Value.{is_between}

-- the range of a counter that is set
abbrev pub IsCounter : Body → ℤ → Type 0
IsCounter (Org x) number = is_between (pos 0) (pos 2047) number ≡ true
IsCounter (Dorg x) number = is_between (pos 0) (pos 1023) number ≡ true
IsCounter _ number = Unit {0}

-- the number that has to be known at once
pub record IsEarly (text : List ℕ) (before : Layout) (body : Body) (number : ℤ) : Type 0 where
  pub fault : early_fault text before body ≡ None
  pub same : number ≡ early_number text before body
  pub range : IsCounter body number

-- the words of a statement are placed
pub record IsPlaced (before now : Layout) (body : Body) : Type 0 where
  pub fault : place_fault before body ≡ None
  pub prog : now.prog ≡ with_words (program_words body) before.prog
  pub drom : now.drom ≡ with_words (data_words body) before.drom
  pub names : now.names ≡ before.names

-- what a statement says beside its label is done
pub record IsSettled (text : List ℕ) (before now : Layout) (body : Body) (number : ℤ) : Type 0 where
  pub fault : place_fault before body ≡ None
  pub prog : now.prog ≡ program_after before body number
  pub drom : now.drom ≡ data_after before body number
  pub names : now.names ≡ with_equ text before.names body number
