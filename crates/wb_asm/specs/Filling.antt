-- What the parts of the fourth reading do to an image. No public clause cites this.
use Rattle.std.specs.Prelude.{◌≡◌, ℕ, List}
use Rattle.wb_rom.specs.declared.images.Image.{Image}
use Rattle.wb_syntax.specs.declared.statements.Body.{Body}
use Rattle.wb_syntax.specs.declared.statements.Statement.{Statement}
use Rattle.wb_asm.specs.declared.counters.Counters.{Counters}
use Rattle.wb_asm.specs.Value.{Names}
use Rattle.wb_asm.specs.Words.{prog_with, drom_with, prog_filled, drom_filled}

-- the program memory is this, and the data memory stays
pub record HasProg (before now : Image) (words : List ℕ) : Type 0 where
  pub prog : now.prog ≡ words
  pub drom : now.drom ≡ before.drom

-- the data memory is this, and the program memory stays
pub record HasDrom (before now : Image) (words : List ℕ) : Type 0 where
  pub prog : now.prog ≡ before.prog
  pub drom : now.drom ≡ words

-- the words of a statement are put
pub record IsFilled (text : List ℕ) (names : Names) (before now : Image) (at : Counters) (body : Body) : Type 0 where
  pub prog : now.prog ≡ prog_with text names before.prog at body
  pub drom : now.drom ≡ drom_with text names before.drom at body

-- the words of all statements are put
pub record AreFilled (text : List ℕ) (names : Names) (before now : Image) (statements : List Statement) (counters : List Counters) : Type 0 where
  pub prog : now.prog ≡ prog_filled text names before.prog statements counters
  pub drom : now.drom ≡ drom_filled text names before.drom statements counters
