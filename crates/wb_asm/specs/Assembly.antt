-- The image of a text, or its first fault: there are four readings, and the first that finds a fault gives it.
-- `specs/Placing.antt` says the image by the rules alone, with no readings; `images_are_placings` shows that it is the same.
use Rattle.std.specs.Prelude.{◌≡◌, ℕ, ⊤, ◌⊎◌, List, replicate}
use Rattle.std.specs.declared.option.Option.{Option}
use Rattle.std.specs.declared.option.Option.TheVariants.{Some, None}
use Rattle.wb_lex.specs.declared.faults.LexFault.{LexFault}
use Rattle.wb_lex.specs.declared.faults.LexFault.TheVariants as lex
use Rattle.wb_lex.specs.declared.tokens.Token.{Token}
use Rattle.wb_lex.specs.Tokens as tokens
use Rattle.wb_rom.specs.declared.images.Image.{Image}
use Rattle.wb_syntax.specs.declared.statements.Statement.{Statement}
use Rattle.wb_syntax.specs.Source.{IsSource, IsFirstBad}
use Rattle.wb_asm.specs.declared.counters.Counters.{Counters}
use Rattle.wb_asm.specs.declared.faults.AsmError.{AsmError}
use Rattle.wb_asm.specs.declared.faults.AsmError.TheVariants.{Fault, OutOfMemory}
use Rattle.wb_asm.specs.declared.faults.AsmFault.{AsmFault}
use Rattle.wb_asm.specs.declared.faults.AsmKind.TheVariants as kind
use Rattle.wb_asm.specs.Counters.{first_misplaced, laid_out, counters}
use Rattle.wb_asm.specs.Layout.{start}
use Rattle.wb_asm.specs.Value.{Names}
use Rattle.wb_asm.specs.Words.{first_misvalued, prog_filled, drom_filled}

-- the text has no fault in its bytes and in its grammar, and says these statements
pub record Says (text : List ℕ) (statements : List Statement) : Type 0 where
  pub cut : List Token
  pub tokens : tokens.IsTokens text cut
  pub source : IsSource text cut statements

module _ (text : List ℕ) (statements : List Statement) where
  -- all names of the text
  abbrev pub all_names : Names
  all_names = (laid_out text start statements).names

  -- the counters before each statement
  abbrev pub all_counters : List Counters
  all_counters = counters text start statements

  -- the first fault in definitions and placing
  abbrev pub placing_fault : Option AsmFault
  placing_fault = first_misplaced text start statements

  -- the first fault in the values of words
  abbrev pub value_fault : Option AsmFault
  value_fault = first_misvalued text all_names statements all_counters

-- a memory of so many places with 0 at each
unfoldable pub zeros : ℕ → List ℕ
zeros size = replicate size 0

-- the image of a text: its words stand at their places, and 0 elsewhere
pub record IsImageOfText (text : List ℕ) (image : Image) : Type 0 where
  pub statements : List Statement
  pub says : Says text statements
  pub placed : placing_fault text statements ≡ None
  pub valued : value_fault text statements ≡ None
  pub prog : image.prog ≡ prog_filled text (all_names text statements) (zeros 2048) statements (all_counters text statements)
  pub drom : image.drom ≡ drom_filled text (all_names text statements) (zeros 1024) statements (all_counters text statements)

-- a fault of the first reading
abbrev pub of_bytes : LexFault → Option AsmFault
of_bytes (lex.Byte line column) = Some (record { line = line; kind = kind.Byte column })
of_bytes (lex.Wide line) = Some (record { line = line; kind = kind.Wide })
of_bytes lex.OutOfMemory = None

-- the first fault of the first reading
pub record IsFaultOfBytes (text : List ℕ) (fault : AsmFault) : Type 0 where
  pub found : LexFault
  pub first : tokens.IsFirstFault text found
  pub same : of_bytes found ≡ Some fault

-- of the second
pub record IsFaultOfGrammar (text : List ℕ) (fault : AsmFault) : Type 0 where
  pub cut : List Token
  pub tokens : tokens.IsTokens text cut
  pub first : IsFirstBad text cut fault.line
  pub same : fault.kind ≡ kind.Syntax

-- of the third
pub record IsFaultOfPlacing (text : List ℕ) (fault : AsmFault) : Type 0 where
  pub statements : List Statement
  pub says : Says text statements
  pub first : placing_fault text statements ≡ Some fault

-- of the fourth
pub record IsFaultOfValues (text : List ℕ) (fault : AsmFault) : Type 0 where
  pub statements : List Statement
  pub says : Says text statements
  pub placed : placing_fault text statements ≡ None
  pub first : value_fault text statements ≡ Some fault

-- the first fault of a text
abbrev pub IsFirstFault : List ℕ → AsmFault → Type 0
IsFirstFault text fault =
    IsFaultOfBytes text fault ⊎ (IsFaultOfGrammar text fault ⊎ (IsFaultOfPlacing text fault ⊎ IsFaultOfValues text fault))

-- when an error may be answered: the first fault of the text; want of memory is free
abbrev pub IsErrorOf : List ℕ → AsmError → Type 0
IsErrorOf text (Fault fault) = IsFirstFault text fault
IsErrorOf text OutOfMemory = ⊤
