-- The statements of a text, line by line, and its first bad line.
use Rattle.std.specs.Prelude.{◌≡◌, ℕ, Bool, true, false, ⊤, List, [], ◌∷◌, ◌++◌, filter}
use Rattle.wb_lex.specs.declared.tokens.Token.{Token}
use Rattle.wb_syntax.specs.declared.faults.SyntaxFault.{SyntaxFault}
use Rattle.wb_syntax.specs.declared.faults.SyntaxFault.TheVariants.{Syntax, OutOfMemory}
use Rattle.wb_syntax.specs.declared.statements.Statement.{Statement}
use Rattle.wb_syntax.specs.Separators.{parts}
use Rattle.wb_syntax.specs.declared.separators.Separator.TheVariants.{LineEnd}
use Rattle.wb_syntax.specs.Statement.{IsStatement, line_number}

abbrev pub is_filled : List Token → Bool
is_filled [] = false
is_filled (_ ∷ _) = true

-- the lines of a text that aren't empty, as their tokens
abbrev pub lines_of : List Token → List (List Token)
lines_of tokens = filter is_filled (parts LineEnd tokens)

-- each of these lines says the statement at its place
abbrev pub AreStatements : List ℕ → List (List Token) → List Statement → Type 0
AreStatements text [] [] = ⊤
AreStatements text [] (_ ∷ _) = ⊥
AreStatements text (_ ∷ _) [] = ⊥
AreStatements text (line ∷ lines) (statement ∷ statements) = IsStatement text line statement × AreStatements text lines statements

-- a text with these tokens is a source of these statements, one for each line that isn't empty
abbrev pub IsSource : List ℕ → List Token → List Statement → Type 0
IsSource text tokens statements = AreStatements text (lines_of tokens) statements

-- the first line that says nothing known
pub record IsFirstBad (text : List ℕ) (tokens : List Token) (number : ℕ) : Type 0 where
  pub earlier : List (List Token)
  pub line : List Token
  pub later : List (List Token)
  pub split : lines_of tokens ≡ earlier ++ line ∷ later
  pub statements : List Statement
  pub good : AreStatements text earlier statements
  pub bad : (statement : Statement) → IsStatement text line statement → ⊥
  pub same : number ≡ line_number line

-- when a fault may be answered; want of memory is free
abbrev pub IsFaultOf : List ℕ → List Token → SyntaxFault → Type 0
IsFaultOf text tokens (Syntax line) = IsFirstBad text tokens line
IsFaultOf text tokens OutOfMemory = ⊤
