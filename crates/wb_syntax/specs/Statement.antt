-- What one line of a source says, by its tokens.
use Rattle.std.specs.Prelude.{◌≡◌, ℕ, false, ⊤, List, [], ◌∷◌}
use Rattle.std.specs.declared.option.Option.{Option}
use Rattle.std.specs.declared.option.Option.TheVariants.{Some, None}
use Rattle.wb_lex.specs.declared.tokens.Token.{Token}
use Rattle.wb_word.specs.Names.{dst_name}
use Rattle.wb_word.specs.declared.codes.Dst.{Dst}
use Rattle.wb_word.specs.declared.words.OpWord.{OpWord}
use Rattle.wb_syntax.specs.declared.spans.Span.{Span}
use Rattle.wb_syntax.specs.declared.statements.Body.{Body}
use Rattle.wb_syntax.specs.declared.statements.Body.TheVariants as variant
use Rattle.wb_syntax.specs.declared.statements.Statement.{Statement}
use Rattle.wb_syntax.specs.Clause.{AreFields, empty_word}
use Rattle.wb_syntax.specs.Expression.{has_mark, IsExpression}
use Rattle.wb_syntax.specs.Mnemonic.{mnemonic_name}
use Rattle.wb_syntax.specs.Separators.{parts}
use Rattle.wb_syntax.specs.declared.mnemonics.Mnemonic.{Mnemonic}
use Rattle.wb_syntax.specs.declared.mnemonics.Mnemonic.TheVariants as mnemonic
use Rattle.wb_syntax.specs.declared.separators.Separator.TheVariants.{Comma}
use Rattle.wb_syntax.specs.Spelling.{Says, IsMark, IsLabel}
use Rattle.wb_syntax.specs.Tree.{Tree}

-- the rest of a line that computes and moves: nothing at all, or its clauses
abbrev pub IsWord : List ℕ → List Token → OpWord → Type 0
IsWord text [] word = word ≡ empty_word
IsWord text (token ∷ tokens) word = AreFields text (token ∷ tokens) word

-- each of these parts is an expression
abbrev pub AreExpressions : List ℕ → List (List Token) → List Tree → Type 0
AreExpressions text [] [] = ⊤
AreExpressions text [] (_ ∷ _) = ⊥
AreExpressions text (_ ∷ _) [] = ⊥
AreExpressions text (part ∷ others) (tree ∷ trees) = IsExpression text part tree × AreExpressions text others trees

-- a destination, a comma and an expression
pub record IsLoad (text : List ℕ) (tokens : List Token) (dst : Dst) (x : Tree) : Type 0 where
  pub name : Token
  pub comma : Token
  pub others : List Token
  pub split : tokens ≡ name ∷ comma ∷ others
  pub named : Says text name (dst_name dst)
  pub separated : IsMark comma 44
  pub valued : IsExpression text others x

-- a label, a comma and an expression
pub record IsDefinition (text : List ℕ) (tokens : List Token) (label : Span) (x : Tree) : Type 0 where
  pub name : Token
  pub comma : Token
  pub others : List Token
  pub split : tokens ≡ name ∷ comma ∷ others
  pub named : IsLabel text name label
  pub separated : IsMark comma 44
  pub valued : IsExpression text others x

-- after this mnemonic the tokens say this
abbrev pub IsOperands : List ℕ → Mnemonic → List Token → Body → Type 0
IsOperands text mnemonic.Nop tokens body = (tokens ≡ []) × (body ≡ variant.Op empty_word)
IsOperands text mnemonic.Op tokens body = (word : OpWord) × (body ≡ variant.Op word) × IsWord text tokens word
IsOperands text mnemonic.Rt tokens body = (word : OpWord) × (body ≡ variant.Rt word) × IsWord text tokens word
IsOperands text mnemonic.Ld tokens body = (dst : Dst) × (x : Tree) × (body ≡ variant.Ld dst x) × IsLoad text tokens dst x
IsOperands text (mnemonic.Jump cond) tokens body = (x : Tree) × (body ≡ variant.Jump cond x) × IsExpression text tokens x
IsOperands text mnemonic.Org tokens body = (x : Tree) × (body ≡ variant.Org x) × IsExpression text tokens x
IsOperands text mnemonic.Dorg tokens body = (x : Tree) × (body ≡ variant.Dorg x) × IsExpression text tokens x
IsOperands text mnemonic.Equ tokens body = (label : Span) × (x : Tree) × (body ≡ variant.Equ label x) × IsDefinition text tokens label x
IsOperands text mnemonic.Word tokens body = (xs : List Tree) × (body ≡ variant.Words xs) × AreExpressions text (parts Comma tokens) xs
IsOperands text mnemonic.Dw tokens body = (xs : List Tree) × (body ≡ variant.Dwords xs) × AreExpressions text (parts Comma tokens) xs

-- a mnemonic and its operands
pub record IsInstruction (text : List ℕ) (tokens : List Token) (body : Body) : Type 0 where
  pub head : Token
  pub rest : List Token
  pub split : tokens ≡ head ∷ rest
  pub mnemonic : Mnemonic
  pub name : List ℕ
  pub is_named : mnemonic_name mnemonic ≡ Some name
  pub said : Says text head name
  pub operands : IsOperands text mnemonic rest body

-- the tokens, without a label, say this: nothing at all, or an instruction
abbrev pub IsBody : List ℕ → List Token → Body → Type 0
IsBody text [] body = body ≡ variant.Empty
IsBody text (token ∷ tokens) body = IsInstruction text (token ∷ tokens) body

-- the tokens say this after their label: a line has one exactly where a colon, 58, is its second token
abbrev pub IsLabelled : List ℕ → List Token → Option Span → Body → Type 0
IsLabelled text tokens None body = (has_mark tokens 1 58 ≡ false) × IsBody text tokens body
IsLabelled text tokens (Some label) body =
    (name colon : Token) × (rest : List Token) × (tokens ≡ name ∷ colon ∷ rest) × IsLabel text name label × IsMark colon 58 × IsBody text rest body

-- the number of a line that isn't empty
abbrev pub line_number : List Token → ℕ
line_number [] = 0
line_number (token ∷ _) = token.line

-- the line of these tokens says this
pub record IsStatement (text : List ℕ) (tokens : List Token) (statement : Statement) : Type 0 where
  pub number : statement.line ≡ line_number tokens
  pub says : IsLabelled text tokens statement.label statement.body
