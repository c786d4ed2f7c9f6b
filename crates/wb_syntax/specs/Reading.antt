-- What the readers of a line answer. No public clause cites this.
use Rattle.std.specs.Prelude.{◌≡◌, ℕ, ◌+◌, Bool, true, false, ◌||◌, ⊤, ◌⊎◌, List}
use Rattle.std.specs.declared.result.Result.{Result}
use Rattle.std.specs.declared.result.Result.TheVariants.{Ok, Err}
use Rattle.wb_lex.specs.declared.tokens.Token.{Token}
use Rattle.wb_syntax.specs.declared.faults.SyntaxFault.{SyntaxFault}
use Rattle.wb_syntax.specs.declared.faults.SyntaxFault.TheVariants as fault
use Rattle.wb_syntax.specs.declared.refusals.Refusal.{Refusal}
use Rattle.wb_syntax.specs.declared.refusals.Refusal.TheVariants.{Syntax, OutOfMemory}
use Rattle.wb_lex.specs.declared.tokens.TokenKind.TheVariants as kind
use Rattle.wb_syntax.specs.Spelling.{IsMark, IsLabel}
use Rattle.wb_syntax.specs.Tree.{Tree, Number, Label, Here, Minus}
use Rattle.wb_syntax.specs.Expression.{has_mark, IsExpr, IsTerm, IsAtom}

-- a refusal for want of memory is free; any other says that nothing of this kind is there
abbrev pub IsRefusal : {A : Type 0} → (A → Type 0) → Refusal → Type 0
IsRefusal {A} Is Syntax = (x : A) → Is x → ⊥
IsRefusal Is OutOfMemory = ⊤

-- the answer of a reader of things
abbrev pub IsReading : {A : Type 0} → (A → Type 0) → Result A Refusal → Type 0
IsReading Is (Ok x) = Is x
IsReading Is (Err refusal) = IsRefusal Is refusal

-- what an expression begins with: a term, or minus a term
abbrev pub IsFirst : List ℕ → List Token → ℕ → ℕ → ℕ → Tree → Type 0
IsFirst text tokens depth start end x =
    IsTerm text tokens depth start end x ⊎ ((y : Tree) × (x ≡ Minus y) × (has_mark tokens start 45 ≡ true) × IsTerm text tokens depth (start + 1) end y)

-- an operator that would go on with an expression stands at a place
abbrev pub has_sum_mark : List Token → ℕ → Bool
has_sum_mark tokens place = has_mark tokens place 43 || has_mark tokens place 45

-- a tree, and the place up to which its tokens go
abbrev pub Read : Type 0
Read = Tree × ℕ

-- an atom is read as it stands; a term and an expression as far as they go
abbrev pub ReadsAtom : List ℕ → List Token → ℕ → ℕ → Read → Type 0
ReadsAtom text tokens depth start read = IsAtom text tokens depth start read.1 read.0

abbrev pub ReadsTerm : List ℕ → List Token → ℕ → ℕ → Read → Type 0
ReadsTerm text tokens depth start read = IsTerm text tokens depth start read.1 read.0 × (has_mark tokens read.1 42 ≡ false)

abbrev pub ReadsFirst : List ℕ → List Token → ℕ → ℕ → Read → Type 0
ReadsFirst text tokens depth start read = IsFirst text tokens depth start read.1 read.0 × (has_mark tokens read.1 42 ≡ false)

abbrev pub ReadsExpr : List ℕ → List Token → ℕ → ℕ → Read → Type 0
ReadsExpr text tokens depth start read =
    IsExpr text tokens depth start read.1 read.0 × (has_mark tokens read.1 42 ≡ false) × (has_sum_mark tokens read.1 ≡ false)

-- the atom that a token is by itself
abbrev pub IsAlone : List ℕ → Token → Tree → Type 0
IsAlone text token (Number n) = token.kind ≡ kind.Number n
IsAlone text token (Label span) = IsLabel text token span
IsAlone text token Here = IsMark token 36
IsAlone text token _ = ⊥

-- what stands before a parenthesis that closes, and the place after that
abbrev pub IsClosing : List Token → ℕ → Tree → Result Read Refusal → Type 0
IsClosing tokens close x (Ok read) = (has_mark tokens close 41 ≡ true) × (read.0 ≡ x) × (read.1 ≡ close + 1)
IsClosing tokens close x (Err Syntax) = has_mark tokens close 41 ≡ false
IsClosing tokens close x (Err OutOfMemory) = ⊥

-- a refusal of a line, as the fault of its text
abbrev pub IsFault : ℕ → Refusal → SyntaxFault → Type 0
IsFault line Syntax found = found ≡ fault.Syntax line
IsFault line OutOfMemory found = found ≡ fault.OutOfMemory
