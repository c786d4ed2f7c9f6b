-- What a token of a text is to the grammar.
use Rattle.std.specs.Prelude.{◌≡◌, ◌≢◌, ℕ, List, slice_index, slice_range}
use Rattle.wb_lex.specs.declared.tokens.Token.{Token}
use Rattle.wb_lex.specs.declared.tokens.TokenKind.TheVariants.{Name, Mark}
use Rattle.wb_syntax.specs.declared.spans.Span.{Span}

-- the bytes of a token
abbrev pub spelling : List ℕ → Token → List ℕ
spelling text token = slice_range text token.start token.end

abbrev pub span_of : Token → Span
span_of token = record { start = token.start; end = token.end }

-- the token is this name
pub record Says (text : List ℕ) (token : Token) (name : List ℕ) : Type 0 where
  pub is_name : token.kind ≡ Name
  pub same : spelling text token ≡ name

-- the token is this mark
abbrev pub IsMark : Token → ℕ → Type 0
IsMark token mark = token.kind ≡ Mark mark

-- the token is a label: a name that doesn't begin with a full stop
pub record IsLabel (text : List ℕ) (token : Token) (label : Span) : Type 0 where
  pub is_name : token.kind ≡ Name
  pub plain : slice_index (spelling text token) 0 ≢ 46
  pub same : label ≡ span_of token
