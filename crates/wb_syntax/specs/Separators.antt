-- Where the tokens of a text are cut.
use Rattle.std.specs.Prelude.{Bool, true, false, ◌==◌, List, []}
use Rattle.std.specs.declared.option.Option.{Option}
use Rattle.std.specs.declared.option.Option.TheVariants.{Some, None}
use Rattle.std.specs.List.{slice_split}
use Rattle.wb_lex.specs.declared.tokens.Token.{Token}
use Rattle.wb_lex.specs.declared.tokens.TokenKind.{TokenKind}
use Rattle.wb_lex.specs.declared.tokens.TokenKind.TheVariants as kind
use Rattle.wb_syntax.specs.declared.separators.Separator.{Separator}
use Rattle.wb_syntax.specs.declared.separators.Separator.TheVariants.{Bar, Comma, LineEnd}

abbrev pub is_separator : Separator → TokenKind → Bool
is_separator Bar (kind.Mark mark) = mark == 124
is_separator Comma (kind.Mark mark) = mark == 44
is_separator LineEnd kind.LineEnd = true
is_separator _ _ = false

-- the tokens between separators, one part more than there are separators
abbrev pub parts : Separator → List Token → List (List Token)
parts separator tokens = slice_split (λ token. is_separator separator token.kind) tokens

-- the parts of what is left, if anything is
abbrev pub parts_left : Separator → Option (List Token) → List (List Token)
parts_left separator None = []
parts_left separator (Some tokens) = parts separator tokens
