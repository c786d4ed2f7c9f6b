-- Where tokens are cut.
use Rattle.std.proofs.Common.{◌≡◌, ℕ, ◌+◌, ◌<◌, suc, true, false, List, ◌∷◌, ◌++◌, length, get_or, take, drop, sym, ap, ◌∙◌, arith}
use Rattle.std.specs.List.{All}
use Rattle.std.proofs.Math.Seq.{drop-cons}
use Rattle.std.proofs.lemmas.List.{take-append-drop}
use Rattle.std.proofs.lemmas.List.Elements.{All-more}
use Rattle.std.proofs.lemmas.List.Splits.{slice_split_at}
use Rattle.wb_lex.specs.declared.tokens.Token.{Token}
use Rattle.wb_syntax.specs.declared.separators.Separator.{Separator}
use Rattle.wb_syntax.specs.Separators.{is_separator, parts}

-- tokens up to the first separator, and those after it
pub cut_at : (separator : Separator) (tokens : List Token) (place : ℕ) (d : Token) → place < length tokens → All (λ token. is_separator separator token.kind ≡ false) (take place tokens)
    → is_separator separator (get_or tokens place d).kind ≡ true → parts separator tokens ≡ take place tokens ∷ parts separator (drop (place + 1) tokens)
cut_at separator tokens place d within none here =
    ap (parts separator) (sym (take-append-drop place tokens) ∙ ap (λ ts. take place tokens ++ ts) (let one : place + 1 ≡ suc place = omega arith in rw one (drop-cons tokens place d within)))
    ∙ slice_split_at (λ token. is_separator separator token.kind) (take place tokens) (get_or tokens place d) (drop (place + 1) tokens) none here

-- one token more that is none
pub cut_more : (separator : Separator) (tokens : List Token) (place : ℕ) (d : Token) → place < length tokens → All (λ token. is_separator separator token.kind ≡ false) (take place tokens)
    → is_separator separator (get_or tokens place d).kind ≡ false → All (λ token. is_separator separator token.kind ≡ false) (take (place + 1) tokens)
cut_more separator tokens place d within none here = All-more (λ token. is_separator separator token.kind ≡ false) tokens place d within none here
