-- The lines of a listing, one after the other: their tokens and their statements.
use Rattle.std.proofs.Common.{◌≡◌, ℕ, ◌==◌, true, false, not, List, [], ◌∷◌, ◌++◌, None, refl, sym, ap, ◌∙◌, subst, append_assoc, append-nil}
use Rattle.std.specs.List.{list_any}
use Rattle.wb_lex.specs.declared.tokens.Token.{Token}
use Rattle.wb_lex.specs.declared.tokens.TokenKind.TheVariants as kind
use Rattle.wb_lex.specs.Pieces.{Piece, Blank, Comment, Feed, IsCut}
use Rattle.wb_lex.specs.Tokens.{AreNarrow, word_kind, token_of, tokens_from}
use Rattle.wb_syntax.specs.Separators.{parts, is_separator}
use Rattle.wb_syntax.specs.Source.{is_filled, lines_of, AreStatements}
use Rattle.wb_syntax.specs.Statement.{IsBody, line_number}
use Rattle.wb_syntax.specs.declared.separators.Separator.TheVariants.{LineEnd}
use Rattle.wb_syntax.specs.declared.statements.Body.{Body}
use Rattle.wb_syntax.specs.declared.statements.Statement.{Statement}
use Rattle.wb_dis.proofs.Clauses.{IsApart}
use Rattle.wb_dis.proofs.Grammar.{IsCalm, calm_shown, Quiet, shown_uncut, split_cut}
use Rattle.wb_dis.proofs.Parts.{Part, Named, Numbered, Marked, Gap, Sign, Name, Number, Sole, text_of, pieces_of, AreParts, signs_of, Show, parts_cut, parts_narrow, parts_show, cut_append, narrow_append}

-- a line of a listing: its parts, its comment, and what it says
pub record Entry : Type 0 where
  pub these : List Part
  pub comment : List ℕ
  pub said : Body
  pub valid : (rest : List ℕ) → IsApart rest → AreParts these rest
  pub closed : list_any (λ byte. byte == 10) comment ≡ false
  pub says : (source : List ℕ) (tokens : List Token) → Show source tokens (signs_of these) → IsBody source tokens said
  pub filled : (source : List ℕ) (tokens : List Token) → Show source tokens (signs_of these) → is_filled tokens ≡ true
  pub calm : IsCalm (signs_of these)

abbrev pub tail_text : List ℕ → List ℕ
tail_text comment = 32 ∷ 32 ∷ 59 ∷ (comment ++ 10 ∷ [])

abbrev pub entry_text : Entry → List ℕ
entry_text e = text_of e.these ++ tail_text e.comment

abbrev tail_pieces : List ℕ → List Piece → List Piece
tail_pieces comment more = Blank 32 ∷ Blank 32 ∷ Comment comment ∷ Feed ∷ more

abbrev pub entries_text : List Entry → List ℕ
entries_text [] = []
entries_text (e ∷ es) = entry_text e ++ entries_text es

abbrev pub entries_pieces : List Entry → List Piece
entries_pieces [] = []
entries_pieces (e ∷ es) = pieces_of e.these ++ tail_pieces e.comment (entries_pieces es)

-- the text is cut into these pieces
pub entries_cut : (es : List Entry) → IsCut (entries_text es) (entries_pieces es) []
entries_cut [] = refl
entries_cut (e ∷ es) =
    let rest = tail_text e.comment ++ entries_text es in
    cut_append (entries_text (e ∷ es)) rest [] (pieces_of e.these) (tail_pieces e.comment (entries_pieces es))
    (subst (λ (t : List ℕ). IsCut t (pieces_of e.these) rest) (sym (append_assoc (text_of e.these) (tail_text e.comment) (entries_text es)))
    (parts_cut e.these rest (e.valid rest refl))) (
      32 ∷ 59 ∷ ((e.comment ++ 10 ∷ []) ++ entries_text es),
      refl,
      refl,
      (
        59 ∷ ((e.comment ++ 10 ∷ []) ++ entries_text es),
        refl,
        refl,
        (
          10 ∷ entries_text es,
          ap (λ (t : List ℕ). 59 ∷ t) (append_assoc e.comment (10 ∷ []) (entries_text es)),
          (ap not e.closed, refl),
          (entries_text es, refl, tt, entries_cut es),
        ),
      ),
    )

pub entries_narrow : (es : List Entry) → AreNarrow (entries_pieces es)
entries_narrow [] = tt
entries_narrow (e ∷ es) =
    narrow_append (pieces_of e.these) (tail_pieces e.comment (entries_pieces es))
    (parts_narrow e.these (tail_text e.comment) (e.valid (tail_text e.comment) refl)) (refl, (refl, (refl, (refl, entries_narrow es))))

-- the tokens of parts, and of what follows
tokens_parts : (ps : List Part) (before : List ℕ) (more : List Piece)
    → tokens_from before (pieces_of ps ++ more) ≡ tokens_from before (pieces_of ps) ++ tokens_from (before ++ text_of ps) more
tokens_parts [] before more = ap (λ (b : List ℕ). tokens_from b more) (sym (append-nil before))
tokens_parts (Named word ∷ ps) before more =
    ap (λ (ts : List Token). token_of before word (word_kind word) ∷ ts)
    (tokens_parts ps (before ++ word) more ∙ ap (λ (b : List ℕ). tokens_from (before ++ word) (pieces_of ps) ++ tokens_from b more) (append_assoc before word (text_of ps)))
tokens_parts (Numbered word n ∷ ps) before more =
    ap (λ (ts : List Token). token_of before word (word_kind word) ∷ ts)
    (tokens_parts ps (before ++ word) more ∙ ap (λ (b : List ℕ). tokens_from (before ++ word) (pieces_of ps) ++ tokens_from b more) (append_assoc before word (text_of ps)))
tokens_parts (Marked mark ∷ ps) before more =
    ap (λ (ts : List Token). token_of before (mark ∷ []) (kind.Mark mark) ∷ ts)
    (tokens_parts ps (before ++ mark ∷ []) more ∙ ap (λ (b : List ℕ). tokens_from (before ++ mark ∷ []) (pieces_of ps) ++ tokens_from b more) (append_assoc before (mark ∷ []) (text_of ps)))
tokens_parts (Gap ∷ ps) before more =
    tokens_parts ps (before ++ 32 ∷ []) more
    ∙ ap (λ (b : List ℕ). tokens_from (before ++ 32 ∷ []) (pieces_of ps) ++ tokens_from b more) (append_assoc before (32 ∷ []) (text_of ps))

abbrev pub line_tokens : List ℕ → Entry → List Token
line_tokens before e = tokens_from before (pieces_of e.these)

abbrev end_token : List ℕ → List ℕ → Token
end_token before comment = token_of (((before ++ 32 ∷ []) ++ 32 ∷ []) ++ 59 ∷ comment) (10 ∷ []) kind.LineEnd

tail_before : (before comment : List ℕ) → (((before ++ 32 ∷ []) ++ 32 ∷ []) ++ 59 ∷ comment) ++ 10 ∷ [] ≡ before ++ tail_text comment
tail_before before comment = simp append_assoc

entry_tokens : (before : List ℕ) (e : Entry) (es : List Entry)
    → tokens_from before (entries_pieces (e ∷ es))
    ≡ line_tokens before e ++ end_token (before ++ text_of e.these) e.comment ∷ tokens_from (before ++ entry_text e) (entries_pieces es)
entry_tokens before e es =
    tokens_parts e.these before (tail_pieces e.comment (entries_pieces es))
    ∙ ap (λ (b : List ℕ). line_tokens before e ++ end_token (before ++ text_of e.these) e.comment ∷ tokens_from b (entries_pieces es))
    (tail_before (before ++ text_of e.these) e.comment ∙ append_assoc before (text_of e.these) (tail_text e.comment))

abbrev pub statement_of : List ℕ → Entry → Statement
statement_of before e = record { line = line_number (line_tokens before e); label = None; body = e.said }

abbrev pub statements : List ℕ → List Entry → List Statement
statements before [] = []
statements before (e ∷ es) = statement_of before e ∷ statements (before ++ entry_text e) es

quiet_line : (signs : List Sign) → Quiet LineEnd signs
quiet_line [] = tt
quiet_line (Name word ∷ signs) = (refl, quiet_line signs)
quiet_line (Number n ∷ signs) = (refl, quiet_line signs)
quiet_line (Sole mark ∷ signs) = (refl, quiet_line signs)

first_line : (line : List Token) (end : Token) (rest : List Token) → is_filled line ≡ true → end.kind ≡ kind.LineEnd
    → (shown : parts LineEnd (line ++ end ∷ rest) ≡ line ∷ parts LineEnd rest) → lines_of (line ++ end ∷ rest) ≡ line ∷ lines_of rest
first_line line end rest some is cut = rw (cut, some)

-- the text says these statements, line by line
pub entries_say : (text before : List ℕ) (es : List Entry) → text ≡ before ++ entries_text es
    → AreStatements text (lines_of (tokens_from before (entries_pieces es))) (statements before es)
entries_say text before [] e = tt
entries_say text before (entry ∷ es) e =
    let line = line_tokens before entry in
    let end = end_token (before ++ text_of entry.these) entry.comment in
    let rest = tokens_from (before ++ entry_text entry) (entries_pieces es) in
    let whole : text ≡ before ++ (text_of entry.these ++ (tail_text entry.comment ++ entries_text es)) =
    e ∙ ap (λ (t : List ℕ). before ++ t) (append_assoc (text_of entry.these) (tail_text entry.comment) (entries_text es)) in
    let shows : Show text line (signs_of entry.these) =
    parts_show entry.these text before (tail_text entry.comment ++ entries_text es) whole (entry.valid (tail_text entry.comment ++ entries_text es) refl) in
    let cut : parts LineEnd (line ++ end ∷ rest) ≡ line ∷ parts LineEnd rest =
    split_cut (λ token. is_separator LineEnd token.kind) line end rest
    (shown_uncut LineEnd text line (signs_of entry.these) shows (quiet_line (signs_of entry.these))) refl in
    let lines : lines_of (tokens_from before (entries_pieces (entry ∷ es))) ≡ line ∷ lines_of rest =
    ap lines_of (entry_tokens before entry es) ∙ first_line line end rest (entry.filled text line shows) refl cut in
    subst (λ (ls : List (List Token)). AreStatements text ls (statements before (entry ∷ es))) (sym lines) (
      record { number = refl; says = (calm_shown text line (signs_of entry.these) entry.calm shows, entry.says text line shows) },
      entries_say text (before ++ entry_text entry) es (e ∙ sym (append_assoc before (entry_text entry) (entries_text es))),
    )
