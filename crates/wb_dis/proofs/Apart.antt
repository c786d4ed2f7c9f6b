-- Different words have different lines, since a line is read in one way.
use Rattle.std.proofs.Common.{◌≡◌, ℕ, ◌^◌, ◌<◌, List, [], ◌∷◌, ◌++◌, None, refl, sym, ap, ◌∙◌, subst, append-nil}
use Rattle.wb_lex.specs.declared.tokens.Token.{Token}
use Rattle.wb_lex.specs.Tokens.{IsTokens, tokens_from}
use Rattle.wb_lex.specs.Pieces.{IsCut}
use Rattle.wb_syntax.specs.Statement.{IsStatement, line_number}
use Rattle.wb_syntax.specs.declared.statements.Statement.{Statement}
use Rattle.wb_asm.specs.Words.{prog_with}
use Rattle.wb_word.specs.Encoding.{number, instr_of}
use Rattle.wb_dis.specs.Line.{canonical_line}
use Rattle.wb_dis.proofs.Grammar.{calm_shown}
use Rattle.wb_dis.proofs.Parts.{text_of, pieces_of, signs_of, Show, parts_cut, parts_narrow, parts_show}
use Rattle.wb_dis.proofs.Spelled.{Line, canonical}

-- a text that is one line
record Reading (word : ℕ) (text : List ℕ) : Type 0 where
  tokens : List Token
  cut : IsTokens text tokens
  statement : Statement
  says : IsStatement text tokens statement
  puts : prog_with text [] (0 ∷ []) (record { prog = 0; drom = 0 }) statement.body ≡ word ∷ []

reading : (word : ℕ) (text : List ℕ) → Line word text → Reading word text
reading word text l =
    let whole : text_of l.these ++ [] ≡ text = append-nil (text_of l.these) ∙ l.spelled in
    let valid = l.valid [] refl in
    let tokens = tokens_from [] (pieces_of l.these) in
    let shows : Show text tokens (signs_of l.these) = parts_show l.these text [] [] (sym whole) valid in
    record {
      tokens = tokens;
      cut = record {
        pieces = pieces_of l.these;
        cut = subst (λ (t : List ℕ). IsCut t (pieces_of l.these) []) whole (parts_cut l.these [] valid);
        narrow = parts_narrow l.these [] valid;
        same = refl;
      };
      statement = record { line = line_number tokens; label = None; body = l.said };
      says = record { number = refl; says = (calm_shown text tokens (signs_of l.these) l.calm shows, l.says text tokens shows) };
      puts = l.puts text [] (0 ∷ []) (record { prog = 0; drom = 0 });
    }

same_head : (a b : ℕ) → a ∷ [] ≡ b ∷ [] → a ≡ b
same_head a b h = cc

pub lines_apart : ((n : ℕ) → n < 2 ^ 24 → number (instr_of n) ≡ n)
    → ((text : List ℕ) (a b : List Token) → IsTokens text a → IsTokens text b → a ≡ b)
    → ((text : List ℕ) (tokens : List Token) (s t : Statement) → IsStatement text tokens s → IsStatement text tokens t → s ≡ t)
    → (a b : ℕ) → a < 2 ^ 24 → b < 2 ^ 24 → canonical_line a ≡ canonical_line b → a ≡ b
lines_apart law one_list one_statement a b small low same =
    let text = canonical_line a in
    let first = reading a text (canonical a small (law a small)) in
    let second = reading b text (subst (λ (t : List ℕ). Line b t) (sym same) (canonical b low (law b low))) in
    let tokens = one_list text second.tokens first.tokens second.cut first.cut in
    let statements = one_statement text first.tokens first.statement second.statement first.says
    (subst (λ (ts : List Token). IsStatement text ts second.statement) tokens second.says) in
    same_head a b
    (sym first.puts
    ∙ ap (λ (s : Statement). prog_with text [] (0 ∷ []) (record { prog = 0; drom = 0 }) s.body) statements
    ∙ second.puts)
