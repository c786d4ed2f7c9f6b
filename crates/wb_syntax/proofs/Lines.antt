-- The lines of a text, one after the other.
use Rattle.std.proofs.Common.{◌≡◌, ℕ, ◌<◌, List, [], ◌∷◌, ◌++◌, length, get_or, sym, refl, ◌∙◌, subst, arith, append_assoc, append-nil}
use Rattle.std.specs.List.{filter}
use Rattle.wb_lex.specs.declared.tokens.Token.{Token}
use Rattle.wb_syntax.specs.declared.faults.SyntaxFault.{SyntaxFault}
use Rattle.wb_syntax.specs.declared.refusals.Refusal.{Refusal}
use Rattle.wb_syntax.specs.declared.refusals.Refusal.TheVariants.{Syntax, OutOfMemory}
use Rattle.wb_syntax.specs.declared.separators.Separator.TheVariants.{LineEnd}
use Rattle.wb_syntax.specs.declared.statements.Statement.{Statement}
use Rattle.wb_syntax.specs.Reading.{IsRefusal, IsFault}
use Rattle.wb_syntax.specs.Separators.{parts}
use Rattle.wb_syntax.specs.Statement.{IsStatement}
use Rattle.wb_syntax.specs.Source.{is_filled, lines_of, AreStatements, IsSource, IsFirstBad, IsFaultOf}

statements-push : (text : List ℕ) (lines : List (List Token)) (said : List Statement) (line : List Token) (s : Statement) → AreStatements text lines said → IsStatement text line s
    → AreStatements text (lines ++ line ∷ []) (said ++ s ∷ [])
statements-push text [] [] line s are is = (is, tt)
statements-push text [] (x ∷ said) line s are is = absurd are
statements-push text (l ∷ lines) [] line s are is = absurd are
statements-push text (l ∷ lines) (x ∷ said) line s are is = (are.0, statements-push text lines said line s are.1 is)

-- the filled lines before these say these statements
pub record Progress (text : List ℕ) (tokens : List Token) (left : List (List Token)) (statements : List Statement) : Type 0 where
  pub earlier : List (List Token)
  pub split : lines_of tokens ≡ earlier ++ filter is_filled left
  pub good : AreStatements text earlier statements

pub begin : (text : List ℕ) (tokens : List Token) (statements : List Statement) → statements ≡ [] → Progress text tokens (parts LineEnd tokens) statements
begin text tokens statements none = record { earlier = []; split = refl; good = rw none tt }

module _ (text : List ℕ) (tokens line : List Token) (left : List (List Token)) (statements : List Statement) (progress : Progress text tokens (line ∷ left) statements) where
  -- an empty line
  pub skip : length line ≡ 0 → Progress text tokens left statements
  skip none = by line none progress.split
    where
      by : (l : List Token) → length l ≡ 0 → lines_of tokens ≡ progress.earlier ++ filter is_filled (l ∷ left) → Progress text tokens left statements
      by [] none split = record { earlier = progress.earlier; split = split; good = progress.good }
      by (t ∷ l) none split = absurd (omega arith)

  -- a line with a statement
  pub advance : (statement : Statement) (grown : List Statement) → 0 < length line → IsStatement text line statement → grown ≡ statements ++ statement ∷ [] → Progress text tokens left grown
  advance statement grown some is same = by line some is progress.split
    where
      by : (l : List Token) → 0 < length l → IsStatement text l statement → lines_of tokens ≡ progress.earlier ++ filter is_filled (l ∷ left) → Progress text tokens left grown
      by [] some is split = absurd (omega arith)
      by (t ∷ l) some is split = record {
        earlier = progress.earlier ++ (t ∷ l) ∷ [];
        split = split ∙ sym (append_assoc progress.earlier ((t ∷ l) ∷ []) (filter is_filled left));
        good = subst (λ ss. AreStatements text (progress.earlier ++ (t ∷ l) ∷ []) ss) (sym same) (statements-push text progress.earlier statements (t ∷ l) statement progress.good is);
      }

  -- a line without one
  pub stop : (number : ℕ) (refusal : Refusal) (found : SyntaxFault) (d : Token) → 0 < length line → number ≡ (get_or line 0 d).line → IsRefusal (IsStatement text line) refusal → IsFault number refusal found
      → IsFaultOf text tokens found
  stop number OutOfMemory found d some at refused is = subst (λ f. IsFaultOf text tokens f) (sym is) tt
  stop number Syntax found d some at refused is = subst (λ f. IsFaultOf text tokens f) (sym is) (by line some at refused progress.split)
    where
      by : (l : List Token) → 0 < length l → number ≡ (get_or l 0 d).line → ((s : Statement) → IsStatement text l s → ⊥) → lines_of tokens ≡ progress.earlier ++ filter is_filled (l ∷ left) → IsFirstBad text tokens number
      by [] some at refused split = absurd (omega arith)
      by (t ∷ l) some at refused split = record {
        earlier = progress.earlier;
        line = t ∷ l;
        later = filter is_filled left;
        split = split;
        statements = statements;
        good = progress.good;
        bad = refused;
        same = at;
      }

pub finish : (text : List ℕ) (tokens : List Token) (statements : List Statement) → Progress text tokens [] statements → IsSource text tokens statements
finish text tokens statements progress = subst (λ ls. AreStatements text ls statements) (sym (progress.split ∙ append-nil progress.earlier)) progress.good
