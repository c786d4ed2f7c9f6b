-- A line says one statement at most, and a text is the source of one list of statements or has one first bad line.
use Rattle.std.proofs.Common.{◌≡◌, ℕ, true, Option, Some, None, List, [], ◌∷◌, ◌++◌, sym, refl, ap, ◌∙◌, subst}
use Rattle.wb_lex.specs.declared.tokens.Token.{Token}
use Rattle.wb_word.specs.Names.{dst_name}
use Rattle.wb_word.specs.Codes.{dst_list}
use Rattle.wb_word.specs.declared.words.OpWord.{OpWord}
use Rattle.wb_syntax.specs.declared.spans.Span.{Span}
use Rattle.wb_syntax.specs.declared.clauses.Clause.{Clause}
use Rattle.wb_syntax.specs.declared.mnemonics.Mnemonic.{Mnemonic}
use Rattle.wb_syntax.specs.declared.mnemonics.Mnemonic.TheVariants as mnemonic
use Rattle.wb_syntax.specs.declared.statements.Body.{Body}
use Rattle.wb_syntax.specs.declared.statements.Body.TheVariants as variant
use Rattle.wb_syntax.specs.declared.statements.Statement.{Statement}
use Rattle.wb_syntax.specs.declared.separators.Separator.TheVariants.{Bar, Comma}
use Rattle.wb_syntax.specs.Tree.{Tree}
use Rattle.wb_syntax.specs.Spelling.{Says, IsLabel, spelling}
use Rattle.wb_syntax.specs.Expression.{has_mark, IsExpression}
use Rattle.wb_syntax.specs.Separators.{parts}
use Rattle.wb_syntax.specs.Clause.{AreClauses, with_clauses, empty_word}
use Rattle.wb_syntax.specs.Statement.{IsWord, AreExpressions, IsOperands, IsBody, IsLabelled, IsStatement, line_number}
use Rattle.wb_syntax.specs.Source.{lines_of, AreStatements, IsSource, IsFirstBad}
use Rattle.wb_syntax.proofs.Chains.{one_tree}
use Rattle.wb_syntax.proofs.OneClause.{one_clause, one_named, named_dst}
use Rattle.wb_syntax.proofs.Operands.{operands_of, same_head}
use Rattle.wb_syntax.proofs.Readings.{is_own_mark}

one_clauses : (text : List ℕ) (left : List (List Token)) (cs ds : List Clause) → AreClauses text left cs → AreClauses text left ds → cs ≡ ds
one_clauses text [] [] [] a b = refl
one_clauses text [] [] (d ∷ ds) a b = absurd b
one_clauses text [] (c ∷ cs) ds a b = absurd a
one_clauses text (part ∷ left) [] ds a b = absurd a
one_clauses text (part ∷ left) (c ∷ cs) [] a b = absurd b
one_clauses text (part ∷ left) (c ∷ cs) (d ∷ ds) a b =
    let e = one_clause text part c d a.0 b.0 in
    let f = one_clauses text left cs ds a.1 b.1 in
    cc

one_word : (text : List ℕ) (tokens : List Token) (v w : OpWord) → IsWord text tokens v → IsWord text tokens w → v ≡ w
one_word text [] v w a b = a ∙ sym b
one_word text (t ∷ tokens) v w a b = a.made ∙ ap (with_clauses empty_word) (one_clauses text (parts Bar (t ∷ tokens)) a.clauses b.clauses a.each b.each) ∙ sym b.made

one_trees : (text : List ℕ) (left : List (List Token)) (xs ys : List Tree) → AreExpressions text left xs → AreExpressions text left ys → xs ≡ ys
one_trees text [] [] [] a b = refl
one_trees text [] [] (y ∷ ys) a b = absurd b
one_trees text [] (x ∷ xs) ys a b = absurd a
one_trees text (part ∷ left) [] ys a b = absurd a
one_trees text (part ∷ left) (x ∷ xs) [] a b = absurd b
one_trees text (part ∷ left) (x ∷ xs) (y ∷ ys) a b =
    let e = one_tree text part x y a.0 b.0 in
    let f = one_trees text left xs ys a.1 b.1 in
    cc

one_label : (text : List ℕ) (token : Token) (l m : Span) → IsLabel text token l → IsLabel text token m → l ≡ m
one_label text token l m a b = a.same ∙ sym b.same

same_front : (a b c d : Token) (xs ys : List Token) → a ∷ b ∷ xs ≡ c ∷ d ∷ ys → (a ≡ c) × (b ≡ d) × (xs ≡ ys)
same_front a b c d xs ys e = (cc, cc, cc)

one_operands : (text : List ℕ) (m : Mnemonic) (tokens : List Token) (v w : Body) → IsOperands text m tokens v → IsOperands text m tokens w → v ≡ w
one_operands text mnemonic.Nop tokens v w a b = a.1 ∙ sym b.1
one_operands text mnemonic.Op tokens v w a b = a.1 ∙ ap (λ k. variant.Op k) (one_word text tokens a.0 b.0 a.2 b.2) ∙ sym b.1
one_operands text mnemonic.Rt tokens v w a b = a.1 ∙ ap (λ k. variant.Rt k) (one_word text tokens a.0 b.0 a.2 b.2) ∙ sym b.1
one_operands text mnemonic.Ld tokens v w a b =
    let x = a.3 in
    let y = b.3 in
    let same = same_front x.name x.comma y.name y.comma x.others y.others (sym x.split ∙ y.split) in
    let said = x.named in
    let told = y.named in
    let bytes : dst_name a.0 ≡ dst_name b.0 = sym said.same ∙ ap (λ t. spelling text t) same.0 ∙ told.same in
    let dst = one_named dst_name dst_list named_dst a.0 b.0 (dst_name a.0) refl bytes in
    let tree = one_tree text x.others a.1 b.1 x.valued (subst (λ ts. IsExpression text ts b.1) (sym same.2) y.valued) in
    a.2 ∙ ap (λ k. variant.Ld k a.1) dst ∙ ap (λ k. variant.Ld b.0 k) tree ∙ sym b.2
one_operands text (mnemonic.Jump cond) tokens v w a b = a.1 ∙ ap (λ k. variant.Jump cond k) (one_tree text tokens a.0 b.0 a.2 b.2) ∙ sym b.1
one_operands text mnemonic.Org tokens v w a b = a.1 ∙ ap (λ k. variant.Org k) (one_tree text tokens a.0 b.0 a.2 b.2) ∙ sym b.1
one_operands text mnemonic.Dorg tokens v w a b = a.1 ∙ ap (λ k. variant.Dorg k) (one_tree text tokens a.0 b.0 a.2 b.2) ∙ sym b.1
one_operands text mnemonic.Equ tokens v w a b =
    let x = a.3 in
    let y = b.3 in
    let same = same_front x.name x.comma y.name y.comma x.others y.others (sym x.split ∙ y.split) in
    let label = one_label text x.name a.0 b.0 x.named (subst (λ t. IsLabel text t b.0) (sym same.0) y.named) in
    let tree = one_tree text x.others a.1 b.1 x.valued (subst (λ ts. IsExpression text ts b.1) (sym same.2) y.valued) in
    a.2 ∙ ap (λ k. variant.Equ k a.1) label ∙ ap (λ k. variant.Equ b.0 k) tree ∙ sym b.2
one_operands text mnemonic.Word tokens v w a b = a.1 ∙ ap (λ k. variant.Words k) (one_trees text (parts Comma tokens) a.0 b.0 a.2 b.2) ∙ sym b.1
one_operands text mnemonic.Dw tokens v w a b = a.1 ∙ ap (λ k. variant.Dwords k) (one_trees text (parts Comma tokens) a.0 b.0 a.2 b.2) ∙ sym b.1

one_body : (text : List ℕ) (tokens : List Token) (v w : Body) → IsBody text tokens v → IsBody text tokens w → v ≡ w
one_body text [] v w a b = a ∙ sym b
one_body text (head ∷ rest) v w a b =
    let same = same_head head a.head rest a.rest a.split in
    let said : Says text head a.name = subst (λ t. Says text t a.name) (sym same.0) a.said in
    let first : IsOperands text a.mnemonic rest v = subst (λ ts. IsOperands text a.mnemonic ts v) (sym same.1) a.operands in
    one_operands text a.mnemonic rest v w first (operands_of text head rest a.name a.mnemonic said a.is_named w b)

-- a colon is the second token of these
colon_second : (text : List ℕ) (tokens : List Token) (label : Span) (body : Body) → IsLabelled text tokens (Some label) body → has_mark tokens 1 58 ≡ true
colon_second text tokens label body is = rw is.3 (is_own_mark 58 is.1 is.5)

record OneLine (label other : Option Span) (body said : Body) : Type 0 where
  labels : label ≡ other
  bodies : body ≡ said

one_labelled : (text : List ℕ) (tokens : List Token) (label other : Option Span) (body said : Body) → IsLabelled text tokens label body → IsLabelled text tokens other said → OneLine label other body said
one_labelled text tokens None None body said a b = record { labels = refl; bodies = one_body text tokens body said a.1 b.1 }
one_labelled text tokens None (Some m) body said a b = let colon = colon_second text tokens m said b in let none = a.0 in cc
one_labelled text tokens (Some l) None body said a b = let colon = colon_second text tokens l body a in let none = b.0 in cc
one_labelled text tokens (Some l) (Some m) body said a b =
    let same = same_front a.0 a.1 b.0 b.1 a.2 b.2 (sym a.3 ∙ b.3) in
    record {
      labels = ap (λ k. Some k) (one_label text a.0 l m a.4 (subst (λ t. IsLabel text t m) (sym same.0) b.4));
      bodies = one_body text a.2 body said a.6 (subst (λ ts. IsBody text ts said) (sym same.2) b.6);
    }

said_so : ℕ → Option Span → Body → Statement
said_so line label body = record { line = line; label = label; body = body }

pub one_statement : (text : List ℕ) (tokens : List Token) (s t : Statement) → IsStatement text tokens s → IsStatement text tokens t → s ≡ t
unfolding said_so
one_statement text tokens s t a b =
    let one = one_labelled text tokens s.label t.label s.body t.body a.says b.says in
    ap (λ n. said_so n s.label s.body) (a.number ∙ sym b.number) ∙ ap (λ l. said_so t.line l s.body) one.labels ∙ ap (λ k. said_so t.line t.label k) one.bodies

-- ---- whole texts

one_statements : (text : List ℕ) (lines : List (List Token)) (ss ts : List Statement) → AreStatements text lines ss → AreStatements text lines ts → ss ≡ ts
one_statements text [] [] [] a b = refl
one_statements text [] [] (t ∷ ts) a b = absurd b
one_statements text [] (s ∷ ss) ts a b = absurd a
one_statements text (l ∷ lines) [] ts a b = absurd a
one_statements text (l ∷ lines) (s ∷ ss) [] a b = absurd b
one_statements text (l ∷ lines) (s ∷ ss) (t ∷ ts) a b =
    let e = one_statement text l s t a.0 b.0 in
    let f = one_statements text lines ss ts a.1 b.1 in
    cc

pub one_source : (text : List ℕ) (tokens : List Token) (ss ts : List Statement) → IsSource text tokens ss → IsSource text tokens ts → ss ≡ ts
one_source text tokens ss ts a b = one_statements text (lines_of tokens) ss ts a b

no_bad_line : (text : List ℕ) (earlier later : List (List Token)) (line : List Token) (ss : List Statement) → AreStatements text (earlier ++ line ∷ later) ss → ((s : Statement) → IsStatement text line s → ⊥) → ⊥
no_bad_line text [] later line [] are bad = are
no_bad_line text [] later line (s ∷ ss) are bad = bad s are.0
no_bad_line text (l ∷ earlier) later line [] are bad = are
no_bad_line text (l ∷ earlier) later line (s ∷ ss) are bad = no_bad_line text earlier later line ss are.1 bad

pub never_both : (text : List ℕ) (tokens : List Token) (ss : List Statement) (number : ℕ) → IsSource text tokens ss → IsFirstBad text tokens number → ⊥
never_both text tokens ss number are bad = no_bad_line text bad.earlier bad.later bad.line ss (subst (λ ls. AreStatements text ls ss) bad.split are) bad.bad

same_bad : (text : List ℕ) (earlier later earlier' later' : List (List Token)) (line line' : List Token) (ss ts : List Statement) → earlier ++ line ∷ later ≡ earlier' ++ line' ∷ later'
    → AreStatements text earlier ss → AreStatements text earlier' ts → ((s : Statement) → IsStatement text line s → ⊥) → ((s : Statement) → IsStatement text line' s → ⊥) → line ≡ line'
same_bad text [] later [] later' line line' ss ts e a b bad bad' = cc
same_bad text [] later (l ∷ earlier') later' line line' ss [] e a b bad bad' = absurd b
same_bad text [] later (l ∷ earlier') later' line line' ss (t ∷ ts) e a b bad bad' =
    let same : line ≡ l = cc in absurd (bad t (subst (λ k. IsStatement text k t) (sym same) b.0))
same_bad text (l ∷ earlier) later [] later' line line' [] ts e a b bad bad' = absurd a
same_bad text (l ∷ earlier) later [] later' line line' (s ∷ ss) ts e a b bad bad' =
    let same : line' ≡ l = cc in absurd (bad' s (subst (λ k. IsStatement text k s) (sym same) a.0))
same_bad text (l ∷ earlier) later (l' ∷ earlier') later' line line' [] ts e a b bad bad' = absurd a
same_bad text (l ∷ earlier) later (l' ∷ earlier') later' line line' (s ∷ ss) [] e a b bad bad' = absurd b
same_bad text (l ∷ earlier) later (l' ∷ earlier') later' line line' (s ∷ ss) (t ∷ ts) e a b bad bad' =
    let rest : earlier ++ line ∷ later ≡ earlier' ++ line' ∷ later' = cc in
    same_bad text earlier later earlier' later' line line' ss ts rest a.1 b.1 bad bad'

pub one_bad_line : (text : List ℕ) (tokens : List Token) (m n : ℕ) → IsFirstBad text tokens m → IsFirstBad text tokens n → m ≡ n
one_bad_line text tokens m n a b =
    let line = same_bad text a.earlier a.later b.earlier b.later a.line b.line a.statements b.statements (sym a.split ∙ b.split) a.good b.good a.bad b.bad in
    a.same ∙ ap line_number line ∙ sym b.same
