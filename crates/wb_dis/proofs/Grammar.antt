-- What the tokens of a canonical line say.
use Rattle.std.proofs.Common.{◌≡◌, ◌≢◌, ℕ, ◌+◌, ◌<◌, ◌≤◌, Bool, true, false, cond, List, [], ◌∷◌, ◌++◌, refl, sym, ap, ◌∙◌, subst, arith, codes, lit≤}
use Rattle.std.specs.Char.{digit_char}
use Rattle.std.specs.List.{slice_split, onto_first}
use Rattle.std.proofs.lemmas.List.Splits.{slice_split-cons_yes, slice_split-cons_no}
use Rattle.wb_word.specs.Names.{p_name, alu_name, acc_name, dpl_name, src_name, dst_name}
use Rattle.wb_word.specs.declared.codes.Dpl.TheVariants.{DpNop}
use Rattle.wb_lex.specs.declared.tokens.Token.{Token}
use Rattle.wb_lex.specs.declared.tokens.TokenKind.{TokenKind}
use Rattle.wb_lex.specs.declared.tokens.TokenKind.TheVariants as kind
use Rattle.wb_syntax.specs.Clause.{IsClause, AreClauses, AreFields, AreApart, Lacks, sort_of, with_clauses, empty_word}
use Rattle.wb_syntax.specs.Expression.{IsExpression, is_operator, is_mark_kind, has_mark, term, atom, number}
use Rattle.wb_syntax.specs.Separators.{is_separator, parts}
use Rattle.wb_syntax.specs.Spelling.{Says}
use Rattle.wb_syntax.specs.Statement.{IsWord}
use Rattle.wb_syntax.specs.Tree as tree
use Rattle.wb_syntax.specs.declared.clauses.Clause.{Clause}
use Rattle.wb_syntax.specs.declared.clauses.Clause.TheVariants.{Compute, Move, Step, Modify, Lower}
use Rattle.wb_syntax.specs.declared.separators.Separator.{Separator}
use Rattle.wb_syntax.specs.declared.separators.Separator.TheVariants.{Bar}
use Rattle.wb_dis.proofs.Parts.{Part, Named, Numbered, Marked, Gap, Sign, Name, Number, Sole, signs_of, Shows, Show}

-- a list that no separator cuts
abbrev pub Uncut : {X : Type 0} → (X → Bool) → List X → Type 0
Uncut p [] = Unit {0}
Uncut p (x ∷ xs) = (p x ≡ false) × Uncut p xs

pub split_uncut : {X : Type 0} (p : X → Bool) (xs : List X) → Uncut p xs → slice_split p xs ≡ xs ∷ []
split_uncut p [] h = refl
split_uncut p (x ∷ xs) h = slice_split-cons_no p x xs h.0 ∙ ap (λ rest. onto_first x rest) (split_uncut p xs h.1)

pub split_cut : {X : Type 0} (p : X → Bool) (xs : List X) (y : X) (ys : List X) → Uncut p xs → p y ≡ true
    → slice_split p (xs ++ y ∷ ys) ≡ xs ∷ slice_split p ys
split_cut p [] y ys h cut = slice_split-cons_yes p y ys cut
split_cut p (x ∷ xs) y ys h cut =
    slice_split-cons_no p x (xs ++ y ∷ ys) h.0 ∙ ap (λ rest. onto_first x rest) (split_cut p xs y ys h.1 cut)

abbrev kind_of : Sign → TokenKind
kind_of (Name word) = kind.Name
kind_of (Number n) = kind.Number n
kind_of (Sole mark) = kind.Mark mark

shown_kind : (text : List ℕ) (token : Token) (sign : Sign) → Shows text token sign → token.kind ≡ kind_of sign
shown_kind text token (Name word) h = h.is_name
shown_kind text token (Number n) h = h
shown_kind text token (Sole mark) h = h

abbrev pub Quiet : Separator → List Sign → Type 0
Quiet separator [] = Unit {0}
Quiet separator (sign ∷ signs) = (is_separator separator (kind_of sign) ≡ false) × Quiet separator signs

pub shown_uncut : (separator : Separator) (text : List ℕ) (tokens : List Token) (signs : List Sign) → Show text tokens signs → Quiet separator signs
    → Uncut (λ token. is_separator separator token.kind) tokens
shown_uncut separator text [] signs h q = tt
shown_uncut separator text (token ∷ tokens) [] h q = absurd h
shown_uncut separator text (token ∷ tokens) (sign ∷ signs) h q =
    (ap (λ kind. is_separator separator kind) (shown_kind text token sign h.0) ∙ q.0, shown_uncut separator text tokens signs h.1 q.1)

-- the tokens of two lists of signs, one after the other
record Halves (text : List ℕ) (tokens : List Token) (first second : List Sign) : Type 0 where
  front : List Token
  back : List Token
  whole : tokens ≡ front ++ back
  shows_first : Show text front first
  shows_second : Show text back second

halves : (text : List ℕ) (tokens : List Token) (first second : List Sign) → Show text tokens (first ++ second) → Halves text tokens first second
halves text tokens [] second h = record { front = []; back = tokens; whole = refl; shows_first = tt; shows_second = h }
halves text [] (sign ∷ first) second h = absurd h
halves text (token ∷ tokens) (sign ∷ first) second h =
    let rest = halves text tokens first second h.1 in
    record { front = token ∷ rest.front; back = rest.back; whole = ap (λ more. token ∷ more) rest.whole; shows_first = (h.0, rest.shows_first); shows_second = rest.shows_second }

one : (text : List ℕ) (tokens : List Token) (a : Sign) → Show text tokens (a ∷ []) → (s : Token) × (tokens ≡ s ∷ []) × Shows text s a
one text [] a h = absurd h
one text (s ∷ []) a h = (s, refl, h.0)
one text (s ∷ t ∷ tokens) a h = absurd h.1

four : (text : List ℕ) (tokens : List Token) (a b c d : Sign) → Show text tokens (a ∷ b ∷ c ∷ d ∷ [])
    → (s t u v : Token) × (tokens ≡ s ∷ t ∷ u ∷ v ∷ []) × Shows text s a × Shows text t b × Shows text u c × Shows text v d
four text [] a b c d h = absurd h
four text (s ∷ []) a b c d h = absurd h.1
four text (s ∷ t ∷ []) a b c d h = absurd h.1.1
four text (s ∷ t ∷ u ∷ []) a b c d h = absurd h.1.1.1
four text (s ∷ t ∷ u ∷ v ∷ []) a b c d h = (s, t, u, v, refl, h.0, h.1.0, h.1.1.0, h.1.1.1.0)
four text (s ∷ t ∷ u ∷ v ∷ w ∷ tokens) a b c d h = absurd h.1.1.1.1

-- the parts of a clause
abbrev pub clause_parts : Clause → List Part
clause_parts (Compute alu acc p) = Named (alu_name alu) ∷ Gap ∷ Named (acc_name acc) ∷ Marked 44 ∷ Named (p_name p) ∷ []
clause_parts (Move dst src) = Named (codes "mov") ∷ Gap ∷ Named (dst_name dst) ∷ Marked 44 ∷ Named (src_name src) ∷ []
clause_parts (Step dpl) = Named (dpl_name dpl) ∷ []
clause_parts (Modify nibble) = Named (109 ∷ digit_char nibble.value ∷ []) ∷ []
clause_parts Lower = Named (codes "rpdec") ∷ []

-- clauses with a bar between them
abbrev pub joined : Clause → List Clause → List Part
joined clause [] = clause_parts clause
joined clause (next ∷ more) = clause_parts clause ++ Gap ∷ Marked 124 ∷ Gap ∷ joined next more

abbrev clause_signs : Clause → List Sign
clause_signs clause = signs_of (clause_parts clause)

signs_append : (first second : List Part) → signs_of (first ++ second) ≡ signs_of first ++ signs_of second
signs_append [] second = refl
signs_append (Named word ∷ first) second = ap (λ rest. Name word ∷ rest) (signs_append first second)
signs_append (Numbered word n ∷ first) second = ap (λ rest. Number n ∷ rest) (signs_append first second)
signs_append (Marked mark ∷ first) second = ap (λ rest. Sole mark ∷ rest) (signs_append first second)
signs_append (Gap ∷ first) second = signs_append first second

-- a clause that a line may have: one that says something
abbrev pub IsTold : Clause → Type 0
IsTold (Step dpl) = dpl ≢ DpNop
IsTold (Modify nibble) = 0 < nibble.value
IsTold _ = Unit {0}

clause_shown : (text : List ℕ) (tokens : List Token) (clause : Clause) → IsTold clause → Show text tokens (clause_signs clause) → IsClause text tokens clause
clause_shown text tokens (Compute alu acc p) told h =
    let f = four text tokens (Name (alu_name alu)) (Name (acc_name acc)) (Sole 44) (Name (p_name p)) h in
    subst (λ (ts : List Token). IsClause text ts (Compute alu acc p)) (sym f.4)
    (f.7, (alu_name alu, acc_name acc, p_name p, f.5, f.6, f.8, (refl, refl, refl)))
clause_shown text tokens (Move dst src) told h =
    let f = four text tokens (Name (codes "mov")) (Name (dst_name dst)) (Sole 44) (Name (src_name src)) h in
    subst (λ (ts : List Token). IsClause text ts (Move dst src)) (sym f.4)
    (f.7, (codes "mov", dst_name dst, src_name src, f.5, f.6, f.8, (refl, refl, refl)))
clause_shown text tokens (Step dpl) told h =
    let f = one text tokens (Name (dpl_name dpl)) h in
    subst (λ (ts : List Token). IsClause text ts (Step dpl)) (sym f.1) (dpl_name dpl, f.2, (told, refl))
clause_shown text tokens (Modify nibble) told h =
    let f = one text tokens (Name (109 ∷ digit_char nibble.value ∷ [])) h in
    subst (λ (ts : List Token). IsClause text ts (Modify nibble)) (sym f.1) (109 ∷ digit_char nibble.value ∷ [], f.2, (told, refl))
clause_shown text tokens Lower told h =
    let f = one text tokens (Name (codes "rpdec")) h in
    subst (λ (ts : List Token). IsClause text ts Lower) (sym f.1) (codes "rpdec", f.2, refl)

clause_quiet : (clause : Clause) → Quiet Bar (clause_signs clause)
clause_quiet (Compute alu acc p) = (refl, (refl, (refl, (refl, tt))))
clause_quiet (Move dst src) = (refl, (refl, (refl, (refl, tt))))
clause_quiet (Step dpl) = (refl, tt)
clause_quiet (Modify nibble) = (refl, tt)
clause_quiet Lower = (refl, tt)

abbrev pub AreTold : List Clause → Type 0
AreTold [] = Unit {0}
AreTold (clause ∷ clauses) = IsTold clause × AreTold clauses

-- one clause, a bar, and what follows
first_clause : (text : List ℕ) (front : List Token) (bar : Token) (rest : List Token) (clause : Clause) (clauses : List Clause) → IsTold clause
    → Show text front (clause_signs clause) → bar.kind ≡ kind.Mark 124 → AreClauses text (parts Bar rest) clauses
    → AreClauses text (parts Bar (front ++ bar ∷ rest)) (clause ∷ clauses)
first_clause text front bar rest clause clauses told h mark others =
    subst (λ (cut : List (List Token)). AreClauses text cut (clause ∷ clauses))
    (sym (split_cut (λ token. is_separator Bar token.kind) front bar rest (shown_uncut Bar text front (clause_signs clause) h (clause_quiet clause))
    (ap (λ kind. is_separator Bar kind) mark)))
    (clause_shown text front clause told h, others)

-- the tokens after a bar
record AfterBar (text : List ℕ) (back : List Token) (signs : List Sign) : Type 0 where
  bar : Token
  rest : List Token
  whole : back ≡ bar ∷ rest
  mark : bar.kind ≡ kind.Mark 124
  shows : Show text rest signs

after_bar : (text : List ℕ) (back : List Token) (signs : List Sign) → Show text back (Sole 124 ∷ signs) → AfterBar text back signs
after_bar text [] signs h = absurd h
after_bar text (bar ∷ rest) signs h = record { bar = bar; rest = rest; whole = refl; mark = h.0; shows = h.1 }

pub clauses_shown : (text : List ℕ) (tokens : List Token) (clause : Clause) (more : List Clause) → AreTold (clause ∷ more)
    → Show text tokens (signs_of (joined clause more)) → AreClauses text (parts Bar tokens) (clause ∷ more)
clauses_shown text tokens clause [] told h =
    subst (λ (cut : List (List Token)). AreClauses text cut (clause ∷ []))
    (sym (split_uncut (λ token. is_separator Bar token.kind) tokens (shown_uncut Bar text tokens (clause_signs clause) h (clause_quiet clause))))
    (clause_shown text tokens clause told.0 h, tt)
clauses_shown text tokens clause (next ∷ more) told h =
    let whole = subst (λ (s : List Sign). Show text tokens s) (signs_append (clause_parts clause) (Gap ∷ Marked 124 ∷ Gap ∷ joined next more)) h in
    let cut = halves text tokens (clause_signs clause) (Sole 124 ∷ signs_of (joined next more)) whole in
    let after = after_bar text cut.back (signs_of (joined next more)) cut.shows_second in
    subst (λ (t : List Token). AreClauses text (parts Bar t) (clause ∷ next ∷ more)) (sym (cut.whole ∙ ap (λ t. cut.front ++ t) after.whole))
    (first_clause text cut.front after.bar after.rest clause (next ∷ more) told.0 cut.shows_first after.mark
    (clauses_shown text after.rest next more told.1 after.shows))

-- the whole of a line's word and clauses
abbrev pub operation_parts : List ℕ → List Clause → List Part
operation_parts name [] = Named name ∷ []
operation_parts name (clause ∷ more) = Named name ∷ Gap ∷ joined clause more

-- no clause of these is of an earlier sort
abbrev pub Ascends : ℕ → List Clause → Type 0
Ascends least [] = Unit {0}
Ascends least (clause ∷ clauses) = (least ≤ sort_of clause) × Ascends (sort_of clause + 1) clauses

ascends_lacks : (sort least : ℕ) (clauses : List Clause) → sort < least → Ascends least clauses → Lacks sort clauses
ascends_lacks sort least [] below h = tt
ascends_lacks sort least (clause ∷ clauses) below h =
    let first = h.0 in
    let above : sort < sort_of clause + 1 = omega arith in
    ((λ e. omega (arith, e)), ascends_lacks sort (sort_of clause + 1) clauses above h.1)

pub ascends_apart : (least : ℕ) (clauses : List Clause) → Ascends least clauses → AreApart clauses
ascends_apart least [] h = tt
ascends_apart least (clause ∷ clauses) h =
    let above : sort_of clause < sort_of clause + 1 = omega arith in
    (ascends_lacks (sort_of clause) (sort_of clause + 1) clauses above h.1, ascends_apart (sort_of clause + 1) clauses h.1)

-- tokens that show clauses are the fields of their word
operation_shown : (text : List ℕ) (tokens : List Token) (clause : Clause) (more : List Clause) → AreTold (clause ∷ more) → AreApart (clause ∷ more)
    → Show text tokens (signs_of (joined clause more)) → AreFields text tokens (with_clauses empty_word (clause ∷ more))
operation_shown text tokens clause more told apart h = record {
  clauses = clause ∷ more;
  each = clauses_shown text tokens clause more told h;
  once = apart;
  made = refl;
}

joined_filled : (text : List ℕ) (clause : Clause) (more : List Clause) → Show text [] (signs_of (joined clause more)) → ⊥
joined_filled text (Compute alu acc p) [] h = h
joined_filled text (Move dst src) [] h = h
joined_filled text (Step dpl) [] h = h
joined_filled text (Modify nibble) [] h = h
joined_filled text Lower [] h = h
joined_filled text (Compute alu acc p) (next ∷ more) h = h
joined_filled text (Move dst src) (next ∷ more) h = h
joined_filled text (Step dpl) (next ∷ more) h = h
joined_filled text (Modify nibble) (next ∷ more) h = h
joined_filled text Lower (next ∷ more) h = h

pub word_shown : (text : List ℕ) (tokens : List Token) (clauses : List Clause) (name : List ℕ) (head : Token) → AreTold clauses → AreApart clauses
    → Show text (head ∷ tokens) (signs_of (operation_parts name clauses)) → Says text head name × IsWord text tokens (with_clauses empty_word clauses)
word_shown text [] [] name head told apart h = (h.0, refl)
word_shown text (token ∷ tokens) [] name head told apart h = absurd h.1
word_shown text [] (clause ∷ more) name head told apart h = absurd (joined_filled text clause more h.1)
word_shown text (token ∷ tokens) (clause ∷ more) name head told apart h =
    (h.0, operation_shown text (token ∷ tokens) clause more told apart h.1)

few_one : (b : Bool) → 0 + cond b 1 0 ≤ 256
few_one true = lit≤ tt
few_one false = lit≤ tt

-- a sole number is an expression
pub number_shown : (text : List ℕ) (tokens : List Token) (n : ℕ) → Show text tokens (Number n ∷ []) → IsExpression text tokens (tree.Number n)
number_shown text [] n h = absurd h
number_shown text (token ∷ []) n h = record {
  is = term 16 0 1 (tree.Number n) (atom 16 0 1 (tree.Number n) (number 16 0 1 n token refl refl h.0));
  few = few_one (is_operator token);
}
number_shown text (token ∷ next ∷ tokens) n h = absurd h.1

-- the second sign is no colon
abbrev pub IsCalm : List Sign → Type 0
IsCalm [] = Unit {0}
IsCalm (first ∷ []) = Unit {0}
IsCalm (first ∷ second ∷ signs) = is_mark_kind 58 (kind_of second) ≡ false

-- so the line has no label
pub calm_shown : (text : List ℕ) (tokens : List Token) (signs : List Sign) → IsCalm signs → Show text tokens signs → has_mark tokens 1 58 ≡ false
calm_shown text [] signs calm h = refl
calm_shown text (first ∷ []) signs calm h = refl
calm_shown text (first ∷ second ∷ tokens) [] calm h = absurd h
calm_shown text (first ∷ second ∷ tokens) (a ∷ []) calm h = absurd h.1
calm_shown text (first ∷ second ∷ tokens) (a ∷ b ∷ signs) calm h = ap (λ kind. is_mark_kind 58 kind) (shown_kind text second b h.1.0) ∙ calm

pub operation_calm : (name : List ℕ) (clauses : List Clause) → IsCalm (signs_of (operation_parts name clauses))
operation_calm name [] = tt
operation_calm name (Compute alu acc p ∷ []) = refl
operation_calm name (Move dst src ∷ []) = refl
operation_calm name (Step dpl ∷ []) = refl
operation_calm name (Modify nibble ∷ []) = refl
operation_calm name (Lower ∷ []) = refl
operation_calm name (Compute alu acc p ∷ next ∷ more) = refl
operation_calm name (Move dst src ∷ next ∷ more) = refl
operation_calm name (Step dpl ∷ next ∷ more) = refl
operation_calm name (Modify nibble ∷ next ∷ more) = refl
operation_calm name (Lower ∷ next ∷ more) = refl
