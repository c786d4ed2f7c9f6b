-- What the rules of a statement say, and what the third reading computes of it, are one.
use Rattle.std.proofs.Common.{◌≡◌, ℕ, zero, suc, ◌+◌, ℤ, List, [], ◌∷◌, ◌++◌, map, length, Option, Some, None, refl, sym, ap, ◌∙◌, subst, arith}
use Rattle.std.specs.Prelude.{pos, is_some, if◌then◌else◌}
use Rattle.std.proofs.lemmas.List.{append-nil, length-map}
use Rattle.wb_syntax.specs.Tree.{Tree}
use Rattle.wb_syntax.specs.declared.spans.Span.{Span}
use Rattle.wb_syntax.specs.declared.statements.Body.{Body}
use Rattle.wb_syntax.specs.declared.statements.Body.TheVariants.{Empty, Op, Rt, Ld, Jump, Org, Dorg, Equ, Words, Dwords}
use Rattle.wb_syntax.specs.declared.statements.Statement.{Statement}
use Rattle.wb_asm.specs.declared.counters.Counters.{Counters}
use Rattle.wb_asm.specs.declared.faults.AsmKind.TheVariants.{Twice}
use Rattle.wb_asm.specs.declared.layout.Layout.{Layout}
use Rattle.wb_asm.specs.Counters.{counters_of}
use Rattle.wb_asm.specs.Layout.{here, program_words, data_words, with_label, with_equ, early_number, early_fault, program_after, data_after, after, twice_fault, label_fault, equ_fault}
use Rattle.wb_asm.specs.Placing.{Placement, IsNew, IsLabel, IsEqu, IsEarly, IsProgAfter, IsDromAfter, IsRuled, AreRuled}
use Rattle.wb_asm.specs.Space.{Space, with_word, with_words}
use Rattle.wb_asm.specs.Value.{Names, number_named, name_of, exact}
use Rattle.wb_asm.specs.Words.{Content, contents, data_values, here_at}
use Rattle.wb_asm.proofs.OnePlacing.{same_counters, one_prog, one_drom}

one_more : (a n : ℕ) → a + 1 + n ≡ a + suc n
one_more a n = omega arith

none_more : (a : ℕ) → a ≡ a + 0
none_more a = omega arith

at_words : (n : ℕ) (space : Space) → (with_words n space).at ≡ space.at + n
at_words zero space = none_more space.at
at_words (suc n) space = at_words n (with_word space) ∙ one_more space.at n

-- how many words there are
pub prog_count : (f : Content → ℕ) (body : Body) → length (map f (contents body)) ≡ program_words body
prog_count f (Words xs) = length-map (contents (Words xs)) f ∙ length-map xs _
prog_count f Empty = refl
prog_count f (Op word) = refl
prog_count f (Rt word) = refl
prog_count f (Ld dst x) = refl
prog_count f (Jump cond x) = refl
prog_count f (Org x) = refl
prog_count f (Dorg x) = refl
prog_count f (Equ name x) = refl
prog_count f (Dwords xs) = refl

pub drom_count : (f : Tree → ℕ) (body : Body) → length (map f (data_values body)) ≡ data_words body
drom_count f (Dwords xs) = length-map xs f
drom_count f Empty = refl
drom_count f (Op word) = refl
drom_count f (Rt word) = refl
drom_count f (Ld dst x) = refl
drom_count f (Jump cond x) = refl
drom_count f (Org x) = refl
drom_count f (Dorg x) = refl
drom_count f (Equ name x) = refl
drom_count f (Words xs) = refl

here_same : (before : Layout) (body : Body) → here before body ≡ here_at (counters_of before) body
here_same before Empty = refl
here_same before (Op word) = refl
here_same before (Rt word) = refl
here_same before (Ld dst x) = refl
here_same before (Jump cond x) = refl
here_same before (Org x) = refl
here_same before (Dorg x) = refl
here_same before (Equ name x) = refl
here_same before (Words xs) = refl
here_same before (Dwords xs) = refl

-- a name was not defined before
not_twice : (found : Option ℤ) → (if is_some found then Some Twice else None) ≡ None → found ≡ None
not_twice None h = refl
not_twice (Some number) h = cc

is_new : (names : Names) (name : List ℕ) → twice_fault names name ≡ None → IsNew names name
is_new names name h = not_twice (number_named names name) h

new_is : (names : Names) (name : List ℕ) → IsNew names name → twice_fault names name ≡ None
new_is names name h = ap (λ (found : Option ℤ). if is_some found then Some Twice else None) h

abbrev pub own_label : List ℕ → ℕ → Option Span → Names
own_label text at None = []
own_label text at (Some label) = (name_of text label, pos at) ∷ []

abbrev pub own_equ : List ℕ → Names → ℕ → Body → Names
own_equ text earlier at (Equ name x) = (name_of text name, exact text earlier at x) ∷ []
own_equ text earlier at _ = []

label_names : (text : List ℕ) (names : Names) (at to : ℕ) (label : Option Span) → at ≡ to → with_label text names at label ≡ names ++ own_label text to label
label_names text names at to None e = sym (append-nil names)
label_names text names at to (Some label) e = ap (λ n. names ++ (name_of text label, pos n) ∷ []) e

equ_names : (text : List ℕ) (before : Layout) (names : Names) (body : Body)
    → with_equ text names body (early_number text before body) ≡ names ++ own_equ text before.names before.prog.at body
equ_names text before names Empty = sym (append-nil names)
equ_names text before names (Op word) = sym (append-nil names)
equ_names text before names (Rt word) = sym (append-nil names)
equ_names text before names (Ld dst x) = sym (append-nil names)
equ_names text before names (Jump cond x) = sym (append-nil names)
equ_names text before names (Org x) = sym (append-nil names)
equ_names text before names (Dorg x) = sym (append-nil names)
equ_names text before names (Equ name x) = refl
equ_names text before names (Words xs) = sym (append-nil names)
equ_names text before names (Dwords xs) = sym (append-nil names)

-- the names after a statement
pub names_after : (text : List ℕ) (before : Layout) (statement : Statement)
    → (after text before statement).names
    ≡ before.names ++ own_label text (here_at (counters_of before) statement.body) statement.label ++ own_equ text before.names before.prog.at statement.body
unfolding after
names_after text before statement =
    equ_names text before (with_label text before.names (here before statement.body) statement.label) statement.body
    ∙ ap (λ (names : Names). names ++ own_equ text before.names before.prog.at statement.body)
    (label_names text before.names (here before statement.body) (here_at (counters_of before) statement.body) statement.label (here_same before statement.body))

pub is_label : (text : List ℕ) (earlier : Names) (at : Counters) (body : Body) (label : Option Span) → label_fault text earlier label ≡ None
    → IsLabel text earlier at body label (own_label text (here_at at body) label)
is_label text earlier at body None h = refl
is_label text earlier at body (Some label) h = (is_new earlier (name_of text label) h, refl)

pub label_is : (text : List ℕ) (earlier : Names) (at : Counters) (body : Body) (label : Option Span) (own : Names) → IsLabel text earlier at body label own
    → (label_fault text earlier label ≡ None) × (own ≡ own_label text (here_at at body) label)
label_is text earlier at body None own h = (refl, h)
label_is text earlier at body (Some label) own h = (new_is earlier (name_of text label) h.0, h.1)

equ_new : (text : List ℕ) (before : Layout) (label : Names) (body : Body) → equ_fault text (before.names ++ label) body ≡ None
    → IsEqu text before.names (counters_of before) label body (own_equ text before.names before.prog.at body)
equ_new text before label Empty h = refl
equ_new text before label (Op word) h = refl
equ_new text before label (Rt word) h = refl
equ_new text before label (Ld dst x) h = refl
equ_new text before label (Jump cond x) h = refl
equ_new text before label (Org x) h = refl
equ_new text before label (Dorg x) h = refl
equ_new text before label (Equ name x) h = (is_new (before.names ++ label) (name_of text name) h, refl)
equ_new text before label (Words xs) h = refl
equ_new text before label (Dwords xs) h = refl

new_equ : (text : List ℕ) (before : Layout) (label : Names) (body : Body) (own : Names) → IsEqu text before.names (counters_of before) label body own
    → (equ_fault text (before.names ++ label) body ≡ None) × (own ≡ own_equ text before.names before.prog.at body)
new_equ text before label Empty own h = (refl, h)
new_equ text before label (Op word) own h = (refl, h)
new_equ text before label (Rt word) own h = (refl, h)
new_equ text before label (Ld dst x) own h = (refl, h)
new_equ text before label (Jump cond x) own h = (refl, h)
new_equ text before label (Org x) own h = (refl, h)
new_equ text before label (Dorg x) own h = (refl, h)
new_equ text before label (Equ name x) own h = (new_is (before.names ++ label) (name_of text name) h.0, h.1)
new_equ text before label (Words xs) own h = (refl, h)
new_equ text before label (Dwords xs) own h = (refl, h)

labelled : (text : List ℕ) (before : Layout) (statement : Statement)
    → with_label text before.names (here before statement.body) statement.label
    ≡ before.names ++ own_label text (here_at (counters_of before) statement.body) statement.label
labelled text before statement =
    label_names text before.names (here before statement.body) (here_at (counters_of before) statement.body) statement.label (here_same before statement.body)

pub is_equ : (text : List ℕ) (before : Layout) (statement : Statement)
    → equ_fault text (with_label text before.names (here before statement.body) statement.label) statement.body ≡ None
    → IsEqu text before.names (counters_of before) (own_label text (here_at (counters_of before) statement.body) statement.label) statement.body
    (own_equ text before.names before.prog.at statement.body)
is_equ text before statement h =
    equ_new text before (own_label text (here_at (counters_of before) statement.body) statement.label) statement.body
    (subst (λ (names : Names). equ_fault text names statement.body ≡ None) (labelled text before statement) h)

pub equ_is : (text : List ℕ) (before : Layout) (statement : Statement) (label own : Names)
    → label ≡ own_label text (here_at (counters_of before) statement.body) statement.label
    → IsEqu text before.names (counters_of before) label statement.body own
    → (equ_fault text (with_label text before.names (here before statement.body) statement.label) statement.body ≡ None)
    × (own ≡ own_equ text before.names before.prog.at statement.body)
equ_is text before statement label own e h =
    let new = new_equ text before label statement.body own h in (
      subst (λ (names : Names). equ_fault text names statement.body ≡ None)
          (ap (λ (m : Names). before.names ++ m) e ∙ sym (labelled text before statement)) new.0,
      new.1,
    )

pub is_early : (text : List ℕ) (before : Layout) (body : Body) → early_fault text before body ≡ None → IsEarly text before.names (counters_of before) body
is_early text before Empty h = tt
is_early text before (Op word) h = tt
is_early text before (Rt word) h = tt
is_early text before (Ld dst x) h = tt
is_early text before (Jump cond x) h = tt
is_early text before (Org x) h = h
is_early text before (Dorg x) h = h
is_early text before (Equ name x) h = h
is_early text before (Words xs) h = tt
is_early text before (Dwords xs) h = tt

pub early_is : (text : List ℕ) (before : Layout) (body : Body) → IsEarly text before.names (counters_of before) body → early_fault text before body ≡ None
early_is text before Empty h = refl
early_is text before (Op word) h = refl
early_is text before (Rt word) h = refl
early_is text before (Ld dst x) h = refl
early_is text before (Jump cond x) h = refl
early_is text before (Org x) h = h
early_is text before (Dorg x) h = h
early_is text before (Equ name x) h = h
early_is text before (Words xs) h = refl
early_is text before (Dwords xs) h = refl

pub is_prog_after : (text : List ℕ) (before : Layout) (body : Body)
    → IsProgAfter text before.names (counters_of before) body (program_after before body (early_number text before body)).at
is_prog_after text before Empty = at_words 0 before.prog
is_prog_after text before (Op word) = at_words 1 before.prog
is_prog_after text before (Rt word) = at_words 1 before.prog
is_prog_after text before (Ld dst x) = at_words 1 before.prog
is_prog_after text before (Jump cond x) = at_words 1 before.prog
is_prog_after text before (Org x) = refl
is_prog_after text before (Dorg x) = at_words 0 before.prog
is_prog_after text before (Equ name x) = at_words 0 before.prog
is_prog_after text before (Words xs) = at_words (length xs) before.prog
is_prog_after text before (Dwords xs) = at_words 0 before.prog

pub is_drom_after : (text : List ℕ) (before : Layout) (body : Body)
    → IsDromAfter text before.names (counters_of before) body (data_after before body (early_number text before body)).at
is_drom_after text before Empty = at_words 0 before.drom
is_drom_after text before (Op word) = at_words 0 before.drom
is_drom_after text before (Rt word) = at_words 0 before.drom
is_drom_after text before (Ld dst x) = at_words 0 before.drom
is_drom_after text before (Jump cond x) = at_words 0 before.drom
is_drom_after text before (Org x) = at_words 0 before.drom
is_drom_after text before (Dorg x) = refl
is_drom_after text before (Equ name x) = at_words 0 before.drom
is_drom_after text before (Words xs) = at_words 0 before.drom
is_drom_after text before (Dwords xs) = at_words (length xs) before.drom

-- what the rules of one statement lead to is what the third reading computes
module _ (text : List ℕ) (names : Names) (before : Layout) (next : Counters) (statement : Statement) (label equ : Names) (prog drom : List Placement)
    (h : IsRuled text names before.names (counters_of before) next statement label equ prog drom) where
  same_next : next ≡ counters_of (after text before statement)
  unfolding after
  same_next =
      same_counters next (counters_of (after text before statement))
      (one_prog text before.names (counters_of before) statement.body next.prog _ h.prog_after (is_prog_after text before statement.body))
      (one_drom text before.names (counters_of before) statement.body next.drom _ h.drom_after (is_drom_after text before statement.body))

  pub same_label : label ≡ own_label text (here_at (counters_of before) statement.body) statement.label
  same_label = (label_is text before.names (counters_of before) statement.body statement.label label h.labelled).1

  same_names : before.names ++ label ++ equ ≡ (after text before statement).names
  same_names =
      ap (λ (m : Names). before.names ++ m ++ equ) same_label
      ∙ ap (λ (m : Names). before.names ++ own_label text (here_at (counters_of before) statement.body) statement.label ++ m)
      (equ_is text before statement label equ same_label h.equated).1
      ∙ sym (names_after text before statement)

  -- so the rules of the later statements stand on it
  pub ruled_after : (statements : List Statement) (later_prog later_drom : List Placement)
      → AreRuled text names (before.names ++ label ++ equ) next statements later_prog later_drom
      → AreRuled text names (after text before statement).names (counters_of (after text before statement)) statements later_prog later_drom
  ruled_after statements later_prog later_drom g =
      subst (λ (n : Names). AreRuled text names n (counters_of (after text before statement)) statements later_prog later_drom) same_names
      (subst (λ (c : Counters). AreRuled text names (before.names ++ label ++ equ) c statements later_prog later_drom) same_next g)
