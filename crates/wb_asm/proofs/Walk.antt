-- The third and the fourth reading find no fault exactly where the rules hold and each word has a free place.
use Rattle.std.proofs.Common.{◌≡◌, ℕ, zero, suc, ◌+◌, ℤ, ◌<◌, Bool, false, List, [], ◌∷◌, ◌++◌, map, length, get_or, set, Option, Some, None, refl, sym, ap, ◌∙◌, subst, arith}
use Rattle.std.specs.Option.{option_or}
use Rattle.wb_syntax.specs.declared.statements.Body.{Body}
use Rattle.wb_syntax.specs.declared.statements.Body.TheVariants.{Empty, Op, Rt, Ld, Jump, Org, Dorg, Equ, Words, Dwords}
use Rattle.wb_syntax.specs.declared.statements.Statement.{Statement}
use Rattle.wb_asm.specs.declared.counters.Counters.{Counters}
use Rattle.wb_asm.specs.declared.layout.Layout.{Layout}
use Rattle.wb_asm.specs.Counters.{on_line, first_misplaced, laid_out, counters_of, counters}
use Rattle.wb_asm.specs.Layout.{here, program_words, data_words, with_label, early_number, early_fault, program_after, data_after, after, label_fault, equ_fault, place_fault, line_fault}
use Rattle.wb_asm.specs.Placing.{Placement, standing, IsRuled, AreRuled}
use Rattle.wb_asm.specs.Space.{Space, with_word, word_fault, with_words, words_fault}
use Rattle.wb_asm.specs.Value.{Names}
use Rattle.wb_asm.specs.Words.{contents, content_word, data_values, data_word, here_at, with_words_at, values_fault, prog_with, drom_with, first_misvalued, prog_filled, drom_filled}
use Rattle.wb_asm.proofs.Fits.{Fits, filled, filled_append}
use Rattle.wb_asm.proofs.Room.{or_none_left, or_none_right, word_room, no_fault_on}
use Rattle.wb_asm.proofs.Ruled.{prog_count, drom_count, own_label, own_equ, names_after, is_label, label_is, is_equ, equ_is, is_early, early_is, is_prog_after, is_drom_after, same_label, ruled_after}

word_free : (space : Space) → word_fault space ≡ None → get_or space.taken space.at false ≡ false
word_free space h = grind arith

free_word : (space : Space) → space.at < length space.taken → get_or space.taken space.at false ≡ false → word_fault space ≡ None
free_word space room free = grind arith

suc_same : (m n : ℕ) → suc m ≡ suc n → m ≡ n
suc_same m n h = omega arith

-- words that may be placed have free places
words_fit : (line n : ℕ) (space : Space) (words : List ℕ) (later : List Placement) → length words ≡ n → words_fault n space ≡ None
    → Fits (with_words n space).taken later → Fits space.taken (standing line space.at words ++ later)
words_fit line zero space [] later count free fits = fits
words_fit line zero space (word ∷ words) later count free fits = cc
words_fit line (suc n) space [] later count free fits = cc
words_fit line (suc n) space (word ∷ words) later count free fits =
    let first = or_none_left (word_fault space) (words_fault n (with_word space)) free in (
      word_room space first,
      word_free space first,
      words_fit line n (with_word space) words later (suc_same (length words) n count) (or_none_right (word_fault space) (words_fault n (with_word space)) free) fits,
    )

both_none : {T : Type 0} (a b : Option T) → a ≡ None → b ≡ None → option_or a b ≡ None
both_none None b h g = g
both_none (Some x) b h g = cc

-- and words with free places may be placed
record MayStand (n : ℕ) (space : Space) (later : List Placement) : Type 0 where
  free : words_fault n space ≡ None
  fits : Fits (with_words n space).taken later

fit_words : (line n : ℕ) (space : Space) (words : List ℕ) (later : List Placement) → length words ≡ n
    → Fits space.taken (standing line space.at words ++ later) → MayStand n space later
fit_words line zero space [] later count fits = record { free = refl; fits = fits }
fit_words line zero space (word ∷ words) later count fits = cc
fit_words line (suc n) space [] later count fits = cc
fit_words line (suc n) space (word ∷ words) later count fits =
    let rest = fit_words line n (with_word space) words later (suc_same (length words) n count) fits.2 in
    record {
      free = both_none (word_fault space) (words_fault n (with_word space)) (free_word space fits.0 fits.1) rest.free;
      fits = rest.fits;
    }

-- the words of a line fill the places of its placements
words_filled : (line at : ℕ) (memory words : List ℕ) → with_words_at memory at words ≡ filled memory (standing line at words)
words_filled line at memory [] = refl
words_filled line at memory (word ∷ words) = words_filled line (at + 1) (set memory at word) words

-- the placements of a statement
abbrev pub prog_own : List ℕ → Names → Counters → Statement → List Placement
prog_own text names at statement = standing statement.line at.prog (map (content_word text names (here_at at statement.body)) (contents statement.body))

abbrev pub drom_own : List ℕ → Names → Counters → Statement → List Placement
drom_own text names at statement = standing statement.line at.drom (map (data_word text names (here_at at statement.body)) (data_values statement.body))

prog_taken : (before : Layout) (body : Body) (number : ℤ) → (program_after before body number).taken ≡ (with_words (program_words body) before.prog).taken
prog_taken before Empty number = refl
prog_taken before (Op word) number = refl
prog_taken before (Rt word) number = refl
prog_taken before (Ld dst x) number = refl
prog_taken before (Jump cond x) number = refl
prog_taken before (Org x) number = refl
prog_taken before (Dorg x) number = refl
prog_taken before (Equ name x) number = refl
prog_taken before (Words xs) number = refl
prog_taken before (Dwords xs) number = refl

drom_taken : (before : Layout) (body : Body) (number : ℤ) → (data_after before body number).taken ≡ (with_words (data_words body) before.drom).taken
drom_taken before Empty number = refl
drom_taken before (Op word) number = refl
drom_taken before (Rt word) number = refl
drom_taken before (Ld dst x) number = refl
drom_taken before (Jump cond x) number = refl
drom_taken before (Org x) number = refl
drom_taken before (Dorg x) number = refl
drom_taken before (Equ name x) number = refl
drom_taken before (Words xs) number = refl
drom_taken before (Dwords xs) number = refl

after_prog : (text : List ℕ) (before : Layout) (statement : Statement)
    → (after text before statement).prog.taken ≡ (with_words (program_words statement.body) before.prog).taken
unfolding after
after_prog text before statement = prog_taken before statement.body (early_number text before statement.body)

after_drom : (text : List ℕ) (before : Layout) (statement : Statement)
    → (after text before statement).drom.taken ≡ (with_words (data_words statement.body) before.drom).taken
unfolding after
after_drom text before statement = drom_taken before statement.body (early_number text before statement.body)

-- a line without a fault
record IsGood (text : List ℕ) (before : Layout) (statement : Statement) : Type 0 where
  label : label_fault text before.names statement.label ≡ None
  equ : equ_fault text (with_label text before.names (here before statement.body) statement.label) statement.body ≡ None
  early : early_fault text before statement.body ≡ None
  prog : words_fault (program_words statement.body) before.prog ≡ None
  drom : words_fault (data_words statement.body) before.drom ≡ None

good_line : (text : List ℕ) (before : Layout) (statement : Statement) → line_fault text before statement ≡ None → IsGood text before statement
unfolding line_fault
good_line text before statement h =
    let second = or_none_right (label_fault text before.names statement.label) _ h in
    let third = or_none_right (equ_fault text (with_label text before.names (here before statement.body) statement.label) statement.body) _ second in
    let last = or_none_right (early_fault text before statement.body) (place_fault before statement.body) third in
    record {
      label = or_none_left (label_fault text before.names statement.label) _ h;
      equ = or_none_left (equ_fault text (with_label text before.names (here before statement.body) statement.label) statement.body) _ second;
      early = or_none_left (early_fault text before statement.body) (place_fault before statement.body) third;
      prog = or_none_left (words_fault (program_words statement.body) before.prog) _ last;
      drom = or_none_right (words_fault (program_words statement.body) before.prog) _ last;
    }

line_good : (text : List ℕ) (before : Layout) (statement : Statement) → IsGood text before statement → line_fault text before statement ≡ None
unfolding line_fault
line_good text before statement h =
    both_none (label_fault text before.names statement.label) _ h.label
    (both_none (equ_fault text (with_label text before.names (here before statement.body) statement.label) statement.body) _ h.equ
    (both_none (early_fault text before statement.body) (place_fault before statement.body) h.early
    (both_none (words_fault (program_words statement.body) before.prog) _ h.prog h.drom)))

-- placements that satisfy the rules and have free places
pub record AreLaid (text : List ℕ) (names : Names) (before : Layout) (statements : List Statement) (prog drom : List Placement) : Type 0 where
  pub rules : AreRuled text names before.names (counters_of before) statements prog drom
  pub prog_fits : Fits before.prog.taken prog
  pub drom_fits : Fits before.drom.taken drom

-- neither reading finds a fault
pub record IsFaultless (text : List ℕ) (names : Names) (before : Layout) (statements : List Statement) : Type 0 where
  pub placed : first_misplaced text before statements ≡ None
  pub valued : first_misvalued text names statements (counters text before statements) ≡ None
  pub all : names ≡ (laid_out text before statements).names

pub record SomeLaid (text : List ℕ) (names : Names) (before : Layout) (statements : List Statement) : Type 0 where
  pub prog : List Placement
  pub drom : List Placement
  pub laid : AreLaid text names before statements prog drom

ruled_line : (text : List ℕ) (names : Names) (before : Layout) (statement : Statement) → IsGood text before statement
    → values_fault text names (counters_of before) statement.body ≡ None
    → IsRuled text names before.names (counters_of before) (counters_of (after text before statement)) statement
    (own_label text (here_at (counters_of before) statement.body) statement.label) (own_equ text before.names before.prog.at statement.body)
    (prog_own text names (counters_of before) statement) (drom_own text names (counters_of before) statement)
unfolding after
ruled_line text names before statement good values = record {
  labelled = is_label text before.names (counters_of before) statement.body statement.label good.label;
  equated = is_equ text before statement good.equ;
  early = is_early text before statement.body good.early;
  prog_after = is_prog_after text before statement.body;
  drom_after = is_drom_after text before statement.body;
  values = values;
  prog_words = refl;
  drom_words = refl;
}

laid_line : (text : List ℕ) (names : Names) (before : Layout) (statement : Statement) (statements : List Statement) → IsGood text before statement
    → values_fault text names (counters_of before) statement.body ≡ None
    → SomeLaid text names (after text before statement) statements → SomeLaid text names before (statement ∷ statements)
laid_line text names before statement statements good values later = record {
  prog = prog_own text names (counters_of before) statement ++ later.prog;
  drom = drom_own text names (counters_of before) statement ++ later.drom;
  laid = record {
    rules = (
      counters_of (after text before statement),
      own_label text (here_at (counters_of before) statement.body) statement.label,
      own_equ text before.names before.prog.at statement.body,
      prog_own text names (counters_of before) statement,
      drom_own text names (counters_of before) statement,
      later.prog,
      later.drom,
      ruled_line text names before statement good values,
      refl,
      refl,
      subst (λ (n : Names). AreRuled text names n (counters_of (after text before statement)) statements later.prog later.drom)
          (names_after text before statement) later.laid.rules,
    );
    prog_fits = words_fit statement.line (program_words statement.body) before.prog
        (map (content_word text names (here_at (counters_of before) statement.body)) (contents statement.body)) later.prog
        (prog_count _ statement.body) good.prog (subst (λ (t : List Bool). Fits t later.prog) (after_prog text before statement) later.laid.prog_fits);
    drom_fits = words_fit statement.line (data_words statement.body) before.drom
        (map (data_word text names (here_at (counters_of before) statement.body)) (data_values statement.body)) later.drom
        (drom_count _ statement.body) good.drom (subst (λ (t : List Bool). Fits t later.drom) (after_drom text before statement) later.laid.drom_fits);
  };
}

pub laid_faultless : (text : List ℕ) (names : Names) (before : Layout) (statements : List Statement) → IsFaultless text names before statements
    → SomeLaid text names before statements
laid_faultless text names before [] h = record { prog = []; drom = []; laid = record { rules = (h.all, refl, refl); prog_fits = tt; drom_fits = tt } }
laid_faultless text names before (statement ∷ statements) h =
    let placed = or_none_left (on_line statement.line (line_fault text before statement)) _ h.placed in
    let valued = or_none_left (on_line statement.line (values_fault text names (counters_of before) statement.body)) _ h.valued in
    laid_line text names before statement statements
    (good_line text before statement (no_fault_on statement.line (line_fault text before statement) placed))
    (no_fault_on statement.line (values_fault text names (counters_of before) statement.body) valued)
    (laid_faultless text names (after text before statement) statements (record {
      placed = or_none_right (on_line statement.line (line_fault text before statement)) _ h.placed;
      valued = or_none_right (on_line statement.line (values_fault text names (counters_of before) statement.body)) _ h.valued;
      all = h.all;
    }))

-- what the fourth reading fills is what the placements fill
prog_step : (text : List ℕ) (names : Names) (at : Counters) (statement : Statement) (memory : List ℕ)
    → prog_with text names memory at statement.body ≡ filled memory (prog_own text names at statement)
unfolding prog_with
prog_step text names at statement memory =
    words_filled statement.line at.prog memory (map (content_word text names (here_at at statement.body)) (contents statement.body))

drom_step : (text : List ℕ) (names : Names) (at : Counters) (statement : Statement) (memory : List ℕ)
    → drom_with text names memory at statement.body ≡ filled memory (drom_own text names at statement)
unfolding drom_with
drom_step text names at statement memory =
    words_filled statement.line at.drom memory (map (data_word text names (here_at at statement.body)) (data_values statement.body))

pub prog_filled_is : (text : List ℕ) (names : Names) (before : Layout) (statements : List Statement) (prog drom : List Placement) (memory : List ℕ)
    → AreRuled text names before.names (counters_of before) statements prog drom
    → prog_filled text names memory statements (counters text before statements) ≡ filled memory prog
prog_filled_is text names before [] prog drom memory h = ap (filled memory) (sym h.1)
prog_filled_is text names before (statement ∷ statements) prog drom memory
    (next, label, equ, own_prog, own_drom, later_prog, later_drom, g, gp, gd, gs) =
    prog_filled_is text names (after text before statement) statements later_prog later_drom _
    (ruled_after text names before next statement label equ own_prog own_drom g statements later_prog later_drom gs)
    ∙ ap (λ (m : List ℕ). filled m later_prog) (prog_step text names (counters_of before) statement memory ∙ ap (filled memory) (sym g.prog_words))
    ∙ sym (filled_append memory own_prog later_prog)
    ∙ ap (filled memory) (sym gp)

pub drom_filled_is : (text : List ℕ) (names : Names) (before : Layout) (statements : List Statement) (prog drom : List Placement) (memory : List ℕ)
    → AreRuled text names before.names (counters_of before) statements prog drom
    → drom_filled text names memory statements (counters text before statements) ≡ filled memory drom
drom_filled_is text names before [] prog drom memory h = ap (filled memory) (sym h.2)
drom_filled_is text names before (statement ∷ statements) prog drom memory
    (next, label, equ, own_prog, own_drom, later_prog, later_drom, g, gp, gd, gs) =
    drom_filled_is text names (after text before statement) statements later_prog later_drom _
    (ruled_after text names before next statement label equ own_prog own_drom g statements later_prog later_drom gs)
    ∙ ap (λ (m : List ℕ). filled m later_drom) (drom_step text names (counters_of before) statement memory ∙ ap (filled memory) (sym g.drom_words))
    ∙ sym (filled_append memory own_drom later_drom)
    ∙ ap (filled memory) (sym gd)

-- where the rules hold and each word has a free place, a line has no fault
line_free : (text : List ℕ) (names : Names) (before : Layout) (next : Counters) (statement : Statement) (label equ : Names) (own_prog own_drom later_prog later_drom : List Placement)
    → IsRuled text names before.names (counters_of before) next statement label equ own_prog own_drom
    → MayStand (program_words statement.body) before.prog later_prog → MayStand (data_words statement.body) before.drom later_drom
    → IsGood text before statement
line_free text names before next statement label equ own_prog own_drom later_prog later_drom h prog drom = record {
  label = (label_is text before.names (counters_of before) statement.body statement.label label h.labelled).0;
  equ = (equ_is text before statement label equ (same_label text names before next statement label equ own_prog own_drom h) h.equated).0;
  early = early_is text before statement.body h.early;
  prog = prog.free;
  drom = drom.free;
}

prog_stand : (text : List ℕ) (names : Names) (before : Layout) (statement : Statement) (prog own later : List Placement)
    → own ≡ prog_own text names (counters_of before) statement → prog ≡ own ++ later → Fits before.prog.taken prog
    → MayStand (program_words statement.body) before.prog later
prog_stand text names before statement prog own later o e fits =
    fit_words statement.line (program_words statement.body) before.prog
    (map (content_word text names (here_at (counters_of before) statement.body)) (contents statement.body)) later (prog_count _ statement.body)
    (subst (λ (ps : List Placement). Fits before.prog.taken ps) (e ∙ ap (λ (ps : List Placement). ps ++ later) o) fits)

drom_stand : (text : List ℕ) (names : Names) (before : Layout) (statement : Statement) (drom own later : List Placement)
    → own ≡ drom_own text names (counters_of before) statement → drom ≡ own ++ later → Fits before.drom.taken drom
    → MayStand (data_words statement.body) before.drom later
drom_stand text names before statement drom own later o e fits =
    fit_words statement.line (data_words statement.body) before.drom
    (map (data_word text names (here_at (counters_of before) statement.body)) (data_values statement.body)) later (drom_count _ statement.body)
    (subst (λ (ps : List Placement). Fits before.drom.taken ps) (e ∙ ap (λ (ps : List Placement). ps ++ later) o) fits)

pub faultless_laid : (text : List ℕ) (names : Names) (before : Layout) (statements : List Statement) (prog drom : List Placement)
    → AreRuled text names before.names (counters_of before) statements prog drom → Fits before.prog.taken prog → Fits before.drom.taken drom
    → IsFaultless text names before statements
faultless_laid text names before [] prog drom h prog_fits drom_fits = record { placed = refl; valued = refl; all = h.0 }
faultless_laid text names before (statement ∷ statements) prog drom
    (next, label, equ, own_prog, own_drom, later_prog, later_drom, g, gp, gd, gs) prog_fits drom_fits =
    let in_prog = prog_stand text names before statement prog own_prog later_prog g.prog_words gp prog_fits in
    let in_drom = drom_stand text names before statement drom own_drom later_drom g.drom_words gd drom_fits in
    let rest = faultless_laid text names (after text before statement) statements later_prog later_drom
    (ruled_after text names before next statement label equ own_prog own_drom g statements later_prog later_drom gs)
    (subst (λ (t : List Bool). Fits t later_prog) (sym (after_prog text before statement)) in_prog.fits)
    (subst (λ (t : List Bool). Fits t later_drom) (sym (after_drom text before statement)) in_drom.fits) in
    let good = line_free text names before next statement label equ own_prog own_drom later_prog later_drom g in_prog in_drom in
    record {
      placed = both_none (on_line statement.line (line_fault text before statement)) _ (ap (on_line statement.line) (line_good text before statement good)) rest.placed;
      valued = both_none (on_line statement.line (values_fault text names (counters_of before) statement.body)) _ (ap (on_line statement.line) g.values) rest.valued;
      all = rest.all;
    }
