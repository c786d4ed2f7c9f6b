-- Where the words of a listing are placed, and what they are.
use Rattle.std.proofs.Common.{◌≡◌, ℕ, suc, ◌+◌, ◌%◌, ◌^◌, ◌<◌, ◌≤◌, pos, negsuc, false, List, [], ◌∷◌, ◌++◌, length, Option, None, refl, sym, ap, ◌∙◌, subst, arith, append_assoc, append-nil, get_or}
use Rattle.std.specs.List.{slice_set}
use Rattle.std.specs.Option.{option_or}
use Rattle.std.proofs.lemmas.Bool.Decides.{nat_tests}
use Rattle.std.proofs.lemmas.Grind.{common_steps}
use Rattle.std.proofs.lemmas.List.{length-replicate}
use Rattle.std.proofs.Math.Seq.{set-append_seam}
use Rattle.wb_syntax.specs.Tree.{Number}
use Rattle.wb_syntax.specs.declared.statements.Body.{Body}
use Rattle.wb_syntax.specs.declared.statements.Body.TheVariants as body
use Rattle.wb_syntax.specs.declared.statements.Statement.{Statement}
use Rattle.wb_asm.specs.declared.counters.Counters.{Counters}
use Rattle.wb_asm.specs.declared.faults.AsmKind.{AsmKind}
use Rattle.wb_asm.specs.declared.layout.Layout.{Layout}
use Rattle.wb_asm.specs.Assembly.{zeros}
use Rattle.wb_asm.specs.Counters.{on_line, first_misplaced, laid_out, counters, counters_of}
use Rattle.wb_asm.specs.Layout.{after, line_fault, early_number, early_fault, equ_fault, with_equ, data_after}
use Rattle.wb_asm.specs.Space.{Space, with_word, word_fault}
use Rattle.wb_asm.specs.Value.{Names}
use Rattle.wb_asm.specs.Words.{values_fault, prog_with, drom_with, with_words_at, first_misvalued, prog_filled, drom_filled}
use Rattle.wb_dis.proofs.Entries.{Entry, entry_text, entries_text, statement_of, statements}
use Rattle.wb_dis.proofs.Spelled.{IsProgram, IsProgramOf, number_fault, between_signed}

-- the next place of a memory, and as many after it as are wanted, are free
pub record IsFree (space : Space) (wanted : ℕ) : Type 0 where
  pub room : space.at + wanted ≤ length space.taken
  pub free : (place : ℕ) → space.at ≤ place → get_or space.taken place false ≡ false

free_fault : (space : Space) (more : ℕ) → IsFree space (suc more) → word_fault space ≡ None
free_fault space more h =
    let room = h.room in
    let here = h.free space.at (omega arith) in
    grind (arith, nat_tests)

free_next : (space : Space) (more : ℕ) → IsFree space (suc more) → IsFree (with_word space) more
free_next space more h = record {
  room = let room = h.room in grind (arith, common_steps);
  free = λ place later.
      let still = h.free place (omega arith) in
      grind (arith, common_steps);
}

-- a layout with one more program word
abbrev pub programmed : Layout → Layout
programmed before = record { prog = with_word before.prog; drom = before.drom; names = before.names }

or_first : {T : Type 0} (a b : Option T) → a ≡ None → option_or a b ≡ b
or_first a b h = rw h

module _ (text : List ℕ) (line : ℕ) (b : Body) (h : IsProgram b) where
  abbrev this : Statement
  this = record { line = line; label = None; body = b }

  program_after_is : (before : Layout) → after text before this ≡ programmed before
  unfolding after
  program_after_is before =
      ap (λ (s : Space). record { prog = s; drom = data_after before b (early_number text before b); names = with_equ text before.names b (early_number text before b) })
      (h.prog before (early_number text before b))
      ∙ ap (λ (s : Space). record { prog = with_word before.prog; drom = s; names = with_equ text before.names b (early_number text before b) })
      (h.drom before (early_number text before b))
      ∙ ap (λ (names : Names). record { prog = with_word before.prog; drom = before.drom; names = names })
      (h.names text before.names (early_number text before b))

  program_fault : (before : Layout) → word_fault before.prog ≡ None → line_fault text before this ≡ None
  unfolding line_fault
  program_fault before free =
      or_first (equ_fault text before.names b) _ (h.equ text before.names)
      ∙ or_first (early_fault text before b) _ (h.early text before)
      ∙ h.fault before free

-- a statement of one data word
abbrev pub datum : ℕ → Body
datum word = body.Dwords (Number word ∷ [])

-- a layout with one more data word
abbrev pub supplied : Layout → Layout
supplied before = record { prog = before.prog; drom = with_word before.drom; names = before.names }

or_last : (a : Option AsmKind) → a ≡ None → option_or None (option_or a None) ≡ None
or_last a h = rw h

module _ (text : List ℕ) (line word : ℕ) where
  abbrev this_datum : Statement
  this_datum = record { line = line; label = None; body = datum word }

  data_after_is : (before : Layout) → after text before this_datum ≡ supplied before
  unfolding after
  data_after_is before = refl

  data_fault_none : (before : Layout) → word_fault before.drom ≡ None → line_fault text before this_datum ≡ None
  unfolding line_fault
  data_fault_none before free = or_last (word_fault before.drom) free

  data_values : (names : Names) (at : Counters) → word < 2 ^ 16 → values_fault text names at (datum word) ≡ None
  unfolding values_fault
  data_values names at small =
      let high : word ≤ 65535 = omega arith in
      ap (λ (f : Option AsmKind). option_or None (option_or f None))
      (number_fault text names at.drom (negsuc 32767) (pos 65535) word (between_signed 32767 65535 word high))

  data_prog : (names : Names) (memory : List ℕ) (at : Counters) → prog_with text names memory at (datum word) ≡ memory
  unfolding prog_with
  data_prog names memory at = refl

  data_puts : (names : Names) (memory : List ℕ) (at : Counters) → word < 2 ^ 16 → drom_with text names memory at (datum word) ≡ slice_set memory at.drom word
  unfolding drom_with
  data_puts names memory at small =
      let same : word % 65536 ≡ word = omega arith in
      ap (λ w. slice_set memory at.drom w) same

-- entries that place these program words
abbrev pub ArePrograms : List Entry → List ℕ → Type 0
ArePrograms [] [] = Unit {0}
ArePrograms [] (word ∷ words) = ⊥
ArePrograms (e ∷ es) [] = ⊥
ArePrograms (e ∷ es) (word ∷ words) = IsProgramOf e.said word × ArePrograms es words

-- entries that place these data words
abbrev pub AreData : List Entry → List ℕ → Type 0
AreData [] [] = Unit {0}
AreData [] (word ∷ words) = ⊥
AreData (e ∷ es) [] = ⊥
AreData (e ∷ es) (word ∷ words) = (e.said ≡ datum word) × (word < 2 ^ 16) × AreData es words

no_line : (line : ℕ) (fault : Option AsmKind) → fault ≡ None → on_line line fault ≡ None
no_line line fault h = rw h

-- program words are placed without a fault
pub programs_placed : (text before : List ℕ) (es : List Entry) (words : List ℕ) (later : List Statement) (layout : Layout) → ArePrograms es words
    → IsFree layout.prog (length es)
    → first_misplaced text layout (statements before es ++ later) ≡ first_misplaced text (laid_out text layout (statements before es)) later
programs_placed text before [] words later layout h free = refl
programs_placed text before (e ∷ es) [] later layout h free = absurd h
programs_placed text before (e ∷ es) (word ∷ words) later layout h free =
    let line = (statement_of before e).line in
    let none = no_line line _ (program_fault text line e.said h.0.placed layout (free_fault layout.prog (length es) free)) in
    let moved = program_after_is text line e.said h.0.placed layout in
    or_first _ _ none
    ∙ programs_placed text (before ++ entry_text e) es words later (after text layout (statement_of before e)) h.1
    (subst (λ (l : Layout). IsFree l.prog (length es)) (sym moved) (free_next layout.prog (length es) free))

-- and leave the data memory
pub programs_drom : (text before : List ℕ) (es : List Entry) (words : List ℕ) (layout : Layout) → ArePrograms es words
    → (laid_out text layout (statements before es)).drom ≡ layout.drom
programs_drom text before [] words layout h = refl
programs_drom text before (e ∷ es) [] layout h = absurd h
programs_drom text before (e ∷ es) (word ∷ words) layout h =
    programs_drom text (before ++ entry_text e) es words (after text layout (statement_of before e)) h.1
    ∙ ap (λ (l : Layout). l.drom) (program_after_is text (statement_of before e).line e.said h.0.placed layout)

pub data_placed : (text before : List ℕ) (es : List Entry) (words : List ℕ) (layout : Layout) → AreData es words
    → IsFree layout.drom (length es) → first_misplaced text layout (statements before es) ≡ None
data_placed text before [] words layout h free = refl
data_placed text before (e ∷ es) [] layout h free = absurd h
data_placed text before (e ∷ es) (word ∷ words) layout h free =
    let line = (statement_of before e).line in
    let fault : line_fault text layout (statement_of before e) ≡ None =
    ap (λ (b : Body). line_fault text layout (record { line = line; label = None; body = b })) h.0
    ∙ data_fault_none text line word layout (free_fault layout.drom (length es) free) in
    let moved : after text layout (statement_of before e) ≡ supplied layout =
    ap (λ (b : Body). after text layout (record { line = line; label = None; body = b })) h.0 ∙ data_after_is text line word layout in
    or_first _ _ (no_line line _ fault)
    ∙ data_placed text (before ++ entry_text e) es words (after text layout (statement_of before e)) h.2
    (subst (λ (l : Layout). IsFree l.drom (length es)) (sym moved) (free_next layout.drom (length es) free))

module _ (text : List ℕ) (names : Names) where
  -- no value is faulty
  pub programs_valued : (before : List ℕ) (es : List Entry) (words : List ℕ) (later : List Statement) (layout : Layout) → ArePrograms es words
      → first_misvalued text names (statements before es ++ later) (counters text layout (statements before es ++ later))
      ≡ first_misvalued text names later (counters text (laid_out text layout (statements before es)) later)
  programs_valued before [] words later layout h = refl
  programs_valued before (e ∷ es) [] later layout h = absurd h
  programs_valued before (e ∷ es) (word ∷ words) later layout h =
      or_first _ _ (no_line (statement_of before e).line _ (h.0.values text names (counters_of layout)))
      ∙ programs_valued (before ++ entry_text e) es words later (after text layout (statement_of before e)) h.1

  -- the words are put one after the other
  pub programs_filled : (before : List ℕ) (es : List Entry) (words : List ℕ) (later : List Statement) (layout : Layout) (memory : List ℕ) → ArePrograms es words
      → prog_filled text names memory (statements before es ++ later) (counters text layout (statements before es ++ later))
      ≡ prog_filled text names (with_words_at memory layout.prog.at words) later (counters text (laid_out text layout (statements before es)) later)
  programs_filled before [] [] later layout memory h = refl
  programs_filled before [] (word ∷ words) later layout memory h = absurd h
  programs_filled before (e ∷ es) [] later layout memory h = absurd h
  programs_filled before (e ∷ es) (word ∷ words) later layout memory h =
      let next = after text layout (statement_of before e) in
      let moved : next.prog.at ≡ layout.prog.at + 1 =
      ap (λ (l : Layout). l.prog.at) (program_after_is text (statement_of before e).line e.said h.0.placed layout) in
      ap (λ (m : List ℕ). prog_filled text names m (statements (before ++ entry_text e) es ++ later) (counters text next (statements (before ++ entry_text e) es ++ later)))
      (h.0.puts text names memory (counters_of layout))
      ∙ programs_filled (before ++ entry_text e) es words later next (slice_set memory layout.prog.at word) h.1
      ∙ ap (λ at. prog_filled text names (with_words_at (slice_set memory layout.prog.at word) at words) later (counters text (laid_out text next (statements (before ++ entry_text e) es)) later))
      moved

  pub programs_rest : (before : List ℕ) (es : List Entry) (words : List ℕ) (later : List Statement) (layout : Layout) (memory : List ℕ) → ArePrograms es words
      → drom_filled text names memory (statements before es ++ later) (counters text layout (statements before es ++ later))
      ≡ drom_filled text names memory later (counters text (laid_out text layout (statements before es)) later)
  programs_rest before [] words later layout memory h = refl
  programs_rest before (e ∷ es) [] later layout memory h = absurd h
  programs_rest before (e ∷ es) (word ∷ words) later layout memory h =
      let next = after text layout (statement_of before e) in
      ap (λ (m : List ℕ). drom_filled text names m (statements (before ++ entry_text e) es ++ later) (counters text next (statements (before ++ entry_text e) es ++ later)))
      (h.0.placed.rest text names memory (counters_of layout))
      ∙ programs_rest (before ++ entry_text e) es words later next memory h.1

  pub data_valued : (before : List ℕ) (es : List Entry) (words : List ℕ) (layout : Layout) → AreData es words
      → first_misvalued text names (statements before es) (counters text layout (statements before es)) ≡ None
  data_valued before [] words layout h = refl
  data_valued before (e ∷ es) [] layout h = absurd h
  data_valued before (e ∷ es) (word ∷ words) layout h =
      let line = (statement_of before e).line in
      or_first _ _ (no_line line _ (ap (λ (b : Body). values_fault text names (counters_of layout) b) h.0 ∙ data_values text line word names (counters_of layout) h.1))
      ∙ data_valued (before ++ entry_text e) es words (after text layout (statement_of before e)) h.2

  pub data_rest : (before : List ℕ) (es : List Entry) (words : List ℕ) (layout : Layout) (memory : List ℕ) → AreData es words
      → prog_filled text names memory (statements before es) (counters text layout (statements before es)) ≡ memory
  data_rest before [] words layout memory h = refl
  data_rest before (e ∷ es) [] layout memory h = absurd h
  data_rest before (e ∷ es) (word ∷ words) layout memory h =
      let next = after text layout (statement_of before e) in
      ap (λ (m : List ℕ). prog_filled text names m (statements (before ++ entry_text e) es) (counters text next (statements (before ++ entry_text e) es)))
      (ap (λ (b : Body). prog_with text names memory (counters_of layout) b) h.0 ∙ data_prog text (statement_of before e).line word names memory (counters_of layout))
      ∙ data_rest (before ++ entry_text e) es words next memory h.2

  pub data_filled : (before : List ℕ) (es : List Entry) (words : List ℕ) (layout : Layout) (memory : List ℕ) → AreData es words
      → drom_filled text names memory (statements before es) (counters text layout (statements before es)) ≡ with_words_at memory layout.drom.at words
  data_filled before [] [] layout memory h = refl
  data_filled before [] (word ∷ words) layout memory h = absurd h
  data_filled before (e ∷ es) [] layout memory h = absurd h
  data_filled before (e ∷ es) (word ∷ words) layout memory h =
      let line = (statement_of before e).line in
      let next = after text layout (statement_of before e) in
      let moved : next.drom.at ≡ layout.drom.at + 1 =
      ap (λ (b : Body). (after text layout (record { line = line; label = None; body = b })).drom.at) h.0
      ∙ ap (λ (l : Layout). l.drom.at) (data_after_is text line word layout) in
      ap (λ (m : List ℕ). drom_filled text names m (statements (before ++ entry_text e) es) (counters text next (statements (before ++ entry_text e) es)))
      (ap (λ (b : Body). drom_with text names memory (counters_of layout) b) h.0 ∙ data_puts text line word names memory (counters_of layout) h.1)
      ∙ data_filled (before ++ entry_text e) es words next (slice_set memory layout.drom.at word) h.2
      ∙ ap (λ at. with_words_at (slice_set memory layout.drom.at word) at words) moved

-- words that fill what follows some others
written : (front rest words : List ℕ) → length rest ≡ length words → with_words_at (front ++ rest) (length front) words ≡ front ++ words
written front [] [] same = refl
written front [] (word ∷ words) same = absurd (omega arith)
written front (old ∷ rest) [] same = absurd (omega arith)
written front (old ∷ rest) (word ∷ words) same =
    let one : slice_set (front ++ old ∷ rest) (length front) word ≡ (front ++ word ∷ []) ++ rest =
    set-append_seam front old rest word ∙ sym (append_assoc front (word ∷ []) rest) in
    let count : length front + 1 ≡ length (front ++ word ∷ []) = grind (arith, common_steps) in
    let fewer : length rest ≡ length words = omega arith in
    ap (λ (m : List ℕ). with_words_at m (length front + 1) words) one
    ∙ ap (λ at. with_words_at ((front ++ word ∷ []) ++ rest) at words) count
    ∙ written (front ++ word ∷ []) rest words fewer
    ∙ append_assoc front (word ∷ []) words

pub statements_append : (before : List ℕ) (first second : List Entry)
    → statements before (first ++ second) ≡ statements before first ++ statements (before ++ entries_text first) second
statements_append before [] second = ap (λ (b : List ℕ). statements b second) (sym (append-nil before))
statements_append before (e ∷ first) second =
    ap (λ (ss : List Statement). statement_of before e ∷ ss)
    (statements_append (before ++ entry_text e) first second
    ∙ ap (λ (b : List ℕ). statements (before ++ entry_text e) first ++ statements b second) (append_assoc before (entry_text e) (entries_text first)))

pub zeros_filled : (size : ℕ) (words : List ℕ) → length words ≡ size → with_words_at (zeros size) 0 words ≡ words
unfolding zeros
zeros_filled size words same = written [] _ words (length-replicate size 0 ∙ sym same)
