-- Where the third reading finds no fault, each statement's words have room.
use Rattle.std.proofs.Common.{◌≡◌, ℕ, zero, suc, ◌+◌, ◌<◌, ◌≤◌, ℤ, pos, negsuc, Bool, true, false, cond, not, ◌&&◌, if◌then◌else◌, List, [], ◌∷◌, length, Option, Some, None, refl, arith, lit≤}
use Rattle.std.specs.Int.RustNames.{unsigned_abs}
use Rattle.std.specs.Option.{option_or}
use Rattle.std.proofs.lemmas.Grind.{common_steps}
use Rattle.std.proofs.lemmas.List.{length-replicate}
use Rattle.wb_syntax.specs.Tree.{Tree}
use Rattle.wb_syntax.specs.declared.statements.Body.{Body}
use Rattle.wb_syntax.specs.declared.statements.Body.TheVariants.{Empty, Op, Rt, Ld, Jump, Org, Dorg, Equ, Words, Dwords}
use Rattle.wb_syntax.specs.declared.statements.Statement.{Statement}
use Rattle.wb_asm.specs.declared.faults.AsmKind.{AsmKind}
use Rattle.wb_asm.specs.declared.faults.AsmKind.TheVariants.{Unknown, Range}
use Rattle.wb_asm.specs.declared.layout.Layout.{Layout}
use Rattle.wb_asm.specs.Counters.{on_line, first_misplaced, counters}
use Rattle.wb_asm.specs.Laid.{HaveRoom}
use Rattle.wb_asm.specs.Layout.{start, program_words, data_words, program_after, data_after, early_number, early_fault, place_fault, label_fault, equ_fault, with_label, here, after, line_fault}
use Rattle.wb_asm.specs.Space.{Space, empty, with_word, word_fault, with_words, words_fault}
use Rattle.wb_asm.specs.Value.{Names, is_known, is_narrow, is_between, exact, value_fault}

-- the memory has so many places, and its counter doesn't pass them
pub record IsWithin (size : ℕ) (space : Space) : Type 0 where
  pub places : length space.taken ≡ size
  pub counter : space.at ≤ size

pub or_none_left : {T : Type 0} (a b : Option T) → option_or a b ≡ None → a ≡ None
or_none_left None b h = refl
or_none_left (Some x) b h = cc

pub or_none_right : {T : Type 0} (a b : Option T) → option_or a b ≡ None → b ≡ None
or_none_right None b h = h
or_none_right (Some x) b h = cc

pub word_room : (space : Space) → word_fault space ≡ None → space.at < length space.taken
word_room space h = grind arith

one_within : (size : ℕ) (space : Space) → IsWithin size space → word_fault space ≡ None → IsWithin size (with_word space)
one_within size space h free =
    let room = word_room space free in
    let places = h.places in
    record { places = grind (arith, common_steps); counter = omega arith }

words_within : (count size : ℕ) (space : Space) → IsWithin size space → words_fault count space ≡ None → IsWithin size (with_words count space)
words_within zero size space h free = h
words_within (suc more) size space h free =
    words_within more size (with_word space)
    (one_within size space h (or_none_left (word_fault space) (words_fault more (with_word space)) free))
    (or_none_right (word_fault space) (words_fault more (with_word space)) free)

words_room : (count size : ℕ) (space : Space) → IsWithin size space → words_fault count space ≡ None → space.at + count ≤ size
words_room zero size space h free = let counter = h.counter in omega arith
words_room (suc more) size space h free =
    let rest = words_room more size (with_word space)
    (one_within size space h (or_none_left (word_fault space) (words_fault more (with_word space)) free))
    (or_none_right (word_fault space) (words_fault more (with_word space)) free) in
    omega arith

no_fault : (known narrow between : Bool)
    → (if not known then Some Unknown else if not (narrow && between) then Some Range else None) ≡ None → between ≡ true
no_fault true true true h = refl
no_fault true true false h = cc
no_fault true false between h = cc
no_fault false narrow between h = cc

value_between : (text : List ℕ) (names : Names) (at : ℕ) (low high : ℤ) (x : Tree)
    → value_fault text names at low high x ≡ None → is_between low high (exact text names at x) ≡ true
unfolding value_fault
value_between text names at low high x h = no_fault (is_known text names at x) (is_narrow text names at x) (is_between low high (exact text names at x)) h

counter_room : (high : ℕ) (number : ℤ) → is_between (pos 0) (pos high) number ≡ true → unsigned_abs number ≤ high
counter_room high (pos n) h = grind arith
counter_room high (negsuc n) h = cc

-- both memories are within their sizes
pub record AreWithin (layout : Layout) : Type 0 where
  pub prog : IsWithin 2048 layout.prog
  pub drom : IsWithin 1024 layout.drom

program_within : (text : List ℕ) (before : Layout) (body : Body) → AreWithin before → early_fault text before body ≡ None
    → place_fault before body ≡ None → IsWithin 2048 (program_after before body (early_number text before body))
program_within text before (Org x) h early placed =
    let between = value_between text before.names before.prog.at (pos 0) (pos 2047) x early in
    let room = counter_room 2047 (exact text before.names before.prog.at x) between in
    record { places = h.prog.places; counter = omega arith }
program_within text before (Op word) h early placed = words_within 1 2048 before.prog h.prog (or_none_left _ _ placed)
program_within text before (Rt word) h early placed = words_within 1 2048 before.prog h.prog (or_none_left _ _ placed)
program_within text before (Ld dst x) h early placed = words_within 1 2048 before.prog h.prog (or_none_left _ _ placed)
program_within text before (Jump cond x) h early placed = words_within 1 2048 before.prog h.prog (or_none_left _ _ placed)
program_within text before (Words xs) h early placed = words_within (length xs) 2048 before.prog h.prog (or_none_left _ _ placed)
program_within text before Empty h early placed = h.prog
program_within text before (Dorg x) h early placed = h.prog
program_within text before (Equ name x) h early placed = h.prog
program_within text before (Dwords xs) h early placed = h.prog

data_within : (text : List ℕ) (before : Layout) (body : Body) → AreWithin before → early_fault text before body ≡ None
    → place_fault before body ≡ None → IsWithin 1024 (data_after before body (early_number text before body))
data_within text before (Dorg x) h early placed =
    let between = value_between text before.names before.drom.at (pos 0) (pos 1023) x early in
    let room = counter_room 1023 (exact text before.names before.drom.at x) between in
    record { places = h.drom.places; counter = omega arith }
data_within text before (Dwords xs) h early placed = words_within (length xs) 1024 before.drom h.drom placed
data_within text before Empty h early placed = h.drom
data_within text before (Op word) h early placed = h.drom
data_within text before (Rt word) h early placed = h.drom
data_within text before (Ld dst x) h early placed = h.drom
data_within text before (Jump cond x) h early placed = h.drom
data_within text before (Words xs) h early placed = h.drom
data_within text before (Org x) h early placed = h.drom
data_within text before (Equ name x) h early placed = h.drom

-- a line without a fault
record IsGood (text : List ℕ) (before : Layout) (statement : Statement) : Type 0 where
  early : early_fault text before statement.body ≡ None
  placed : place_fault before statement.body ≡ None

good_line : (text : List ℕ) (before : Layout) (statement : Statement) → line_fault text before statement ≡ None → IsGood text before statement
unfolding line_fault
good_line text before statement h =
    let second = or_none_right (label_fault text before.names statement.label) _ h in
    let third = or_none_right (equ_fault text (with_label text before.names (here before statement.body) statement.label) statement.body) _ second in
    record {
      early = or_none_left (early_fault text before statement.body) (place_fault before statement.body) third;
      placed = or_none_right (early_fault text before statement.body) (place_fault before statement.body) third;
    }

after_within : (text : List ℕ) (before : Layout) (statement : Statement) → AreWithin before → IsGood text before statement → AreWithin (after text before statement)
unfolding after
after_within text before statement h good =
    record {
      prog = program_within text before statement.body h good.early good.placed;
      drom = data_within text before statement.body h good.early good.placed;
    }

pub no_fault_on : (line : ℕ) (kind : Option AsmKind) → on_line line kind ≡ None → kind ≡ None
no_fault_on line None h = refl
no_fault_on line (Some kind) h = cc

have_room : (text : List ℕ) (before : Layout) (statements : List Statement) → AreWithin before
    → first_misplaced text before statements ≡ None → HaveRoom statements (counters text before statements)
have_room text before [] h none = tt
have_room text before (statement ∷ statements) h none =
    let first = or_none_left (on_line statement.line (line_fault text before statement)) _ none in
    let rest = or_none_right (on_line statement.line (line_fault text before statement)) _ none in
    let good = good_line text before statement (no_fault_on statement.line (line_fault text before statement) first) in (
      words_room (program_words statement.body) 2048 before.prog h.prog (or_none_left _ _ good.placed),
      words_room (data_words statement.body) 1024 before.drom h.drom (or_none_right _ _ good.placed),
      have_room text (after text before statement) statements (after_within text before statement h good) rest,
    )

start_within : AreWithin start
unfolding empty
start_within = record {
  prog = record { places = length-replicate 2048 false; counter = lit≤ tt };
  drom = record { places = length-replicate 1024 false; counter = lit≤ tt };
}

pub have_room_all : (text : List ℕ) (statements : List Statement) → first_misplaced text start statements ≡ None
    → HaveRoom statements (counters text start statements)
have_room_all text statements none = have_room text start statements start_within none
