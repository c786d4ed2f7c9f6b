-- A listing assembles to the image that it lists.
use Rattle.std.proofs.Common.{◌≡◌, ℕ, zero, suc, ◌+◌, ◌^◌, ◌<◌, ◌≤◌, List, [], ◌∷◌, ◌++◌, length, codes, refl, sym, ap, ◌∙◌, subst, arith, append_assoc, get_or, replicate, false}
use Rattle.std.specs.List.{slice_index}
use Rattle.std.proofs.lemmas.List.{length-replicate}
use Rattle.wb_rom.specs.declared.images.Image.{Image}
use Rattle.wb_word.specs.Encoding.{number, instr_of}
use Rattle.wb_lex.specs.Tokens.{tokens_from}
use Rattle.wb_syntax.specs.Source.{IsSource}
use Rattle.wb_syntax.specs.declared.statements.Statement.{Statement}
use Rattle.wb_asm.specs.Assembly.{IsImageOfText, all_names, zeros}
use Rattle.wb_asm.specs.Counters.{laid_out}
use Rattle.wb_asm.specs.Layout.{start}
use Rattle.wb_asm.specs.Space.{Space, empty}
use Rattle.wb_asm.specs.Words.{with_words_at}
use Rattle.wb_dis.specs.Digits.{hex3, hex4, hex6}
use Rattle.wb_dis.specs.Line as line
use Rattle.wb_dis.specs.Listing.{program_line, data_line, lines_from, listing}
use Rattle.wb_dis.proofs.Entries.{Entry, entry_text, entries_text, entries_pieces, entries_cut, entries_narrow, entries_say, statements}
use Rattle.wb_dis.proofs.Parts.{Named, Numbered, Gap, text_of}
use Rattle.wb_dis.proofs.Placed.{ArePrograms, AreData, IsFree, datum, programs_placed, programs_drom, data_placed, programs_valued, programs_filled, programs_rest, data_valued, data_rest, data_filled, statements_append, zeros_filled}
use Rattle.wb_dis.proofs.Spelled.{Line, IsProgramOf, canonical, data_says, data_valid, filled_named}
use Rattle.wb_dis.proofs.Words.{program_comment, data_comment}

-- words of the program memory, each with its instruction
abbrev pub AreWords : List ℕ → Type 0
AreWords [] = Unit {0}
AreWords (word ∷ words) = (word < 2 ^ 24) × (number (instr_of word) ≡ word) × AreWords words

abbrev pub AreHalves : List ℕ → Type 0
AreHalves [] = Unit {0}
AreHalves (word ∷ words) = (word < 2 ^ 16) × AreHalves words

program_entry : (at word : ℕ) → Line word (line.canonical_line word) → Entry
program_entry at word l = record {
  these = l.these;
  comment = 32 ∷ (hex3 at ++ 32 ∷ hex6 word);
  said = l.said;
  valid = l.valid;
  closed = program_comment at word;
  says = l.says;
  filled = l.filled;
  calm = l.calm;
}

abbrev program_said : (word : ℕ) (l : Line word (line.canonical_line word)) → IsProgramOf l.said word
program_said word l = record { placed = l.placed; values = l.values; puts = l.puts }

program_text : (at word : ℕ) (l : Line word (line.canonical_line word)) → program_line at word ≡ text_of l.these ++ (32 ∷ 32 ∷ 59 ∷ ((32 ∷ (hex3 at ++ 32 ∷ hex6 word)) ++ 10 ∷ []))
unfolding program_line
program_text at word l = rw l.spelled (simp append_assoc)

data_entry : (at word : ℕ) → word < 2 ^ 16 → Entry
data_entry at word small = record {
  these = Named (codes ".dw") ∷ Gap ∷ Numbered (48 ∷ 120 ∷ hex4 word) word ∷ [];
  comment = 32 ∷ hex3 at;
  said = datum word;
  valid = data_valid word small;
  closed = data_comment at;
  says = data_says word;
  filled = λ source tokens h. filled_named source tokens (codes ".dw") _ h;
  calm = refl;
}

data_text : (at word : ℕ) → data_line at word ≡ text_of (Named (codes ".dw") ∷ Gap ∷ Numbered (48 ∷ 120 ∷ hex4 word) word ∷ []) ++ (32 ∷ 32 ∷ 59 ∷ ((32 ∷ hex3 at) ++ 10 ∷ []))
unfolding data_line
data_text at word = simp append_assoc

-- the lines of program words
record Programs (at : ℕ) (words : List ℕ) : Type 0 where
  entries : List Entry
  are : ArePrograms entries words
  text : lines_from program_line at words ≡ entries_text entries
  count : length entries ≡ length words

programs : (at : ℕ) (words : List ℕ) → AreWords words → Programs at words
unfolding program_entry
programs at [] h = record { entries = []; are = tt; text = refl; count = refl }
programs at (word ∷ words) h =
    let l = canonical word h.0 h.1 in
    let more = programs (at + 1) words h.2 in
    record {
      entries = program_entry at word l ∷ more.entries;
      are = (program_said word l, more.are);
      text = ap (λ (t : List ℕ). t ++ lines_from program_line (at + 1) words) (program_text at word l) ∙ ap (λ (t : List ℕ). entry_text (program_entry at word l) ++ t) more.text;
      count = let rest = more.count in omega arith;
    }

record Supplies (at : ℕ) (words : List ℕ) : Type 0 where
  entries : List Entry
  are : AreData entries words
  text : lines_from data_line at words ≡ entries_text entries
  count : length entries ≡ length words

supplies : (at : ℕ) (words : List ℕ) → AreHalves words → Supplies at words
unfolding data_entry
supplies at [] h = record { entries = []; are = tt; text = refl; count = refl }
supplies at (word ∷ words) h =
    let more = supplies (at + 1) words h.1 in
    record {
      entries = data_entry at word h.0 ∷ more.entries;
      are = (refl, h.0, more.are);
      text = ap (λ (t : List ℕ). t ++ lines_from data_line (at + 1) words) (data_text at word) ∙ ap (λ (t : List ℕ). entry_text (data_entry at word h.0) ++ t) more.text;
      count = let rest = more.count in omega arith;
    }

all_words : (words : List ℕ) → ((k : ℕ) → k < length words → slice_index words k < 2 ^ 24) → ((n : ℕ) → n < 2 ^ 24 → number (instr_of n) ≡ n) → AreWords words
all_words [] each law = tt
all_words (word ∷ words) each law =
    let first : word < 2 ^ 24 = each 0 (omega arith) in
    (first, law word first, all_words words (λ k h. each (suc k) (omega arith)) law)

all_halves : (words : List ℕ) → ((k : ℕ) → k < length words → slice_index words k < 2 ^ 16) → AreHalves words
all_halves [] each = tt
all_halves (word ∷ words) each = (each 0 (omega arith), all_halves words (λ k h. each (suc k) (omega arith)))

entries_append : (first second : List Entry) → entries_text (first ++ second) ≡ entries_text first ++ entries_text second
entries_append [] second = refl
entries_append (e ∷ first) second =
    ap (λ (t : List ℕ). entry_text e ++ t) (entries_append first second) ∙ sym (append_assoc (entry_text e) (entries_text first) (entries_text second))

falses : (size place : ℕ) → get_or (replicate size false) place false ≡ false
falses zero place = refl
falses (suc size) zero = refl
falses (suc size) (suc place) = falses size place

empty_free : (size wanted : ℕ) → wanted ≤ size → IsFree (empty size) wanted
unfolding empty
empty_free size wanted h = record {
  room = rw (length-replicate size false) (omega arith);
  free = λ place later. falses size place;
}

empty_at : (size : ℕ) → (empty size).at ≡ 0
unfolding empty
empty_at size = refl

-- the text of these entries assembles to the image of these words
entries_assemble : (image : Image) (first second : List Entry) → ArePrograms first image.prog → AreData second image.drom
    → length first ≡ 2048 → length second ≡ 1024 → length image.prog ≡ 2048 → length image.drom ≡ 1024
    → IsImageOfText (entries_text (first ++ second)) image
entries_assemble image first second programs_are data_are n m prog_size drom_size =
    let text = entries_text (first ++ second) in
    let s1 = statements [] first in
    let s2 = statements (entries_text first) second in
    let apart = statements_append [] first second in
    let names = all_names text (s1 ++ s2) in
    let moved = laid_out text start s1 in
    let drom_stays = programs_drom text [] first image.prog start programs_are in
    let some : length first ≤ 2048 = omega arith in
    let fewer : length second ≤ 1024 = omega arith in
    let free : IsFree moved.drom (length second) =
    subst (λ (s : Space). IsFree s (length second)) (sym drom_stays) (empty_free 1024 (length second) fewer) in
    record {
      statements = s1 ++ s2;
      says = record {
        cut = tokens_from [] (entries_pieces (first ++ second));
        tokens = record { pieces = entries_pieces (first ++ second); cut = entries_cut (first ++ second); narrow = entries_narrow (first ++ second); same = refl };
        source = subst (λ (ss : List Statement). IsSource text (tokens_from [] (entries_pieces (first ++ second))) ss) apart (entries_say text [] (first ++ second) refl);
      };
      placed = programs_placed text [] first image.prog s2 start programs_are (empty_free 2048 (length first) some)
          ∙ data_placed text (entries_text first) second image.drom moved data_are free;
      valued = programs_valued text names [] first image.prog s2 start programs_are ∙ data_valued text names (entries_text first) second image.drom moved data_are;
      prog = sym (programs_filled text names [] first image.prog s2 start (zeros 2048) programs_are
          ∙ data_rest text names (entries_text first) second image.drom moved (with_words_at (zeros 2048) (empty 2048).at image.prog) data_are
          ∙ ap (λ at. with_words_at (zeros 2048) at image.prog) (empty_at 2048)
          ∙ zeros_filled 2048 image.prog prog_size);
      drom = sym (programs_rest text names [] first image.prog s2 start (zeros 1024) programs_are
          ∙ data_filled text names (entries_text first) second image.drom moved (zeros 1024) data_are
          ∙ ap (λ (s : Space). with_words_at (zeros 1024) s.at image.drom) drom_stays
          ∙ ap (λ at. with_words_at (zeros 1024) at image.drom) (empty_at 1024)
          ∙ zeros_filled 1024 image.drom drom_size);
    }

pub listing_assembles : ((n : ℕ) → n < 2 ^ 24 → number (instr_of n) ≡ n) → (image : Image) → IsImageOfText (listing image) image
unfolding listing
listing_assembles law image =
    let size = image.prog_table.len in
    let data_size = image.drom_table.len in
    let ps = programs 0 image.prog (all_words image.prog (λ k h. image.prog_table.each k (omega arith)) law) in
    let ds = supplies 0 image.drom (all_halves image.drom (λ k h. image.drom_table.each k (omega arith))) in
    let text : lines_from program_line 0 image.prog ++ lines_from data_line 0 image.drom ≡ entries_text (ps.entries ++ ds.entries) =
    ap (λ (t : List ℕ). t ++ lines_from data_line 0 image.drom) ps.text ∙ ap (λ (t : List ℕ). entries_text ps.entries ++ t) ds.text
    ∙ sym (entries_append ps.entries ds.entries) in
    subst (λ (t : List ℕ). IsImageOfText t image) (sym text)
    (entries_assemble image ps.entries ds.entries ps.are ds.are (ps.count ∙ size) (ds.count ∙ data_size) size data_size)
