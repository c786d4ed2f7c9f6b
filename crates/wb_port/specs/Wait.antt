-- Words by what they do to the host port, and the wait loops in which a chip polls its request.
use Rattle.std.specs.Prelude.{ℕ, zero, suc, ◌+◌, ◌%◌, Bool, true, false, not, ◌&&◌, ◌||◌, ◌==◌, if◌then◌else◌, List, [], ◌∷◌, slice_index}
use Rattle.std.specs.List.{list_all, list_any}
use Rattle.wb_word.specs.Encoding.{instr_of}
use Rattle.wb_word.specs.declared.codes.Src.{Src}
use Rattle.wb_word.specs.declared.codes.Src.TheVariants as src
use Rattle.wb_word.specs.declared.codes.Dst.{Dst}
use Rattle.wb_word.specs.declared.codes.Dst.TheVariants as dst
use Rattle.wb_word.specs.declared.conditions.Cond.{Cond}
use Rattle.wb_word.specs.declared.conditions.Cond.TheVariants as cond
use Rattle.wb_word.specs.declared.words.Instr.{Instr}
use Rattle.wb_word.specs.declared.words.Instr.TheVariants.{Op, Rt, Jp, Ld}
use Rattle.wb_rom.specs.declared.images.Image.{Image}

-- the source reads DR or the status register
abbrev pub src_touches : Src → Bool
src_touches src.Dr = true
src_touches src.Drnf = true
src_touches src.Sr = true
src_touches _ = false

-- the destination is DR or the status register
abbrev pub dst_touches : Dst → Bool
dst_touches dst.Dr = true
dst_touches dst.Sr = true
dst_touches _ = false

-- the condition is RQM
abbrev pub cond_tests : Cond → Bool
cond_tests cond.Jnrqm = true
cond_tests cond.Jrqm = true
cond_tests _ = false

-- the instruction reads or writes what the host reads and writes
abbrev pub instr_touches : Instr → Bool
instr_touches (Op word) = src_touches word.src || dst_touches word.dst
instr_touches (Rt word) = src_touches word.src || dst_touches word.dst
instr_touches (Jp condition _ _) = cond_tests condition
instr_touches (Ld _ _ to) = dst_touches to

-- the source is DR, with a request
abbrev pub src_raises : Src → Bool
src_raises src.Dr = true
src_raises _ = false

-- the destination is DR
abbrev pub dst_raises : Dst → Bool
dst_raises dst.Dr = true
dst_raises _ = false

-- the instruction raises a request: it reads DR with a request, or it writes DR
abbrev pub instr_raises : Instr → Bool
instr_raises (Op word) = src_raises word.src || dst_raises word.dst
instr_raises (Rt word) = src_raises word.src || dst_raises word.dst
instr_raises (Jp _ _ _) = false
instr_raises (Ld _ _ to) = dst_raises to

-- the instruction is a jump on RQM
abbrev pub instr_tests : Instr → Bool
instr_tests (Jp condition _ _) = cond_tests condition
instr_tests _ = false

-- the instruction jumps always, or on RQM
abbrev pub instr_is_plain_jump : Instr → Bool
instr_is_plain_jump (Jp cond.Jmp _ _) = true
instr_is_plain_jump (Jp cond.Jrqm _ _) = true
instr_is_plain_jump (Jp cond.Jnrqm _ _) = true
instr_is_plain_jump _ = false

-- the address after the instruction at an address, where it is plain and RQM is 1
abbrev pub instr_follow : Instr → ℕ → ℕ
instr_follow (Jp cond.Jmp to _) at = to.value
instr_follow (Jp cond.Jrqm to _) at = to.value
instr_follow _ at = (at + 1) % 2048

-- the word touches the port
unfoldable pub touches : ℕ → Bool
touches word = instr_touches (instr_of word)

-- the word raises a request
unfoldable pub raises_request : ℕ → Bool
raises_request word = instr_raises (instr_of word)

-- the word is a test of RQM
unfoldable pub is_test : ℕ → Bool
is_test word = instr_tests (instr_of word)

-- a wait loop may have the word: it does nothing, jumps always, or tests RQM
unfoldable pub is_plain : ℕ → Bool
is_plain word = word == 0 || instr_is_plain_jump (instr_of word)

-- the word at an address
abbrev pub word_of : Image → ℕ → ℕ
word_of image at = slice_index image.prog at

-- the address after the plain word at an address, while RQM is 1
unfoldable pub follow : Image → ℕ → ℕ
follow image at = instr_follow (instr_of (word_of image at)) at

-- the address after so many plain words
abbrev pub follow_times : Image → ℕ → ℕ → ℕ
follow_times image zero at = at
follow_times image (suc m) at = follow_times image m (follow image at)

-- the addresses of so many words, one after the other
abbrev pub walk : Image → ℕ → ℕ → List ℕ
walk image zero at = []
walk image (suc m) at = at ∷ walk image m (follow image at)

-- no number stands twice in the list
abbrev pub all_different : List ℕ → Bool
all_different [] = true
all_different (x ∷ xs) = not (list_any (λ y. y == x) xs) && all_different xs

-- how many of the words at these addresses test RQM
abbrev pub tests_among : Image → List ℕ → ℕ
tests_among image [] = 0
tests_among image (at ∷ rest) = (if is_test (word_of image at) then 1 else 0) + tests_among image rest

-- the address begins a loop of so many words: their addresses are different, the words are plain,
-- exactly one of them is a test of RQM, and after the last comes the first
unfoldable pub is_loop : Image → ℕ → ℕ → Bool
is_loop image at m =
    all_different (walk image m at)
    && list_all (λ a. is_plain (word_of image a)) (walk image m at)
    && tests_among image (walk image m at) == 1
    && follow_times image m at == at

-- the address is a poll: it begins a loop of one to eight words
unfoldable pub is_poll : Image → ℕ → Bool
is_poll image at = list_any (is_loop image at) (1 ∷ 2 ∷ 3 ∷ 4 ∷ 5 ∷ 6 ∷ 7 ∷ 8 ∷ [])

-- how many words come before the first test of RQM, of so many words at most
abbrev pub before_test : Image → ℕ → ℕ → ℕ
before_test image zero at = 0
before_test image (suc m) at =
    if is_test (word_of image at) then 0 else suc (before_test image m (follow image at))

-- how far a poll is before the test of its loop
unfoldable pub to_gate : Image → ℕ → ℕ
to_gate image at = before_test image 8 at
