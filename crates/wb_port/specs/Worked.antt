-- The definitions at work: the wait loops of a few images.
use Rattle.std.specs.Prelude.{◌≡◌, ℕ, ◌+◌, ◌<◌, true, false, List, [], ◌∷◌, length, slice_index}
use Rattle.wb_rom.specs.declared.images.Image.{Image}
use Rattle.wb_port.specs.Wait.{is_poll, follow, to_gate}

-- the program of the image begins with these words
abbrev pub BeginsWith : Image → List ℕ → Type 0
BeginsWith image words = (k : ℕ) → k < length words → slice_index image.prog k ≡ slice_index words k

-- a program that gives back each byte that it gets, and waits at its own jumps on RQM
abbrev pub echo : List ℕ
echo = 0xC10007 ∷ 0x000080 ∷ 0x97C008 ∷ 0x000091 ∷ 0x000016 ∷ 0x97C014 ∷ 0xA00004 ∷ []

-- the same with its first wait in two words: a jump on RQM out of it, and a jump back
abbrev pub loop_out : List ℕ
loop_out = 0xC10007 ∷ 0x000080 ∷ 0x978010 ∷ 0xA00008 ∷ []

-- the same with its first wait in two words: one that does nothing, and a jump on RQM back
abbrev pub loop_back : List ℕ
loop_back = 0xC10007 ∷ 0x000080 ∷ 0x000000 ∷ 0x97C008 ∷ []

-- a wait of eight words, the last of which is the test
abbrev pub eight : List ℕ
eight = 0xC10007 ∷ 0x000080 ∷ 0 ∷ 0 ∷ 0 ∷ 0 ∷ 0 ∷ 0 ∷ 0 ∷ 0x97C008 ∷ []

-- a wait of nine words
abbrev pub nine : List ℕ
nine = 0xC10007 ∷ 0x000080 ∷ 0 ∷ 0 ∷ 0 ∷ 0 ∷ 0 ∷ 0 ∷ 0 ∷ 0 ∷ 0x97C008 ∷ []

-- The first jump on RQM of that program waits at itself; the word before it, which asks, is no poll.
pub record EchoWaits (image : Image) : Type 0 where
  pub waits : is_poll image 2 ≡ true
  pub asks : is_poll image 1 ≡ false
  pub stays : follow image 2 ≡ 2
  pub near : to_gate image 2 ≡ 0

-- Both words of a wait of two are polls, and each follows the other.
pub record TwoWait (image : Image) : Type 0 where
  pub first : is_poll image 2 ≡ true
  pub second : is_poll image 3 ≡ true
  pub forth : follow image 2 ≡ 3
  pub back : follow image 3 ≡ 2

-- Each of the eight words is a poll and leads to the next one, the last, which is the test, to the first.
pub record EightWait (image : Image) : Type 0 where
  pub polls : (j : ℕ) → j < 8 → is_poll image (2 + j) ≡ true
  pub forth : (j : ℕ) → j < 7 → follow image (2 + j) ≡ 3 + j
  pub back : follow image 9 ≡ 2
  pub far : (j : ℕ) → j < 8 → j + to_gate image (2 + j) ≡ 7

-- Neither the first nor the last of the nine words is a poll.
pub record NineDoNot (image : Image) : Type 0 where
  pub first : is_poll image 2 ≡ false
  pub last : is_poll image 10 ≡ false

-- What the definitions say of the five programs.
pub record WorkedLoops (image : Image) : Type 0 where
  pub echo_waits : BeginsWith image echo → EchoWaits image
  pub out_waits : BeginsWith image loop_out → TwoWait image
  pub back_waits : BeginsWith image loop_back → TwoWait image
  pub eight_waits : BeginsWith image eight → EightWait image
  pub nine_do_not : BeginsWith image nine → NineDoNot image
