-- What one instruction, or one access of the host, does to the port: true of every image and every state.
use Rattle.std.specs.Prelude.{◌≡◌, ℕ, suc, ◌<◌, true, false}
use Rattle.wb_rom.specs.declared.images.Image.{Image}
use Rattle.wb_machine.specs.State.{State}
use Rattle.wb_machine.specs.Next.{next}
use Rattle.wb_port.specs.declared.accesses.Access.{Access}
use Rattle.wb_port.specs.declared.accesses.Access.TheVariants as access
use Rattle.wb_port.specs.declared.accesses.Event.TheVariants as event
use Rattle.wb_port.specs.declared.chips.Chip.{Chip}
use Rattle.wb_port.specs.Port.{rqm, accessed}
use Rattle.wb_port.specs.Wait.{touches, raises_request, is_test, is_poll, word_of, follow, follow_times, to_gate}
use Rattle.wb_port.specs.Monitor.{place, is_idle, stepped}
use Rattle.wb_port.specs.Schedule.{applied}

-- the machine with this address as that of the next instruction, all else kept
abbrev pub placed : ℕ → State → State
placed at m = record m { regs = record m.regs { pc = at } }

-- the chip with this address as that of the next instruction, all else kept
abbrev pub moved_to : ℕ → Chip → Chip
moved_to at c = record c { machine = placed at c.machine }

-- the address of the test in the loop of a poll
unfoldable pub gate : Image → ℕ → ℕ
gate image at = follow_times image (to_gate image at) at

-- DR and the status register are the same in both
pub record SamePort (m n : State) : Type 0 where
  pub dr : n.regs.dr ≡ m.regs.dr
  pub sr : n.regs.sr ≡ m.regs.sr

-- A word that doesn't touch the port can be executed before or after any access.
abbrev pub CalmWordsCommute : Type 0
CalmWordsCommute =
    (image : Image) (a : Access) (m : State)
    → touches (word_of image m.regs.pc) ≡ false
    → next image (accessed a m) ≡ accessed a (next image m)

-- A word that doesn't touch the port leaves DR and the status register as they are.
abbrev pub CalmWordsKeepThePort : Type 0
CalmWordsKeepThePort =
    (image : Image) (m : State) → touches (word_of image m.regs.pc) ≡ false → SamePort m (next image m)

-- Where a request stands after an instruction and the word raises none, it stood before.
abbrev pub OnlyRaisingWordsRequest : Type 0
OnlyRaisingWordsRequest =
    (image : Image) (m : State)
    → raises_request (word_of image m.regs.pc) ≡ false → rqm (next image m) ≡ true → rqm m ≡ true

-- After a word that raises a request, a request stands.
abbrev pub RaisingWordsRequest : Type 0
RaisingWordsRequest =
    (image : Image) (m : State)
    → raises_request (word_of image m.regs.pc) ≡ true → rqm (next image m) ≡ true

-- A word that raises a request touches the port.
abbrev pub RaisingWordsTouch : Type 0
RaisingWordsTouch = (word : ℕ) → raises_request word ≡ true → touches word ≡ true

-- The word of a poll raises no request.
abbrev pub PollsRaiseNothing : Type 0
PollsRaiseNothing =
    (image : Image) (at : ℕ) → is_poll image at ≡ true → raises_request (word_of image at) ≡ false

-- What follows a poll is a poll.
abbrev pub PollsFollowPolls : Type 0
PollsFollowPolls =
    (image : Image) (at : ℕ) → is_poll image at ≡ true → is_poll image (follow image at) ≡ true

-- The test of a poll's loop is fewer than eight words away.
abbrev pub GatesAreNear : Type 0
GatesAreNear = (image : Image) (at : ℕ) → is_poll image at ≡ true → to_gate image at < 8

-- A place of a loop that isn't its test is one word farther from the test than the place after it.
abbrev pub PlacesComeNearer : Type 0
PlacesComeNearer =
    (image : Image) (at : ℕ)
    → is_poll image at ≡ true → is_test (word_of image at) ≡ false
    → to_gate image at ≡ suc (to_gate image (follow image at))

-- Where the word is a test, the test is no word away.
abbrev pub TestsAreGates : Type 0
TestsAreGates = (image : Image) (at : ℕ) → is_test (word_of image at) ≡ true → to_gate image at ≡ 0

-- the first test at or after a poll, by plain words, and a poll itself
pub record IsGateOf (image : Image) (at gate : ℕ) : Type 0 where
  pub test : is_test (word_of image gate) ≡ true
  pub poll : is_poll image gate ≡ true
  pub first : (j : ℕ) → j < to_gate image at → is_test (word_of image (follow_times image j at)) ≡ false

-- The gate of a poll is the test of its loop.
abbrev pub GatesAreTests : Type 0
GatesAreTests = (image : Image) (at : ℕ) → is_poll image at ≡ true → IsGateOf image at (gate image at)

-- All places of a loop have the same gate.
abbrev pub LoopsHaveOneGate : Type 0
LoopsHaveOneGate =
    (image : Image) (at : ℕ) → is_poll image at ≡ true → gate image (follow image at) ≡ gate image at

-- An idle instruction moves the chip to the next place of its loop, and changes nothing else.
abbrev pub IdleInstructionsMoveAlone : Type 0
IdleInstructionsMoveAlone =
    (image : Image) (c : Chip)
    → is_idle image c ≡ true → stepped image c ≡ moved_to (follow image (place c)) c

-- A status read changes nothing.
abbrev pub StatusReadsChangeNothing : Type 0
StatusReadsChangeNothing =
    (image : Image) (c : Chip) → applied image (event.Host access.Status) c ≡ c

-- Where a request stands after an access, it stood before.
abbrev pub AccessesRaiseNothing : Type 0
AccessesRaiseNothing = (a : Access) (m : State) → rqm (accessed a m) ≡ true → rqm m ≡ true
