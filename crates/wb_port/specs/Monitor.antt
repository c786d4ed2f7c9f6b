-- What an observer keeps beside the chip: whether a request is asked, how many instructions have been
-- executed since the last request, and the first breach.
use Rattle.std.specs.Prelude.{ℕ, ◌+◌, ◌-◌, ◌^◌, min, Bool, true, false, not, ◌&&◌, ◌||◌, Option, Some, None}
use Rattle.wb_word.specs.Encoding.{addr_at}
use Rattle.wb_word.specs.declared.numbers.Addr.{Addr}
use Rattle.wb_rom.specs.declared.images.Image.{Image}
use Rattle.wb_machine.specs.Next.{next}
use Rattle.wb_port.specs.declared.chips.Monitor.{Monitor}
use Rattle.wb_port.specs.declared.chips.Chip.{Chip}
use Rattle.wb_port.specs.Port.{rqm}
use Rattle.wb_port.specs.Wait.{touches, raises_request, is_test, is_poll, word_of}

-- the address of the next instruction
abbrev pub place : Chip → ℕ
place c = c.machine.regs.pc

-- the word of the next instruction
abbrev pub word_at : Image → Chip → ℕ
word_at image c = word_of image (place c)

-- the instruction at an address is idle, by what is asked and whether a request stands: a request is asked, and
-- the chip waits at a poll, where the test finds RQM
abbrev pub idles_at : Image → Bool → Bool → ℕ → Bool
idles_at image asked standing at =
    asked && is_poll image at && (not (is_test (word_of image at)) || standing)

-- the instruction at an address is a breach: it touches the port while a request is asked, and it isn't in a poll
abbrev pub breaks_at : Image → Bool → ℕ → Bool
breaks_at image asked at = asked && touches (word_of image at) && not (is_poll image at)

-- the instruction at an address leaves a poll: its test finds that RQM is 0
abbrev pub leaves_at : Image → Bool → ℕ → Bool
leaves_at image standing at = is_poll image at && is_test (word_of image at) && not standing

-- the next instruction is idle
unfoldable pub is_idle : Image → Chip → Bool
is_idle image c = idles_at image c.monitor.asked (rqm c.machine) (place c)

-- the next instruction is a breach
unfoldable pub is_breach : Image → Chip → Bool
is_breach image c = breaks_at image c.monitor.asked (place c)

-- the next instruction leaves a poll
unfoldable pub is_leaving : Image → Chip → Bool
is_leaving image c = leaves_at image (rqm c.machine) (place c)

-- the first breach stays, and a new one is kept where there was none
abbrev pub first_breach : Option Addr → Bool → ℕ → Option Addr
first_breach (Some at) _ _ = Some at
first_breach None true at = Some (addr_at at)
first_breach None false _ = None

-- the count after an instruction: an idle one isn't counted, and a request begins the count anew
abbrev pub count_after : Bool → Bool → ℕ → ℕ
count_after true _ count = count
count_after false true count = 0
count_after false false count = count + 1

-- the monitor after the next instruction: a request is asked until the test of a poll finds that it is over
unfoldable pub observed : Image → Chip → Monitor
observed image c =
    record {
      asked =
          raises_request (word_at image c) || (c.monitor.asked && not (is_leaving image c));
      count =
          count_after (is_idle image c) (raises_request (word_at image c)) c.monitor.count;
      breach = first_breach c.monitor.breach (is_breach image c) (place c);
    }

-- the chip after one instruction
unfoldable pub stepped : Image → Chip → Chip
stepped image c = record { machine = next image c.machine; monitor = observed image c }

-- the monitor whose count stays at the greatest number of 64 bits
abbrev pub capped_monitor : Monitor → Monitor
capped_monitor m = record m { count = min m.count (2 ^ 64 - 1) }

-- the chip with such a monitor
abbrev pub capped : Chip → Chip
capped c = record c { monitor = capped_monitor c.monitor }
