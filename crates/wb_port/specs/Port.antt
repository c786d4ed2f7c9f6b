-- The host port: what an access of the host gives and what it leaves, over the state of the machine.
use Rattle.std.specs.Prelude.{ℕ, Bool, true, false, ◌+◌, ◌*◌, ◌/◌, ◌%◌, ◌==◌, Option, Some, None}
use Rattle.wb_machine.specs.State.{State}
use Rattle.wb_machine.specs.State.{rqm as is_request}
use Rattle.wb_port.specs.declared.accesses.Access.{Access}
use Rattle.wb_port.specs.declared.accesses.Access.TheVariants as access

-- a request stands: RQM, bit 15 of the status register
unfoldable pub rqm : State → Bool
rqm m = is_request m.regs

-- the first half of a word was transferred: DRS, bit 12
unfoldable pub drs : State → Bool
drs m = m.regs.sr / 4096 % 2 == 1

-- a transfer has one byte alone: DRC, bit 10
unfoldable pub drc : State → Bool
drc m = m.regs.sr / 1024 % 2 == 1

-- what a status read gives: bits 15 to 8 of the status register
unfoldable pub status_byte : State → ℕ
status_byte m = m.regs.sr / 256

-- the status register with this RQM and this DRS, all its other bits kept
abbrev pub with_request : ℕ → ℕ → ℕ → ℕ
with_request request second sr =
    request * 32768 + sr / 8192 % 4 * 8192 + second * 4096 + sr % 4096

-- the status register after a data transfer, by DRC and DRS: a transfer of one byte alone ends the request;
-- the first half sets DRS; the second half ends the request and clears DRS
abbrev pub transferred : Bool → Bool → ℕ → ℕ
transferred true _ sr = with_request 0 (sr / 4096 % 2) sr
transferred false false sr = with_request (sr / 32768 % 2) 1 sr
transferred false true sr = with_request 0 0 sr

-- the half of a word that a transfer gives, by DRC and DRS: the high one only as the second of two
abbrev pub half_of : Bool → Bool → ℕ → ℕ
half_of true _ word = word % 256
half_of false false word = word % 256
half_of false true word = word / 256

-- the word with that half replaced by a byte
abbrev pub half_replaced : Bool → Bool → ℕ → ℕ → ℕ
half_replaced true _ byte word = word / 256 * 256 + byte
half_replaced false false byte word = word / 256 * 256 + byte
half_replaced false true byte word = byte * 256 + word % 256

-- the machine with these values of DR and SR, all else kept
abbrev pub ported : ℕ → ℕ → State → State
ported dr sr m = record m { regs = record m.regs { dr = dr; sr = sr } }

-- the byte that a data read gives
unfoldable pub byte_read : State → ℕ
byte_read m = half_of (drc m) (drs m) m.regs.dr

-- the machine after a data read
unfoldable pub after_read : State → State
after_read m = ported m.regs.dr (transferred (drc m) (drs m) m.regs.sr) m

-- the machine after a data write of a byte
unfoldable pub after_write : ℕ → State → State
after_write byte m =
    ported (half_replaced (drc m) (drs m) byte m.regs.dr) (transferred (drc m) (drs m) m.regs.sr) m

-- the machine after an access
abbrev pub accessed : Access → State → State
accessed access.Status m = m
accessed access.Read m = after_read m
accessed (access.Write byte) m = after_write byte m

-- what the host gets by an access: a byte, or nothing by a write
abbrev pub access_reply : Access → State → Option ℕ
access_reply access.Status m = Some (status_byte m)
access_reply access.Read m = Some (byte_read m)
access_reply (access.Write _) m = None
