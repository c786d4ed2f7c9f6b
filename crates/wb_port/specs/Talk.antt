-- A dialogue as contracts see it.
use Rattle.std.specs.Prelude.{ℕ, ◌<◌, List, [], ◌∷◌, length, All}
use Rattle.wb_machine.specs.State.{IsStart}
use Rattle.wb_port.specs.declared.accesses.Access.{Access}
use Rattle.wb_port.specs.declared.accesses.Access.TheVariants as access
use Rattle.wb_port.specs.declared.accesses.Kind.{Kind}
use Rattle.wb_port.specs.declared.accesses.Kind.TheVariants as kind

-- the content of the data RAM at power-up, and the accesses of the host in order
pub record Talk : Type 0 where
  pub start : List ℕ
  pub accesses : List Access

-- a dialogue by its start and its accesses
abbrev pub dialogue : List ℕ → List Access → Talk
dialogue start accesses = record { start = start; accesses = accesses }

-- a written byte is a byte
abbrev pub IsByteAccess : Access → Type 0
IsByteAccess access.Status = Unit {0}
IsByteAccess access.Read = Unit {0}
IsByteAccess (access.Write byte) = byte < 256

-- what every dialogue keeps: its start is a content of the RAM, and its bytes are bytes
pub record IsTalk (d : Talk) : Type 0 where
  pub start_in : IsStart d.start
  pub bytes_in : All IsByteAccess d.accesses

-- the kinds of the data transfers among some accesses, in order
abbrev pub kinds : List Access → List Kind
kinds [] = []
kinds (access.Status ∷ rest) = kinds rest
kinds (access.Read ∷ rest) = kind.Read ∷ kinds rest
kinds (access.Write _ ∷ rest) = kind.Write ∷ kinds rest

-- the length of a dialogue: its reads and writes
abbrev pub transfers : List Access → ℕ
transfers accesses = length (kinds accesses)

-- the access transfers data: it is no status read
abbrev pub IsTransfer : Access → Type 0
IsTransfer access.Status = ⊥
IsTransfer access.Read = Unit {0}
IsTransfer (access.Write _) = Unit {0}

-- the data transfers among some accesses: all but the status reads
abbrev pub transfers_of : List Access → List Access
transfers_of [] = []
transfers_of (access.Status ∷ rest) = transfers_of rest
transfers_of (access.Read ∷ rest) = access.Read ∷ transfers_of rest
transfers_of (access.Write byte ∷ rest) = access.Write byte ∷ transfers_of rest

-- no access but the last is a status read
abbrev pub OnlyLastMayBeStatus : List Access → Type 0
OnlyLastMayBeStatus [] = Unit {0}
OnlyLastMayBeStatus (_ ∷ []) = Unit {0}
OnlyLastMayBeStatus (a ∷ b ∷ rest) = IsTransfer a × OnlyLastMayBeStatus (b ∷ rest)
