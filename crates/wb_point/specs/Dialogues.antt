-- The dialogue of some kinds of transfers that inputs choose, and the inputs of a dialogue.
use Rattle.std.specs.Prelude.{ℕ, ◌+◌, List, [], ◌∷◌, ◌++◌, replicate, take, slice_index}
use Rattle.wb_term.specs.Inputs.{Assignment}
use Rattle.wb_port.specs.declared.accesses.Access.{Access}
use Rattle.wb_port.specs.declared.accesses.Access.TheVariants as access
use Rattle.wb_port.specs.declared.accesses.Kind.{Kind}
use Rattle.wb_port.specs.declared.accesses.Kind.TheVariants as kind
use Rattle.wb_port.specs.declared.accesses.Power.{Power}
use Rattle.wb_port.specs.declared.accesses.Power.TheVariants as power
use Rattle.wb_port.specs.Talk.{Talk, dialogue}

-- the transfer of this kind at a place: a write has the byte of the inputs at that place
abbrev pub access_under : Assignment → ℕ → Kind → Access
access_under inputs place kind.Read = access.Read
access_under inputs place kind.Write = access.Write (slice_index inputs.bytes place)

-- the transfers of these kinds from a place on
abbrev pub accesses_under : Assignment → ℕ → List Kind → List Access
accesses_under inputs place [] = []
accesses_under inputs place (k ∷ ks) = access_under inputs place k ∷ accesses_under inputs (place + 1) ks

-- the RAM's start: that of the inputs where any is allowed, else zeros
abbrev pub start_under : Assignment → Power → List ℕ
start_under inputs power.Zero = replicate 256 0
start_under inputs power.Any = inputs.cells

-- the dialogue of these kinds under inputs
abbrev pub dialogue_under : List Kind → Assignment → Power → Talk
dialogue_under ks inputs p = dialogue (start_under inputs p) (accesses_under inputs 0 ks)

-- the byte that each data transfer writes, 0 where it reads
abbrev pub transfer_bytes : List Access → List ℕ
transfer_bytes [] = []
transfer_bytes (access.Status ∷ rest) = transfer_bytes rest
transfer_bytes (access.Read ∷ rest) = 0 ∷ transfer_bytes rest
transfer_bytes (access.Write byte ∷ rest) = byte ∷ transfer_bytes rest

-- the inputs of a dialogue: at each place the byte that the transfer at this place writes, 0 at all others, and
-- its start
abbrev pub inputs_of : Talk → Assignment
inputs_of d = record { bytes = take 16 (transfer_bytes d.accesses ++ replicate 16 0); cells = d.start }

-- the inputs of the dialogue of these kinds under inputs: what the dialogue doesn't use is 0
abbrev pub normalised : List Kind → Power → Assignment → Assignment
normalised ks p inputs = inputs_of (dialogue_under ks inputs p)
