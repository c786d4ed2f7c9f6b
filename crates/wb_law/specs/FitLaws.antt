-- Dialogues that fit beside one that fits: its front, and it without its status reads.
use Rattle.std.specs.Prelude.{◌≡◌, ◌↔◌, ℕ, List, [], ◌∷◌, ◌++◌, All}
use Rattle.wb_port.specs.declared.accesses.Access.{Access}
use Rattle.wb_port.specs.declared.accesses.Letter.{Letter}
use Rattle.wb_port.specs.declared.accesses.Power.{Power}
use Rattle.wb_port.specs.Talk.{dialogue, kinds, IsTransfer, transfers_of, OnlyLastMayBeStatus}
use Rattle.wb_port.specs.Dialogue.{Fits}

-- The first accesses of a dialogue that fits make one that fits.
abbrev pub FrontsFit : Type 0
FrontsFit =
    (n : ℕ) (shape : List Letter) (power : Power) (start : List ℕ) (front rest : List Access)
    → Fits n shape power (dialogue start (front ++ rest)) → Fits n shape power (dialogue start front)

-- A dialogue fits exactly where it fits without its status reads: leaving them out or adding some changes nothing.
abbrev pub StatusReadsAlwaysFit : Type 0
StatusReadsAlwaysFit =
    (n : ℕ) (shape : List Letter) (power : Power) (start : List ℕ) (accesses : List Access)
    → Fits n shape power (dialogue start accesses) ↔ Fits n shape power (dialogue start (transfers_of accesses))

-- Status reads have no kind.
abbrev pub StatusReadsHaveNoKind : Type 0
StatusReadsHaveNoKind = (accesses : List Access) → kinds (transfers_of accesses) ≡ kinds accesses

-- Without its status reads a list of accesses has transfers alone, and stays as it is where it has no others.
pub record IsWithoutStatusReads (accesses : List Access) : Type 0 where
  pub left : All IsTransfer (transfers_of accesses)
  pub same : All IsTransfer accesses → transfers_of accesses ≡ accesses

abbrev pub TransfersAreLeft : Type 0
TransfersAreLeft = (accesses : List Access) → IsWithoutStatusReads accesses

-- The kinds, and the transfers, of two lists together are those of the one and then those of the other.
pub record JoinsInOrder (front rest : List Access) : Type 0 where
  pub kinds_join : kinds (front ++ rest) ≡ kinds front ++ kinds rest
  pub transfers_join : transfers_of (front ++ rest) ≡ transfers_of front ++ transfers_of rest

abbrev pub TransfersJoinInOrder : Type 0
TransfersJoinInOrder = (front rest : List Access) → JoinsInOrder front rest

-- Only the last access may be a status read exactly where all before it are transfers.
abbrev pub LastsMayBeStatus : Type 0
LastsMayBeStatus =
    (front : List Access) (last : Access) → OnlyLastMayBeStatus (front ++ last ∷ []) ↔ All IsTransfer front
