-- What a sink takes: the bytes taken so far are `Some` of them, or `None` where the sink does not tell them.
use Rattle.std.specs.Prelude.{◌≡◌, ℕ, ◌<◌, ◌≤◌, List, length, take, Option, Result, Ok, Err}
pub use Rattle.std.specs.Io.KnownBytes.{Appends, Keeps}
use Rattle.wb_base.specs.Faults.{Rose}
use Rattle.wb_base.specs.declared.faults.Failed.{Failed}

-- a put took the first m bytes of the piece, and some byte of a piece that has any
pub record Takes (old new : Option (List ℕ)) (piece : List ℕ) (m : ℕ) : Type 0 where
  pub bound : m ≤ length piece
  pub some : 0 < length piece → 0 < m
  pub appended : Appends old new (take m piece)

-- a put failed: it took nothing, and was counted
pub record Refuses (old new : Option (List ℕ)) (before now : ℕ) : Type 0 where
  pub rose : Rose before now
  pub kept : Keeps old new

-- the answer of a put: what it took without a counted fault, or a refusal
abbrev pub IsPut : Option (List ℕ) → Option (List ℕ) → ℕ → ℕ → List ℕ → Result ℕ Failed → Type 0
IsPut old new before now piece (Ok m) = Takes old new piece m × (now ≡ before)
IsPut old new before now piece (Err _) = Refuses old new before now

-- a part of the text from its front, and not all of it, was appended before a counted fault
pub record PutsPart (old new : Option (List ℕ)) (before now : ℕ) (text : List ℕ) : Type 0 where
  pub rose : Rose before now
  pub front : (k : ℕ) × (k < length text) × Appends old new (take k text)

-- the answer of putting a text whole: all of it was appended without a counted fault, or a part from its front
abbrev pub IsPutting : Option (List ℕ) → Option (List ℕ) → ℕ → ℕ → List ℕ → Result (Unit {0}) Failed → Type 0
IsPutting old new before now text (Ok _) = Appends old new text × (now ≡ before)
IsPutting old new before now text (Err _) = PutsPart old new before now text
