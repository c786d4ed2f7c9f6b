-- The files of a plan are read in their order, each whole, until one can't be.
use Rattle.std.specs.Prelude.{◌≡◌, ℕ, zero, suc, List, [], ◌∷◌}
use Rattle.std.specs.Global.{Vec}
use Rattle.std.specs.declared.result.Result.{Result}
use Rattle.std.specs.declared.result.Result.TheVariants.{Ok, Err}
use Rattle.wb_base.specs.Shelf.{Content, HasCause, IsWhole, IsLonger}
use Rattle.wb_cli.specs.declared.files.Kind.{Kind}
use Rattle.wb_cli.specs.declared.files.Kind.TheVariants as kind
use Rattle.wb_cli.specs.declared.refusals.Refusal.TheVariants as refusal
use Rattle.wb_cli.specs.declared.refusals.Stop.{Stop}
use Rattle.wb_cli.specs.declared.refusals.Stop.TheVariants.{Refused, OutOfMemory}
use Rattle.wb_cli.specs.Plan.{NamedFile}

-- the most bytes that a file may have, by what it must hold
abbrev pub limit_of : Kind → ℕ
limit_of kind.Image = 1048576
limit_of kind.Script = 1048576
limit_of kind.Source = 1048576
limit_of kind.Moves = 1048576

-- what a shelf tells of its names
abbrev pub Contents : Type 0
Contents = List ℕ → Content

-- the file was read whole
abbrev pub Reads : Contents → NamedFile → List ℕ → Type 0
Reads told file bytes = IsWhole (limit_of file.kind) (told file.name) bytes

-- so was each of the files
abbrev pub ReadsAll : Contents → List NamedFile → List (List ℕ) → Type 0
ReadsAll told [] [] = Unit {0}
ReadsAll told (file ∷ files) (bytes ∷ contents) = Reads told file bytes × ReadsAll told files contents
ReadsAll told _ _ = ⊥

-- the file at this place, counted from 0, is the first that wasn't read, which has this cause
abbrev pub FirstUnread : Contents → (NamedFile → Type 0) → List NamedFile → ℕ → Type 0
FirstUnread told Cause [] place = ⊥
FirstUnread told Cause (file ∷ files) zero = Cause file
FirstUnread told Cause (file ∷ files) (suc place) = ((bytes : List ℕ) × Reads told file bytes) × FirstUnread told Cause files place

-- a file couldn't be read, while the shelf's count of faults went from one number to another
abbrev pub CouldNot : Contents → ℕ → ℕ → NamedFile → Type 0
CouldNot told before now file = HasCause (told file.name) before now

-- a file is longer than it may be
abbrev pub TooLong : Contents → NamedFile → Type 0
TooLong told file = IsLonger (limit_of file.kind) (told file.name)

-- why the file at a place wasn't read; only a failed read has a counted fault
abbrev pub IsUnread : Contents → ℕ → ℕ → ℕ → NamedFile → Stop → Type 0
IsUnread told before now place file (Refused (refusal.ReadFault at)) = (at ≡ place) × CouldNot told before now file
IsUnread told before now place file (Refused (refusal.TooLong at)) = (at ≡ place) × TooLong told file × (now ≡ before)
IsUnread told before now place file OutOfMemory = now ≡ before
IsUnread told before now place file (Refused _) = ⊥

-- what reading the file at a place comes to
abbrev pub ReadsOneTo : Contents → ℕ → ℕ → ℕ → NamedFile → Result (Vec ℕ) Stop → Type 0
ReadsOneTo told before now place file (Ok bytes) = Reads told file bytes.items × (now ≡ before)
ReadsOneTo told before now place file (Err stop) = IsUnread told before now place file stop

-- why the files weren't all read
abbrev pub AreUnread : Contents → ℕ → ℕ → List NamedFile → Stop → Type 0
AreUnread told before now files (Refused (refusal.ReadFault place)) = FirstUnread told (CouldNot told before now) files place
AreUnread told before now files (Refused (refusal.TooLong place)) = FirstUnread told (TooLong told) files place × (now ≡ before)
AreUnread told before now files OutOfMemory = now ≡ before
AreUnread told before now files (Refused _) = ⊥

-- what reading the files comes to
abbrev pub ReadsTo : Contents → ℕ → ℕ → List NamedFile → Result (List (List ℕ)) Stop → Type 0
ReadsTo told before now files (Ok contents) = ReadsAll told files contents × (now ≡ before)
ReadsTo told before now files (Err stop) = AreUnread told before now files stop
