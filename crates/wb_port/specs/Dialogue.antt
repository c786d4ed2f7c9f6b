-- Which dialogues a comparison speaks of: at most n data transfers, of a shape, with the power given.
use Rattle.std.specs.Prelude.{◌≡◌, ℕ, ◌+◌, ◌*◌, ◌≤◌, List, [], ◌∷◌, All, replicate}
use Rattle.wb_port.specs.declared.accesses.Kind.{Kind}
use Rattle.wb_port.specs.declared.accesses.Kind.TheVariants as kind
use Rattle.wb_port.specs.declared.accesses.Letter.{Letter}
use Rattle.wb_port.specs.declared.accesses.Letter.TheVariants as letter
use Rattle.wb_port.specs.declared.accesses.Power.{Power}
use Rattle.wb_port.specs.declared.accesses.Power.TheVariants as power
use Rattle.wb_machine.specs.State.{IsStart}
use Rattle.wb_port.specs.Talk.{Talk, IsByteAccess, kinds, transfers}

-- the letter allows a transfer of this kind
abbrev pub Allows : Letter → Kind → Type 0
Allows letter.R kind.Read = Unit {0}
Allows letter.R kind.Write = ⊥
Allows letter.W kind.Read = ⊥
Allows letter.W kind.Write = Unit {0}
Allows letter.X _ = Unit {0}

-- each transfer is allowed by the letter at its place
abbrev pub AllowsEach : List Letter → List Kind → Type 0
AllowsEach _ [] = Unit {0}
AllowsEach [] (_ ∷ _) = ⊥
AllowsEach (l ∷ shape) (k ∷ rest) = Allows l k × AllowsEach shape rest

-- the power allows this content of the data RAM
abbrev pub AllowsStart : Power → List ℕ → Type 0
AllowsStart power.Zero start = start ≡ replicate 256 0
AllowsStart power.Any start = Unit {0}

-- the dialogue has at most n transfers, its shape and its start are allowed, and its numbers are words and bytes
pub record Fits (n : ℕ) (shape : List Letter) (p : Power) (d : Talk) : Type 0 where
  pub short : transfers d.accesses ≤ n
  pub shaped : AllowsEach shape (kinds d.accesses)
  pub powered : AllowsStart p d.start
  pub start_in : IsStart d.start
  pub bytes_in : All IsByteAccess d.accesses

-- how many writes a shape allows: its letters W and X
abbrev pub writes_allowed : List Letter → ℕ
writes_allowed [] = 0
writes_allowed (letter.R ∷ shape) = writes_allowed shape
writes_allowed (letter.W ∷ shape) = 1 + writes_allowed shape
writes_allowed (letter.X ∷ shape) = 1 + writes_allowed shape

-- how many bits a fitting dialogue may choose: those of its written bytes, and with any start those of the RAM
abbrev pub input_bits : List Letter → Power → ℕ
input_bits shape power.Zero = 8 * writes_allowed shape
input_bits shape power.Any = 8 * writes_allowed shape + 4096
