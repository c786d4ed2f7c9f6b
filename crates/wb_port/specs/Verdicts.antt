-- What a printed dialogue shows by its replay on the table machine.
use Rattle.std.specs.Prelude.{◌≡◌, ◌≢◌, ℕ, true, false, List, [], ◌∷◌, ◌++◌}
use Rattle.wb_word.specs.declared.numbers.Addr.{Addr}
use Rattle.wb_rom.specs.declared.images.Image.{Image}
use Rattle.wb_port.specs.declared.accesses.Access.{Access}
use Rattle.wb_port.specs.declared.accesses.Access.TheVariants as access
use Rattle.wb_port.specs.declared.runs.Run.TheVariants.{Answered, Overrun, Breach}
use Rattle.wb_port.specs.Talk.{Talk}
use Rattle.wb_port.specs.Run.{EndsAs}

-- the access gives the host a byte
abbrev pub Asks : Access → Type 0
Asks access.Status = Unit {0}
Asks access.Read = Unit {0}
Asks (access.Write _) = ⊥

-- both images answer the dialogue, whose last access asks for a byte; their replies to it differ, and all
-- earlier replies are equal
pub record Differs (a b : Image) (d : Talk) (k : ℕ) : Type 0 where
  pub front : List Access
  pub last : Access
  pub ends_by : d.accesses ≡ front ++ last ∷ []
  pub asks : Asks last
  pub earlier : List ℕ
  pub first_reply : ℕ
  pub second_reply : ℕ
  pub first : EndsAs a k false d (Answered (earlier ++ first_reply ∷ []))
  pub second : EndsAs b k false d (Answered (earlier ++ second_reply ∷ []))
  pub differ : first_reply ≢ second_reply

-- the held run of the dialogue is a breach at the address
abbrev pub Breaks : Image → Talk → ℕ → Addr → Type 0
Breaks image d k at = EndsAs image k true d (Breach at)

-- the held run of the dialogue overruns its pace
abbrev pub Overruns : Image → Talk → ℕ → Type 0
Overruns image d k = EndsAs image k true d Overrun
