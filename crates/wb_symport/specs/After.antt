-- The state after a data transfer, by DRC and by what the transfer leaves in DR.
use Rattle.std.specs.Prelude.{◌≡◌, Bool, true, false, not, if◌then◌else◌, slice_get}
use Rattle.wb_term.specs.declared.nodes.WordId.{WordId}
use Rattle.wb_term.specs.declared.nodes.BitId.{BitId}
use Rattle.wb_term.specs.Inputs.{Assignment}
use Rattle.wb_term.specs.Terms.{Terms}
use Rattle.wb_term.specs.Values.{bit_value}
use Rattle.wb_symstep.specs.declared.state.SymState.{SymState}
use Rattle.wb_symstep.specs.declared.stepped.Stepped.{Stepped}
use Rattle.wb_symstep.specs.declared.stepped.Stepped.TheVariants.{One, Fork}
use Rattle.wb_symstep.specs.Stepped.{chosen, is_known}

-- RQM after a transfer, by DRC, DRS and what it was: the first half of a word leaves it
abbrev pub rqm_after : Bool → Bool → Bool → Bool
rqm_after false false rqm = rqm
rqm_after _ _ rqm = false

-- DRS after a transfer, by DRC and what it was: a half of a word turns it over
abbrev pub drs_after : Bool → Bool → Bool
drs_after true drs = drs
drs_after false drs = not drs

-- the state after a transfer that leaves this in DR
abbrev pub transferred_to : Bool → WordId → SymState → SymState
transferred_to single dr s = record s { dr = dr; rqm = rqm_after single s.drs s.rqm; drs = drs_after single s.drs }

-- The chosen state is that after a transfer by this bit as DRC, which leaves the one or the other word in DR.
abbrev pub ChoosesAfter : Terms → BitId → WordId → WordId → SymState → Stepped → Type 0
ChoosesAfter g c alone other s r =
    (inputs : Assignment)
    → chosen inputs g r
    ≡ transferred_to (bit_value inputs g c) (if bit_value inputs g c then alone else other) s

-- a fork is by this bit, which is no constant
abbrev pub ForksBy : Terms → BitId → Stepped → Type 0
ForksBy g c (One next) = Unit {0}
ForksBy g c (Fork d first second) = (d ≡ c) × (is_known (slice_get g.nodes c.number) ≡ false)
