-- The start: power-up, before any transfer.
use Rattle.std.specs.Prelude.{◌≡◌, ◌≤◌, ℕ, true, false, Some, [], ◌∷◌, replicate}
use Rattle.wb_rom.specs.declared.images.Image.{Image}
use Rattle.wb_term.specs.Inputs.{Assignment, IsAssignment}
use Rattle.wb_term.specs.Terms.{Terms, HasBit}
use Rattle.wb_term.specs.Values.{bit_value}
use Rattle.wb_term.specs.Under.{HasOnly}
use Rattle.wb_machine.specs.State.{State, power}
use Rattle.wb_port.specs.declared.points.Point.{Point}
use Rattle.wb_port.specs.NextPoint.{shown_of}
use Rattle.wb_law.specs.Classes.{rank_at}
use Rattle.wb_symstep.specs.State.{StandsFor, IsSymState, StateHasOnly}
use Rattle.wb_point.specs.Shows.{shows}
use Rattle.wb_point.specs.Dialogues.{start_under}
use Rattle.wb_explore.specs.declared.plan.Plan.{Plan}
use Rattle.wb_explore.specs.declared.entries.Entry.{Entry}
use Rattle.wb_explore.specs.Plans.{is_chosen}

-- the point at power-up: nothing was asked, nothing counted
abbrev pub start_point : Plan → Point
start_point p = record {
  side = p.side;
  kinds = [];
  count = 0;
  pc = 0;
  sp = 0;
  stack = 0 ∷ 0 ∷ 0 ∷ 0 ∷ [];
  asked = false;
  rqm = false;
  drs = false;
}

-- inputs that are all zero
abbrev pub zero_inputs : Assignment
zero_inputs = record { bytes = replicate 16 0; cells = replicate 256 0 }

-- the entry at power-up: its condition is always true, and it stands for the machine at each start
pub record IsStart (g : Terms) (image : Image) (p : Plan) (e : Entry) : Type 0 where
  pub key : e.key ≡ start_point p
  pub rank : e.rank ≡ rank_at image p.pace e.key
  pub state : IsSymState g e.state
  pub cond : HasBit g e.cond
  pub state_inputs : StateHasOnly g (is_chosen [] p.power) e.state
  pub cond_inputs : HasOnly g (is_chosen [] p.power) e.cond.number
  pub holds : (i : Assignment) → IsAssignment i → bit_value i g e.cond ≡ true
  pub stands : (i : Assignment) → IsAssignment i → StandsFor i g e.state (power (start_under i p.power))
  pub shows : (i : Assignment) (m : State) → StandsFor i g e.state m → shows e.state ≡ shown_of m
  pub witness : e.witness ≡ Some zero_inputs
