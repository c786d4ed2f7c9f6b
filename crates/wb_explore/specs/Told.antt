-- What a layer tells of a single dialogue.
use Rattle.std.specs.Prelude.{◌≡◌, ◌↔◌, true, List, Contains}
use Rattle.wb_rom.specs.declared.images.Image.{Image}
use Rattle.wb_term.specs.Terms.{Terms}
use Rattle.wb_term.specs.Values.{bit_value}
use Rattle.wb_port.specs.declared.chips.Chip.{Chip}
use Rattle.wb_port.specs.Schedule.{powered}
use Rattle.wb_port.specs.Talk.{Talk, IsTalk}
use Rattle.wb_law.specs.Course.{AsksAfter}
use Rattle.wb_symstep.specs.State.{StandsFor}
use Rattle.wb_point.specs.Dialogues.{inputs_of}
use Rattle.wb_explore.specs.declared.layer.Request.{Request}
use Rattle.wb_explore.specs.Plans.{IsPlanned}
use Rattle.wb_explore.specs.Layers.{Requests, IsLayer}

-- the request state is one of the layer, and its condition is true under the inputs of the dialogue
pub record Stands (g : Terms) (l : Requests) (d : Talk) (q : Request) : Type 0 where
  pub listed : Contains l.requests q
  pub holds : bit_value (inputs_of d) g q.cond ≡ true

-- the chip has the first request after the accesses of the dialogue
abbrev pub AsksFor : Image → Requests → Talk → Chip → Type 0
AsksFor image l d c = AsksAfter image l.plan.pace d.accesses (powered d.start) c

-- The accesses of the dialogue are all given and a request follows exactly where some request state's condition is
-- true. That is so of one request state at most, and it stands for the machine at the first request.
pub record TellsOf (g : Terms) (image : Image) (l : Requests) (d : Talk) : Type 0 where
  pub asks : ((c : Chip) × AsksFor image l d c) ↔ ((q : Request) × Stands g l d q)
  pub one : (q r : Request) → Stands g l d q → Stands g l d r → q ≡ r
  pub stands : (q : Request) (c : Chip) → Stands g l d q → AsksFor image l d c → StandsFor (inputs_of d) g q.state c.machine

-- A layer tells so of each dialogue of its kinds without status reads, with an allowed start.
abbrev pub LayersTellOfDialogues : Type 0
LayersTellOfDialogues =
    (g : Terms) (image : Image) (l : Requests) → IsLayer g image l
    → (d : Talk) → IsTalk d → IsPlanned l.plan d → TellsOf g image l d
