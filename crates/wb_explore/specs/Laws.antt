-- What stays of layers where the graph and the purse grow.
use Rattle.std.specs.Prelude.{List}
use Rattle.wb_rom.specs.declared.images.Image.{Image}
use Rattle.wb_term.specs.Terms.{Terms}
use Rattle.wb_term.specs.Growth.{Grown}
use Rattle.wb_explore.specs.declared.plan.Plan.{Plan}
use Rattle.wb_explore.specs.declared.reached.ReachedPoint.{ReachedPoint}
use Rattle.wb_explore.specs.Layers.{Requests, IsLayer, Knows, AddsPassed}

-- A layer is one in each graph to which its own grows.
abbrev pub LayersStay : Type 0
LayersStay = (g h : Terms) → Grown g h → (image : Image) (l : Requests) → IsLayer g image l → IsLayer h image l

-- What the points tell of some kinds they tell where points were added, whichever call added them.
abbrev pub KnowledgeStays : Type 0
KnowledgeStays =
    (image other : Image) (p q : Plan) (old new : List ReachedPoint)
    → Knows image p old → AddsPassed other q old new → Knows image p new
