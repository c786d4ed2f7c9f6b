-- An exploration of the dialogues of some kinds, from power-up on.
use Rattle.std.specs.Prelude.{◌≡◌, ◌≤◌, Bool, List, ◌++◌, length, All}
use Rattle.wb_rom.specs.declared.images.Image.{Image}
use Rattle.wb_term.specs.Terms.{Terms, table_of, table_words}
use Rattle.wb_port.specs.declared.accesses.Kind.{Kind}
use Rattle.wb_explore.specs.declared.budget.Budget.{Budget}
use Rattle.wb_explore.specs.declared.faults.ExploreFault.{ExploreFault}
use Rattle.wb_explore.specs.declared.plan.Plan.{Plan}
use Rattle.wb_explore.specs.declared.reached.ReachedPoint.{ReachedPoint}
use Rattle.wb_explore.specs.Faults.{IsCause}
use Rattle.wb_explore.specs.Growth.{IsWithin}
use Rattle.wb_explore.specs.Layers.{Requests, IsLayer, Knows}
use Rattle.wb_explore.specs.Purses.{Holding}

-- so many transfers more
abbrev pub longer_by : Plan → List Kind → Plan
longer_by p ks = record p { kinds = p.kinds ++ ks }

-- the point has no more transfers than these kinds
abbrev pub HasNoLonger : Plan → ReachedPoint → Type 0
HasNoLonger p r = length r.point.kinds ≤ length p.kinds

-- After some transfers the exploration has their layer, its points, and room for the next one.
pub record IsUnderWay (g : Terms) (image : Image) (p : Plan) (done : List Kind) (l : Requests) (reached : List ReachedPoint) : Type 0 where
  pub layer : IsLayer g image l
  pub plan : l.plan ≡ longer_by p done
  pub knows : Knows image l.plan reached
  pub words : table_words g.tables (table_of g.tables l.plan.side) ≡ image.drom
  pub shorter : All (HasNoLonger l.plan) reached
  pub within : IsWithin g l.plan.power (length reached) 3064 201024

-- the exploration stopped after some first ones of the transfers, for a cause that they have
pub record StopsWithin (image : Image) (p : Plan) (ks : List Kind) (sound : Bool) (budget : Budget) (f : ExploreFault) : Type 0 where
  pub front : List Kind
  pub rest : List Kind
  pub parts : ks ≡ front ++ rest
  pub before : Holding
  pub spends : before.budget ≡ budget
  pub cause : IsCause image (longer_by p front) sound before f
