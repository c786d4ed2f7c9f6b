-- Layers stay where the graph and the purse grow.
use Rattle.std.proofs.Common.{◌≡◌, true, List, ◌++◌, map, sym, subst, ◌∙◌}
use Rattle.std.specs.Prelude.{Contains}
use Rattle.std.proofs.lemmas.List.{map-append}
use Rattle.std.proofs.lemmas.List.Elements.{Contains-append_left}
use Rattle.wb_rom.specs.declared.images.Image.{Image}
use Rattle.wb_term.specs.Inputs.{Assignment, IsAssignment}
use Rattle.wb_term.specs.Terms.{Terms}
use Rattle.wb_term.specs.Growth.{Grown}
use Rattle.wb_port.specs.declared.chips.Chip.{Chip}
use Rattle.wb_port.specs.declared.points.Point.{Point}
use Rattle.wb_symstep.specs.Laws.{GrowthKeepsStates}
use Rattle.wb_explore.specs.declared.plan.Plan.{Plan}
use Rattle.wb_explore.specs.declared.layer.Request.{Request}
use Rattle.wb_explore.specs.declared.reached.ReachedPoint.{ReachedPoint}
use Rattle.wb_explore.specs.Runs.{Asks}
use Rattle.wb_explore.specs.Entries.{IsAtSome}
use Rattle.wb_explore.specs.Purses.{points_of}
use Rattle.wb_explore.specs.Plans.{runs_of, is_chosen}
use Rattle.wb_explore.specs.Layers.{Requests, request_view, IsRequest, IsLayer, Knows, AddsPassed}

module _ (keeps : GrowthKeepsStates) (g h : Terms) (grown : Grown g h) where
  request_grown : (p : Plan) (q : Request) → IsRequest g p q → IsRequest h p q
  request_grown p q x =
      let s = keeps g h grown in
      record {
        state = s.there q.state x.state;
        cond = grown.bits q.cond x.cond;
        stands = x.stands;
        state_inputs = s.only (is_chosen p.kinds p.power) q.state x.state x.state_inputs;
        cond_inputs = grown.bit_inputs (is_chosen p.kinds p.power) q.cond x.cond x.cond_inputs;
        assignment = x.assignment;
        normal = x.normal;
        reached = grown.bit_values q.inputs q.cond x.cond ∙ x.reached;
      }

  pub layer_grown : (image : Image) (l : Requests) → IsLayer g image l → IsLayer h image l
  layer_grown image l x = record {
    paced = x.paced;
    few = x.few;
    each = λ q c. request_grown l.plan q (x.each q c);
    apart = x.apart;
    requests = record { sound = sound; complete = complete };
    breaches = x.breaches;
    overrun = x.overrun;
  }
    where
      sound : (q : Request) → Contains l.requests q → (i : Assignment) → IsAssignment i → (request_view l.plan h).holds q i ≡ true
          → (c : Chip) × Asks (runs_of image l.plan) i c × (request_view l.plan h).stands q i c.machine
      sound q c i a holds =
          let r = x.each q c in
          let t = x.requests.sound q c i a (sym (grown.bit_values i q.cond r.cond) ∙ holds) in
          (t.0, t.1, (keeps g h grown).stands i q.state t.0.machine r.state t.2)

      complete : (i : Assignment) → IsAssignment i → (c : Chip) → Asks (runs_of image l.plan) i c → IsAtSome (request_view l.plan h) (runs_of image l.plan) l.requests i c
      complete i a c asks =
          let t = x.requests.complete i a c asks in
          let r = x.each t.entry t.listed in
          record {
            entry = t.entry;
            listed = t.listed;
            is_at = record {
              holds = grown.bit_values i t.entry.cond r.cond ∙ t.is_at.holds;
              stands = (keeps g h grown).stands i t.entry.state c.machine r.state t.is_at.stands;
              key = t.is_at.key;
            };
          }

pub knowledge_grown : (image other : Image) (p q : Plan) (old new : List ReachedPoint) → Knows image p old → AddsPassed other q old new → Knows image p new
knowledge_grown image other p q old new known adds front rest parts i a x passes =
    subst (λ (rs : List ReachedPoint). Contains (points_of rs) x) (sym adds.after)
    (subst (λ (xs : List Point). Contains xs x) (sym (map-append (λ (r : ReachedPoint). r.point) old adds.added))
    (Contains-append_left (points_of old) (points_of adds.added) x (known front rest parts i a x passes)))
