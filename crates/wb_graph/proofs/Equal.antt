-- Functions with the same diagrams are equal, since inputs of all kinds are there.
use Rattle.std.proofs.Common.{◌≡◌, ℕ, Bool, List, sym, ◌∙◌}
use Rattle.wb_diagram.specs.declared.nodes.Diagram.{Diagram}
use Rattle.wb_diagram.specs.Forest.{Forest}
use Rattle.wb_term.specs.Inputs.{Assignment, IsAssignment}
use Rattle.wb_term.specs.Terms.{Terms}
use Rattle.wb_graph.specs.Functions.{IsWordFunction, IsBitFunction}
use Rattle.wb_graph.proofs.Worlds.{world_exists}

pub words_agree : (g : Terms) (f : Forest) (one other : Assignment → ℕ) (ds : List Diagram) → IsWordFunction g f one ds → IsWordFunction g f other ds →
    (inputs : Assignment) → IsAssignment inputs → one inputs ≡ other inputs
words_agree g f one other ds is_one is_other inputs assigned =
    let w = world_exists inputs g in
    sym (is_one.value inputs assigned w.0 w.1) ∙ is_other.value inputs assigned w.0 w.1

pub bits_agree : (g : Terms) (f : Forest) (one other : Assignment → Bool) (d : Diagram) → IsBitFunction g f one d → IsBitFunction g f other d →
    (inputs : Assignment) → IsAssignment inputs → one inputs ≡ other inputs
bits_agree g f one other d is_one is_other inputs assigned =
    let w = world_exists inputs g in
    sym (is_one.value inputs assigned w.0 w.1) ∙ is_other.value inputs assigned w.0 w.1
