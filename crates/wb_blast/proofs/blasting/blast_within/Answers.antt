use Rattle.std.proofs.Common.{◌≡◌, refl, sym, ap, ◌∙◌, subst}
use Rattle.wb_gate.specs.Circuit.{Circuit, variables, IsCircuit}
use Rattle.wb_gate.specs.declared.gates.Goal.{Goal}
use Rattle.wb_equal.specs.declared.entries.Entry.{Entry}
use Rattle.wb_blast.specs.Blasting.{IsBlasted, goal_of}
use Rattle.wb_equal.specs.Entries.{EntryBelow}
use Rattle.wb_blast.proofs.Finals.{blasted_is, first_entry}
use Rattle.wb_blast.proofs.blasting.blast_within.Goals as goal

pub set_goal-requires : goal.set_goal-requires
set_goal-requires c =
    let are = c.in_ok-many.ensures.blasted in
    let many = c.in_ok-many.many in
    let same = c.index.ensures ∙ first_entry many.entries.items c.index.result.now are.meant.counted in
    c.goal_of.ensures.there _ (subst (λ (e : Entry). EntryBelow (variables many.formula) e) (sym same) (are.meant.there 0 c.args.bit refl))

pub returns-clause-blasted : goal.returns-clause-blasted
returns-clause-blasted c =
    let are = c.in_ok-many.ensures.blasted in
    let many = c.in_ok-many.many in
    let e = c.index.result.now in
    let same = c.index.ensures ∙ first_entry many.entries.items e are.meant.counted in
    let whole : Circuit = record many.formula { goal = goal_of e } in
    let is : c.set_goal.new.self ≡ whole = c.set_goal.ensures.goal ∙ ap (λ (t : Goal). let made : Circuit = record many.formula { goal = t } in made) c.goal_of.ensures.goal in
    subst (λ (x : Circuit). IsBlasted c.args.graph.now c.args.bit c.args.limit x many.places.items) (sym is)
    (blasted_is c.args.graph.now c.args.bit c.args.limit many.formula many.places.items many.entries.items e c.clauses_say_the_gates.ensures c.inputs_decide.ensures
    c.len-nodes.ensures.graph (subst (λ (x : Circuit). IsCircuit x) is c.set_goal.ensures.circuit) same are)
