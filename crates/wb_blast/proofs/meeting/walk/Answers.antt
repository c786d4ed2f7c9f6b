use Rattle.std.proofs.Common.{◌≡◌, ℕ, List, [], ◌∷◌, length, refl, sym, subst, arith}
use Rattle.wb_term.specs.Nodes.{IsAmong}
use Rattle.wb_blast.proofs.Lists.{among_last}
use Rattle.wb_blast.proofs.Meets.{meeting_none, meeting_more, meeting_all, smaller, places_few, weight_few}
use Rattle.wb_blast.proofs.meeting.walk.Goals as goal

empty : (xs : List ℕ) → length xs ≡ 0 → xs ≡ []
empty [] e = refl
empty (x ∷ xs) e = absurd (omega (arith, e))

pub nodes-init : goal.nodes-init
nodes-init c =
    let made = c.in_ok-met.ensures in
    meeting_none c.args.graph.now c.args.bits.now c.in_ok-met.met c.stack_bits.new.stack.items made.covers made.none made.places made.weight c.in_ok-stack_bits.ensures c.requires

pub meet-requires-clause-there : goal.meet-requires-clause-there
meet-requires-clause-there c = c.nodes.invariant.stacked c.in-Some.number
    (subst (λ (s : List ℕ). IsAmong c.in-Some.number s) (sym c.in-Some.ensures.items) (among_last c.pop.new.self.items c.in-Some.number c.in-Some.number refl))

pub meet-requires-clause-few_places : goal.meet-requires-clause-few_places
meet-requires-clause-few_places c = places_few c.args.graph.now c.args.bits.now c.nodes.met c.nodes.stack.items c.len-nodes.ensures.graph c.nodes.invariant

pub meet-requires-clause-light : goal.meet-requires-clause-light
meet-requires-clause-light c = weight_few c.args.graph.now c.args.bits.now c.nodes.met c.nodes.stack.items c.len-nodes.ensures.graph c.nodes.invariant

pub nodes-smaller : goal.nodes-smaller
nodes-smaller c = smaller c.args.graph.now c.args.bits.now c.nodes.met c.meet.new.met c.nodes.stack.items c.pop.new.self.items c.meet.new.stack.items c.in-Some.number
    c.in-Some.ensures.items c.nodes.invariant c.in_ok-meet.ensures

pub nodes-preserved : goal.nodes-preserved
nodes-preserved c = meeting_more c.args.graph.now c.args.bits.now c.nodes.met c.meet.new.met c.nodes.stack.items c.pop.new.self.items c.meet.new.stack.items c.in-Some.number
    c.len-nodes.ensures.graph c.in-Some.ensures.items c.nodes.invariant c.in_ok-meet.ensures

pub returns : goal.returns
returns c = meeting_all c.args.graph.now c.args.bits.now c.nodes.met c.nodes.stack.items c.len-nodes.ensures.graph (empty c.nodes.stack.items (let zero = c.in_default.ensures.cases.0 in let whole = c.nodes.stack.ok in omega (arith, zero, whole))) c.nodes.invariant
