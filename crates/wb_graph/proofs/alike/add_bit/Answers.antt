use Rattle.wb_term.specs.Inputs.{Assignment}
use Rattle.wb_term.specs.Values.{word_value, bit_value, bit_node_value}
use Rattle.wb_term.specs.declared.nodes.Node.TheVariants.{Bit}
use Rattle.wb_graph.proofs.Growing.{AreRight-grown, ArePlaces-added, bit_function-added}
use Rattle.wb_graph.proofs.alike.add_bit.Goals as goal

pub returns-then-len-before-clause-right : goal.returns-then-len-before-clause-right
returns-then-len-before-clause-right c =
    let g = c.args.terms.now in
    let h = c.bit.new.self in
    let id = c.in_ok-id.id in
    let e = c.in_ok-id.ensures in
    let meaning = λ (inputs : Assignment). bit_node_value (word_value inputs c.args.terms.now) (bit_value inputs c.args.terms.now) c.args.node in
    c.learn_bit.ensures h c.len.ensures.graph
    (AreRight-grown g h (Bit c.args.node) id.number e.interned e.grown c.args.functions.now c.requires.right)
    e.means.there
    (ArePlaces-added g h e.grown id.number (Bit c.args.node) c.args.places e.interned.at (λ allowed own each. e.inputs allowed each) c.requires.places)
    (bit_function-added g h (Bit c.args.node) id.number e.interned e.grown c.args.functions.now.forest meaning id e.means c.args.function c.requires.function)
