use Rattle.std.proofs.Common.{sym, subst, arith, List, ◌==◌, ◌/◌, ◌%◌, ◌^◌}
use Rattle.wb_term.specs.declared.nodes.BitNode.{BitNode}
use Rattle.wb_term.specs.Terms.{IsBitPlaced}
use Rattle.wb_term.specs.Values.{word_value, bit_value, bit_node_value, value}
use Rattle.wb_equal.specs.declared.entries.Entry.{Entry}
use Rattle.wb_blast.specs.Rows.{IsBitOf, IsWordOf, HasBitParts}
use Rattle.wb_blast.specs.Words.{entry_at}
use Rattle.wb_blast.proofs.Parts.{known_bit, negated_bit, picked_bit}
use Rattle.wb_blast.proofs.circuits.bit_circuit.Goals as goal

pub returns-in-Known-clause-means : goal.returns-in-Known-clause-means
returns-in-Known-clause-means c =
    subst (λ (n : BitNode). IsBitOf c.args.formula.now c.args.rows.now.places.items c.constant.result (λ i. bit_node_value (word_value i c.args.graph.now) (bit_value i c.args.graph.now) n))
    (sym c.in-Known.is)
    (known_bit c.args.formula.now c.args.rows.now.places.items c.constant.result c.in-Known.value c.constant.ensures.there c.constant.ensures.value)

pub returns-in-Pick-clause-means : goal.returns-in-Pick-clause-means
returns-in-Pick-clause-means c =
    let row = subst (λ (n : BitNode). HasBitParts c.args.graph.now c.args.formula.now c.args.rows.now n) c.in-Pick.is c.requires.parts in
    let placed = subst (λ (n : BitNode). IsBitPlaced c.args.graph.now n) c.in-Pick.is c.requires.placed in
    let small = placed.1 in
    let full = c.word.type_inv in
    subst (λ (n : BitNode). IsBitOf c.args.formula.now c.args.rows.now.places.items (entry_at c.word.result c.from.result) (λ i. bit_node_value (word_value i c.args.graph.now) (bit_value i c.args.graph.now) n))
    (sym c.in-Pick.is)
    (subst (λ m. IsBitOf c.args.formula.now c.args.rows.now.places.items (entry_at c.word.result m) (λ i. value i c.args.graph.now c.in-Pick.x.number / 2 ^ c.in-Pick.place % 2 == 1))
    (sym c.from.ensures)
    (picked_bit c.args.formula.now c.args.rows.now.places.items c.word.result c.in-Pick.place (λ i. value i c.args.graph.now c.in-Pick.x.number) (omega (arith, small, full))
    (subst (λ (w : List Entry). IsWordOf c.args.formula.now c.args.rows.now.places.items w (λ i. value i c.args.graph.now c.in-Pick.x.number)) (sym c.word.ensures) row.is)))

pub returns-in-NotB-clause-means : goal.returns-in-NotB-clause-means
returns-in-NotB-clause-means c =
    let row = subst (λ (n : BitNode). HasBitParts c.args.graph.now c.args.formula.now c.args.rows.now n) c.in-NotB.is c.requires.parts in
    subst (λ (n : BitNode). IsBitOf c.args.formula.now c.args.rows.now.places.items c.negation.result (λ i. bit_node_value (word_value i c.args.graph.now) (bit_value i c.args.graph.now) n))
    (sym c.in-NotB.is)
    (negated_bit c.args.formula.now c.args.rows.now.places.items c.bit.result c.negation.result (λ i. value i c.args.graph.now c.in-NotB.c.number == 1)
    (subst (λ (e : Entry). IsBitOf c.args.formula.now c.args.rows.now.places.items e (λ i. value i c.args.graph.now c.in-NotB.c.number == 1)) (sym c.bit.ensures) row.is)
    c.negation.ensures.there c.negation.ensures.value)
