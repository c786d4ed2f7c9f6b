use Rattle.std.proofs.Common.{sym, ap, ◌∙◌, subst, List, ◌-◌, ◌*◌, ◌/◌, ◌^◌}
use Rattle.wb_blast.specs.Words.{number}
use Rattle.wb_term.specs.declared.nodes.WordNode.{WordNode}
use Rattle.wb_term.specs.Numbers.{cut}
use Rattle.wb_term.specs.Values.{word_value, bit_value, word_node_value, value}
use Rattle.wb_equal.specs.declared.entries.Entry.{Entry}
use Rattle.wb_blast.specs.Meeting.{StandsAt, word_places}
use Rattle.wb_blast.specs.Rows.{IsWordOf, HasWordParts}
use Rattle.wb_blast.proofs.Parts.{known_word, moved_word, byte_word, cell_word}
use Rattle.wb_blast.proofs.circuits.word_circuit.Goals as goal

pub returns-in-Const-clause-means : goal.returns-in-Const-clause-means
returns-in-Const-clause-means c =
    subst (λ (n : WordNode). IsWordOf c.args.formula.now c.args.rows.now.places.items c.constant_word.result (λ i. word_node_value c.args.graph.now.tables i (word_value i c.args.graph.now) (bit_value i c.args.graph.now) n))
    (sym c.in-Const.is)
    (known_word c.args.formula.now c.args.rows.now.places.items c.constant_word.result c.in-Const.word c.constant_word.ensures.there c.constant_word.ensures.value)

pub returns-in-Byte-clause-means : goal.returns-in-Byte-clause-means
returns-in-Byte-clause-means c =
    subst (λ (n : WordNode). IsWordOf c.args.formula.now c.args.rows.now.places.items c.input_word.result (λ i. word_node_value c.args.graph.now.tables i (word_value i c.args.graph.now) (bit_value i c.args.graph.now) n))
    (sym c.in-Byte.is)
    (byte_word c.args.formula.now c.args.rows.now.places.items c.args.first c.in-Byte.field-0 c.input_word.result c.requires.inputs
    (subst (λ (n : WordNode). StandsAt c.args.rows.now.places.items c.args.first (word_places n)) c.in-Byte.is c.requires.stands) c.input_word.ensures.value c.input_word.ensures.there)

pub returns-in-Cell-clause-means : goal.returns-in-Cell-clause-means
returns-in-Cell-clause-means c =
    subst (λ (n : WordNode). IsWordOf c.args.formula.now c.args.rows.now.places.items c.input_word-in-Cell.result (λ i. word_node_value c.args.graph.now.tables i (word_value i c.args.graph.now) (bit_value i c.args.graph.now) n))
    (sym c.in-Cell.is)
    (cell_word c.args.formula.now c.args.rows.now.places.items c.args.first c.in-Cell.field-0 c.input_word-in-Cell.result c.requires.inputs
    (subst (λ (n : WordNode). StandsAt c.args.rows.now.places.items c.args.first (word_places n)) c.in-Cell.is c.requires.stands) c.input_word-in-Cell.ensures.value c.input_word-in-Cell.ensures.there)

pub returns-in-Not-clause-means : goal.returns-in-Not-clause-means
returns-in-Not-clause-means c =
    let row = subst (λ (n : WordNode). HasWordParts c.args.graph.now c.args.formula.now c.args.rows.now n) c.in-Not.is c.requires.parts in
    subst (λ (n : WordNode). IsWordOf c.args.formula.now c.args.rows.now.places.items c.inverted.result (λ i. word_node_value c.args.graph.now.tables i (word_value i c.args.graph.now) (bit_value i c.args.graph.now) n))
    (sym c.in-Not.is)
    (moved_word c.args.formula.now c.args.rows.now.places.items c.word.result c.inverted.result (λ i. value i c.args.graph.now c.in-Not.x.number) (λ n. 65535 - n)
    (subst (λ (w : List Entry). IsWordOf c.args.formula.now c.args.rows.now.places.items w (λ i. value i c.args.graph.now c.in-Not.x.number)) (sym c.word.ensures) row.is)
    c.inverted.ensures.there c.inverted.ensures.value)

pub returns-in-Shl-clause-means : goal.returns-in-Shl-clause-means
returns-in-Shl-clause-means c =
    let row = subst (λ (n : WordNode). HasWordParts c.args.graph.now c.args.formula.now c.args.rows.now n) c.in-Shl.is c.requires.parts in
    subst (λ (n : WordNode). IsWordOf c.args.formula.now c.args.rows.now.places.items c.shifted_left.result (λ i. word_node_value c.args.graph.now.tables i (word_value i c.args.graph.now) (bit_value i c.args.graph.now) n))
    (sym c.in-Shl.is)
    (moved_word c.args.formula.now c.args.rows.now.places.items c.word-in-Shl.result c.shifted_left.result (λ i. value i c.args.graph.now c.in-Shl.x.number) (λ n. cut (n * 2 ^ c.in-Shl.count))
    (subst (λ (w : List Entry). IsWordOf c.args.formula.now c.args.rows.now.places.items w (λ i. value i c.args.graph.now c.in-Shl.x.number)) (sym c.word-in-Shl.ensures) row.is)
    c.shifted_left.ensures.there
    (λ v. c.shifted_left.ensures.value v ∙ ap (λ m. cut (number v c.word-in-Shl.result * 2 ^ m)) c.from.ensures))

pub returns-in-Shr-clause-means : goal.returns-in-Shr-clause-means
returns-in-Shr-clause-means c =
    let row = subst (λ (n : WordNode). HasWordParts c.args.graph.now c.args.formula.now c.args.rows.now n) c.in-Shr.is c.requires.parts in
    subst (λ (n : WordNode). IsWordOf c.args.formula.now c.args.rows.now.places.items c.shifted_right.result (λ i. word_node_value c.args.graph.now.tables i (word_value i c.args.graph.now) (bit_value i c.args.graph.now) n))
    (sym c.in-Shr.is)
    (moved_word c.args.formula.now c.args.rows.now.places.items c.word-in-Shr.result c.shifted_right.result (λ i. value i c.args.graph.now c.in-Shr.x.number) (λ n. n / 2 ^ c.in-Shr.count)
    (subst (λ (w : List Entry). IsWordOf c.args.formula.now c.args.rows.now.places.items w (λ i. value i c.args.graph.now c.in-Shr.x.number)) (sym c.word-in-Shr.ensures) row.is)
    c.shifted_right.ensures.there
    (λ v. c.shifted_right.ensures.value v ∙ ap (λ m. number v c.word-in-Shr.result / 2 ^ m) c.from-in-Shr.ensures))
