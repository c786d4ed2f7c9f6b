use Rattle.std.proofs.Common.{◌≡◌, ◌∙◌, sym, true≢false}
use Rattle.std.proofs.lemmas.Result.{IfOk-weaker}
use Rattle.wb_term.specs.Inputs.{Assignment, IsAssignment}
use Rattle.wb_term.specs.Values.{word_value, bit_value, bit_node_value, IsBit}
use Rattle.wb_graph.proofs.Equal.{bits_agree}
use Rattle.wb_graph.proofs.alike.bit_like.Goals as goal

pub returns-in-Some-older_bit-clause-means : goal.returns-in-Some-older_bit-clause-means
returns-in-Some-older_bit-clause-means c = record {
  there = c.in-Some-older_bit.ensures.there _ c.small_bit-function.ensures.right;
  value = bits_agree _ _ _ _ _ (c.in-Some-older_bit.ensures.function _ c.small_bit-function.ensures.right) c.in-Some-function.ensures.function;
}

pub returns-in-Some-older_bit-clause-inputs : goal.returns-in-Some-older_bit-clause-inputs
returns-in-Some-older_bit-clause-inputs c allowed each =
    c.in-Some-older_bit.ensures.inputs _ c.small_bit-function.ensures.right allowed
    ((c.bit_places-places.ensures _ c.requires.right).each allowed (λ input. absurd (true≢false (sym input))) each)

pub add_bit-requires-in-Some-known_bit-clause-function : goal.add_bit-requires-in-Some-known_bit-clause-function
add_bit-requires-in-Some-known_bit-clause-function c =
    let is = c.in-Some-function.ensures.function in
    record { there = is.there; value = λ inputs assigned w world. is.value inputs assigned w world ∙ c.in-Some-known_bit.ensures _ _ is inputs assigned }

pub returns-in-Some-known_bit-clause-means : goal.returns-in-Some-known_bit-clause-means
returns-in-Some-known_bit-clause-means c =
    let added = c.add_bit-in-Some-known_bit in
    let known = c.in-Some-known_bit.value in
    let same : (inputs : Assignment) → IsAssignment inputs → bit_node_value (word_value inputs c.args.terms.now) (bit_value inputs c.args.terms.now) c.args.node ≡ known =
    c.in-Some-known_bit.ensures _ _ c.in-Some-function.ensures.function in
    IfOk-weaker added.result
    (λ id. IsBit added.new.terms id (λ inputs. known))
    (λ id. IsBit added.new.terms id (λ inputs. bit_node_value (word_value inputs c.args.terms.now) (bit_value inputs c.args.terms.now) c.args.node))
    (λ id is. record { there = is.there; value = λ inputs assigned. is.value inputs assigned ∙ sym (same inputs assigned) })
    added.ensures.means
