use Rattle.std.proofs.Common.{◌≡◌, ◌∙◌, sym}
use Rattle.std.proofs.lemmas.Result.{IfOk-weaker}
use Rattle.wb_term.specs.Inputs.{Assignment, IsAssignment}
use Rattle.wb_term.specs.Values.{word_value, bit_value, word_node_value, IsWord}
use Rattle.wb_graph.proofs.Equal.{words_agree}
use Rattle.wb_graph.proofs.alike.word_like.Goals as goal

pub returns-in-Some-older_word-clause-means : goal.returns-in-Some-older_word-clause-means
returns-in-Some-older_word-clause-means c = record {
  there = c.in-Some-older_word.ensures.there _ c.small_word-function.ensures.right;
  value = words_agree _ _ _ _ _ (c.in-Some-older_word.ensures.function _ c.small_word-function.ensures.right) c.in-Some-function.ensures.function;
}

pub returns-in-Some-older_word-clause-inputs : goal.returns-in-Some-older_word-clause-inputs
returns-in-Some-older_word-clause-inputs c allowed own each =
    c.in-Some-older_word.ensures.inputs _ c.small_word-function.ensures.right allowed
    ((c.word_places-places.ensures _ c.requires.right).each allowed own each)

pub add_word-requires-in-Some-known_word-clause-function : goal.add_word-requires-in-Some-known_word-clause-function
add_word-requires-in-Some-known_word-clause-function c =
    let is = c.in-Some-function.ensures.function in
    record { there = is.there; value = λ inputs assigned w world. is.value inputs assigned w world ∙ c.in-Some-known_word.ensures _ _ is inputs assigned }

pub returns-in-Some-known_word-clause-means : goal.returns-in-Some-known_word-clause-means
returns-in-Some-known_word-clause-means c =
    let added = c.add_word-in-Some-known_word in
    let known = c.in-Some-known_word.value in
    let same : (inputs : Assignment) → IsAssignment inputs → word_node_value c.args.terms.now.tables inputs (word_value inputs c.args.terms.now) (bit_value inputs c.args.terms.now) c.args.node ≡ known =
    c.in-Some-known_word.ensures _ _ c.in-Some-function.ensures.function in
    IfOk-weaker added.result
    (λ id. IsWord added.new.terms id (λ inputs. known))
    (λ id. IsWord added.new.terms id (λ inputs. word_node_value c.args.terms.now.tables inputs (word_value inputs c.args.terms.now) (bit_value inputs c.args.terms.now) c.args.node))
    (λ id is. record { there = is.there; value = λ inputs assigned. is.value inputs assigned ∙ sym (same inputs assigned) })
    added.ensures.means
