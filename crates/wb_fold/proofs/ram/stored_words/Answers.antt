use Rattle.std.proofs.Common.{ℕ, ◌%◌, ◌∙◌, List, ap, subst, sym}
use Rattle.wb_term.specs.declared.nodes.WordId.{WordId}
use Rattle.wb_fold.specs.Ram.{AppendsStored, address, AddressHasOnly}
use Rattle.wb_fold.proofs.Growth.{◌▸◌}
use Rattle.wb_fold.proofs.StoreLaws.{stored-always, stored-inputs}
use Rattle.wb_fold.proofs.ram.stored_words.Goals as goal

pub returns-clause-value : goal.returns-clause-value
returns-clause-value c =
    let always = c.in_ok-always.ensures.value in
    stored-always c.args.graph.now c.address_bits.new.graph c.store.new.graph (c.mk_known.ensures.grown ▸ c.address_bits.ensures.grown)
    c.args.ram.now c.deref.result.now c.in_ok-always.always c.args.dp c.args.value c.store.new.out.items c.requires.ram c.requires.value
    (λ i is. c.address_bits.ensures.grown.bit_values i c.in_ok-always.always always.there ∙ always.value i is)
    (λ i is. ap (address i c.address_bits.new.graph) c.deref.ensures.value ∙ c.in_ok-bits.ensures.value i is
    ∙ ap (λ (n : ℕ). n % 256) (c.mk_known.ensures.grown.word_values i c.args.dp c.requires.dp))
    (subst (λ (before : List WordId). AppendsStored c.address_bits.new.graph c.store.new.graph c.args.ram.now c.deref.result.now
    c.in_ok-always.always c.args.value before c.store.new.out.items) c.in_ok-words.ensures.items c.in_ok-store.ensures.stored)

pub returns-clause-inputs : goal.returns-clause-inputs
returns-clause-inputs c =
    let always = c.in_ok-always.ensures.value in
    stored-inputs c.args.graph.now c.address_bits.new.graph c.store.new.graph (c.mk_known.ensures.grown ▸ c.address_bits.ensures.grown)
    c.args.ram.now c.deref.result.now c.in_ok-always.always c.args.dp c.args.value c.store.new.out.items c.requires.ram c.requires.value
    (λ p. c.address_bits.ensures.grown.bit_inputs p c.in_ok-always.always always.there (c.in_ok-always.ensures.inputs p tt))
    (λ p dp_only. subst (AddressHasOnly c.address_bits.new.graph p) (sym c.deref.ensures.value)
    (c.in_ok-bits.ensures.inputs p (c.mk_known.ensures.grown.word_inputs p c.args.dp c.requires.dp dp_only)))
    (subst (λ (before : List WordId). AppendsStored c.address_bits.new.graph c.store.new.graph c.args.ram.now c.deref.result.now
    c.in_ok-always.always c.args.value before c.store.new.out.items) c.in_ok-words.ensures.items c.in_ok-store.ensures.stored)
