use Rattle.std.proofs.Common.{◌≡◌, length, sym, ◌∙◌, ap, subst}
use Rattle.wb_fold.specs.Ram.{AreWords, WordsHaveOnly, merged}
use Rattle.wb_symstep.specs.State.{IsSymState, StateHasOnly}
use Rattle.wb_point.specs.Shows.{shows}
use Rattle.wb_point.specs.Lists.{AreBits, BitsHaveOnly, merged_bit, word_list, bit_list, state_of}
use Rattle.wb_point.specs.Merging.{Merges}
use Rattle.wb_point.proofs.Growth.{◌▸◌}
use Rattle.wb_point.proofs.Merged.{made_same, words_told, bits_told, merged_is_state, merged_stands, merged_has_only, words_have_only, bits_only_kept, cells_only_kept}
use Rattle.wb_point.proofs.merging.merge.Goals as goal

made : (c : goal.After-drop-words-2) → c.state_of.result ≡ state_of (shows c.args.yes.now) c.in_ok-words.words.items c.in_ok-bits.bits.items c.in_ok-ram.ram
made c = made_same _ _ _ _ _ _ _ _ c.state_of.ensures c.shown.ensures.value c.deref.ensures.value c.deref-2.ensures.value

words : (c : goal.After-drop-words-2) → AreWords c.merge_words.new.graph c.in_ok-words.words.items (λ i k. merged i c.args.graph.now c.args.cond (word_list c.args.yes.now) (word_list c.args.no.now) k)
words c = words_told _ _ _ _ _ _ _ _ c.words_of.ensures c.words_of-2.ensures c.in_ok-words.ensures.value

bits : (c : goal.After-drop-words-2) → AreBits c.merge_bits.new.graph c.in_ok-bits.bits.items (λ i k. merged_bit i c.merge_words.new.graph c.args.cond (bit_list c.args.yes.now) (bit_list c.args.no.now) k)
bits c = bits_told _ _ _ _ _ _ _ _ c.bits_of.ensures c.bits_of-2.ensures c.in_ok-bits.ensures.value

word_count : (c : goal.After-drop-words-2) → length c.in_ok-words.words.items ≡ 11
word_count c = c.in_ok-words.ensures.len ∙ ap length c.words_of.ensures

bit_count : (c : goal.After-drop-words-2) → length c.in_ok-bits.bits.items ≡ 12
bit_count c = c.in_ok-bits.ensures.len ∙ ap length c.bits_of.ensures

pub returns-in_err-bits-clause-grown : goal.returns-in_err-bits-clause-grown
returns-in_err-bits-clause-grown c = c.merge_words.ensures.grown ▸ c.merge_bits.ensures.grown

pub returns-in_err-ram-clause-grown : goal.returns-in_err-ram-clause-grown
returns-in_err-ram-clause-grown c = c.merge_words.ensures.grown ▸ c.merge_bits.ensures.grown ▸ c.pages_merge.ensures.grown

pub returns-clause-grown : goal.returns-clause-grown
returns-clause-grown c = c.merge_words.ensures.grown ▸ c.merge_bits.ensures.grown ▸ c.pages_merge.ensures.grown

pub returns-clause-there : goal.returns-clause-there
returns-clause-there c =
    subst (IsSymState c.pages_merge.new.graph) (sym (made c))
    (merged_is_state c.args.graph.now c.merge_words.new.graph c.merge_bits.new.graph c.pages_merge.new.graph
    c.merge_words.ensures.grown c.merge_bits.ensures.grown c.pages_merge.ensures.grown c.args.cond c.requires.cond
    c.args.yes.now c.args.no.now c.requires.yes c.requires.no c.requires.same
    c.in_ok-words.words.items c.in_ok-bits.bits.items c.in_ok-ram.ram
    (words c) (word_count c) (bits c) (bit_count c) c.in_ok-ram.ensures.value c.in_ok-ram.ensures.len)

pub returns-clause-stands : goal.returns-clause-stands
returns-clause-stands c =
    subst (Merges c.args.graph.now c.pages_merge.new.graph c.args.cond c.args.yes.now c.args.no.now) (sym (made c))
    (merged_stands c.args.graph.now c.merge_words.new.graph c.merge_bits.new.graph c.pages_merge.new.graph
    c.merge_words.ensures.grown c.merge_bits.ensures.grown c.pages_merge.ensures.grown c.args.cond c.requires.cond
    c.args.yes.now c.args.no.now c.requires.yes c.requires.no c.requires.same
    c.in_ok-words.words.items c.in_ok-bits.bits.items c.in_ok-ram.ram
    (words c) (word_count c) (bits c) (bit_count c) c.in_ok-ram.ensures.value c.in_ok-ram.ensures.len)

pub returns-clause-inputs : goal.returns-clause-inputs
returns-clause-inputs c p of_cond of_yes of_no =
    let one = c.merge_words.ensures.grown in
    let two = c.merge_bits.ensures.grown in
    let only_words = c.in_ok-words.ensures.inputs p of_cond
    (subst (WordsHaveOnly c.args.graph.now p) (sym c.words_of.ensures) (words_have_only c.args.graph.now p c.args.yes.now of_yes))
    (subst (WordsHaveOnly c.args.graph.now p) (sym c.words_of-2.ensures) (words_have_only c.args.graph.now p c.args.no.now of_no)) in
    let only_bits = c.in_ok-bits.ensures.inputs p (one.bit_inputs p c.args.cond c.requires.cond of_cond)
    (subst (BitsHaveOnly c.merge_words.new.graph p) (sym c.bits_of.ensures) (bits_only_kept c.args.graph.now c.merge_words.new.graph one p c.args.yes.now c.requires.yes of_yes))
    (subst (BitsHaveOnly c.merge_words.new.graph p) (sym c.bits_of-2.ensures) (bits_only_kept c.args.graph.now c.merge_words.new.graph one p c.args.no.now c.requires.no of_no)) in
    let only_cells = c.in_ok-ram.ensures.inputs p ((one ▸ two).bit_inputs p c.args.cond c.requires.cond of_cond)
    (cells_only_kept c.args.graph.now c.merge_bits.new.graph (one ▸ two) p c.args.yes.now c.requires.yes of_yes)
    (cells_only_kept c.args.graph.now c.merge_bits.new.graph (one ▸ two) p c.args.no.now c.requires.no of_no) in
    subst (StateHasOnly c.pages_merge.new.graph p) (sym (made c))
    (merged_has_only c.args.graph.now c.merge_words.new.graph c.merge_bits.new.graph c.pages_merge.new.graph
    c.merge_words.ensures.grown c.merge_bits.ensures.grown c.pages_merge.ensures.grown c.args.cond c.requires.cond
    c.args.yes.now c.args.no.now c.requires.yes c.requires.no c.requires.same
    c.in_ok-words.words.items c.in_ok-bits.bits.items c.in_ok-ram.ram
    (words c) (word_count c) (bits c) (bit_count c) c.in_ok-ram.ensures.value c.in_ok-ram.ensures.len
    p only_words only_bits only_cells)
