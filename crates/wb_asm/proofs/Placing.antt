-- One word of several is placed.
use Rattle.std.proofs.Common.{◌≡◌, ℕ, suc, ◌+◌, ◌-◌, ◌<◌, Option, None, sym, ap, ◌∙◌, arith}
use Rattle.std.specs.Option.{option_or}
use Rattle.wb_asm.specs.declared.faults.AsmKind.{AsmKind}
use Rattle.wb_asm.specs.Space.{Space, with_word, word_fault, with_words, words_fault}

one_less : (n k : ℕ) → k < n → n - k ≡ suc (n - (k + 1))
one_less n k h = omega arith

pub fault_peeled : (n k : ℕ) (space next : Space) (all : Option AsmKind) → k < n → word_fault space ≡ None
    → next ≡ with_word space → words_fault (n - k) space ≡ all → words_fault (n - (k + 1)) next ≡ all
fault_peeled n k space next all h free e before =
    ap (λ (s : Space). words_fault (n - (k + 1)) s) e
    ∙ ap (λ (fault : Option AsmKind). option_or fault (words_fault (n - (k + 1)) (with_word space))) (sym free)
    ∙ ap (λ count. words_fault count space) (sym (one_less n k h))
    ∙ before

pub words_peeled : (n k : ℕ) (space next all : Space) → k < n → next ≡ with_word space
    → with_words (n - k) space ≡ all → with_words (n - (k + 1)) next ≡ all
words_peeled n k space next all h e before =
    ap (λ (s : Space). with_words (n - (k + 1)) s) e ∙ ap (λ count. with_words count space) (sym (one_less n k h)) ∙ before
