use Rattle.std.proofs.Common.{ℕ, ◌∙◌, ap, bit_and}
use Rattle.wb_term.specs.Values.{word_value}
use Rattle.wb_symstep.proofs.BitLaws.{merged_told}
use Rattle.wb_symstep.proofs.Meanings.{means}
use Rattle.wb_symstep.proofs.status.merge_status.Goals as goal

pub returns-clause-value : goal.returns-clause-value
returns-clause-value c =
    means c.mk_or.new.graph c.mk_or.result _ _
    (λ i a.
    merged_told (word_value i c.args.graph.now c.args.bus) (word_value i c.args.graph.now c.args.sr) _ _
    (c.word_at-sr.ensures.fits i a c.args.bus) (c.word_at-sr.ensures.fits i a c.args.sr)
    (c.masked-2.ensures.grown.word_values i c.in_ok-written.written c.in_ok-written.ensures.value.there ∙ c.in_ok-written.ensures.value.value i a)
    (c.in_ok-kept.ensures.value.value i a ∙ ap (λ (n : ℕ). bit_and n 36988) (c.masked.ensures.grown.word_values i c.args.sr c.requires.sr)))
    c.mk_or.ensures.value
