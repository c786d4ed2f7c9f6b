use Rattle.std.proofs.Common.{ℕ, ◌∙◌, ap, bit_and, bit_xor}
use Rattle.wb_term.specs.Values.{word_value}
use Rattle.wb_symstep.proofs.BitLaws.{turned}
use Rattle.wb_symstep.proofs.Meanings.{means}
use Rattle.wb_symstep.proofs.pointers.high_bits.Goals as goal

pub returns-clause-value : goal.returns-clause-value
returns-clause-value c =
    means c.masked.new.graph c.masked.result _ _
    (λ i a.
    ap (λ (n : ℕ). bit_and n 65520)
    (c.in_ok-turned.ensures.value.value i a
    ∙ ap (bit_xor (word_value i c.args.graph.now c.args.dp)) c.high_mask.ensures.value)
    ∙ turned (word_value i c.args.graph.now c.args.dp) c.args.high.value (c.word_at-dp.ensures.fits i a c.args.dp) c.args.high.in_range)
    c.masked.ensures.value
