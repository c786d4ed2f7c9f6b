use Rattle.std.proofs.Common.{ℕ, ◌%◌, ◌∙◌, ap}
use Rattle.wb_term.specs.Values.{word_value}
use Rattle.wb_machine.specs.Next.{low_stepped}
use Rattle.wb_symstep.proofs.BitLaws.{halves_told}
use Rattle.wb_symstep.proofs.Meanings.{means}
use Rattle.wb_symstep.proofs.pointers.step_halves.Goals as goal

pub returns-clause-value : goal.returns-clause-value
returns-clause-value c =
    means c.mk_or.new.graph c.mk_or.result _ _
    (λ i a.
    halves_told c.args.change c.args.high.value (word_value i c.args.graph.now c.args.dp) _ _
    (c.low_bits.ensures.grown.word_values i c.in_ok-above.above c.in_ok-above.ensures.value.there ∙ c.in_ok-above.ensures.value.value i a)
    (c.in_ok-low.ensures.value.value i a ∙ ap (λ (n : ℕ). low_stepped c.args.change (n % 16)) (c.high_bits.ensures.grown.word_values i c.args.dp c.requires.dp)))
    c.mk_or.ensures.value
