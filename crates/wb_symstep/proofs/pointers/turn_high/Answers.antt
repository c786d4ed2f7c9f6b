use Rattle.std.proofs.Common.{◌∙◌, ap, bit_xor}
use Rattle.wb_term.specs.Values.{word_value}
use Rattle.wb_symstep.proofs.BitLaws.{turned_alone}
use Rattle.wb_symstep.proofs.Meanings.{means}
use Rattle.wb_symstep.proofs.pointers.turn_high.Goals as goal

pub returns-clause-value : goal.returns-clause-value
returns-clause-value c =
    means c.turned.new.graph c.turned.result _ _
    (λ i a.
    ap (bit_xor (word_value i c.args.graph.now c.args.dp)) c.high_mask.ensures.value
    ∙ turned_alone (word_value i c.args.graph.now c.args.dp) c.args.high.value)
    c.turned.ensures.value
