use Rattle.std.proofs.Common.{◌∙◌, ap}
use Rattle.wb_port.specs.Wait.{is_plain}
use Rattle.wb_port.proofs.Steady.{jump_is_plain, jump_leads}
use Rattle.wb_port.proofs.loops.follow.Goals as goal

pub returns-clause-plain : goal.returns-clause-plain
returns-clause-plain c =
    c.follow_jump.ensures.plain
    ∙ jump_is_plain _ _ c.decode.ensures.value c.if-word-eq0.false
    ∙ ap is_plain c.word_at-word.ensures

pub returns-clause-next : goal.returns-clause-next
returns-clause-next c =
    jump_leads c.args.image.now _ _ _ _ c.decode.ensures.value c.word_at-word.ensures c.follow_jump.ensures.next
