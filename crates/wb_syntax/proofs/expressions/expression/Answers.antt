use Rattle.wb_syntax.proofs.Readings.{whole_refused, too_short}
use Rattle.wb_syntax.proofs.expressions.expression.Goals as goal

pub returns-in-Ok-2 : goal.returns-in-Ok-2
returns-in-Ok-2 c = too_short c.args.text.now c.args.tokens.now c.in-Ok.x c.in-Ok.end c.in-Ok.ensures.reading c.if-end-tokens.false

pub returns-in-Err : goal.returns-in-Err
returns-in-Err c = whole_refused c.args.text.now c.args.tokens.now c.in-Err.refusal c.in-Err.ensures.reading
