use Rattle.std.proofs.Common.{sym}
use Rattle.wb_options.proofs.options.with_word.Goals as goal

pub returns-in-Some : goal.returns-in-Some
returns-in-Some c before h = rw (sym c.in-Some.ensures) (c.and.ensures before h)
