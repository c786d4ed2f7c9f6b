use Rattle.std.proofs.Common.{◌≡◌}
use Rattle.wb_assembled.specs.Repeated.{times}
use Rattle.wb_assembled.proofs.texts.repeated.Given as goal

-- so far the text, so often
abbrev pub invariant-loop-said : goal.invariant-loop-said
invariant-loop-said l = l.whole.items ≡ times l._said l.text
