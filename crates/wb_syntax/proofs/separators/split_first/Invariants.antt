use Rattle.std.proofs.Common.{◌≡◌, false, take}
use Rattle.std.specs.List.{All}
use Rattle.wb_syntax.specs.Separators.{is_separator}
use Rattle.wb_syntax.proofs.separators.split_first.Given as goal

-- no token so far is the separator
abbrev pub invariant-loop-place : goal.invariant-loop-place
invariant-loop-place l = All (λ token. is_separator l.separator token.kind ≡ false) (take l.place l.tokens)
