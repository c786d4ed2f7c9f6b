use Rattle.std.proofs.Common.{◌≡◌, drop}
use Rattle.wb_script.specs.Statement.{fields}
use Rattle.wb_script.proofs.fields.after_blanks.Given as goal

abbrev pub invariant-loop-place : goal.invariant-loop-place
invariant-loop-place l = fields (drop l.place l.line) ≡ fields l.line
