use Rattle.std.proofs.Common.{◌≡◌, ◌-◌, ◌≤◌, ◌++◌, drop, vec_capacity}
use Rattle.wb_script.specs.Script.{copies}
use Rattle.wb_script.proofs.reader.repeat.Given as goal

-- so many copies have been written after the first
abbrev pub invariant-loop : goal.invariant-loop
invariant-loop l =
    (l.items.items ≡ l.fn.items.items ++ copies (l.counter - 1) (drop l.start l.fn.items.items))
    × (vec_capacity l.fn.items ≤ vec_capacity l.items)
