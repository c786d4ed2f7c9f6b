use Rattle.std.proofs.Common.{◌≡◌, ◌≤◌, ℕ, List, ◌+◌, ◌-◌, vec_len, vec_capacity}
use Rattle.wb_base.proofs.Pieces.{SoFar}
use Rattle.wb_base.proofs.reading.read_into.Given as goal

abbrev pub invariant-reading : goal.invariant-reading
invariant-reading g l = ((n : List ℕ) → g.S.Shelf.content l.shelf n ≡ g.S.Shelf.content l.initial.shelf n)
    × (g.S.Shelf.faults l.shelf ≡ g.S.Shelf.faults l.initial.shelf)
    × (vec_len l.bytes ≤ l.limit + 4096)
    × (l.limit + 4096 ≤ vec_capacity l.bytes)
    × SoFar (g.S.Shelf.content l.initial.shelf l.name) l.bytes.items

abbrev pub decreases-reading : goal.decreases-reading
decreases-reading g l = (l.limit + 1) - vec_len l.bytes
