-- How lists of kinds grow, letter by letter.
use Rattle.std.specs.Prelude.{Bool, true, false, if◌then◌else◌, ◌&&◌, ◌==◌, Option, Some, None, List, [], ◌∷◌, ◌++◌, length, slice_get, Contains}
use Rattle.std.specs.List.{flat_map}
use Rattle.wb_port.specs.declared.accesses.Kind.{Kind}
use Rattle.wb_port.specs.declared.accesses.Kind.TheVariants as kind
use Rattle.wb_port.specs.declared.accesses.Letter.{Letter}
use Rattle.wb_port.specs.declared.accesses.Letter.TheVariants as letter
use Rattle.wb_compare.specs.declared.pairs.Pair.{Pair}

-- whether the letter, where there is one, allows a transfer of this kind
abbrev pub allows : Option Letter → Kind → Bool
allows None k = false
allows (Some letter.R) kind.Read = true
allows (Some letter.R) kind.Write = false
allows (Some letter.W) kind.Read = false
allows (Some letter.W) kind.Write = true
allows (Some letter.X) k = true

-- whether the shape allows a transfer of this kind after transfers of these kinds
abbrev pub allows_next : List Letter → List Kind → Kind → Bool
allows_next shape ks k = allows (slice_get shape (length ks)) k

-- the kinds with this one after them, where the shape allows it
abbrev pub next_if : List Letter → List Kind → Kind → List (List Kind)
next_if shape ks k = if allows_next shape ks k then (ks ++ k ∷ []) ∷ [] else []

-- what the shape allows after these kinds: a read, then a write
abbrev pub nexts : List Letter → List Kind → List (List Kind)
nexts shape ks = next_if shape ks kind.Read ++ next_if shape ks kind.Write

-- the kinds of two layers of one dialogue
abbrev pub kinds_of : Pair → List Kind
kinds_of p = p.first.plan.kinds

-- neither side has a request state
abbrev pub is_silent : Pair → Bool
is_silent p = (length p.first.requests == 0) && (length p.second.requests == 0)

-- the kinds that are to be followed after two layers: none where neither side has a request
abbrev pub nexts_of : List Letter → Pair → List (List Kind)
nexts_of shape p = if is_silent p then [] else nexts shape (kinds_of p)

abbrev pub all_nexts : List Letter → List Pair → List (List Kind)
all_nexts shape ps = flat_map (nexts_of shape) ps

-- no list of kinds stands twice
abbrev pub AreDistinct : List (List Kind) → Type 0
AreDistinct [] = Unit {0}
AreDistinct (ks ∷ rest) = (Contains rest ks → ⊥) × AreDistinct rest
