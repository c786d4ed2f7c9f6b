-- Entries: what a bit is in a circuit, a constant or a literal.
use Rattle.std.specs.Prelude.{◌≡◌, ℕ, ◌<◌, Bool, true, false}
use Rattle.wb_gate.specs.Circuit.{Circuit, Assignment, variables, lit_value, Obeys}
use Rattle.wb_equal.specs.declared.entries.Entry.{Entry}
use Rattle.wb_equal.specs.declared.entries.Entry.TheVariants.{T, F}
use Rattle.wb_equal.specs.declared.entries.Entry.TheVariants as entry

-- the truth value of an entry
abbrev pub entry_value : Assignment → Entry → Bool
entry_value v T = true
entry_value v F = false
entry_value v (entry.Lit l) = lit_value v l

-- the entry names a variable below n, where it is a literal
abbrev pub EntryBelow : ℕ → Entry → Type 0
EntryBelow n T = Unit {0}
EntryBelow n F = Unit {0}
EntryBelow n (entry.Lit l) = l.var < n

-- the entry is one of the circuit, and has this meaning under each assignment that obeys it
pub record IsEntry (c : Circuit) (e : Entry) (meaning : Assignment → Bool) : Type 0 where
  pub there : EntryBelow (variables c) e
  pub value : (v : Assignment) → Obeys v c → entry_value v e ≡ meaning v
