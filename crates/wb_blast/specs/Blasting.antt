-- What the formula of some bits says of their graph.
use Rattle.std.specs.Prelude.{◌≡◌, ◌↔◌, ℕ, ◌<◌, ◌≤◌, true, List, [], ◌∷◌, Some, length, slice_get}
use Rattle.wb_gate.specs.declared.gates.Goal.{Goal}
use Rattle.wb_gate.specs.declared.gates.Goal.TheVariants as goal
use Rattle.wb_gate.specs.Circuit.{Circuit, Assignment, variables, Obeys}
use Rattle.wb_gate.specs.Clauses.{Satisfies}
use Rattle.wb_term.specs.declared.nodes.BitId.{BitId}
use Rattle.wb_term.specs.Inputs.{Assignment as Inputs, IsAssignment}
use Rattle.wb_term.specs.Terms.{Terms}
use Rattle.wb_term.specs.Values.{bit_value}
use Rattle.wb_equal.specs.declared.entries.Entry.{Entry}
use Rattle.wb_equal.specs.declared.entries.Entry.TheVariants.{T, F}
use Rattle.wb_equal.specs.declared.entries.Entry.TheVariants as entry
use Rattle.wb_blast.specs.declared.places.Place.{Place}
use Rattle.wb_equal.specs.Entries.{entry_value, EntryBelow}
use Rattle.wb_blast.specs.Number.{IsGateNumber}
use Rattle.wb_blast.specs.Places.{GivesInputs, HasAssignment, ArePlaces}
use Rattle.wb_blast.specs.Words.{entry_at}

-- for all inputs the formula has an assignment of them exactly where the bit is true
abbrev pub AssignsWhereTrue : Terms → BitId → Circuit → List Place → Type 0
AssignsWhereTrue g bit c places = (i : Inputs) → IsAssignment i → HasAssignment c places i ↔ (bit_value i g bit ≡ true)

-- the assignment is the gate values of some inputs under which the bit is true
abbrev pub IsGateValue : Terms → BitId → Circuit → List Place → Assignment → Type 0
IsGateValue g bit c places v = Obeys v c × (i : Inputs) × IsAssignment i × GivesInputs v places i × (bit_value i g bit ≡ true)

-- the satisfying assignments are exactly the gate values of those inputs under which the bit is true
abbrev pub SatisfiedByGateValues : Terms → BitId → Circuit → List Place → Type 0
SatisfiedByGateValues g bit c places = (v : Assignment) → Satisfies v c ↔ IsGateValue g bit c places v

-- the gate number is at most the limit, and at most so many gates are there
pub record IsWithin (g : Terms) (bits : List BitId) (limit : ℕ) (c : Circuit) : Type 0 where
  pub number : ℕ
  pub is : IsGateNumber g bits number
  pub within : number ≤ limit
  pub few : length c.gates ≤ number

-- the gate number is over the limit
pub record IsOver (g : Terms) (bits : List BitId) (limit : ℕ) : Type 0 where
  pub number : ℕ
  pub is : IsGateNumber g bits number
  pub over : limit < number

-- the formula of a bit, with a place for each input variable
pub record IsBlasted (g : Terms) (bit : BitId) (limit : ℕ) (c : Circuit) (places : List Place) : Type 0 where
  pub assigns : AssignsWhereTrue g bit c places
  pub exactly : SatisfiedByGateValues g bit c places
  pub inputs : c.inputs ≡ length places
  pub wanted : ArePlaces g (bit ∷ []) places
  pub gates : IsWithin g (bit ∷ []) limit c

-- each entry has its bit's value under the gate values of all inputs, and equal bits have equal entries
pub record AreEntries (g : Terms) (bits : List BitId) (c : Circuit) (places : List Place) (entries : List Entry) : Type 0 where
  pub counted : length entries ≡ length bits
  pub there : (k : ℕ) (bit : BitId) → slice_get bits k ≡ Some bit → EntryBelow (variables c) (entry_at entries k)
  pub value : (i : Inputs) (v : Assignment) → IsAssignment i → GivesInputs v places i → Obeys v c → (k : ℕ) (bit : BitId) → slice_get bits k ≡ Some bit → entry_value v (entry_at entries k) ≡ bit_value i g bit
  pub same : (j k : ℕ) (bit : BitId) → slice_get bits j ≡ Some bit → slice_get bits k ≡ Some bit → entry_at entries j ≡ entry_at entries k

-- the formula of some bits, with a place for each input variable and an entry for each bit
pub record AreBlasted (g : Terms) (bits : List BitId) (limit : ℕ) (c : Circuit) (places : List Place) (entries : List Entry) : Type 0 where
  pub meant : AreEntries g bits c places entries
  pub inputs : c.inputs ≡ length places
  pub wanted : ArePlaces g bits places
  pub gates : IsWithin g bits limit c

-- the goal that an entry is true
abbrev pub goal_of : Entry → Goal
goal_of T = goal.Always
goal_of F = goal.Never
goal_of (entry.Lit l) = goal.Lit l
