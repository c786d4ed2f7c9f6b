-- Entries: points with the inputs whose held runs pass them, and with the machines that these have there.
--
-- What an entry is, is left open: a view says of each its point, under which inputs its condition is true, and for
-- which machines it stands.
use Rattle.std.specs.Prelude.{◌≡◌, ◌≢◌, ◌↔◌, ◌≤◌, Bool, true, ◌||◌, Option, Some, List, [], ◌∷◌, ◌++◌, ◌⊎◌, Contains}
use Rattle.wb_rom.specs.declared.images.Image.{Image}
use Rattle.wb_term.specs.Inputs.{Assignment, IsAssignment}
use Rattle.wb_machine.specs.State.{State, IsState}
use Rattle.wb_machine.specs.Next.{next}
use Rattle.wb_port.specs.declared.chips.Chip.{Chip}
use Rattle.wb_port.specs.declared.points.Point.{Point}
use Rattle.wb_port.specs.NextPoint.{shown_of, point_stepped}
use Rattle.wb_law.specs.Classes.{rank_at}
use Rattle.wb_law.specs.Strides.{LeadsTo}
use Rattle.wb_explore.specs.Runs.{Runs, Comes, point_in}

-- what entries of a type say
pub record View (E : Type 0) : Type 1 where
  pub key : E → Point
  pub holds : E → Assignment → Bool
  pub stands : E → Assignment → State → Type 0
  pub witness : E → Option Assignment

-- under the inputs the condition of the entry is true, the chip is at its point, and the entry stands for its machine
pub record IsAt {E : Type 0} (v : View E) (r : Runs) (i : Assignment) (e : E) (c : Chip) : Type 0 where
  pub holds : v.holds e i ≡ true
  pub stands : v.stands e i c.machine
  pub key : point_in r c ≡ v.key e

-- where the condition is true, the held chip comes to such a chip
abbrev pub IsSound : {E : Type 0} → View E → Runs → E → Type 0
IsSound v r e =
    (i : Assignment) → IsAssignment i → v.holds e i ≡ true → (c : Chip) × Comes r i c × IsAt v r i e c

abbrev pub AreSound : {E : Type 0} → View E → Runs → List E → Type 0
AreSound {E} v r es = (e : E) → Contains es e → IsSound v r e

-- some of the entries is at the chip
pub record IsAtSome {E : Type 0} (v : View E) (r : Runs) (es : List E) (i : Assignment) (c : Chip) : Type 0 where
  pub entry : E
  pub listed : Contains es entry
  pub is_at : IsAt v r i entry c

-- some of the entries is at a chip from which the held chip comes to this one
pub record IsAhead {E : Type 0} (v : View E) (r : Runs) (es : List E) (i : Assignment) (c : Chip) : Type 0 where
  pub at : Chip
  pub comes : Comes r i at
  pub some : IsAtSome v r es i at
  pub leads : LeadsTo r.image r.pace true at c

-- each chip to which the held chip comes has been seen, or an entry is at or before it
abbrev pub Covered : {E : Type 0} → View E → Runs → List E → (Assignment → Chip → Type 0) → Type 0
Covered v r es seen =
    (i : Assignment) → IsAssignment i → (c : Chip) → Comes r i c → seen i c ⊎ IsAhead v r es i c

-- where some of the one list is at a chip, some of the other is
abbrev pub Carries : {E : Type 0} → Runs → View E → List E → View E → List E → Type 0
Carries r v es w fs =
    (i : Assignment) → IsAssignment i → (c : Chip) → Comes r i c → IsAtSome v r es i c → IsAtSome w r fs i c

-- no two entries have one point
abbrev pub AreApart : {E : Type 0} → (E → Point) → List E → Type 0
AreApart key [] = Unit {0}
AreApart {E} key (e ∷ es) = ((f : E) → Contains es f → key e ≢ key f) × AreApart key es

-- the first list without one of its entries is the second
pub record Taken {E : Type 0} (old new : List E) (e : E) : Type 0 where
  pub front : List E
  pub back : List E
  pub was : old ≡ front ++ e ∷ back
  pub remains : new ≡ front ++ back

-- one entry in place of two of one point: its condition is true where one of theirs is, and it stands for the
-- machines of the first where that one's is true, else for those of the second
pub record Joins {E : Type 0} (v : View E) (one other joined : E) : Type 0 where
  pub same : v.key one ≡ v.key other
  pub key : v.key joined ≡ v.key one
  pub holds : (i : Assignment) → IsAssignment i → v.holds joined i ≡ (v.holds one i || v.holds other i)
  pub stands_one : (i : Assignment) → IsAssignment i → v.holds one i ≡ true → (m : State) → v.stands one i m → v.stands joined i m
  pub stands_other : (i : Assignment) → IsAssignment i → v.holds one i ≢ true → (m : State) → v.stands other i m → v.stands joined i m

-- the entry that comes of another by one instruction: where its condition is true the other's is, and it stands for
-- the machines after the instruction, at their point
pub record FollowsOn {E : Type 0} (v : View E) (image : Image) (e next_entry : E) : Type 0 where
  pub holds : (i : Assignment) → IsAssignment i → v.holds next_entry i ≡ true → v.holds e i ≡ true
  pub stands : (i : Assignment) → IsAssignment i → v.holds next_entry i ≡ true → (m : State) → IsState m → v.stands e i m → v.stands next_entry i (next image m)
  pub key : (i : Assignment) → IsAssignment i → v.holds next_entry i ≡ true → (m : State) → IsState m → v.stands e i m → v.key next_entry ≡ point_stepped image (shown_of (next image m)) (v.key e)

-- each witness is an assignment under which the condition is true
abbrev pub AreWitnessed : {E : Type 0} → View E → List E → Type 0
AreWitnessed {E} v es =
    (e : E) → Contains es e → (w : Assignment) → v.witness e ≡ Some w → IsAssignment w × (v.holds e w ≡ true)

-- the condition of the entry is true under exactly the inputs whose held run passes its point after the last access
abbrev pub SaysPassing : {E : Type 0} → View E → Runs → E → Type 0
SaysPassing v r e =
    (i : Assignment) → IsAssignment i
    → (v.holds e i ≡ true) ↔ ((c : Chip) × Comes r i c × (point_in r c ≡ v.key e))

-- no entry has a lower rank
abbrev pub IsLeast : {E : Type 0} → View E → Runs → List E → E → Type 0
IsLeast {E} v r es e =
    (f : E) → Contains es f → rank_at r.image r.pace (v.key e) ≤ rank_at r.image r.pace (v.key f)

-- the only entry with its point
abbrev pub IsOnly : {E : Type 0} → View E → List E → E → Type 0
IsOnly {E} v es e = (f : E) → Contains es f → v.key f ≡ v.key e → f ≡ e
