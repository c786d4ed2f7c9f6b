-- The clauses of a circuit: those of its gates, in order, and then that of its goal.
use Rattle.std.specs.Prelude.{◌≡◌, ℕ, ◌+◌, ◌≤◌, nat_lt, Bool, true, List, [], ◌∷◌, ◌++◌, length, take, Option, Some, None}
use Rattle.std.specs.List.{list_all, list_any, slice_get}
use Rattle.arrayvec.specs.ArrayVec.{ArrayVec}
use Rattle.wb_gate.specs.declared.gates.Lit.{Lit}
use Rattle.wb_gate.specs.declared.gates.Gate.{Gate}
use Rattle.wb_gate.specs.declared.gates.Gate.TheVariants.{And, Xor, Mux, Maj}
use Rattle.wb_gate.specs.declared.gates.Goal.{Goal}
use Rattle.wb_gate.specs.declared.gates.Goal.TheVariants as goal
use Rattle.wb_gate.specs.Circuit.{Circuit, Assignment, lit_value, minus, variable}

abbrev two : Lit → Lit → List Lit
two x y = x ∷ y ∷ []

abbrev three : Lit → Lit → Lit → List Lit
three x y z = x ∷ y ∷ z ∷ []

-- the defining clauses of a gate whose variable is g
abbrev pub gate_clauses : Lit → Gate → List (List Lit)
gate_clauses g (And x y) = two (minus g) x ∷ two (minus g) y ∷ three g (minus x) (minus y) ∷ []
gate_clauses g (Xor x y) =
    three (minus g) x y ∷ three (minus g) (minus x) (minus y)
    ∷ three g (minus x) y ∷ three g x (minus y) ∷ []
gate_clauses g (Mux c x y) =
    three (minus g) (minus c) x ∷ three g (minus c) (minus x)
    ∷ three (minus g) c y ∷ three g c (minus y) ∷ []
gate_clauses g (Maj x y z) =
    three (minus g) x y ∷ three (minus g) x z ∷ three (minus g) y z
    ∷ three g (minus x) (minus y) ∷ three g (minus x) (minus z) ∷ three g (minus y) (minus z) ∷ []

-- the clauses of gates whose variables begin with this one
abbrev pub clauses_from : ℕ → List Gate → List (List Lit)
clauses_from next [] = []
clauses_from next (gate ∷ gates) = gate_clauses (variable next) gate ++ clauses_from (next + 1) gates

-- a goal that is a literal is a clause of it alone; the one that is never met is the empty clause, and the one
-- that always is adds none
abbrev pub goal_clauses : Goal → List (List Lit)
goal_clauses (goal.Lit l) = (l ∷ []) ∷ []
goal_clauses goal.Never = [] ∷ []
goal_clauses goal.Always = []

abbrev pub gates_clauses : Circuit → List (List Lit)
gates_clauses c = clauses_from c.inputs c.gates

abbrev pub clauses_of : Circuit → List (List Lit)
clauses_of c = gates_clauses c ++ goal_clauses c.goal

-- an assignment satisfies a clause where it makes some literal of it true, and clauses where it satisfies each
abbrev pub satisfies_clause : Assignment → List Lit → Bool
satisfies_clause v clause = list_any (lit_value v) clause

abbrev pub SatisfiesAll : Assignment → List (List Lit) → Type 0
SatisfiesAll v clauses = list_all (satisfies_clause v) clauses ≡ true

-- an assignment satisfies a circuit where it satisfies its clauses
abbrev pub Satisfies : Assignment → Circuit → Type 0
Satisfies v c = SatisfiesAll v (clauses_of c)

-- how many clauses the first so many gates have
abbrev pub clauses_before : Circuit → ℕ → ℕ
clauses_before c count = length (clauses_from c.inputs (take count c.gates))

-- the clause of this number, counted from 0, is this one, or there is none
abbrev pub IsClauseAt : List (List Lit) → ℕ → Option (ArrayVec Lit) → Type 0
IsClauseAt clauses number None = length clauses ≤ number
IsClauseAt clauses number (Some clause) = slice_get clauses number ≡ Some clause.items

-- the clause names only variables below n
abbrev pub names_only : ℕ → List Lit → Bool
names_only n clause = list_all (λ l. nat_lt l.var n) clause

-- a clause of a formula names only its variables
abbrev pub NamesOnly : ℕ → Option (ArrayVec Lit) → Type 0
NamesOnly n None = Unit {0}
NamesOnly n (Some clause) = names_only n clause.items ≡ true
