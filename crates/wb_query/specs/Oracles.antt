-- What an oracle that tells its list of answers gives next.
use Rattle.std.specs.Prelude.{◌≡◌, ℕ, ◌+◌, ◌≤◌, ◌⊎◌, Bool, false, List, [], ◌++◌, length, min, Option, Some, None, slice_get, slice_index_or}
use Rattle.wb_gate.specs.Circuit.{Circuit, Assignment, Obeys}
use Rattle.wb_solve.specs.declared.search.Answer.{Answer}
use Rattle.wb_solve.specs.declared.search.Answer.TheVariants.{Sat, Unsat, Spent}

-- the assignment that a list gives, false past its end
abbrev pub assigned : List Bool → Assignment
assigned values x = slice_index_or values x false

-- To values of the inputs alone one value for each gate is added: the gate's, where there is one value for each input.
pub record AddsGateValues (c : Circuit) (bits values : List Bool) : Type 0 where
  pub added : List Bool
  pub whole : values ≡ bits ++ added
  pub count : length added ≡ length c.gates
  pub gates : length bits ≡ c.inputs → Obeys (assigned values) c

-- the answer of the list's place: that of the list, or a spent search without a step where none is left
abbrev pub IsNextAnswer : Circuit → Option Answer → Answer → Type 0
IsNextAnswer c None answer = answer ≡ Spent []
IsNextAnswer c (Some (Sat bits)) (Sat values) = AddsGateValues c bits values
IsNextAnswer c (Some (Sat bits)) answer = ⊥
IsNextAnswer c (Some (Unsat steps)) answer = answer ≡ Unsat steps
IsNextAnswer c (Some (Spent steps)) answer = answer ≡ Spent steps

-- Where an oracle tells the answers that it holds and how many it has given, it gives the next one, and the number
-- rises by one, at most to one more than there are answers.
abbrev pub AnswersNext : Circuit → Option (List Answer) → Option ℕ → Option ℕ → Answer → Type 0
AnswersNext c (Some answers) (Some before) (Some after) answer =
    IsNextAnswer c (slice_get answers before) answer × (after ≡ min (before + 1) (length answers + 1))
AnswersNext c (Some answers) (Some before) None answer = ⊥
AnswersNext c (Some answers) None after answer = Unit {0}
AnswersNext c None before after answer = Unit {0}

-- Where an oracle tells its answers and how many it has given, it has given one more, at most one more than there are.
abbrev pub GivesOneMore : Option (List Answer) → Option ℕ → Option ℕ → Type 0
GivesOneMore (Some answers) (Some before) after = after ≡ Some (min (before + 1) (length answers + 1))
GivesOneMore (Some answers) None after = Unit {0}
GivesOneMore None before after = Unit {0}

-- It has given as many as before, or one more.
abbrev pub GivesAtMostOneMore : Option (List Answer) → Option ℕ → Option ℕ → Type 0
GivesAtMostOneMore held before after = (after ≡ before) ⊎ GivesOneMore held before after
