-- Which dialogues a comparison speaks of.
use Rattle.std.specs.Prelude.{◌≡◌, ◌≤◌, length, All}
use Rattle.wb_port.specs.Talk.{Talk, IsTransfer}
use Rattle.wb_port.specs.Dialogue.{Fits}
use Rattle.wb_compare.specs.declared.questions.Question.{Question}

-- at most 16 transfers with as many letters, a pace, and a budget of points
pub record IsQuestion (q : Question) : Type 0 where
  pub few : q.n ≤ 16
  pub shaped : length q.shape ≡ q.n
  pub paced : 1 ≤ q.k
  pub slow : q.k ≤ 8191
  pub some : 1 ≤ q.budget.points
  pub most : q.budget.points ≤ 8192

-- the dialogue fits the question
abbrev pub FitsQuestion : Question → Talk → Type 0
FitsQuestion q d = Fits q.n q.shape q.power d

-- the dialogue fits the question, and has no status read
pub record IsPlainOf (q : Question) (d : Talk) : Type 0 where
  pub fits : FitsQuestion q d
  pub transfers : All IsTransfer d.accesses
