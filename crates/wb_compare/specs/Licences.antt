-- Why a comparison may leave its question open.
use Rattle.std.specs.Prelude.{◌≡◌, ◌+◌, ◌≤◌, List, length, Contains}
use Rattle.wb_rom.specs.declared.images.Image.{Image}
use Rattle.wb_port.specs.Talk.{Talk, kinds}
use Rattle.wb_port.specs.Dialogue.{input_bits}
use Rattle.wb_port.specs.Points.{Passes, image_of}
use Rattle.wb_derive.specs.declared.steps.Step.{Step}
use Rattle.wb_solve.specs.Answers.{IsSpent}
use Rattle.wb_point.specs.Says.{Says}
use Rattle.wb_explore.specs.declared.reached.ReachedPoint.{ReachedPoint}
use Rattle.wb_explore.specs.declared.faults.Asked.{Asked}
use Rattle.wb_explore.specs.Purses.{AreDifferent}
use Rattle.wb_compare.specs.declared.questions.Question.{Question}
use Rattle.wb_compare.specs.declared.verdicts.Spent.{Spent}
use Rattle.wb_compare.specs.declared.verdicts.Spent.TheVariants as spent
use Rattle.wb_compare.specs.Questions.{FitsQuestion, IsPlainOf}

-- the held run of the dialogue, which fits, passes the point on the point's side
pub record IsReachedBy (a b : Image) (q : Question) (x : ReachedPoint) : Type 0 where
  pub plain : IsPlainOf q x.dialogue
  pub passes : Passes (image_of a b x.point.side) x.point.side q.k x.dialogue x.point

-- one point more than the budget has, pairwise different, each with a dialogue that reaches it
pub record AreTooMany (a b : Image) (q : Question) (list : List ReachedPoint) : Type 0 where
  pub different : AreDifferent list
  pub count : length list ≡ q.budget.points + 1
  pub reached : (x : ReachedPoint) → Contains list x → IsReachedBy a b q x

-- the question asked is one about dialogues that fit, and the formula says it of these images
pub record IsAskedOf (a b : Image) (q : Question) (asked : Asked) : Type 0 where
  pub dialogue : Talk
  pub fits : FitsQuestion q dialogue
  pub kinds : kinds dialogue.accesses ≡ asked.query.kinds
  pub says : Says a b q.k q.power asked.blasted.formula asked.blasted.places.items asked.query

-- the search on the formula made as many steps as it may, and the formula has no more inputs than a fitting dialogue
-- may choose
pub record IsHard (a b : Image) (q : Question) (asked : Asked) (steps : List Step) : Type 0 where
  pub of_question : IsAskedOf a b q asked
  pub spent : IsSpent asked.blasted.formula q.budget.conflicts steps
  pub bits : asked.blasted.formula.inputs ≤ input_bits q.shape q.power

abbrev pub IsLicence : Image → Image → Question → Spent → Type 0
IsLicence a b q (spent.Points list) = AreTooMany a b q list
IsLicence a b q (spent.Conflicts asked steps) = IsHard a b q asked steps
