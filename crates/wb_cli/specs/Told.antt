-- What the status of a comparison tells of the images in its two files.
use Rattle.std.specs.Prelude.{◌≡◌, ℕ, List, [], ◌∷◌}
use Rattle.std.specs.declared.option.Option.TheVariants.{Some}
use Rattle.wb_word.specs.declared.numbers.Addr.{Addr}
use Rattle.wb_word.specs.declared.sides.Side.{Side}
use Rattle.wb_rom.specs.declared.images.Image.{Image}
use Rattle.wb_rom.specs.ImageBytes.{IsImageOf}
use Rattle.wb_port.specs.Points.{image_of}
use Rattle.wb_port.specs.Talk.{Talk}
use Rattle.wb_port.specs.Verdicts.{Differs, Breaks}
use Rattle.wb_compare.specs.declared.questions.Question.{Question}
use Rattle.wb_compare.specs.Licences.{IsLicence}
use Rattle.wb_compare.specs.Questions.{FitsQuestion}
use Rattle.wb_compare.specs.Verdicts.{AreEqual}
use Rattle.wb_cli.specs.declared.statuses.Status.{Status}
use Rattle.wb_cli.specs.declared.statuses.Status.TheVariants as status
use Rattle.wb_cli.specs.Answers.{Answers, Met, Put}
use Rattle.wb_cli.specs.Files.{ReadsAll}
use Rattle.wb_cli.specs.Plan.{Plan, comparison_of, plan_of}

-- the files of a comparison hold these images, of which P holds
pub record OnImages (met : Met) (plan : Plan) (P : Image → Image → Type 0) : Type 0 where
  pub first_bytes : List ℕ
  pub second_bytes : List ℕ
  pub read : ReadsAll met.told plan.files (first_bytes ∷ second_bytes ∷ [])
  pub first : Image
  pub second : Image
  pub first_is : IsImageOf first_bytes first
  pub second_is : IsImageOf second_bytes second
  pub holds : P first second

-- some fitting dialogue differs
pub record AreToldApart (q : Question) (a b : Image) : Type 0 where
  pub dialogue : Talk
  pub fits : FitsQuestion q dialogue
  pub differs : Differs a b dialogue q.k

-- the held run of some fitting dialogue breaches, on one side
pub record IsBroken (q : Question) (a b : Image) : Type 0 where
  pub side : Side
  pub dialogue : Talk
  pub at : Addr
  pub fits : FitsQuestion q dialogue
  pub breaks : Breaks (image_of a b side) dialogue q.k at

-- what a status tells of the images
abbrev pub StatusTells : Met → Plan → Question → Status → Type 0
StatusTells met plan q status.Fine = OnImages met plan (λ a b. AreEqual a b q)
StatusTells met plan q status.Shown = OnImages met plan (AreToldApart q)
StatusTells met plan q status.Breach = OnImages met plan (IsBroken q)
StatusTells met plan q (status.Unknown spent) = OnImages met plan (λ a b. IsLicence a b q spent)
StatusTells met plan q _ = Unit {0}

-- The status of every comparison tells the truth of the images in its files: they answer alike, are told apart, or one
-- breaches; or the budget is spent, as the value shows that the status carries.
abbrev pub ComparisonsTell : Type 0
ComparisonsTell = (first second : List ℕ) (q : Question) (met : Met) (put : Put) (answer : Status)
    → plan_of met.words ≡ Some (comparison_of first second q) → Answers met put answer
    → StatusTells met (comparison_of first second q) q answer
