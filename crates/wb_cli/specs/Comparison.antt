-- What comparing two images comes to.
use Rattle.std.specs.Prelude.{◌≡◌, ℕ}
use Rattle.wb_rom.specs.declared.images.Image.{Image}
use Rattle.wb_port.specs.declared.accesses.Power.TheVariants as power
use Rattle.wb_compare.specs.declared.questions.Question.{Question}
use Rattle.wb_compare.specs.Verdicts.{IsVerdict}
use Rattle.wb_gen.specs.Demo.{IsPairOf, body_of}
use Rattle.wb_gen.specs.Laws.{demo_transfers, demo_pace, demo_shape}
use Rattle.wb_cli.specs.declared.comparing.Compared.{Compared}

-- the images were compared by the question, with a verdict on them
pub record IsComparison (a b : Image) (q : Question) (c : Compared) : Type 0 where
  pub first : c.first ≡ a
  pub second : c.second ≡ b
  pub question : c.comparison.question ≡ q
  pub verdict : IsVerdict a b q c.verdict

-- what `demo` asks of its pair: with the budget that a comparison has by itself, and a RAM of zeros
abbrev pub demo_question : Question
demo_question =
    record {
      n = demo_transfers;
      k = demo_pace;
      shape = demo_shape;
      power = power.Zero;
      budget = record { points = 4096; conflicts = 100000 };
    }

-- the demo pair of the number was compared
pub record IsDemonstration (number : ℕ) (c : Compared) : Type 0 where
  pub pair : IsPairOf (body_of number) c.first c.second
  pub compared : IsComparison c.first c.second demo_question c
