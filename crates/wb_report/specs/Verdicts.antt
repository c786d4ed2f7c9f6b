-- The text of a verdict.
use Rattle.std.specs.Prelude.{◌≡◌, ℕ, true, false, List, [], ◌∷◌, ◌++◌, codes, decimal}
use Rattle.wb_word.specs.declared.sides.Side.{Side}
use Rattle.wb_rom.specs.declared.images.Image.{Image}
use Rattle.wb_port.specs.Talk.{Talk}
use Rattle.wb_port.specs.Points.{image_of}
use Rattle.wb_compare.specs.declared.questions.Question.{Question}
use Rattle.wb_compare.specs.declared.verdicts.Pace.TheVariants as pace
use Rattle.wb_compare.specs.declared.verdicts.Spent.TheVariants as spent
use Rattle.wb_compare.specs.declared.verdicts.Verdict.{Verdict}
use Rattle.wb_compare.specs.declared.verdicts.Verdict.TheVariants as verdict
use Rattle.wb_report.specs.Digits.{hex_address, letter, with_feed}
use Rattle.wb_report.specs.Said.{IsSaid}
use Rattle.wb_report.specs.Dialogues.{dialogue_text}
use Rattle.wb_report.specs.declared.heard.Heard.TheVariants as heard

-- the new text is the old one and then what has the property
pub record Adds (P : List ℕ → Type 0) (old new : List ℕ) : Type 0 where
  pub rest : List ℕ
  pub parts : new ≡ old ++ rest
  pub holds : P rest

-- the text is this line and then what has the property
abbrev pub Begins : List ℕ → (List ℕ → Type 0) → List ℕ → Type 0
Begins line P text = Adds P (with_feed line) text

-- A held dialogue on an image: each read has the reply that the held run gave it, and stands alone where the run
-- ended before.
pub record IsHeldText (image : Image) (k : ℕ) (d : Talk) (text : List ℕ) : Type 0 where
  pub said : List ℕ
  pub says : IsSaid image k true d said
  pub lines : text ≡ dialogue_text (heard.One said) d ++ with_feed (codes "HOLD")

-- A difference: each read and status read has A's reply and B's reply.
pub record IsDifferenceText (a b : Image) (k : ℕ) (d : Talk) (text : List ℕ) : Type 0 where
  pub first : List ℕ
  pub first_says : IsSaid a k false d first
  pub second : List ℕ
  pub second_says : IsSaid b k false d second
  pub lines : text ≡ dialogue_text (heard.Both first second) d

-- a word, the most transfers of a dialogue, and the pace
abbrev pub heading : List ℕ → Question → List ℕ
heading word q = word ++ decimal q.n ++ codes " " ++ decimal q.k

abbrev pub overrun_line : Side → List ℕ
overrun_line side = codes "OVERRUN " ++ letter side ∷ []

abbrev pub breach_line : Side → ℕ → List ℕ
breach_line side at = codes "BREACH " ++ letter side ∷ codes " " ++ hex_address at

abbrev pub IsVerdictText : Image → Image → Question → Verdict → List ℕ → Type 0
IsVerdictText a b q (verdict.Equal pace.Kept) text =
    text ≡ with_feed (heading (codes "EQUAL ") q) ++ with_feed (codes "PACE KEPT")
IsVerdictText a b q (verdict.Equal (pace.Overrun s d)) text =
    Begins (heading (codes "EQUAL ") q) (Begins (overrun_line s) (IsHeldText (image_of a b s) q.k d)) text
IsVerdictText a b q (verdict.Different d) text =
    Begins (heading (codes "DIFFERENT ") q) (IsDifferenceText a b q.k d) text
IsVerdictText a b q (verdict.Breach s d at) text =
    Begins (breach_line s at.value) (IsHeldText (image_of a b s) q.k d) text
IsVerdictText a b q (verdict.Unknown (spent.Points list)) text =
    text ≡ with_feed (codes "UNKNOWN POINTS " ++ decimal q.budget.points)
IsVerdictText a b q (verdict.Unknown (spent.Conflicts asked steps)) text =
    text ≡ with_feed (codes "UNKNOWN CONFLICTS " ++ decimal q.budget.conflicts)
