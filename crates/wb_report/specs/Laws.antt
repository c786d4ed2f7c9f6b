-- What is true of the texts of verdicts.
use Rattle.std.specs.Prelude.{◌≡◌, ℕ, Bool, List}
use Rattle.wb_rom.specs.declared.images.Image.{Image}
use Rattle.wb_port.specs.Talk.{Talk}
use Rattle.wb_compare.specs.declared.questions.Question.{Question}
use Rattle.wb_compare.specs.declared.verdicts.Verdict.{Verdict}
use Rattle.wb_report.specs.Said.{IsSaid}
use Rattle.wb_report.specs.Verdicts.{IsVerdictText}

-- Every run says one list of bytes until it ends.
abbrev pub RunsSayOneThing : Type 0
RunsSayOneThing =
    (image : Image) (k : ℕ) (held : Bool) (d : Talk) (these those : List ℕ)
    → IsSaid image k held d these → IsSaid image k held d those → these ≡ those

-- Every verdict has one text.
abbrev pub VerdictsHaveOneText : Type 0
VerdictsHaveOneText =
    (a b : Image) (q : Question) (v : Verdict) (this that : List ℕ)
    → IsVerdictText a b q v this → IsVerdictText a b q v that → this ≡ that
