-- How a comparison ends before every dialogue was followed.
use Rattle.std.specs.Prelude.{ℕ, Bool, Option, List, Result, Ok, Err}
use Rattle.wb_word.specs.declared.sides.Side.{Side}
use Rattle.wb_rom.specs.declared.images.Image.{Image}
use Rattle.wb_solve.specs.declared.search.Answer.{Answer}
use Rattle.wb_query.specs.declared.asking.Found.{Found}
use Rattle.wb_query.specs.declared.asking.AskFault.{AskFault}
use Rattle.wb_query.specs.declared.asking.AskFault.TheVariants as ask
use Rattle.wb_point.specs.declared.question.Query.{Query}
use Rattle.wb_explore.specs.declared.faults.ExploreFault.{ExploreFault}
use Rattle.wb_explore.specs.declared.faults.ExploreFault.TheVariants as explore
use Rattle.wb_explore.specs.Faults.{IsLastAnswer, StillTells}
use Rattle.wb_compare.specs.declared.questions.Question.{Question}
use Rattle.wb_compare.specs.declared.endings.Ended.{Ended}
use Rattle.wb_compare.specs.declared.endings.Ended.TheVariants as ended
use Rattle.wb_compare.specs.declared.verdicts.Spent.TheVariants as spent
use Rattle.wb_compare.specs.declared.verdicts.Verdict.TheVariants as verdict
use Rattle.wb_compare.specs.declared.verdicts.CompareFault.TheVariants as fault
use Rattle.wb_compare.specs.Verdicts.{IsVerdict, IsCause, OfAnswered, OfBadAnswer}

-- the verdict or the cause that an exploration's fault on this side comes to
abbrev pub ended_by : Side → ExploreFault → Ended
ended_by s (explore.Breach d at) = ended.Shown (verdict.Breach s d at)
ended_by s (explore.Points list) = ended.Shown (verdict.Unknown (spent.Points list))
ended_by s (explore.Conflicts asked steps) = ended.Shown (verdict.Unknown (spent.Conflicts asked steps))
ended_by s (explore.BadAnswer asked answer) = ended.Failed (fault.BadAnswer asked answer)
ended_by s explore.OutOfMemory = ended.Failed fault.OutOfMemory

-- what a fault of asking comes to
abbrev pub ended_by_asking : Query → AskFault → Ended
ended_by_asking q (ask.Spent b steps) = ended.Shown (verdict.Unknown (spent.Conflicts (record { query = q; blasted = b }) steps))
ended_by_asking q (ask.BadAnswer b answer) = ended.Failed (fault.BadAnswer (record { query = q; blasted = b }) answer)
ended_by_asking q ask.OutOfMemory = ended.Failed fault.OutOfMemory

-- the verdict is right, or the cause is
abbrev pub IsEnded : Image → Image → Question → Bool → Ended → Type 0
IsEnded a b q sound (ended.Shown v) = IsVerdict a b q v
IsEnded a b q sound (ended.Failed f) = IsCause a b q sound f

-- what an oracle tells of its answers at such an end
abbrev pub EndTells : Option (List Answer) → Option ℕ → Option ℕ → Ended → Type 0
EndTells held before after (ended.Shown v) = OfAnswered (StillTells held before after) v
EndTells held before after (ended.Failed f) = OfBadAnswer (IsLastAnswer held before after) f

-- what is found, or what the fault of asking comes to
abbrev pub answered_by : Query → Result Found AskFault → Result Found Ended
answered_by q (Ok found) = Ok found
answered_by q (Err f) = Err (ended_by_asking q f)
