-- Why a walk stops, told from its beginning, and what an oracle has given on the way.
use Rattle.std.proofs.Common.{◌≡◌, ℕ, ◌+◌, Bool, Option, Some, None, List, refl, sym, ap, subst, ◌∙◌, inl, inr}
use Rattle.wb_rom.specs.declared.images.Image.{Image}
use Rattle.wb_gate.specs.Circuit.{Circuit}
use Rattle.wb_solve.specs.declared.search.Answer.{Answer}
use Rattle.wb_solve.specs.Answers.{IsSpent}
use Rattle.wb_query.specs.Oracles.{AnswersNext, GivesOneMore, GivesAtMostOneMore}
use Rattle.wb_explore.specs.declared.plan.Plan.{Plan}
use Rattle.wb_explore.specs.declared.budget.Budget.{Budget}
use Rattle.wb_explore.specs.declared.faults.ExploreFault.{ExploreFault}
use Rattle.wb_explore.specs.declared.faults.ExploreFault.TheVariants as fault
use Rattle.wb_explore.specs.Purses.{Holding}
use Rattle.wb_explore.specs.Layers.{AddsPassed}
use Rattle.wb_explore.specs.Faults.{IsCause, OfBadAnswer, IsLastAnswer, StillTells}
use Rattle.wb_explore.specs.Pending.{IsUnput}
use Rattle.wb_explore.specs.Walk.{IsStopped}
use Rattle.wb_explore.proofs.Onward.{adds_passed}

module _ (image : Image) (p : Plan) where
  pub unput_stopped : (before : Holding) (f : ExploreFault) → IsUnput image p before f → IsStopped image p before f
  unput_stopped before (fault.Points list) u = u
  unput_stopped before fault.OutOfMemory u = tt
  unput_stopped before (fault.Breach d at) u = absurd u
  unput_stopped before (fault.Conflicts a b) u = absurd u
  unput_stopped before (fault.BadAnswer a b) u = absurd u

  pub stopped_cause : (sound : Bool) (before : Holding) (f : ExploreFault) → IsStopped image p before f → IsCause image p sound before f
  stopped_cause sound before (fault.Points list) u = u
  stopped_cause sound before fault.OutOfMemory u = tt
  stopped_cause sound before (fault.Breach d at) u = u
  stopped_cause sound before (fault.Conflicts a b) u = absurd u
  stopped_cause sound before (fault.BadAnswer a b) u = absurd u

  pub unput_cause : (sound : Bool) (before : Holding) (f : ExploreFault) → IsUnput image p before f → IsCause image p sound before f
  unput_cause sound before f u = stopped_cause sound before f (unput_stopped before f u)

  -- a cause after points were added is one of the purse before
  pub cause_later : (one other : Bool) (before mid : Holding) → AddsPassed image p before.reached mid.reached → mid.budget ≡ before.budget → one ≡ other → (f : ExploreFault) → IsCause image p one mid f → IsCause image p other before f
  cause_later one other before mid adds same sound (fault.Points list) u = record {
    adds = adds_passed image p before.reached mid.reached list adds u.adds;
    different = u.different;
    count = u.count ∙ ap (λ (b : Budget). b.points + 1) same;
  }
  cause_later one other before mid adds same sound fault.OutOfMemory u = tt
  cause_later one other before mid adds same sound (fault.Breach d at) u = u
  cause_later one other before mid adds same sound (fault.Conflicts a b) u = (u.0, subst (λ (n : ℕ). IsSpent a.blasted.formula n b) (ap (λ (x : Budget). x.conflicts) same) u.1, sym sound ∙ u.2)
  cause_later one other before mid adds same sound (fault.BadAnswer a b) u = (u.0, u.1, sym sound ∙ u.2)

  -- a walk that stops at an entry has no wrong answer
  pub stopped_right : (P : Circuit → Answer → Type 0) (before : Holding) (f : ExploreFault) → IsStopped image p before f → OfBadAnswer P f
  stopped_right P before (fault.Points list) u = tt
  stopped_right P before fault.OutOfMemory u = tt
  stopped_right P before (fault.Breach d at) u = tt
  stopped_right P before (fault.Conflicts a b) u = tt
  stopped_right P before (fault.BadAnswer a b) u = absurd u

  pub unput_right : (P : Circuit → Answer → Type 0) (before : Holding) (f : ExploreFault) → IsUnput image p before f → OfBadAnswer P f
  unput_right P before f u = stopped_right P before f (unput_stopped before f u)

pub bad_answer : (P Q : Circuit → Answer → Type 0) → ((c : Circuit) (a : Answer) → P c a → Q c a) → (f : ExploreFault) → OfBadAnswer P f → OfBadAnswer Q f
bad_answer P Q more (fault.BadAnswer asked answer) u = more asked.blasted.formula answer u
bad_answer P Q more (fault.Breach d at) u = tt
bad_answer P Q more (fault.Points list) u = tt
bad_answer P Q more (fault.Conflicts a b) u = tt
bad_answer P Q more fault.OutOfMemory u = tt

-- what an oracle has given

pub tells_same : (held : Option (List Answer)) (given : Option ℕ) → StillTells held given given
tells_same (Some answers) (Some n) = (n, refl)
tells_same (Some answers) None = tt
tells_same None given = tt

tells_one_more : (held : Option (List Answer)) (before after : Option ℕ) → GivesOneMore held before after → StillTells held before after
tells_one_more (Some answers) (Some n) after u = (_, u)
tells_one_more (Some answers) None after u = tt
tells_one_more None before after u = tt

pub tells_more : (held : Option (List Answer)) (before after : Option ℕ) → GivesAtMostOneMore held before after → StillTells held before after
tells_more held before after u = elim u [
  | inl same ↦ subst (λ (x : Option ℕ). StillTells held before x) (sym same) (tells_same held before)
  | inr more ↦ tells_one_more held before after more
]

pub tells_on : (held : Option (List Answer)) (a b c : Option ℕ) → StillTells held a b → StillTells held b c → StillTells held a c
tells_on (Some answers) (Some n) b c (m, e) v = subst (λ (x : Option ℕ). StillTells (Some answers) x c) e v
tells_on (Some answers) None b c u v = tt
tells_on None a b c u v = tt

pub last_first : (held : Option (List Answer)) (before after : Option ℕ) (c : Circuit) (a : Answer) → AnswersNext c held before after a → IsLastAnswer held before after c a
last_first (Some answers) (Some n) after c a u = (n, u)
last_first (Some answers) None after c a u = tt
last_first None before after c a u = tt

pub last_later : (held : Option (List Answer)) (a b after : Option ℕ) → StillTells held a b → (c : Circuit) (x : Answer) → IsLastAnswer held b after c x → IsLastAnswer held a after c x
last_later (Some answers) (Some n) b after (m, e) c x v = subst (λ (y : Option ℕ). IsLastAnswer (Some answers) y after c x) e v
last_later (Some answers) None b after u c x v = tt
last_later None a b after u c x v = tt
