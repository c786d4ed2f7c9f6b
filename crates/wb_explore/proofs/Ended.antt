-- The clauses of a layer's making, of those of its beginning and of its walk.
use Rattle.std.proofs.Common.{◌≡◌, ◌≢◌, ℕ, ◌+◌, ◌<◌, ◌≤◌, Bool, true, false, Option, Some, None, Result, Ok, Err, IfOk, IfErr, OnOk, List, [], ◌∷◌, ◌++◌, length, refl, sym, ap, subst, ◌∙◌, arith, append_assoc}
use Rattle.std.proofs.lemmas.List.{length-append, length_push}
use Rattle.wb_word.specs.declared.sides.Side.{Side}
use Rattle.wb_rom.specs.declared.images.Image.{Image}
use Rattle.wb_term.specs.Terms.{Terms, Tables, table_of, table_words}
use Rattle.wb_term.specs.Growth.{Grown}
use Rattle.wb_gate.specs.Circuit.{Circuit}
use Rattle.wb_solve.specs.declared.search.Answer.{Answer}
use Rattle.wb_solve.specs.Answers.{IsSpent}
use Rattle.wb_port.specs.declared.accesses.Kind.{Kind}
use Rattle.wb_port.specs.Talk.{Talk}
use Rattle.wb_explore.specs.declared.plan.Plan.{Plan}
use Rattle.wb_explore.specs.declared.budget.Budget.{Budget}
use Rattle.wb_explore.specs.declared.reached.ReachedPoint.{ReachedPoint}
use Rattle.wb_explore.specs.declared.faults.ExploreFault.{ExploreFault}
use Rattle.wb_explore.specs.declared.faults.ExploreFault.TheVariants as fault
use Rattle.wb_explore.specs.Purses.{Holding}
use Rattle.wb_explore.specs.Faults.{IsCause, OfBadAnswer}
use Rattle.wb_explore.specs.Layers.{AddsPassed, IsOverrun, KeepsOverrun}
use Rattle.wb_explore.specs.Explored.{longer_plan, KeepsRight}
use Rattle.wb_explore.specs.Pending.{IsUnput}
use Rattle.wb_explore.proofs.Onward.{adds_passed}

-- what always holds holds at the end of what goes well
pub always : {A B : Type 0} {P : Type 0} (r : Result A B) → P → OnOk r P
always (Ok x) h = h
always (Err e) h = tt

pub if_ok : {A B : Type 0} {P Q : A → Type 0} (r : Result A B) → ((x : A) → P x → Q x) → IfOk r P → IfOk r Q
if_ok (Ok x) f h = f x h
if_ok (Err e) f h = h

pub if_ok_two : {A B : Type 0} {P Q R : A → Type 0} (r : Result A B) → ((x : A) → P x → Q x → R x) → IfOk r P → IfOk r Q → IfOk r R
if_ok_two (Ok x) f h k = f x h k
if_ok_two (Err e) f h k = h

pub if_ok_three : {A B : Type 0} {P Q R S : A → Type 0} (r : Result A B) → ((x : A) → P x → Q x → R x → S x) → IfOk r P → IfOk r Q → IfOk r R → IfOk r S
if_ok_three (Ok x) f h k l = f x h k l
if_ok_three (Err e) f h k l = h

pub adds_length : (image : Image) (p : Plan) (old new : List ReachedPoint) → (a : AddsPassed image p old new) → length new ≡ length old + length a.added
adds_length image p old new a = ap length a.after ∙ length-append old a.added

-- a cause after points were added is one of the purse before
pub cause_later : (image : Image) (p : Plan) (sound : Bool) (before mid : Holding) → AddsPassed image p before.reached mid.reached → mid.budget ≡ before.budget → (f : ExploreFault) → IsCause image p sound mid f → IsCause image p sound before f
cause_later image p sound before mid adds same (fault.Breach d at) u = u
cause_later image p sound before mid adds same (fault.Points list) u = record {
  adds = adds_passed image p before.reached mid.reached list adds u.adds;
  different = u.different;
  count = u.count ∙ ap (λ (b : Budget). b.points + 1) same;
}
cause_later image p sound before mid adds same (fault.Conflicts asked steps) u = (u.0, subst (λ (b : Budget). IsSpent asked.blasted.formula b.conflicts steps) same u.1, u.2)
cause_later image p sound before mid adds same (fault.BadAnswer asked answer) u = u
cause_later image p sound before mid adds same fault.OutOfMemory u = tt

-- what isn't put is a cause, and no bad answer

pub unput_cause : (image : Image) (p : Plan) (sound : Bool) (before : Holding) (f : ExploreFault) → IsUnput image p before f → IsCause image p sound before f
unput_cause image p sound before (fault.Points list) u = u
unput_cause image p sound before fault.OutOfMemory u = tt
unput_cause image p sound before (fault.Breach d at) u = absurd u
unput_cause image p sound before (fault.Conflicts a b) u = absurd u
unput_cause image p sound before (fault.BadAnswer a b) u = absurd u

pub unput_last : (image : Image) (p : Plan) (before : Holding) (P : Circuit → Answer → Type 0) (f : ExploreFault) → IsUnput image p before f → OfBadAnswer P f
unput_last image p before P (fault.Points list) u = tt
unput_last image p before P fault.OutOfMemory u = tt
unput_last image p before P (fault.Breach d at) u = absurd u
unput_last image p before P (fault.Conflicts a b) u = absurd u
unput_last image p before P (fault.BadAnswer a b) u = absurd u

-- an overrun that a layer keeps is one of first kinds of the longer ones
pub right_longer : (image : Image) (p : Plan) (k : Kind) (o : Option Talk) → KeepsOverrun image p o → KeepsRight image (longer_plan p k) o
right_longer image p k (Some d) x = record {
  front = x.front;
  rest = x.rest ++ k ∷ [];
  parts = ap (λ (ks : List Kind). ks ++ k ∷ []) x.parts ∙ append_assoc x.front x.rest (k ∷ []);
  kinds = x.kinds;
  transfers = x.transfers;
  start = x.start;
  overruns = x.overruns;
}
right_longer image p k None x = tt

-- one transfer more is few enough
pub longer_few : (o : Plan) (k : Kind) (p : Plan) → p ≡ longer_plan o k → length o.kinds < 16 → length p.kinds ≤ 16
longer_few o k p same short = subst (λ (n : Plan). length n.kinds ≤ 16) (sym same) (few o.kinds short)
  where
    few : (ks : List Kind) → length ks < 16 → length (ks ++ k ∷ []) ≤ 16
    few ks less = let n = length_push ks k in omega (arith, less)

-- the words of a side stay
pub same_words : (g h : Terms) → Grown g h → (side : Side) (words : List ℕ) → table_words g.tables (table_of g.tables side) ≡ words → table_words h.tables (table_of h.tables side) ≡ words
same_words g h grown side words e = ap (λ (t : Tables). table_words t (table_of t side)) grown.tables ∙ e
