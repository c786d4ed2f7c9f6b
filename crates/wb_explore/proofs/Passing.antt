-- What is done with a confirmed entry, by its class.
use Rattle.std.proofs.Common.{◌≡◌, ℕ, ◌<◌, ◌≤◌, ◌%◌, true, false, Option, Some, None, List, [], refl, sym, ap, subst, ◌∙◌, arith, append-nil}
use Rattle.std.specs.Prelude.{is_some}
use Rattle.std.specs.Coded.{le_prop}
use Rattle.std.proofs.lemmas.Bool.{both_ways}
use Rattle.wb_word.specs.Encoding.{addr_at}
use Rattle.wb_word.specs.declared.numbers.Addr.{Addr}
use Rattle.wb_rom.specs.declared.images.Image.{Image}
use Rattle.wb_term.specs.Inputs.{Assignment}
use Rattle.wb_term.specs.Terms.{Terms}
use Rattle.wb_port.specs.declared.chips.Chip.{Chip}
use Rattle.wb_port.specs.declared.points.Point.{Point}
use Rattle.wb_port.specs.declared.runs.Run.TheVariants.{Breach}
use Rattle.wb_port.specs.Run.{EndsAs}
use Rattle.wb_port.specs.Monitor.{place}
use Rattle.wb_port.specs.Talk.{Talk}
use Rattle.wb_port.specs.Verdicts.{Overruns}
use Rattle.wb_law.specs.declared.classes.Class.TheVariants as class
use Rattle.wb_law.specs.Classes.{class_at}
use Rattle.wb_symstep.specs.Laws.{GrowthKeepsStates}
use Rattle.wb_point.specs.Dialogues.{dialogue_under}
use Rattle.wb_point.specs.Laws.{DialoguesAreOfTheirKinds}
use Rattle.wb_explore.specs.declared.plan.Plan.{Plan}
use Rattle.wb_explore.specs.declared.entries.Entry.{Entry}
use Rattle.wb_explore.specs.declared.reached.ReachedPoint.{ReachedPoint}
use Rattle.wb_explore.specs.declared.faults.ExploreFault.{ExploreFault}
use Rattle.wb_explore.specs.declared.faults.ExploreFault.TheVariants as fault
use Rattle.wb_explore.specs.HeldLaws.{HeldLaws}
use Rattle.wb_explore.specs.Runs.{Comes}
use Rattle.wb_explore.specs.Entries.{IsAt, IsSound}
use Rattle.wb_explore.specs.Plans.{runs_of, IsPlanned}
use Rattle.wb_explore.specs.Purses.{Holding}
use Rattle.wb_explore.specs.Explored.{KeepsRight, KeepsOlder}
use Rattle.wb_explore.specs.Layers.{AddsPassed, IsOverrun}
use Rattle.wb_explore.specs.Pending.{entry_view, IsEntry, ArePending, AreAhead, IsGoneOn}
use Rattle.wb_explore.specs.Walk.{IsDialogueOf, IsBreachOf, IsRemembered, IsDone, IsStopped}
use Rattle.wb_explore.proofs.Covering.{class_of}
use Rattle.wb_explore.proofs.Ending.{breaks_at, overruns_at}
use Rattle.wb_explore.proofs.Putting.{planned}
use Rattle.wb_explore.proofs.Lists.{listed_none}

-- an entry that goes on is below its pace
pub busy : (image : Image) (k : ℕ) (x : Point) → x.count ≤ k → class_at image k x ≡ class.GoesOn → x.count < k
unfolding class_at
busy image k x most q = grind (arith, q, most)

-- the address that a number in range gives is that number
pub addr_is : (a : Addr) → addr_at a.value ≡ a
addr_is a =
    let same : a.value % 2048 ≡ a.value = let h : a.value < 2048 = a.in_range in omega arith in
    let P : ℕ → Type 0 = λ n. (h : n < 2048) → addr_at a.value ≡ (let x : Addr = record { value = n; in_range = h } in x) in
    subst P same (λ h. ap (λ (k : a.value % 2048 < 2048). let x : Addr = record { value = a.value % 2048; in_range = k } in x) (le_prop (addr_at a.value).in_range h)) a.in_range

pub older_same : (o : Option Talk) → KeepsOlder o o
older_same (Some d) = refl
older_same None = tt

older_then : (p : Plan) (e : Entry) (o n : Option Talk) → IsRemembered p e o n → KeepsOlder o n
older_then p e (Some d) n r = r
older_then p e None n r = tt

kept_then : (p : Plan) (e : Entry) (o n : Option Talk) → IsRemembered p e o n → is_some n ≡ true
kept_then p e (Some d) n r = ap is_some r
kept_then p e None (Some d) r = refl
kept_then p e None None r = absurd r

pub passes_none : (image : Image) (p : Plan) (reached : List ReachedPoint) → AddsPassed image p reached reached
passes_none image p reached = record { added = []; after = sym (append-nil reached); passed = λ r c. absurd (listed_none r c) }

witness_of : (o : Option Assignment) → is_some o ≡ true → (w : Assignment) × (o ≡ Some w)
witness_of (Some w) q = (w, refl)
witness_of None q = absurd (both_ways false refl q)

module _ (laws : HeldLaws) (kinds_law : DialoguesAreOfTheirKinds) (keeps : GrowthKeepsStates) (image : Image) (p : Plan) (g : Terms) (e : Entry) (x : IsEntry g image p e) (s : IsSound (entry_view g) (runs_of image p) e) (found : is_some e.witness ≡ true) where
  -- a chip of the entry's inputs
  at_witness : (w : Assignment) → e.witness ≡ Some w → (c : Chip) × Comes (runs_of image p) w c × IsAt (entry_view g) (runs_of image p) w e c
  at_witness w q = let t = x.witness w q in s w t.assignment t.reached

  pub breaks_there : class_at image p.pace e.key ≡ class.Breaches → (f : ExploreFault) → IsBreachOf p e f → (before : Holding) → IsStopped image p before f
  breaks_there q (fault.Breach d at) (of, there) before =
      let w = witness_of e.witness found in
      let t = at_witness w.0 w.1 in
      let does = class_of laws (runs_of image p) (entry_view g) e class.Breaches w.0 t.0 t.2 q in
      let ends : EndsAs image p.pace true (dialogue_under p.kinds w.0 p.power) (Breach (addr_at (place t.0))) = breaks_at laws (runs_of image p) w.0 t.0 t.1 does in
      let address : addr_at (place t.0) ≡ at = ap (λ (k : Point). addr_at k.pc) t.2.key ∙ sym there in
      let same = of w.0 w.1 in (
        subst (IsPlanned p) (sym same) (planned laws kinds_law keeps image p w.0 (x.witness w.0 w.1).assignment),
        subst (λ (y : Talk). EndsAs image p.pace true y (Breach at)) (sym same) (subst (λ (a : Addr). EndsAs image p.pace true (dialogue_under p.kinds w.0 p.power) (Breach a)) address ends),
      )
  breaks_there q fault.OutOfMemory u before = tt
  breaks_there q (fault.Points list) u before = absurd u
  breaks_there q (fault.Conflicts a b) u before = absurd u
  breaks_there q (fault.BadAnswer a b) u before = absurd u

  overrun_there : class_at image p.pace e.key ≡ class.Overruns → (d : Talk) → IsDialogueOf p e d → IsOverrun image p d
  overrun_there q d of =
      let w = witness_of e.witness found in
      let t = at_witness w.0 w.1 in
      let does = class_of laws (runs_of image p) (entry_view g) e class.Overruns w.0 t.0 t.2 q in
      let ends : Overruns image (dialogue_under p.kinds w.0 p.power) p.pace = overruns_at laws (runs_of image p) w.0 t.0 t.1 does in
      let k = planned laws kinds_law keeps image p w.0 (x.witness w.0 w.1).assignment in
      subst (IsOverrun image p) (sym (of w.0 w.1))
      (record { front = p.kinds; rest = []; parts = sym (append-nil p.kinds); kinds = k.kinds; transfers = k.transfers; start = k.start; overruns = ends })

  right_then : class_at image p.pace e.key ≡ class.Overruns → (o n : Option Talk) → KeepsRight image p o → IsRemembered p e o n → KeepsRight image p n
  right_then q (Some d) n right r = subst (KeepsRight image p) (sym r) right
  right_then q None (Some d) right r = overrun_there q d r
  right_then q None None right r = tt

  module _ (reached : List ReachedPoint) (es : List Entry) (a : ArePending g image p reached es) (h : AreAhead image p reached es e.rank) (o : Option Talk) (right : KeepsRight image p o) where
    -- it waits
    pub done_resting : class_at image p.pace e.key ≡ class.Rests → IsDone image p g g reached reached es e es o o
    done_resting q = record {
      pending = a;
      ahead = h;
      behind = λ y b. b;
      carries = λ i b c come t. t;
      arrives = λ r. absurd (let z : class.Rests ≡ class.GoesOn = sym q ∙ r in cc);
      stays = λ r. let z : class.Rests ≡ class.Breaches = sym q ∙ r in cc;
      kept = λ r. absurd (let z : class.Rests ≡ class.Overruns = sym q ∙ r in cc);
      right = right;
      older = older_same o;
      count = omega arith;
      longer = omega arith;
    }

    -- it overruns
    pub done_overrunning : class_at image p.pace e.key ≡ class.Overruns → (n : Option Talk) → IsRemembered p e o n → IsDone image p g g reached reached es e es o n
    done_overrunning q n r = record {
      pending = a;
      ahead = h;
      behind = λ y b. b;
      carries = λ i b c come t. t;
      arrives = λ s. absurd (let z : class.Overruns ≡ class.GoesOn = sym q ∙ s in cc);
      stays = λ s. let z : class.Overruns ≡ class.Breaches = sym q ∙ s in cc;
      kept = λ s. kept_then p e o n r;
      right = right_then q o n right r;
      older = older_then p e o n r;
      count = omega arith;
      longer = omega arith;
    }

    -- it goes on
    pub done_going : (k : Terms) (after : List ReachedPoint) (fs : List Entry) → class_at image p.pace e.key ≡ class.GoesOn → IsGoneOn image p g k reached after es e fs → IsDone image p g k reached after es e fs o o
    done_going k after fs q gone = record {
      pending = gone.pending;
      ahead = gone.ahead;
      behind = gone.behind;
      carries = gone.carries;
      arrives = λ r. gone.arrives;
      stays = λ r. let z : class.GoesOn ≡ class.Breaches = sym q ∙ r in cc;
      kept = λ r. absurd (let z : class.GoesOn ≡ class.Overruns = sym q ∙ r in cc);
      right = right;
      older = older_same o;
      count = gone.count;
      longer = gone.longer;
    }
