-- The entry at power-up.
use Rattle.std.proofs.Common.{◌≡◌, ◌≢◌, ℕ, ◌+◌, ◌<◌, ◌≤◌, ◌⊎◌, inl, inr, true, false, is_some, Option, Some, None, List, [], ◌∷◌, ◌++◌, length, replicate, slice_index, refl, sym, ap, subst, ◌∙◌, arith, lit<}
use Rattle.std.specs.Prelude.{Contains, All, AllPairs}
use Rattle.std.proofs.lemmas.List.{length_push, length-replicate, get_or-replicate, get_or_past, get_or_default}
use Rattle.std.proofs.lemmas.List.Elements.{Contains-push_cases}
use Rattle.std.proofs.lemmas.List.Quantifiers.{all_pairs_push}
use Rattle.std.proofs.lemmas.Bool.{both_ways, cases_lt}
use Rattle.wb_rom.specs.declared.images.Image.{Image}
use Rattle.wb_term.specs.declared.nodes.Node.{Node}
use Rattle.wb_term.specs.Inputs.{Assignment, IsAssignment}
use Rattle.wb_term.specs.Terms.{Terms}
use Rattle.wb_term.specs.Under.{HasOnly}
use Rattle.wb_machine.specs.State.{State, power, first_regs}
use Rattle.wb_port.specs.declared.accesses.Kind.{Kind}
use Rattle.wb_port.specs.declared.accesses.Power.{Power}
use Rattle.wb_port.specs.declared.accesses.Power.TheVariants as powers
use Rattle.wb_port.specs.declared.chips.Chip.{Chip}
use Rattle.wb_port.specs.declared.points.Point.{Point}
use Rattle.wb_port.specs.declared.points.Shown.{Shown}
use Rattle.wb_port.specs.Port.{rqm, drs}
use Rattle.wb_port.specs.Schedule.{powered}
use Rattle.wb_port.specs.Points.{point_at, Passes}
use Rattle.wb_port.specs.NextPoint.{showing, shown_of}
use Rattle.wb_law.specs.Course.{Given}
use Rattle.wb_symstep.specs.declared.state.SymState.{SymState}
use Rattle.wb_symstep.specs.State.{StateHasOnly}
use Rattle.wb_symstep.specs.Laws.{GrowthKeepsStates}
use Rattle.wb_point.specs.Shows.{shows}
use Rattle.wb_point.specs.Dialogues.{accesses_under, start_under, dialogue_under, normalised}
use Rattle.wb_point.specs.Laws.{DialoguesAreOfTheirKinds}
use Rattle.wb_explore.specs.declared.plan.Plan.{Plan}
use Rattle.wb_explore.specs.declared.entries.Entry.{Entry}
use Rattle.wb_explore.specs.declared.reached.ReachedPoint.{ReachedPoint}
use Rattle.wb_explore.specs.declared.faults.ExploreFault.{ExploreFault}
use Rattle.wb_explore.specs.declared.faults.ExploreFault.TheVariants as fault
use Rattle.wb_explore.specs.HeldLaws.{HeldLaws}
use Rattle.wb_explore.specs.Purses.{Holding, IsPurse, points_of}
use Rattle.wb_explore.specs.Runs.{Begins, Comes, point_in}
use Rattle.wb_explore.specs.Entries.{IsAt, IsSound, IsAtSome, Covered}
use Rattle.wb_explore.specs.Plans.{runs_of, is_chosen}
use Rattle.wb_explore.specs.Layers.{AddsPassed, IsPassedBy}
use Rattle.wb_explore.specs.Explored.{IsOfOther}
use Rattle.wb_explore.specs.Pending.{entry_view, IsEntry, IsWitness, IsFound, ArePending, AreAllFound, IsUnnoted, IsUnput, with_noted}
use Rattle.wb_explore.specs.Starts.{start_point, zero_inputs, IsStart}
use Rattle.wb_explore.proofs.Lists.{listed_head, listed_cases, listed_none, from_all, listed_point}
use Rattle.wb_explore.proofs.Putting.{talks, planned, last_listed}
use Rattle.wb_explore.proofs.Ending.{comes_passes}

-- inputs that are zero are inputs

zero_at : (n k : ℕ) → slice_index (replicate n 0) k ≡ 0
zero_at n k = by (cases_lt k n) where
  by : (k < n) ⊎ (n ≤ k) → slice_index (replicate n 0) k ≡ 0
  by (inl h) = get_or-replicate {A = ℕ} n k 0 0 h
  by (inr h) = get_or_past (replicate n 0) k 0 (subst (λ (m : ℕ). m ≤ k) (sym (length-replicate {A = ℕ} n 0)) h)

pub zero_assignment : IsAssignment zero_inputs
zero_assignment = record {
  bytes_len = length-replicate {A = ℕ} 16 0;
  cells_len = length-replicate {A = ℕ} 256 0;
  bytes = λ k. subst (λ (n : ℕ). n < 256) (sym (zero_at 16 k)) (lit< tt);
  cells = λ k. subst (λ (n : ℕ). n < 65536) (sym (zero_at 256 k)) (lit< tt);
}

zero_normal : (p : Power) → normalised [] p zero_inputs ≡ zero_inputs
zero_normal powers.Zero = refl
zero_normal powers.Any = refl

-- the point of a chip at power-up

powered_point : (p : Plan) (cells : List ℕ) → p.kinds ≡ [] → point_at p.side p.kinds (powered cells) ≡ start_point p
unfolding power rqm drs
powered_point p cells none = ap (λ (ks : List Kind). point_at p.side ks (powered cells)) none

powered_shows : (p : Plan) (cells : List ℕ) → showing (shown_of (power cells)) (start_point p) ≡ start_point p
unfolding power rqm drs
powered_shows p cells = refl

module _ (image : Image) (p : Plan) (none : p.kinds ≡ []) where
  begins_there : (i : Assignment) → Begins (runs_of image p) i (powered (start_under i p.power))
  begins_there i = subst (λ (ks : List Kind). Given image p.pace (accesses_under i 0 ks) (powered (start_under i p.power)) (powered (start_under i p.power))) (sym none) refl

  begins_only : (i : Assignment) (b : Chip) → Begins (runs_of image p) i b → powered (start_under i p.power) ≡ b
  begins_only i b h = subst (λ (ks : List Kind). Given image p.pace (accesses_under i 0 ks) (powered (start_under i p.power)) b) none h

  comes_there : (i : Assignment) → Comes (runs_of image p) i (powered (start_under i p.power))
  comes_there i = record { start = powered (start_under i p.power); begins = begins_there i; leads = (0, refl) }

  pub start_is : (g : Terms) (e : Entry) → IsStart g image p e → IsEntry g image p e
  start_is g e s = record {
    state = s.state;
    cond = s.cond;
    state_inputs = subst (λ (ks : List Kind). StateHasOnly g (is_chosen ks p.power) e.state) (sym none) s.state_inputs;
    cond_inputs = subst (λ (ks : List Kind). HasOnly g (is_chosen ks p.power) e.cond.number) (sym none) s.cond_inputs;
    shown =
        ap (λ (v : Shown). showing v e.key) (s.shows zero_inputs (power (start_under zero_inputs p.power)) (s.stands zero_inputs zero_assignment))
        ∙ (ap (showing (shown_of (power (start_under zero_inputs p.power)))) s.key
        ∙ (powered_shows p (start_under zero_inputs p.power) ∙ sym s.key));
    side = ap (λ (y : Point). y.side) s.key;
    kinds = ap (λ (y : Point). y.kinds) s.key ∙ sym none;
    count = subst (λ (n : ℕ). n ≤ p.pace) (sym (ap (λ (y : Point). y.count) s.key)) (omega arith);
    rank = s.rank;
    witness = λ w q.
        let same : zero_inputs ≡ w = witness_is w (sym s.witness ∙ q) in
        subst (IsWitness g p e.cond) same (record {
          assignment = zero_assignment;
          normal = subst (λ (ks : List Kind). normalised ks p.power zero_inputs ≡ zero_inputs) (sym none) (zero_normal p.power);
          reached = s.holds zero_inputs zero_assignment;
        });
  }
    where
      witness_is : (w : Assignment) → Some zero_inputs ≡ Some w → zero_inputs ≡ w
      witness_is w q = cc

  start_at : (g : Terms) (e : Entry) → IsStart g image p e → (i : Assignment) → IsAssignment i → IsAt (entry_view g) (runs_of image p) i e (powered (start_under i p.power))
  start_at g e s i a = record {
    holds = s.holds i a;
    stands = s.stands i a;
    key = powered_point p (start_under i p.power) none ∙ sym s.key;
  }

  pub start_sound : (g : Terms) (e : Entry) → IsStart g image p e → IsSound (entry_view g) (runs_of image p) e
  start_sound g e s i a h = (powered (start_under i p.power), comes_there i, start_at g e s i a)

  pub start_covers : (g : Terms) (e : Entry) → IsStart g image p e → Covered (entry_view g) (runs_of image p) (e ∷ []) (λ (i : Assignment) (c : Chip). ⊥)
  start_covers g e s i a c come = inr (record {
    at = come.start;
    comes = record { start = come.start; begins = come.begins; leads = (0, refl) };
    some = record { entry = e; listed = listed_head e e [] refl; is_at = subst (IsAt (entry_view g) (runs_of image p) i e) (begins_only i come.start come.begins) (start_at g e s i a) };
    leads = come.leads;
  })

  module _ (laws : HeldLaws) (kinds_law : DialoguesAreOfTheirKinds) (keeps : GrowthKeepsStates) (before : List ReachedPoint) where
    -- the point of the start is passed by the held run of the zero inputs

    this_passed : IsPassedBy image p (record { point = start_point p; dialogue = dialogue_under p.kinds zero_inputs p.power })
    this_passed =
        let t = talks laws kinds_law keeps image p in
        record {
          planned = planned laws kinds_law keeps image p zero_inputs zero_assignment;
          passes = subst (Passes image p.side p.pace (dialogue_under p.kinds zero_inputs p.power)) (powered_point p (start_under zero_inputs p.power) none)
              (comes_passes laws (runs_of image p) zero_inputs (powered (start_under zero_inputs p.power)) (t.transfers zero_inputs) (t.kinds zero_inputs) (comes_there zero_inputs));
        }

    pub start_passed : AddsPassed image p before (with_noted p (start_point p) (Some zero_inputs) before)
    start_passed = record { added = _; after = refl; passed = λ x c. passed x (listed_cases _ x [] c) }
      where
        passed : (x : ReachedPoint) → (record { point = start_point p; dialogue = dialogue_under p.kinds zero_inputs p.power } ≡ x) ⊎ Contains [] x → IsPassedBy image p x
        passed x (inl q) = subst (IsPassedBy image p) q this_passed
        passed x (inr c) = absurd (listed_none x c)

    -- no point of the purse is that of the start
    pub start_fresh : All (IsOfOther p) before → All (λ (r : ReachedPoint). r.point ≢ start_point p) before
    start_fresh other k d less q = other k d less (ap (λ (y : Point). y.side) q) (ap (λ (y : Point). y.kinds) q ∙ sym none)

    pub start_unput : (purse : Holding) → purse.reached ≡ before → IsPurse purse → All (IsOfOther p) before → (f : ExploreFault)
        → IsUnnoted purse (record { point = start_point p; dialogue = dialogue_under p.kinds zero_inputs p.power }) f → IsUnput image p purse f
    start_unput purse same is other (fault.Points list) (q, full) = record {
      adds = subst (λ (l : List ReachedPoint). AddsPassed image p l list) (sym same) (subst (AddsPassed image p before) (sym (q ∙ ap (λ (l : List ReachedPoint). l ++ record { point = start_point p; dialogue = dialogue_under p.kinds zero_inputs p.power } ∷ []) same)) start_passed);
      different =
          subst (λ (l : List ReachedPoint). AllPairs (λ (a b : ReachedPoint). a.point ≢ b.point) l) (sym q)
          (all_pairs_push (λ (a b : ReachedPoint). a.point ≢ b.point) purse.reached _ is.different (subst (λ (l : List ReachedPoint). All (λ (r : ReachedPoint). r.point ≢ start_point p) l) (sym same) (start_fresh other)));
      count = let l = ap length q in let n = length_push purse.reached (record { point = start_point p; dialogue = dialogue_under p.kinds zero_inputs p.power }) in l ∙ (n ∙ ap (λ (m : ℕ). m + 1) full);
    }
    start_unput purse same is other fault.OutOfMemory u = tt
    start_unput purse same is other (fault.Breach d at) u = absurd u
    start_unput purse same is other (fault.Conflicts a b) u = absurd u
    start_unput purse same is other (fault.BadAnswer a b) u = absurd u

    -- the entry alone

    pub start_pending : (g : Terms) (e : Entry) → IsStart g image p e → ArePending g image p (with_noted p (start_point p) (Some zero_inputs) before) (e ∷ [])
    start_pending g e s = record {
      each = λ f c. each f (listed_cases e f [] c);
      apart = (λ f c. absurd (listed_none f c), tt);
      sound = λ f c. sound f (listed_cases e f [] c);
      known = λ f c w. known f (listed_cases e f [] c);
    }
      where
        each : (f : Entry) → (e ≡ f) ⊎ Contains [] f → IsEntry g image p f
        each f (inl q) = subst (IsEntry g image p) q (start_is g e s)
        each f (inr c) = absurd (listed_none f c)

        sound : (f : Entry) → (e ≡ f) ⊎ Contains [] f → IsSound (entry_view g) (runs_of image p) f
        sound f (inl q) = subst (IsSound (entry_view g) (runs_of image p)) q (start_sound g e s)
        sound f (inr c) = absurd (listed_none f c)

        here : Contains (points_of (with_noted p (start_point p) (Some zero_inputs) before)) (start_point p)
        here = listed_point (with_noted p (start_point p) (Some zero_inputs) before) (record { point = start_point p; dialogue = dialogue_under p.kinds zero_inputs p.power }) (last_listed before (record { point = start_point p; dialogue = dialogue_under p.kinds zero_inputs p.power }))

        known : (f : Entry) → (e ≡ f) ⊎ Contains [] f → Contains (points_of (with_noted p (start_point p) (Some zero_inputs) before)) f.key
        known f (inl q) = subst (λ (y : Point). Contains (points_of (with_noted p (start_point p) (Some zero_inputs) before)) y) (sym s.key ∙ ap (λ (n : Entry). n.key) q) here
        known f (inr c) = absurd (listed_none f c)

    pub start_found : (g : Terms) (e : Entry) → IsStart g image p e → All (IsOfOther p) before → AreAllFound p (with_noted p (start_point p) (Some zero_inputs) before) (e ∷ [])
    start_found g e s other x c side kinds = by_case (Contains-push_cases before _ x c)
      where
        by_case : Contains before x ⊎ (record { point = start_point p; dialogue = dialogue_under p.kinds zero_inputs p.power } ≡ x) → IsFound (e ∷ []) x.point
        by_case (inl d) = absurd (from_all (IsOfOther p) before x other d side kinds)
        by_case (inr q) = record { entry = e; listed = listed_head e e [] refl; same = s.key ∙ ap (λ (r : ReachedPoint). r.point) q; found = ap is_some s.witness }

-- what the purse holds after the point of the start was noted
pub start_noted : (p : Plan) (key : Point) (w : Assignment) (before after : Holding) → key ≡ start_point p → w ≡ zero_inputs → after ≡ record before { reached = with_noted p key (Some w) before.reached }
    → after.reached ≡ with_noted p (start_point p) (Some zero_inputs) before.reached
start_noted p key w before after e f q =
    ap (λ (h : Holding). h.reached) q
    ∙ (ap (λ (y : Point). with_noted p y (Some w) before.reached) e
    ∙ ap (λ (v : Assignment). with_noted p (start_point p) (Some v) before.reached) f)
