-- The turns of a walk: how the graph grows with them, that they come nearer to the end, and what holds there.
use Rattle.std.proofs.Common.{◌≡◌, ℕ, ◌+◌, ◌*◌, ◌^◌, ◌≤◌, Bool, Option, Some, None, List, [], inl, inr, length, refl, ap, subst, ◌∙◌, arith}
use Rattle.std.specs.Prelude.{is_some, if◌then◌else◌}
use Rattle.std.proofs.lemmas.List.{length-append}
use Rattle.wb_rom.specs.declared.images.Image.{Image}
use Rattle.wb_term.specs.Inputs.{Assignment, IsAssignment}
use Rattle.wb_term.specs.Terms.{Terms}
use Rattle.wb_term.specs.Growth.{Grown, AddsAtMost, total_weight}
use Rattle.wb_solve.specs.declared.search.Answer.{Answer}
use Rattle.wb_port.specs.declared.chips.Chip.{Chip}
use Rattle.wb_port.specs.Talk.{Talk}
use Rattle.wb_symstep.specs.Laws.{GrowthKeepsStates}
use Rattle.wb_point.specs.Laws.{DialoguesAreOfTheirKinds}
use Rattle.wb_explore.specs.declared.plan.Plan.{Plan}
use Rattle.wb_explore.specs.declared.entries.Entry.{Entry}
use Rattle.wb_explore.specs.declared.layer.Request.{Request}
use Rattle.wb_explore.specs.declared.reached.ReachedPoint.{ReachedPoint}
use Rattle.wb_explore.specs.HeldLaws.{HeldLaws}
use Rattle.wb_explore.specs.Runs.{Comes}
use Rattle.wb_explore.specs.Entries.{Covered, Taken}
use Rattle.wb_explore.specs.Faults.{StillTells}
use Rattle.wb_explore.specs.Plans.{runs_of}
use Rattle.wb_explore.specs.Purses.{Holding, points_of}
use Rattle.wb_explore.specs.Seen.{IsSeen}
use Rattle.wb_explore.specs.Explored.{IsExplored, KeepsRight, KeepsOlder}
use Rattle.wb_explore.specs.Layers.{request_view, AddsPassed}
use Rattle.wb_explore.specs.Growth.{GrowsBySteps, HasRoom}
use Rattle.wb_explore.specs.Pending.{entry_view, ArePending, AreAhead, found_in}
use Rattle.wb_explore.specs.Walk.{IsUnderWay, IsConfirmedAs, found_of, to_go}
use Rattle.wb_explore.proofs.Growth.{◌▸◌, grown_same}
use Rattle.wb_explore.proofs.Lists.{listed_none, taken_sum}
use Rattle.wb_explore.proofs.Onward.{adds_passed}
use Rattle.wb_explore.proofs.Passing.{passes_none, older_same}
use Rattle.wb_explore.proofs.Confirmed.{confirmed_count}
use Rattle.wb_explore.proofs.Ending.{all_seen, stops_nowhere, holds_requests}

-- how the graph grows

pub grows_none : (g : Terms) (a b m : ℕ) → a ≤ b + m → GrowsBySteps g g a b m
grows_none g a b m less = record { steps = 0; count = omega arith; adds = record { longer_by = omega arith; heavier_by = omega arith } }

pub grows_one : (g h : Terms) (a b m : ℕ) → a + 1 ≤ b + m → AddsAtMost g h 1805 130004 → GrowsBySteps g h a b m
grows_one g h a b m less adds = record { steps = 1; count = less; adds = adds }

pub grows_on : (f g h : Terms) (a b c l m n : ℕ) → GrowsBySteps f g (a + l) b m → GrowsBySteps g h (b + n) c l → GrowsBySteps f h (a + n) c m
grows_on f g h a b c l m n x y = record {
  steps = x.steps + y.steps;
  count = let p = x.count in let q = y.count in omega arith;
  adds = record {
    longer_by = let p = x.adds.longer_by in let q = y.adds.longer_by in omega arith;
    heavier_by = let p = x.adds.heavier_by in let q = y.adds.heavier_by in omega arith;
  };
}

-- where the second part is cut off
pub grows_at : (f g h : Terms) (a b c l m : ℕ) → GrowsBySteps f g (a + l) b m → GrowsBySteps g h b c l → GrowsBySteps f h a c m
grows_at f g h a b c l m x y = record {
  steps = x.steps + y.steps;
  count = let p = x.count in let q = y.count in omega arith;
  adds = record {
    longer_by = let p = x.adds.longer_by in let q = y.adds.longer_by in omega arith;
    heavier_by = let p = x.adds.heavier_by in let q = y.adds.heavier_by in omega arith;
  };
}

pub grows_less : (g h : Terms) (a l b m : ℕ) → GrowsBySteps g h (a + l) b m → GrowsBySteps g h a b m
grows_less g h a l b m x = record { steps = x.steps; count = let p = x.count in omega arith; adds = x.adds }

pub room_on : (f g : Terms) (a b most l m : ℕ) → HasRoom f a most m → GrowsBySteps f g (a + l) b m → HasRoom g b most l
room_on f g a b most l m room x steps less =
    let r = room (x.steps + steps) (let p = x.count in omega arith) in
    let few = r.0 in
    let light = r.1 in
    let p = x.adds.longer_by in
    let q = x.adds.heavier_by in (omega arith, omega arith)

pub room_here : (g : Terms) (a most m : ℕ) → HasRoom g a most m → a ≤ most + m → total_weight g ≤ 2 ^ 31
room_here g a most m room less = let r = (room 0 (omega arith)).1 in omega arith

pub room_next : (g : Terms) (a most m : ℕ) → HasRoom g a most m → a + 1 ≤ most + m → length g.nodes + 1805 ≤ 2 ^ 31
room_next g a most m room less = let r = (room 1 less).0 in omega arith

-- a turn comes nearer to the end
pub nearer : (most : ℕ) (before after : List ReachedPoint) (es rest fs : List Entry) → length before ≤ most → length after ≤ most → length es ≡ length rest + 1
    → 3 * (length before + found_in fs) + length fs ≤ 3 * (length after + found_in es) + length rest → to_go most after fs + 1 ≤ to_go most before es
nearer most before after es rest fs low high longer less = omega arith

module _ (laws : HeldLaws) (image : Image) (p : Plan) where
  -- at the beginning
  pub begins : (g : Terms) (reached : List ReachedPoint) (es : List Entry) (o : Option Talk) → ArePending g image p reached es → AreAhead image p reached es 0 → Covered (entry_view g) (runs_of image p) es (λ i c. ⊥) → KeepsRight image p o
      → IsUnderWay g image p reached es [] o
  begins g reached es o a h covered right = record {
    bound = 0;
    pending = a;
    ahead = h;
    requests = record {
      each = λ q c. absurd (listed_none q c);
      sound = λ q c. absurd (listed_none q c);
      apart = λ i j d low less. absurd (omega arith);
      behind = λ q c. absurd (listed_none q c);
    };
    covered = λ i b c come. elim (covered i b c come) [ inl s ↦ absurd s | inr t ↦ inr t ];
    right = right;
  }

  -- at the end, where none is pending
  pub explored : (g : Terms) (reached : List ReachedPoint) (qs : List Request) (o : Option Talk) → IsUnderWay g image p reached [] qs o
      → IsExplored g image reached (record { plan = p; requests = qs; overrun = o })
  explored g reached qs o u = record {
    each = u.requests.each;
    apart = u.requests.apart;
    requests = holds_requests laws (runs_of image p) (request_view p g) (points_of reached) qs (is_some o) seen u.requests.sound (λ q c. ((u.requests.each q c).stands, refl));
    stops = stops_nowhere laws (runs_of image p) (request_view p g) (points_of reached) qs (is_some o) seen;
    passed = record { all = λ i a c come. (seen i a c come).point };
    overrun = u.right;
  }
    where
      seen : (i : Assignment) → IsAssignment i → (c : Chip) → Comes (runs_of image p) i c → IsSeen (request_view p g) (runs_of image p) (points_of reached) qs (is_some o) i c
      seen = all_seen laws (runs_of image p) (request_view p g) (entry_view g) _ u.covered

-- where an entry was confirmed

pub adds_longer : (image : Image) (p : Plan) (a b : List ReachedPoint) → AddsPassed image p a b → length a ≤ length b
adds_longer image p a b x = let l = ap length x.after in let m = length-append a x.added in omega arith

pub confirmed_length : (laws : HeldLaws) (kinds_law : DialoguesAreOfTheirKinds) (keeps : GrowthKeepsStates) (g : Terms) (image : Image) (p : Plan) (before after : Holding) (e n : Entry) → IsConfirmedAs g image p before after e n
    → length after.reached + found_of e ≡ length before.reached + 1
confirmed_length laws kinds_law keeps g image p before after e n c =
    ap (λ (h : Holding). length h.reached + found_of e) c.noted ∙ confirmed_count laws kinds_law keeps image p e.key n.witness e.witness before.reached c.found

-- the counts of a turn: of the points before, then and after, and of the entries with inputs

pub nearer_by : (a b c found rest here old new : ℕ) → b + here ≡ a + 1 → b + found ≤ c + rest → new ≤ old + 2 → 3 * (a + found) + new ≤ 3 * (c + rest + here) + old
nearer_by a b c found rest here old new q l m = omega arith

pub counted_by : (a b c found rest here : ℕ) → b + here ≡ a + 1 → b + found ≤ c + rest → a + found + 1 ≤ c + (rest + here)
counted_by a b c found rest here q l = omega arith

pub spent_by : (a b c rest here : ℕ) → b + here ≡ a + 1 → b ≤ c → a + 1 ≤ c + (rest + here)
spent_by a b c rest here q l = omega arith

-- the entries with inputs, of which one was taken

pub taken_found : (es rest : List Entry) (e : Entry) → Taken es rest e → found_in es ≡ found_in rest + found_of e
taken_found es rest e t = let s = taken_sum (λ (f : Entry). if is_some f.witness then 1 else 0) es rest e t in omega arith

pub room_taken : (g : Terms) (a most : ℕ) (es rest : List Entry) (e : Entry) → Taken es rest e → HasRoom g a most (found_in es) → HasRoom g a most (found_in rest + found_of e)
room_taken g a most es rest e t = subst (HasRoom g a most) (taken_found es rest e t)

-- what holds of a walk so far

pub record IsSoFar (image : Image) (p : Plan) (f g : Terms) (before after : Holding) (first es : List Entry) (qs : List Request) (o n : Option Talk) : Type 0 where
  pub under_way : IsUnderWay g image p after.reached es qs n
  pub older : KeepsOlder o n
  pub counted : GrowsBySteps f g (length before.reached + found_in es) (length after.reached) (found_in first)
  pub passed : AddsPassed image p before.reached after.reached
  pub budget : after.budget ≡ before.budget
  pub grown : Grown f g

-- the oracle is as it was, but for the answers that it gave
pub record IsSteady (sound_then sound_now : Bool) (limit_then limit_now : ℕ) (held_then held_now : Option (List Answer)) (given_then given_now : Option ℕ) : Type 0 where
  pub sound : sound_now ≡ sound_then
  pub limit : limit_now ≡ limit_then
  pub held : held_now ≡ held_then
  pub tells : StillTells held_then given_then given_now

older_on : (a b c : Option Talk) → KeepsOlder a b → KeepsOlder b c → KeepsOlder a c
older_on (Some d) b c x y = let z : KeepsOlder (Some d) c = subst (λ (o : Option Talk). KeepsOlder o c) x y in z
older_on None b c x y = tt

module _ (image : Image) (p : Plan) (f g h : Terms) (before mid after : Holding) (first es fs : List Entry) (qs rs : List Request) (o n m : Option Talk) (so : IsSoFar image p f g before mid first es qs o n) where
  pub so_further : IsUnderWay h image p after.reached fs rs m → KeepsOlder n m → GrowsBySteps g h (length mid.reached + found_in fs) (length after.reached) (found_in es) → AddsPassed image p mid.reached after.reached → after.budget ≡ mid.budget → Grown g h
      → IsSoFar image p f h before after first fs rs o m
  so_further under older counted passed budget grown = record {
    under_way = under;
    older = older_on o n m so.older older;
    counted = grows_on f g h (length before.reached) (length mid.reached) (length after.reached) (found_in es) (found_in first) (found_in fs) so.counted counted;
    passed = adds_passed image p before.reached mid.reached after.reached so.passed passed;
    budget = budget ∙ so.budget;
    grown = so.grown ▸ grown;
  }

pub so_first : (laws : HeldLaws) (image : Image) (p : Plan) (g : Terms) (before : Holding) (es : List Entry) (o : Option Talk) → ArePending g image p before.reached es → AreAhead image p before.reached es 0 → Covered (entry_view g) (runs_of image p) es (λ i c. ⊥) → KeepsRight image p o
    → IsSoFar image p g g before before es es [] o o
so_first laws image p g before es o a h covered right = record {
  under_way = begins laws image p g before.reached es o a h covered right;
  older = older_same o;
  counted = grows_none g (length before.reached + found_in es) (length before.reached) (found_in es) (omega arith);
  passed = passes_none image p before.reached;
  budget = refl;
  grown = grown_same g;
}
