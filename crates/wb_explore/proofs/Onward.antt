-- The exploration goes on from an entry.
use Rattle.std.proofs.Common.{◌≡◌, ◌≢◌, ℕ, ◌+◌, ◌<◌, ◌≤◌, List, [], ◌∷◌, ◌++◌, ◌⊎◌, inl, inr, refl, sym, ap, subst, ◌∙◌, arith}
use Rattle.std.specs.Prelude.{Contains, All}
use Rattle.std.specs.Prelude.{slice_index_or}
use Rattle.std.proofs.lemmas.List.{get_or_default, append_assoc}
use Rattle.std.proofs.lemmas.List.Elements.{Contains-append_left, Contains-append_right, Contains-append_cases, Contains-push_cases}
use Rattle.wb_rom.specs.declared.images.Image.{Image}
use Rattle.wb_term.specs.Inputs.{Assignment, IsAssignment}
use Rattle.wb_term.specs.Terms.{Terms}
use Rattle.wb_term.specs.Growth.{Grown, AddsAtMost}
use Rattle.wb_port.specs.declared.chips.Chip.{Chip}
use Rattle.wb_port.specs.declared.points.Point.{Point}
use Rattle.wb_port.specs.Monitor.{stepped}
use Rattle.wb_port.specs.Rank.{rank_of}
use Rattle.wb_law.specs.declared.classes.Class.TheVariants as class
use Rattle.wb_law.specs.Classes.{class_at, rank_at}
use Rattle.wb_symstep.specs.Laws.{GrowthKeepsStates}
use Rattle.wb_explore.specs.declared.plan.Plan.{Plan}
use Rattle.wb_explore.specs.declared.entries.Entry.{Entry}
use Rattle.wb_explore.specs.declared.reached.ReachedPoint.{ReachedPoint}
use Rattle.wb_explore.specs.declared.going.Arrivals.{Arrivals}
use Rattle.wb_explore.specs.declared.going.Arrivals.TheVariants as arrivals
use Rattle.wb_explore.specs.declared.budget.Budget.{Budget}
use Rattle.wb_explore.specs.declared.faults.ExploreFault.{ExploreFault}
use Rattle.wb_explore.specs.declared.faults.ExploreFault.TheVariants as fault
use Rattle.wb_explore.specs.Purses.{Holding}
use Rattle.wb_explore.specs.HeldLaws.{HeldLaws}
use Rattle.wb_explore.specs.Runs.{AreTalks, Comes}
use Rattle.wb_explore.specs.Entries.{IsAt, IsSound, IsAtSome, FollowsOn, Taken}
use Rattle.wb_explore.specs.Plans.{runs_of}
use Rattle.wb_explore.specs.Layers.{AddsPassed}
use Rattle.wb_explore.specs.Pending.{entry_key, entry_view, IsEntry, IsFound, ArePending, IsPlaced, AreAhead, IsPut, IsPutAhead, IsAbove, AreArrivals, IsGoneOn, ArePutAhead, IsUnput, each_of, list_of}
use Rattle.wb_explore.proofs.Ways.{rank_rises, step_comes}
use Rattle.wb_explore.proofs.Covering.{class_of, follows_at, follows_sound}
use Rattle.wb_explore.proofs.Growing.{at_grown, carries_grown}
use Rattle.wb_explore.proofs.Lists.{listed_head, listed_tail, listed_cases, listed_none, from_all, taken_itself, taken_back, taken_cases, apart_taken}

-- additions add up
pub adds_on : {f g h : Terms} (a b c d : ℕ) → AddsAtMost f g a c → AddsAtMost g h b d → AddsAtMost f h (a + b) (c + d)
adds_on {f} {g} {h} a b c d x y = record {
  longer_by = let p = x.longer_by in let q = y.longer_by in omega arith;
  heavier_by = let p = x.heavier_by in let q = y.heavier_by in omega arith;
}

-- a graph that stays adds nothing
pub adds_none : (g : Terms) (a c : ℕ) → AddsAtMost g g a c
adds_none g a c = record { longer_by = omega arith; heavier_by = omega arith }

-- a bound on additions may be raised
pub adds_raised : {f g : Terms} (a b c d : ℕ) → a ≤ b → c ≤ d → AddsAtMost f g a c → AddsAtMost f g b d
adds_raised a b c d l m x = record {
  longer_by = let p = x.longer_by in omega arith;
  heavier_by = let p = x.heavier_by in omega arith;
}

pub each_from : (P : Entry → Type 0) (a : Arrivals) → ((n : Entry) → Contains (list_of a) n → P n) → each_of P a
each_from P (arrivals.One a) f = f a (listed_head a a [] refl)
each_from P (arrivals.Two a b) f = (f a (listed_head a a (b ∷ []) refl), f b (listed_tail a b (b ∷ []) (listed_head b b [] refl)))

module _ (image : Image) (p : Plan) where
  -- a point above the bound is in the purse only where an entry of it has a witness
  pub ahead_fresh : (g : Terms) (reached : List ReachedPoint) (es : List Entry) (bound : ℕ) (e : Entry) → IsEntry g image p e → AreAhead image p reached es bound → bound < e.rank
      → All (λ (r : ReachedPoint). r.point ≡ e.key → IsFound es e.key) reached
  ahead_fresh g reached es bound e x h less k d inside q = by_place (h.placed r listed (ap (λ (y : Point). y.side) q ∙ x.side) (ap (λ (y : Point). y.kinds) q ∙ x.kinds))
    where
      r : ReachedPoint
      r = slice_index_or reached k d

      listed : Contains reached r
      listed = (k, inside, get_or_default reached k r d inside)

      by_place : IsPlaced image p es bound r.point → IsFound es e.key
      by_place (inl f) = subst (IsFound es) q f
      by_place (inr (low, none)) = let l = ap (rank_at image p.pace) q in let m = x.rank in absurd (omega arith)

  -- an entry that isn't above is at no chip
  pub left_out : (g : Terms) (reached : List ReachedPoint) (es : List Entry) (bound : ℕ) (e : Entry) → ArePending g image p reached es → AreAhead image p reached es bound → IsAbove g image p bound e → (bound < e.rank → ⊥)
      → IsPutAhead image p g g reached reached es e bound es
  left_out g reached es bound e a h above not = record {
    pending = a;
    carries = λ i b c come t. by_entry i b c come t (Contains-push_cases es e t.entry t.listed);
    ahead = h;
    behind = λ y b. b;
    count = omega arith;
    longer = omega arith;
  }
    where
      by_entry : (i : Assignment) → IsAssignment i → (c : Chip) → Comes (runs_of image p) i c → (t : IsAtSome (entry_view g) (runs_of image p) (es ++ e ∷ []) i c) → Contains es t.entry ⊎ (e ≡ t.entry) → IsAtSome (entry_view g) (runs_of image p) es i c
      by_entry i b c come t (inl d) = record { entry = t.entry; listed = d; is_at = t.is_at }
      by_entry i b c come t (inr q) = absurd (not (above i b c come (subst (λ (n : Entry). IsAt (entry_view g) (runs_of image p) i n c) (sym q) t.is_at)))

  pub put_ahead : (g h : Terms) (before after : List ReachedPoint) (es fs : List Entry) (e : Entry) (bound : ℕ) → AreAhead image p before es bound → bound < e.rank → IsPut image p g h before after es e fs → IsPutAhead image p g h before after es e bound fs
  put_ahead g h before after es fs e bound k less put = record {
    pending = put.pending;
    carries = put.carries;
    ahead = put.ahead bound k less;
    behind = put.behind bound less;
    count = put.count;
    longer = put.longer;
  }

  -- what is left when the entry of least rank was taken is ahead of it
  pub taken_ahead : (g : Terms) (reached : List ReachedPoint) (es rest : List Entry) (bound : ℕ) (e : Entry) → ArePending g image p reached es → AreAhead image p reached es bound → Taken es rest e
      → All (λ (f : Entry). e.rank ≤ f.rank) es → AreAhead image p reached rest e.rank
  taken_ahead g reached es rest bound e a h taken least = record {
    placed = λ r c side kinds. placed r.point (h.placed r c side kinds);
    ahead = λ f c. from_all (λ (n : Entry). e.rank ≤ n.rank) es f least (taken_back es rest e f taken c);
  }
    where
      here : Contains es e
      here = taken_itself es rest e taken

      apart : (f : Entry) → Contains rest f → e.key ≢ f.key
      apart = (apart_taken entry_key es rest e taken a.apart).1

      found : (x : Point) → (f : IsFound es x) → (f.entry ≡ e) ⊎ Contains rest f.entry → IsPlaced image p rest e.rank x
      found x f (inl q) =
          let k : e.key ≡ x = ap (λ (n : Entry). n.key) (sym q) ∙ f.same in
          let l = ap (rank_at image p.pace) k in
          let m = (a.each e here).rank in
          inr (omega arith, λ n c s. apart n c (k ∙ sym s))
      found x f (inr d) = inl (record { entry = f.entry; listed = d; same = f.same; found = f.found })

      placed : (x : Point) → IsPlaced image p es bound x → IsPlaced image p rest e.rank x
      placed x (inl f) = found x f (taken_cases es rest e f.entry taken f.listed)
      placed x (inr (low, none)) = let up = h.ahead e here in inr (omega arith, λ n c. none n (taken_back es rest e n taken c))

  -- one, and two after each other

  pub put_one : (g h : Terms) (before after : List ReachedPoint) (es fs : List Entry) (e : Entry) (bound : ℕ) → IsPutAhead image p g h before after es e bound fs → ArePutAhead image p g h before after es (e ∷ []) bound fs
  put_one g h before after es fs e bound x = record {
    pending = x.pending;
    carries = x.carries;
    ahead = x.ahead;
    behind = x.behind;
    count = x.count;
    longer = let l = x.longer in omega arith;
  }

  pub put_two : (keeps : GrowthKeepsStates) (g h k : Terms) (grown : Grown g h) (before mid after : List ReachedPoint) (es fs gs : List Entry) (a b : Entry) (bound : ℕ) → IsEntry g image p b
      → IsPutAhead image p g h before mid es a bound fs → IsPutAhead image p h k mid after fs b bound gs → ArePutAhead image p g k before after es (a ∷ b ∷ []) bound gs
  put_two keeps g h k grown before mid after es fs gs a b bound z x y = record {
    pending = y.pending;
    carries = λ i d c come t. y.carries i d c come (by_entry i d c come t (Contains-append_cases es (a ∷ b ∷ []) t.entry t.listed));
    ahead = y.ahead;
    behind = λ n c. y.behind n (x.behind n c);
    count = let l = x.count in let m = y.count in omega arith;
    longer = let l = x.longer in let m = y.longer in omega arith;
  }
    where
      by_entry : (i : Assignment) → IsAssignment i → (c : Chip) → Comes (runs_of image p) i c → (t : IsAtSome (entry_view g) (runs_of image p) (es ++ a ∷ b ∷ []) i c) → Contains es t.entry ⊎ Contains (a ∷ b ∷ []) t.entry → IsAtSome (entry_view h) (runs_of image p) (fs ++ b ∷ []) i c
      by_entry i d c come t listed = from_listed listed
        where
          first : Contains (es ++ a ∷ []) t.entry → IsAtSome (entry_view h) (runs_of image p) (fs ++ b ∷ []) i c
          first m = let u = x.carries i d c come (record { entry = t.entry; listed = m; is_at = t.is_at }) in record { entry = u.entry; listed = Contains-append_left fs (b ∷ []) u.entry u.listed; is_at = u.is_at }

          last : b ≡ t.entry → IsAtSome (entry_view h) (runs_of image p) (fs ++ b ∷ []) i c
          last q = record {
            entry = b;
            listed = Contains-append_right fs (b ∷ []) b (listed_head b b [] refl);
            is_at = at_grown keeps image p g h grown (runs_of image p) i b c z (subst (λ (n : Entry). IsAt (entry_view g) (runs_of image p) i n c) (sym q) t.is_at);
          }

          second : (a ≡ t.entry) ⊎ Contains (b ∷ []) t.entry → IsAtSome (entry_view h) (runs_of image p) (fs ++ b ∷ []) i c
          second (inl q) = first (Contains-append_right es (a ∷ []) t.entry (listed_head a t.entry [] q))
          second (inr m) = elim (listed_cases b t.entry [] m) [ inl q ↦ last q | inr n ↦ absurd (listed_none t.entry n) ]

          from_listed : Contains es t.entry ⊎ Contains (a ∷ b ∷ []) t.entry → IsAtSome (entry_view h) (runs_of image p) (fs ++ b ∷ []) i c
          from_listed (inl m) = first (Contains-append_left es (a ∷ []) t.entry m)
          from_listed (inr m) = second (listed_cases a t.entry (b ∷ []) m)

  -- points that were added one after the other
  pub adds_passed : (a b c : List ReachedPoint) → AddsPassed image p a b → AddsPassed image p b c → AddsPassed image p a c
  adds_passed a b c x y = record {
    added = x.added ++ y.added;
    after = y.after ∙ (ap (λ (l : List ReachedPoint). l ++ y.added) x.after ∙ append_assoc a x.added y.added);
    passed = λ r d. elim (Contains-append_cases x.added y.added r d) [ inl f ↦ x.passed r f | inr f ↦ y.passed r f ];
  }

  -- a refusal after points were added is one of the purse before
  pub unput_later : (before mid : Holding) → AddsPassed image p before.reached mid.reached → mid.budget ≡ before.budget → (f : ExploreFault) → IsUnput image p mid f → IsUnput image p before f
  unput_later before mid adds same (fault.Points list) u = record {
    adds = adds_passed before.reached mid.reached list adds u.adds;
    different = u.different;
    count = u.count ∙ ap (λ (b : Budget). b.points + 1) same;
  }
  unput_later before mid adds same fault.OutOfMemory u = tt
  unput_later before mid adds same (fault.Breach d at) u = absurd u
  unput_later before mid adds same (fault.Conflicts a b) u = absurd u
  unput_later before mid adds same (fault.BadAnswer a b) u = absurd u

module _ (laws : HeldLaws) (talks : (image : Image) (p : Plan) → AreTalks (runs_of image p)) (keeps : GrowthKeepsStates) (image : Image) (p : Plan) (g : Terms) (e : Entry) (x : IsEntry g image p e) (s : IsSound (entry_view g) (runs_of image p) e) (goes : class_at image p.pace e.key ≡ class.GoesOn) where
  -- what comes of an entry is above it
  pub follows_above : (n : Entry) → IsEntry g image p n → FollowsOn (entry_view g) image e n → IsAbove g image p e.rank n
  follows_above n y f i a c come t =
      let d = s i a (f.holds i a t.holds) in
      let next = follows_at laws (runs_of image p) (entry_view g) (talks image p) e n f i a d.0 d.1 d.2 t.holds in
      let on = class_of laws (runs_of image p) (entry_view g) e class.GoesOn i d.0 d.2 goes in
      let next_comes = step_comes laws (runs_of image p) i d.0 d.1 on in
      let up = rank_rises laws (runs_of image p) i d.0 d.1 on in
      let l : rank_of image p.pace d.0 ≡ rank_at image p.pace e.key = ap (rank_at image p.pace) d.2.key in
      let m : rank_of image p.pace (stepped image d.0) ≡ rank_at image p.pace n.key = ap (rank_at image p.pace) next.key in
      let q = x.rank in
      let r = y.rank in
      omega arith

  pub arrival_sound : (n : Entry) → FollowsOn (entry_view g) image e n → IsSound (entry_view g) (runs_of image p) n
  arrival_sound n f = follows_sound laws (runs_of image p) (entry_view g) (talks image p) e n goes f s

  -- at the next chip is what comes of the entry
  pub arrival_at : (ns : List Entry) → AreArrivals g image p e ns → (i : Assignment) → IsAssignment i → (d : Chip) → Comes (runs_of image p) i d → IsAt (entry_view g) (runs_of image p) i e d → IsAtSome (entry_view g) (runs_of image p) ns i (stepped image d)
  arrival_at ns are i a d come t =
      let n = are.some i a t.holds in
      record {
        entry = n.0;
        listed = n.1;
        is_at = follows_at laws (runs_of image p) (entry_view g) (talks image p) e n.0 (are.follow n.0 n.1) i a d come t n.2;
      }

  -- the exploration went on
  pub gone_on : (f h : Terms) (grown : Grown f g) (y : IsEntry f image p e) (before after : List ReachedPoint) (es fs ns : List Entry) → ArePending f image p before es → AreArrivals g image p e ns
      → ArePutAhead image p g h before after es ns e.rank fs → IsGoneOn image p f h before after es e fs
  gone_on f h grown y before after es fs ns a are put = record {
    pending = put.pending;
    ahead = put.ahead;
    behind = put.behind;
    carries = λ i b c come t. let u = carries_grown keeps image p f g grown (runs_of image p) es a.each i b c come t in put.carries i b c come (record { entry = u.entry; listed = Contains-append_left es ns u.entry u.listed; is_at = u.is_at });
    arrives = λ i b d come t. arrives i b d come (at_grown keeps image p f g grown (runs_of image p) i e d y t);
    count = put.count;
    longer = put.longer;
  }
    where
      arrives : (i : Assignment) → IsAssignment i → (d : Chip) → Comes (runs_of image p) i d → IsAt (entry_view g) (runs_of image p) i e d → IsAtSome (entry_view h) (runs_of image p) fs i (stepped image d)
      arrives i b d come t =
          let u = arrival_at ns are i b d come t in
          let on = class_of laws (runs_of image p) (entry_view g) e class.GoesOn i d t goes in
          put.carries i b (stepped image d) (step_comes laws (runs_of image p) i d come on) (record { entry = u.entry; listed = Contains-append_right es ns u.entry u.listed; is_at = u.is_at })
