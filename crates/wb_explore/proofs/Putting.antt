-- An entry is put among pending ones, alone or joined with that of its point.
use Rattle.std.proofs.Common.{◌≡◌, ◌≢◌, ℕ, ◌+◌, ◌<◌, ◌≤◌, true, false, Option, Some, None, List, [], ◌∷◌, ◌++◌, ◌⊎◌, inl, inr, length, refl, sym, ap, subst, ◌∙◌, arith, append-nil}
use Rattle.std.specs.Prelude.{Contains, All, is_some, if◌then◌else◌}
use Rattle.std.proofs.lemmas.Bool.{both_ways}
use Rattle.std.proofs.lemmas.List.{length_push}
use Rattle.std.proofs.lemmas.List.Elements.{Contains-append_left, Contains-append_right, Contains-push_cases}
use Rattle.std.proofs.lemmas.List.Sums.{sum_by_push}
use Rattle.wb_rom.specs.declared.images.Image.{Image}
use Rattle.wb_term.specs.Inputs.{Assignment, IsAssignment}
use Rattle.wb_term.specs.Terms.{Terms}
use Rattle.wb_term.specs.Growth.{Grown}
use Rattle.wb_port.specs.declared.points.Point.{Point}
use Rattle.wb_port.specs.Points.{Passes}
use Rattle.wb_law.specs.Classes.{rank_at}
use Rattle.wb_symstep.specs.Laws.{GrowthKeepsStates}
use Rattle.wb_point.specs.Laws.{DialoguesAreOfTheirKinds}
use Rattle.wb_point.specs.Dialogues.{dialogue_under}
use Rattle.wb_explore.specs.declared.plan.Plan.{Plan}
use Rattle.wb_explore.specs.declared.entries.Entry.{Entry}
use Rattle.wb_explore.specs.declared.reached.ReachedPoint.{ReachedPoint}
use Rattle.wb_explore.specs.HeldLaws.{HeldLaws}
use Rattle.wb_explore.specs.Runs.{AreTalks}
use Rattle.wb_explore.specs.Entries.{IsAt, IsSound, IsAtSome, Carries, Joins, Taken}
use Rattle.wb_explore.specs.Plans.{runs_of, IsPlanned}
use Rattle.wb_explore.specs.Purses.{points_of}
use Rattle.wb_explore.specs.Layers.{AddsPassed, IsPassedBy}
use Rattle.wb_explore.specs.Pending.{entry_key, entry_view, IsEntry, IsFound, ArePending, IsPlaced, AreAhead, AreAllFound, IsPut, with_noted, either, newly, StaysBehind}
use Rattle.wb_explore.proofs.Ending.{comes_passes}
use Rattle.wb_explore.proofs.Covering.{joined_at_one, joined_at_other, joined_sound}
use Rattle.wb_explore.proofs.Growing.{entry_grown, at_grown, sound_grown}
use Rattle.wb_explore.proofs.Lists.{listed_head, listed_none, from_all, listed_point, point_listed, taken_itself, taken_back, taken_cases, taken_sum, taken_length, apart_taken, apart_push}

-- the last of a list
pub last_listed : {X : Type 0} (xs : List X) (x : X) → Contains (xs ++ x ∷ []) x
last_listed xs x = Contains-append_right xs (x ∷ []) x (listed_head x x [] refl)

abbrev pub one_if : Option Assignment → ℕ
one_if o = if is_some o then 1 else 0

module _ (laws : HeldLaws) (kinds_law : DialoguesAreOfTheirKinds) (keeps : GrowthKeepsStates) (image : Image) (p : Plan) where
  -- the dialogues of a plan are talks of its kinds

  pub talks : AreTalks (runs_of image p)
  talks = record {
    kinds = λ i. (kinds_law p.kinds i p.power).kinds;
    transfers = λ i. (kinds_law p.kinds i p.power).transfers;
    talk = λ i a. (kinds_law p.kinds i p.power).talk a;
  }

  pub planned : (w : Assignment) → IsAssignment w → IsPlanned p (dialogue_under p.kinds w p.power)
  planned w a = let k = kinds_law p.kinds w p.power in record { kinds = k.kinds; transfers = k.transfers; start = k.start; talk = k.talk a }

  -- an entry's witness is inputs whose held run passes its point
  pub witness_passes : (g : Terms) (e : Entry) (w : Assignment) → IsEntry g image p e → IsSound (entry_view g) (runs_of image p) e → e.witness ≡ Some w → Passes image p.side p.pace (dialogue_under p.kinds w p.power) e.key
  witness_passes g e w x s q =
      let n = x.witness w q in
      let t = s w n.assignment n.reached in
      subst (Passes image p.side p.pace (dialogue_under p.kinds w p.power)) t.2.key
      (comes_passes laws (runs_of image p) w t.0 (talks.transfers w) (talks.kinds w) t.1)

  pub noted_passes : (g : Terms) (e : Entry) (o : Option Assignment) (before : List ReachedPoint) → IsEntry g image p e → IsSound (entry_view g) (runs_of image p) e
      → ((w : Assignment) → o ≡ Some w → e.witness ≡ Some w) → AddsPassed image p before (with_noted p e.key o before)
  noted_passes g e None before x s n = record { added = []; after = sym (append-nil before); passed = λ r c. absurd (listed_none r c) }
  noted_passes g e (Some w) before x s n = record { added = _; after = refl; passed = λ r c. passed r (Contains-push_cases [] _ r c) }
    where
      this : ReachedPoint
      this = record { point = e.key; dialogue = dialogue_under p.kinds w p.power }

      passed : (r : ReachedPoint) → Contains [] r ⊎ (this ≡ r) → IsPassedBy image p r
      passed r (inl c) = absurd (listed_none r c)
      passed r (inr q) = subst (IsPassedBy image p) q (record { planned = planned w (x.witness w (n w refl)).assignment; passes = witness_passes g e w x s (n w refl) })

  -- points that were noted stay
  pub noted_keeps : (key : Point) (o : Option Assignment) (before : List ReachedPoint) (x : Point) → Contains (points_of before) x → Contains (points_of (with_noted p key o before)) x
  noted_keeps key None before x c = c
  noted_keeps key (Some w) before x c =
      let r = point_listed before x c in
      subst (Contains (points_of (with_noted p key (Some w) before))) r.2 (listed_point (with_noted p key (Some w) before) r.0 (Contains-append_left before _ r.0 r.1))

  pub noted_new : (key : Point) (o : Option Assignment) (before : List ReachedPoint) → is_some o ≡ true → Contains (points_of (with_noted p key o before)) key
  noted_new key None before q = absurd (both_ways false refl q)
  noted_new key (Some w) before q = listed_point (with_noted p key (Some w) before) _ (last_listed before (record { point = key; dialogue = dialogue_under p.kinds w p.power }))

  pub noted_length : (key : Point) (o : Option Assignment) (before : List ReachedPoint) → length (with_noted p key o before) ≡ length before + one_if o
  noted_length key None before = let e : length before ≡ length before + 0 = omega arith in e
  noted_length key (Some w) before = length_push before _

  -- each point after is one before, or that of the entry
  pub noted_cases : (key : Point) (o : Option Assignment) (before : List ReachedPoint) (r : ReachedPoint) → Contains (with_noted p key o before) r → Contains before r ⊎ ((r.point ≡ key) × (is_some o ≡ true))
  noted_cases key None before r c = inl c
  noted_cases key (Some w) before r c = elim (Contains-push_cases before _ r c) [ inl d ↦ inl d | inr q ↦ inr (ap (λ (x : ReachedPoint). x.point) (sym q), refl) ]

  module _ (g : Terms) (before : List ReachedPoint) (es : List Entry) (e : Entry) (a : ArePending g image p before es) (x : IsEntry g image p e) (s : IsSound (entry_view g) (runs_of image p) e) where
    -- alone

    alone_pending : All (λ (f : Entry). f.key ≢ e.key) es → ArePending g image p (with_noted p e.key e.witness before) (es ++ e ∷ [])
    alone_pending none = record {
      each = λ f c. each f (Contains-push_cases es e f c);
      apart = apart_push entry_key es e a.apart (λ f c. from_all (λ (f : Entry). f.key ≢ e.key) es f none c);
      sound = λ f c. sound f (Contains-push_cases es e f c);
      known = λ f c q. known f (Contains-push_cases es e f c) q;
    }
      where
        each : (f : Entry) → Contains es f ⊎ (e ≡ f) → IsEntry g image p f
        each f (inl c) = a.each f c
        each f (inr q) = subst (IsEntry g image p) q x

        sound : (f : Entry) → Contains es f ⊎ (e ≡ f) → IsSound (entry_view g) (runs_of image p) f
        sound f (inl c) = a.sound f c
        sound f (inr q) = subst (IsSound (entry_view g) (runs_of image p)) q s

        known : (f : Entry) → Contains es f ⊎ (e ≡ f) → is_some f.witness ≡ true → Contains (points_of (with_noted p e.key e.witness before)) f.key
        known f (inl c) q = noted_keeps e.key e.witness before f.key (a.known f c q)
        known f (inr r) q =
            subst (λ (n : Entry). Contains (points_of (with_noted p e.key e.witness before)) n.key) r
            (noted_new e.key e.witness before (ap (λ (n : Entry). is_some n.witness) r ∙ q))

    alone_behind : (bound : ℕ) → bound < e.rank → StaysBehind image p es (es ++ e ∷ []) bound
    alone_behind bound less y (low, none) = (low, λ f c. other f (Contains-push_cases es e f c))
      where
        higher : e.key ≢ y
        higher q = let l = ap (rank_at image p.pace) q in let r = x.rank in absurd (omega arith)

        other : (f : Entry) → Contains es f ⊎ (e ≡ f) → f.key ≢ y
        other f (inl c) = none f c
        other f (inr q) = λ k. higher (ap (λ (n : Entry). n.key) q ∙ k)

    alone_ahead : (bound : ℕ) → AreAhead image p before es bound → bound < e.rank → AreAhead image p (with_noted p e.key e.witness before) (es ++ e ∷ []) bound
    alone_ahead bound h less = record {
      placed = λ r c side kinds. placed r side kinds (noted_cases e.key e.witness before r c);
      ahead = λ f c. ahead f (Contains-push_cases es e f c);
    }
      where
        ahead : (f : Entry) → Contains es f ⊎ (e ≡ f) → bound ≤ f.rank
        ahead f (inl c) = h.ahead f c
        ahead f (inr q) = let l = ap (λ (n : Entry). n.rank) q in omega arith

        keep : (y : Point) → IsPlaced image p es bound y → IsPlaced image p (es ++ e ∷ []) bound y
        keep y (inl f) = inl (record { entry = f.entry; listed = Contains-append_left es (e ∷ []) f.entry f.listed; same = f.same; found = f.found })
        keep y (inr b) = inr (alone_behind bound less y b)

        placed : (r : ReachedPoint) → r.point.side ≡ p.side → r.point.kinds ≡ p.kinds → Contains before r ⊎ ((r.point ≡ e.key) × (is_some e.witness ≡ true)) → IsPlaced image p (es ++ e ∷ []) bound r.point
        placed r side kinds (inl c) = keep r.point (h.placed r c side kinds)
        placed r side kinds (inr (q, found)) = inl (record { entry = e; listed = last_listed es e; same = sym q; found = found })

    alone_found : AreAllFound p before es → AreAllFound p (with_noted p e.key e.witness before) (es ++ e ∷ [])
    alone_found h r c side kinds = by_case (noted_cases e.key e.witness before r c)
      where
        by_case : Contains before r ⊎ ((r.point ≡ e.key) × (is_some e.witness ≡ true)) → IsFound (es ++ e ∷ []) r.point
        by_case (inl d) = let f = h r d side kinds in record { entry = f.entry; listed = Contains-append_left es (e ∷ []) f.entry f.listed; same = f.same; found = f.found }
        by_case (inr (q, found)) = record { entry = e; listed = last_listed es e; same = sym q; found = found }

    pub put_alone : All (λ (f : Entry). f.key ≢ e.key) es → IsPut image p g g before (with_noted p e.key e.witness before) es e (es ++ e ∷ [])
    put_alone none = record {
      pending = alone_pending none;
      carries = λ i b c come t. t;
      ahead = alone_ahead;
      found = alone_found;
      noted = λ q. noted_new e.key e.witness before q;
      behind = alone_behind;
      adds = noted_passes g e e.witness before x s (λ w q. q);
      count =
          let n = noted_length e.key e.witness before in
          let m = sum_by_push (λ (f : Entry). if is_some f.witness then 1 else 0) es e in
          grind arith;
      longer = let n = length_push es e in omega arith;
    }

  -- one of two has inputs where either has, and they are newly found where the second had none

  either_found : (o n : Option Assignment) → is_some (either o n) ≡ true → (is_some n ≡ true) ⊎ (is_some (newly o n) ≡ true)
  either_found (Some w) (Some u) q = inl refl
  either_found (Some w) None q = inr refl
  either_found None n q = inl q

  found_either : (o n : Option Assignment) → is_some n ≡ true → is_some (either o n) ≡ true
  found_either (Some w) n q = refl
  found_either None n q = q

  first_either : (o n : Option Assignment) → is_some o ≡ true → is_some (either o n) ≡ true
  first_either (Some w) n q = refl
  first_either None n q = absurd (both_ways false refl q)

  newly_either : (o n : Option Assignment) → is_some (newly o n) ≡ true → is_some (either o n) ≡ true
  newly_either (Some w) None q = refl
  newly_either (Some w) (Some u) q = absurd (both_ways false refl q)
  newly_either None n q = absurd (both_ways false refl q)

  pub newly_first : (o n : Option Assignment) (w : Assignment) → newly o n ≡ Some w → o ≡ Some w
  newly_first (Some w) None u q = q
  newly_first (Some w) (Some v) u q = absurd (let e = q in cc)
  newly_first None n u q = absurd (let e = q in cc)

  either_count : (o n : Option Assignment) → one_if (either o n) ≤ one_if (newly o n) + one_if n
  either_count (Some w) None = omega arith
  either_count (Some w) (Some u) = omega arith
  either_count None None = omega arith
  either_count None (Some u) = omega arith

  module _ (g h : Terms) (grown : Grown g h) (before : List ReachedPoint) (es rest : List Entry) (e other joined : Entry) (a : ArePending g image p before es) (x : IsEntry g image p e) (s : IsSound (entry_view g) (runs_of image p) e) (taken : Taken es rest other) (same : other.key ≡ e.key) (y : IsEntry h image p joined) (joins : Joins (entry_view h) e other joined) (w : joined.witness ≡ either e.witness other.witness) where
    -- met by an entry of its point

    after : List ReachedPoint
    after = with_noted p e.key (newly e.witness other.witness) before

    here : Contains es other
    here = taken_itself es rest other taken

    met_sound : IsSound (entry_view h) (runs_of image p) joined
    met_sound = joined_sound laws (runs_of image p) (entry_view h) e other joined joins (sound_grown keeps image p g h grown (runs_of image p) e x s) (sound_grown keeps image p g h grown (runs_of image p) other (a.each other here) (a.sound other here))

    joined_key : joined.key ≡ e.key
    joined_key = joins.key

    by_found : (is_some other.witness ≡ true) ⊎ (is_some (newly e.witness other.witness) ≡ true) → Contains (points_of (with_noted p e.key (newly e.witness other.witness) before)) e.key
    by_found (inl q) = noted_keeps e.key (newly e.witness other.witness) before e.key (subst (Contains (points_of before)) same (a.known other here q))
    by_found (inr q) = noted_new e.key (newly e.witness other.witness) before q

    met_noted : is_some e.witness ≡ true → Contains (points_of (with_noted p e.key (newly e.witness other.witness) before)) e.key
    met_noted q = by_found (either_found e.witness other.witness (first_either e.witness other.witness q))

    met_found : AreAllFound p before es → AreAllFound p (with_noted p e.key (newly e.witness other.witness) before) (rest ++ joined ∷ [])
    met_found k r c side kinds = by_case (noted_cases e.key (newly e.witness other.witness) before r c)
      where
        this : r.point ≡ e.key → is_some (either e.witness other.witness) ≡ true → IsFound (rest ++ joined ∷ []) r.point
        this q found = record { entry = joined; listed = last_listed rest joined; same = joined_key ∙ sym q; found = ap is_some w ∙ found }

        by_taken : (f : IsFound es r.point) → (f.entry ≡ other) ⊎ Contains rest f.entry → IsFound (rest ++ joined ∷ []) r.point
        by_taken f (inl q) =
            this (sym f.same ∙ (ap (λ (n : Entry). n.key) q ∙ same))
            (found_either e.witness other.witness (ap (λ (n : Entry). is_some n.witness) (sym q) ∙ f.found))
        by_taken f (inr d) = record { entry = f.entry; listed = Contains-append_left rest (joined ∷ []) f.entry d; same = f.same; found = f.found }

        by_case : Contains before r ⊎ ((r.point ≡ e.key) × (is_some (newly e.witness other.witness) ≡ true)) → IsFound (rest ++ joined ∷ []) r.point
        by_case (inl d) = let f = k r d side kinds in by_taken f (taken_cases es rest other f.entry taken f.listed)
        by_case (inr (q, new)) = this q (newly_either e.witness other.witness new)

    met_pending : ArePending h image p after (rest ++ joined ∷ [])
    unfolding after
    met_pending = record {
      each = λ f c. each f (Contains-push_cases rest joined f c);
      apart =
          let t = apart_taken entry_key es rest other taken a.apart in
          apart_push entry_key rest joined t.0 (λ f c q. t.1 f c (same ∙ (sym joined_key ∙ sym q)));
      sound = λ f c. sound f (Contains-push_cases rest joined f c);
      known = λ f c q. known f (Contains-push_cases rest joined f c) q;
    }
      where
        each : (f : Entry) → Contains rest f ⊎ (joined ≡ f) → IsEntry h image p f
        each f (inl c) = entry_grown keeps image p g h grown f (a.each f (taken_back es rest other f taken c))
        each f (inr q) = subst (IsEntry h image p) q y

        sound : (f : Entry) → Contains rest f ⊎ (joined ≡ f) → IsSound (entry_view h) (runs_of image p) f
        sound f (inl c) =
            let d = taken_back es rest other f taken c in
            sound_grown keeps image p g h grown (runs_of image p) f (a.each f d) (a.sound f d)
        sound f (inr q) = subst (IsSound (entry_view h) (runs_of image p)) q met_sound

        known : (f : Entry) → Contains rest f ⊎ (joined ≡ f) → is_some f.witness ≡ true → Contains (points_of (with_noted p e.key (newly e.witness other.witness) before)) f.key
        known f (inl c) q = noted_keeps e.key (newly e.witness other.witness) before f.key (a.known f (taken_back es rest other f taken c) q)
        known f (inr r) q =
            let found : is_some (either e.witness other.witness) ≡ true = ap is_some (sym w) ∙ (ap (λ (n : Entry). is_some n.witness) r ∙ q) in
            subst (Contains (points_of (with_noted p e.key (newly e.witness other.witness) before))) (sym joined_key ∙ ap (λ (n : Entry). n.key) r)
            (by_found (either_found e.witness other.witness found))

    met_carries : Carries (runs_of image p) (entry_view g) (es ++ e ∷ []) (entry_view h) (rest ++ joined ∷ [])
    met_carries i b c come t = by_entry (Contains-push_cases es e t.entry t.listed)
      where
        this : IsAt (entry_view h) (runs_of image p) i joined c → IsAtSome (entry_view h) (runs_of image p) (rest ++ joined ∷ []) i c
        this u = record { entry = joined; listed = last_listed rest joined; is_at = u }

        one : IsAt (entry_view g) (runs_of image p) i e c → IsAt (entry_view h) (runs_of image p) i e c
        one u = at_grown keeps image p g h grown (runs_of image p) i e c x u

        two : IsAt (entry_view g) (runs_of image p) i other c → IsAt (entry_view h) (runs_of image p) i other c
        two u = at_grown keeps image p g h grown (runs_of image p) i other c (a.each other here) u

        by_taken : (t.entry ≡ other) ⊎ Contains rest t.entry → IsAtSome (entry_view h) (runs_of image p) (rest ++ joined ∷ []) i c
        by_taken (inl q) = this (joined_at_other laws (runs_of image p) (entry_view h) e other joined joins (sound_grown keeps image p g h grown (runs_of image p) e x s) i b c come (two (subst (λ (n : Entry). IsAt (entry_view g) (runs_of image p) i n c) q t.is_at)))
        by_taken (inr d) = record {
          entry = t.entry;
          listed = Contains-append_left rest (joined ∷ []) t.entry d;
          is_at = at_grown keeps image p g h grown (runs_of image p) i t.entry c (a.each t.entry (taken_back es rest other t.entry taken d)) t.is_at;
        }

        by_entry : Contains es t.entry ⊎ (e ≡ t.entry) → IsAtSome (entry_view h) (runs_of image p) (rest ++ joined ∷ []) i c
        by_entry (inl d) = by_taken (taken_cases es rest other t.entry taken d)
        by_entry (inr q) = this (joined_at_one laws (runs_of image p) (entry_view h) e other joined joins i b c (one (subst (λ (n : Entry). IsAt (entry_view g) (runs_of image p) i n c) (sym q) t.is_at)))

    met_behind : (bound : ℕ) → StaysBehind image p es (rest ++ joined ∷ []) bound
    met_behind bound z (low, none) = (low, λ f c. apart f (Contains-push_cases rest joined f c))
      where
        apart : (f : Entry) → Contains rest f ⊎ (joined ≡ f) → f.key ≢ z
        apart f (inl c) = none f (taken_back es rest other f taken c)
        apart f (inr q) = λ r. none other here (same ∙ (sym joined_key ∙ (ap (λ (n : Entry). n.key) q ∙ r)))

    met_ahead : (bound : ℕ) → AreAhead image p before es bound → bound < e.rank → AreAhead image p after (rest ++ joined ∷ []) bound
    unfolding after
    met_ahead bound k less = record {
      placed = λ r c side kinds. placed r side kinds (noted_cases e.key (newly e.witness other.witness) before r c);
      ahead = λ f c. ahead f (Contains-push_cases rest joined f c);
    }
      where
        joined_found : is_some (either e.witness other.witness) ≡ true → is_some joined.witness ≡ true
        joined_found q = ap is_some w ∙ q

        ahead : (f : Entry) → Contains rest f ⊎ (joined ≡ f) → bound ≤ f.rank
        ahead f (inl c) = k.ahead f (taken_back es rest other f taken c)
        ahead f (inr q) =
            let l = ap (λ (n : Entry). n.rank) q in
            let m = y.rank in
            let n = ap (rank_at image p.pace) joined_key in
            let o = x.rank in
            omega arith

        found : (z : Point) → (f : IsFound es z) → (f.entry ≡ other) ⊎ Contains rest f.entry → IsPlaced image p (rest ++ joined ∷ []) bound z
        found z f (inl q) = inl (record {
          entry = joined;
          listed = last_listed rest joined;
          same = joined_key ∙ (sym same ∙ (ap (λ (n : Entry). n.key) (sym q) ∙ f.same));
          found = joined_found (found_either e.witness other.witness (ap (λ (n : Entry). is_some n.witness) (sym q) ∙ f.found));
        })
        found z f (inr d) = inl (record { entry = f.entry; listed = Contains-append_left rest (joined ∷ []) f.entry d; same = f.same; found = f.found })

        keep : (z : Point) → IsPlaced image p es bound z → IsPlaced image p (rest ++ joined ∷ []) bound z
        keep z (inl f) = found z f (taken_cases es rest other f.entry taken f.listed)
        keep z (inr b) = inr (met_behind bound z b)

        placed : (r : ReachedPoint) → r.point.side ≡ p.side → r.point.kinds ≡ p.kinds → Contains before r ⊎ ((r.point ≡ e.key) × (is_some (newly e.witness other.witness) ≡ true)) → IsPlaced image p (rest ++ joined ∷ []) bound r.point
        placed r side kinds (inl c) = keep r.point (k.placed r c side kinds)
        placed r side kinds (inr (q, new)) = inl (record { entry = joined; listed = last_listed rest joined; same = joined_key ∙ sym q; found = joined_found (newly_either e.witness other.witness new) })

    pub put_met : IsPut image p g h before (with_noted p e.key (newly e.witness other.witness) before) es e (rest ++ joined ∷ [])
    unfolding after
    put_met = record {
      pending = met_pending;
      carries = met_carries;
      ahead = met_ahead;
      found = met_found;
      noted = met_noted;
      behind = λ bound less. met_behind bound;
      adds = noted_passes g e (newly e.witness other.witness) before x s (λ u q. newly_first e.witness other.witness u q);
      count =
          let n = noted_length e.key (newly e.witness other.witness) before in
          let m = sum_by_push (λ (f : Entry). if is_some f.witness then 1 else 0) rest joined in
          let t = taken_sum (λ (f : Entry). if is_some f.witness then 1 else 0) es rest other taken in
          let i = either_count e.witness other.witness in
          let j = ap one_if w in
          grind arith;
      longer =
          let n = length_push rest joined in
          let t = taken_length es rest other taken in
          omega arith;
    }
