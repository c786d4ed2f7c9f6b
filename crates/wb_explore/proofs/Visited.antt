-- A confirmed entry is visited: it is done with, and listed where it has just raised a request.
use Rattle.std.proofs.Common.{◌≡◌, ◌≢◌, ℕ, Bool, true, false, Option, Some, None, List, [], ◌∷◌, ◌++◌, ◌⊎◌, inl, inr, refl, sym, ap, subst, ◌∙◌, arith}
use Rattle.std.specs.Prelude.{Contains, All, is_some, slice_index_or}
use Rattle.std.proofs.lemmas.Bool.{both_ways}
use Rattle.std.proofs.lemmas.List.{get_or_default}
use Rattle.std.proofs.lemmas.List.Elements.{Contains-append_left, Contains-append_right, Contains-push_cases}
use Rattle.std.proofs.lemmas.List.Quantifiers.{all_pairs_push}
use Rattle.wb_word.specs.declared.sides.Side.{Side}
use Rattle.wb_rom.specs.declared.images.Image.{Image}
use Rattle.wb_term.specs.Inputs.{Assignment, IsAssignment}
use Rattle.wb_term.specs.Terms.{Terms, HasBit}
use Rattle.wb_term.specs.Values.{bit_value}
use Rattle.wb_term.specs.Under.{HasOnly}
use Rattle.wb_term.specs.Growth.{Grown}
use Rattle.wb_term.specs.declared.nodes.BitId.{BitId}
use Rattle.wb_port.specs.declared.accesses.Kind.{Kind}
use Rattle.wb_port.specs.declared.chips.Chip.{Chip}
use Rattle.wb_port.specs.declared.points.Point.{Point}
use Rattle.wb_port.specs.declared.points.Shown.{Shown}
use Rattle.wb_port.specs.NextPoint.{showing}
use Rattle.wb_port.specs.Port.{rqm}
use Rattle.wb_port.specs.Talk.{Talk}
use Rattle.wb_law.specs.declared.classes.Class.{Class}
use Rattle.wb_law.specs.declared.classes.Class.TheVariants as class
use Rattle.wb_law.specs.Classes.{class_at, DoesNext}
use Rattle.wb_symstep.specs.declared.state.SymState.{SymState}
use Rattle.wb_symstep.specs.State.{StandsFor, IsSymState, StateHasOnly}
use Rattle.wb_symstep.specs.Laws.{GrowthKeepsStates}
use Rattle.wb_point.specs.Shows.{shows}
use Rattle.wb_point.specs.Laws.{DialoguesAreOfTheirKinds}
use Rattle.wb_explore.specs.declared.plan.Plan.{Plan}
use Rattle.wb_explore.specs.declared.entries.Entry.{Entry}
use Rattle.wb_explore.specs.declared.layer.Request.{Request}
use Rattle.wb_explore.specs.declared.reached.ReachedPoint.{ReachedPoint}
use Rattle.wb_explore.specs.HeldLaws.{HeldLaws}
use Rattle.wb_explore.specs.Runs.{Comes, point_in}
use Rattle.wb_explore.specs.Entries.{IsAt, IsSound, IsAtSome, IsAhead}
use Rattle.wb_explore.specs.Plans.{runs_of, is_chosen}
use Rattle.wb_explore.specs.Purses.{points_of}
use Rattle.wb_explore.specs.Seen.{IsSeen}
use Rattle.wb_explore.specs.Explored.{KeepsOlder}
use Rattle.wb_explore.specs.Layers.{request_view, request_point, IsRequest, AddsPassed}
use Rattle.wb_explore.specs.Pending.{entry_view, IsBehind}
use Rattle.wb_explore.specs.Walk.{AreFound, IsUnderWay, IsUp, IsDone, IsRequestAs, ListsRequest}
use Rattle.wb_explore.proofs.Lists.{listed_head, listed_cases, listed_point, point_listed}
use Rattle.wb_explore.proofs.Ways.{Leads, paced, resting_ends, overrun_ends}
use Rattle.wb_explore.proofs.Covering.{class_of, passed, gone_on}
use Rattle.wb_explore.proofs.Growing.{entry_grown}

-- a point of its parts
abbrev point_by : Side → List Kind → ℕ → Bool → Shown → Point
point_by side kinds count asked m = record {
  side = side;
  kinds = kinds;
  count = count;
  pc = m.pc;
  sp = m.sp;
  stack = m.stack;
  asked = asked;
  rqm = m.rqm;
  drs = m.drs;
}

same_point : (k : Point) (p : Plan) (s : SymState) → k.side ≡ p.side → k.kinds ≡ p.kinds → k.count ≡ 0 → k.asked ≡ true → showing (shows s) k ≡ k → request_point p s ≡ k
same_point k p s side kinds count asked shown =
    sym (ap (λ (x : Side). point_by x p.kinds 0 true (shows s)) side)
    ∙ (sym (ap (λ (x : List Kind). point_by k.side x 0 true (shows s)) kinds)
    ∙ (sym (ap (λ (x : ℕ). point_by k.side k.kinds x true (shows s)) count)
    ∙ (sym (ap (λ (x : Bool). point_by k.side k.kinds k.count x (shows s)) asked)
    ∙ shown)))

stays_kept : (old new : Option Talk) → KeepsOlder old new → is_some old ≡ true → is_some new ≡ true
stays_kept (Some d) new k q = ap is_some k
stays_kept None new k q = absurd (both_ways false refl q)

pub points_stay : (image : Image) (p : Plan) (before after : List ReachedPoint) → AddsPassed image p before after → (x : Point) → Contains (points_of before) x → Contains (points_of after) x
points_stay image p before after adds x c =
    let r = point_listed before x c in
    subst (Contains (points_of after)) r.2 (listed_point after r.0 (subst (λ (l : List ReachedPoint). Contains l r.0) (sym adds.after) (Contains-append_left before adds.added r.0 r.1)))

module _ (keeps : GrowthKeepsStates) (image : Image) (p : Plan) (g h : Terms) (grown : Grown g h) where
  -- request states in a graph that has grown

  pub request_grown : (q : Request) → IsRequest g p q → IsRequest h p q
  request_grown q x =
      let s = keeps g h grown in
      record {
        state = s.there q.state x.state;
        cond = grown.bits q.cond x.cond;
        stands = x.stands;
        state_inputs = s.only (is_chosen p.kinds p.power) q.state x.state x.state_inputs;
        cond_inputs = grown.bit_inputs (is_chosen p.kinds p.power) q.cond x.cond x.cond_inputs;
        assignment = x.assignment;
        normal = x.normal;
        reached = grown.bit_values q.inputs q.cond x.cond ∙ x.reached;
      }

  pub request_at : (q : Request) → IsRequest g p q → (i : Assignment) (c : Chip) → IsAt (request_view p g) (runs_of image p) i q c → IsAt (request_view p h) (runs_of image p) i q c
  request_at q x i c t = record {
    holds = grown.bit_values i q.cond x.cond ∙ t.holds;
    stands = (keeps g h grown).stands i q.state c.machine x.state t.stands;
    key = t.key;
  }

  pub request_sound : (q : Request) → IsRequest g p q → IsSound (request_view p g) (runs_of image p) q → IsSound (request_view p h) (runs_of image p) q
  request_sound q x s i a holds =
      let t = s i a (sym (grown.bit_values i q.cond x.cond) ∙ holds) in
      (t.0, t.1, request_at q x i t.0 t.2)

module _ (laws : HeldLaws) (kinds_law : DialoguesAreOfTheirKinds) (keeps : GrowthKeepsStates) (image : Image) (p : Plan) (g h : Terms) (grown : Grown g h)
    (before after : List ReachedPoint) (adds : AddsPassed image p before after) (e : Entry) (es fs : List Entry) (qs rs : List Request) (o n : Option Talk)
    (u : IsUp g image p before e es qs o) (found : is_some e.witness ≡ true) (done : IsDone image p g h before after es e fs o n) (lists : ListsRequest e qs rs) where
  -- the request state of the entry

  asked_at : (w : Assignment) → e.witness ≡ Some w → e.key.rqm ≡ true → e.key.asked ≡ true
  asked_at w q stands =
      let x = u.entry.witness w q in
      let t = u.sound w x.assignment x.reached in
      sym (ap (λ (k : Point). k.asked) t.2.key) ∙ (paced laws (runs_of image p) w t.0 t.1).asked (ap (λ (k : Point). k.rqm) t.2.key ∙ stands)

  module _ (q : Request) (is : IsRequestAs e q) where
    its_point : request_point p q.state ≡ e.key
    its_point =
        ap (request_point p) is.state
        ∙ same_point e.key p e.state u.entry.side u.entry.kinds is.fresh (asked_at q.inputs is.inputs is.stands) u.entry.shown

    its_request : IsRequest h p q
    its_request =
        let x = entry_grown keeps image p g h grown e u.entry in
        let w = x.witness q.inputs is.inputs in
        record {
          state = subst (IsSymState h) (sym is.state) x.state;
          cond = subst (HasBit h) (sym is.cond) x.cond;
          stands = ap (λ (s : SymState). s.rqm) is.state ∙ (ap (λ (k : Point). k.rqm) x.shown ∙ is.stands);
          state_inputs = subst (StateHasOnly h (is_chosen p.kinds p.power)) (sym is.state) x.state_inputs;
          cond_inputs = subst (λ (b : BitId). HasOnly h (is_chosen p.kinds p.power) b.number) (sym is.cond) x.cond_inputs;
          assignment = w.assignment;
          normal = w.normal;
          reached = subst (λ (b : BitId). bit_value q.inputs h b ≡ true) (sym is.cond) w.reached;
        }

    its_at : (i : Assignment) (c : Chip) → IsAt (entry_view g) (runs_of image p) i e c → IsAt (request_view p h) (runs_of image p) i q c
    its_at i c t = record {
      holds = ap (λ (b : BitId). bit_value i h b) is.cond ∙ (grown.bit_values i e.cond u.entry.cond ∙ t.holds);
      stands = subst (λ (s : SymState). StandsFor i h s c.machine) (sym is.state) ((keeps g h grown).stands i e.state c.machine u.entry.state t.stands);
      key = t.key ∙ sym its_point;
    }

    its_sound : IsSound (request_view p h) (runs_of image p) q
    its_sound i a holds =
        let t = u.sound i a (sym (grown.bit_values i e.cond u.entry.cond) ∙ (ap (λ (b : BitId). bit_value i h b) (sym is.cond) ∙ holds)) in
        (t.0, t.1, its_at i t.0 t.2)

    apart_from : (a : Request) → Contains qs a → shows a.state ≢ shows q.state
    apart_from a c alike = u.others a c (shown_point a.state q.state alike ∙ its_point)
      where
        shown_point : (s t : SymState) → shows s ≡ shows t → request_point p s ≡ request_point p t
        shown_point s t e = ap (point_by p.side p.kinds 0 true) e

  -- the request states then

  found_old : AreFound h image p fs e.rank qs
  found_old = record {
    each = λ q c. request_grown keeps image p g h grown q (u.requests.each q c);
    sound = λ q c. request_sound keeps image p g h grown q (u.requests.each q c) (u.requests.sound q c);
    apart = u.requests.apart;
    behind = λ q c. done.behind (request_point p q.state) (u.requests.behind q c);
  }

  here_behind : IsBehind image p es e.rank e.key
  here_behind = (let r = u.entry.rank in omega arith, u.alone)

  found_one : (q : Request) → IsRequestAs e q → AreFound h image p fs e.rank (qs ++ q ∷ [])
  found_one q is = record {
    each = λ a c. each a (Contains-push_cases qs q a c);
    sound = λ a c. sound a (Contains-push_cases qs q a c);
    apart = all_pairs_push (λ (a b : Request). shows a.state ≢ shows b.state) qs q u.requests.apart apart;
    behind = λ a c. behind a (Contains-push_cases qs q a c);
  }
    where
      each : (a : Request) → Contains qs a ⊎ (q ≡ a) → IsRequest h p a
      each a (inl c) = found_old.each a c
      each a (inr r) = subst (IsRequest h p) r (its_request q is)

      sound : (a : Request) → Contains qs a ⊎ (q ≡ a) → IsSound (request_view p h) (runs_of image p) a
      sound a (inl c) = found_old.sound a c
      sound a (inr r) = subst (IsSound (request_view p h) (runs_of image p)) r (its_sound q is)

      behind : (a : Request) → Contains qs a ⊎ (q ≡ a) → IsBehind image p fs e.rank (request_point p a.state)
      behind a (inl c) = found_old.behind a c
      behind a (inr r) = subst (λ (b : Request). IsBehind image p fs e.rank (request_point p b.state)) r (subst (IsBehind image p fs e.rank) (sym (its_point q is)) (done.behind e.key here_behind))

      apart : All (λ (a : Request). shows a.state ≢ shows q.state) qs
      apart k d less = apart_from q is (slice_index_or qs k d) (k, less, get_or_default qs k (slice_index_or qs k d) d less)

  found_then : ListsRequest e qs rs → AreFound h image p fs e.rank rs
  found_then (inl (q, is, same)) = subst (AreFound h image p fs e.rank) (sym same) (found_one q is)
  found_then (inr (none, same)) = subst (AreFound h image p fs e.rank) (sym same) found_old

  -- what was seen

  abbrev Old : Assignment → Chip → Type 0
  Old = IsSeen (request_view p g) (runs_of image p) (points_of before) qs (is_some o)

  abbrev Now : Assignment → Chip → Type 0
  Now = IsSeen (request_view p h) (runs_of image p) (points_of after) rs (is_some n)

  still_there : ListsRequest e qs rs → (q : Request) → Contains qs q → Contains rs q
  still_there (inl (r, is, same)) q c = subst (λ (l : List Request). Contains l q) (sym same) (Contains-append_left qs (r ∷ []) q c)
  still_there (inr (none, same)) q c = subst (λ (l : List Request). Contains l q) (sym same) c

  seen_still : (i : Assignment) → IsAssignment i → (c : Chip) → Comes (runs_of image p) i c → Old i c → Now i c
  seen_still i a c come s = record {
    point = points_stay image p before after adds (point_in (runs_of image p) c) s.point;
    request = λ stands fresh. let t = s.request stands fresh in record {
      entry = t.entry;
      listed = still_there lists t.entry t.listed;
      is_at = request_at keeps image p g h grown t.entry (u.requests.each t.entry t.listed) i c t.is_at;
    };
    overruns = λ does. stays_kept o n done.older (s.overruns does);
    breaches = s.breaches;
  }

  raised : ListsRequest e qs rs → (i : Assignment) (d : Chip) → IsAt (entry_view g) (runs_of image p) i e d → rqm d.machine ≡ true → d.monitor.count ≡ 0 → IsAtSome (request_view p h) (runs_of image p) rs i d
  raised (inl (q, is, same)) i d t stands fresh = record {
    entry = q;
    listed = subst (λ (l : List Request). Contains l q) (sym same) (Contains-append_right qs (q ∷ []) q (listed_head q q [] refl));
    is_at = its_at q is i d t;
  }
  raised (inr (none, same)) i d t stands fresh = absurd (none (sym (ap (λ (k : Point). k.rqm) t.key) ∙ stands) (sym (ap (λ (k : Point). k.count) t.key) ∙ fresh))

  its_class : (x : Class) (i : Assignment) (d : Chip) → IsAt (entry_view g) (runs_of image p) i e d → DoesNext image p.pace d x → class_at image p.pace e.key ≡ x
  its_class x i d t does = ap (class_at image p.pace) (sym t.key) ∙ (laws.tells image p.pace p.side p.kinds d x).1 does

  seen_here : (i : Assignment) → IsAssignment i → (d : Chip) → Comes (runs_of image p) i d → IsAt (entry_view g) (runs_of image p) i e d → Now i d
  seen_here i a d come t = record {
    point = points_stay image p before after adds (point_in (runs_of image p) d) (subst (Contains (points_of before)) (sym t.key) (u.known found));
    request = raised lists i d t;
    overruns = λ does. done.kept (its_class class.Overruns i d t does);
    breaches = λ does. done.stays (its_class class.Breaches i d t does);
  }

  -- all to which the entry's chips lead is seen or ahead

  led : (i : Assignment) → IsAssignment i → (d : Chip) → Comes (runs_of image p) i d → IsAt (entry_view g) (runs_of image p) i e d → (c : Chip) → Leads laws (runs_of image p) d c
      → Now i c ⊎ IsAhead (entry_view h) (runs_of image p) fs i c
  led i a d come t c leads = by_class (class_at image p.pace e.key) refl
    where
      ends : d ≡ c → Now i c ⊎ IsAhead (entry_view h) (runs_of image p) fs i c
      ends same = inl (subst (Now i) same (seen_here i a d come t))

      by_class : (x : Class) → class_at image p.pace e.key ≡ x → Now i c ⊎ IsAhead (entry_view h) (runs_of image p) fs i c
      by_class class.Rests q = ends (resting_ends laws (runs_of image p) d c (class_of laws (runs_of image p) (entry_view g) e class.Rests i d t q) leads)
      by_class class.Overruns q = ends (overrun_ends laws (runs_of image p) d c (class_of laws (runs_of image p) (entry_view g) e class.Overruns i d t q) leads)
      by_class class.Breaches q = absurd (done.stays q)
      by_class class.GoesOn q = gone_on laws (runs_of image p) (entry_view g) e (entry_view h) fs Now q seen_here (done.arrives q) i a d come t c leads

  pub visited : IsUnderWay h image p after fs rs n
  visited = record {
    bound = e.rank;
    pending = done.pending;
    ahead = done.ahead;
    requests = found_then lists;
    covered = covered;
    right = done.right;
  }
    where
      covered : (i : Assignment) → IsAssignment i → (c : Chip) → Comes (runs_of image p) i c → IsSeen (request_view p h) (runs_of image p) (points_of after) rs (is_some n) i c ⊎ IsAhead (entry_view h) (runs_of image p) fs i c
      covered = passed laws (runs_of image p) (entry_view g) (e ∷ es) es fs e (entry_view h) Old Now (λ x c. elim (listed_cases e x es c) [ inl q ↦ inl (sym q) | inr d ↦ inr d ]) seen_still done.carries led u.covered
