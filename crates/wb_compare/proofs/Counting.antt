-- A call of the exploration adds a point for each request state that it makes.
use Rattle.std.proofs.Common.{◌≡◌, ◌≢◌, ℕ, suc, ◌/◌, ◌%◌, ◌==◌, ◌≤◌, Bool, true, false, List, [], ◌∷◌, ◌++◌, ◌⊎◌, inl, inr, length, map, refl, sym, ap, subst, ◌∙◌, arith}
use Rattle.std.specs.Prelude.{Contains, All, AllPairs}
use Rattle.std.proofs.lemmas.List.{length-map, map-append, append-nil}
use Rattle.std.proofs.lemmas.List.Kept.{AllPairs-cons}
use Rattle.std.proofs.lemmas.List.Elements.{Contains-append_cases}
use Rattle.wb_word.specs.declared.sides.Side.{Side}
use Rattle.wb_rom.specs.declared.images.Image.{Image}
use Rattle.wb_term.specs.Inputs.{Assignment}
use Rattle.wb_term.specs.Terms.{Terms}
use Rattle.wb_term.specs.Values.{word_value}
use Rattle.wb_machine.specs.State.{State}
use Rattle.wb_port.specs.declared.accesses.Kind.{Kind}
use Rattle.wb_port.specs.declared.chips.Chip.{Chip}
use Rattle.wb_port.specs.declared.points.Point.{Point}
use Rattle.wb_port.specs.declared.points.Shown.{Shown}
use Rattle.wb_port.specs.NextPoint.{shown_of}
use Rattle.wb_port.specs.Port.{rqm, drs}
use Rattle.wb_port.specs.Points.{Passes, point_at}
use Rattle.wb_port.specs.Talk.{kinds}
use Rattle.wb_law.specs.Requests.{IsFresh}
use Rattle.wb_law.specs.Values.{DifferentValuesAreNoMore}
use Rattle.wb_symstep.specs.declared.state.SymState.{SymState}
use Rattle.wb_symstep.specs.State.{status, StandsFor}
use Rattle.wb_point.specs.Shows.{shows}
use Rattle.wb_point.specs.Dialogues.{dialogue_under, accesses_under, start_under}
use Rattle.wb_explore.specs.declared.plan.Plan.{Plan}
use Rattle.wb_explore.specs.declared.layer.Request.{Request}
use Rattle.wb_explore.specs.declared.reached.ReachedPoint.{ReachedPoint}
use Rattle.wb_explore.specs.Runs.{Asks}
use Rattle.wb_explore.specs.Plans.{runs_of}
use Rattle.wb_explore.specs.Purses.{points_of}
use Rattle.wb_explore.specs.Explored.{IsOfOther}
use Rattle.wb_explore.specs.Layers.{Requests, request_point, IsLayer, Knows, AddsPassed}
use Rattle.wb_compare.specs.Laws.{RunLaws}
use Rattle.wb_compare.proofs.Lists.{listed_head, listed_tail, listed_cases, listed_none, from_all, all_from}

-- what a state shows is what the machine shows for which it stands

status_requests : (r d : Bool) (w : ℕ) → (status r d w / 32768 % 2 == 1) ≡ r
status_requests true true w = let e : status true true w / 32768 % 2 ≡ 1 = omega arith in ap (λ (n : ℕ). n == 1) e
status_requests true false w = let e : status true false w / 32768 % 2 ≡ 1 = omega arith in ap (λ (n : ℕ). n == 1) e
status_requests false true w = let e : status false true w / 32768 % 2 ≡ 0 = omega arith in ap (λ (n : ℕ). n == 1) e
status_requests false false w = let e : status false false w / 32768 % 2 ≡ 0 = omega arith in ap (λ (n : ℕ). n == 1) e

status_halves : (r d : Bool) (w : ℕ) → (status r d w / 4096 % 2 == 1) ≡ d
status_halves true true w = let e : status true true w / 4096 % 2 ≡ 1 = omega arith in ap (λ (n : ℕ). n == 1) e
status_halves false true w = let e : status false true w / 4096 % 2 ≡ 1 = omega arith in ap (λ (n : ℕ). n == 1) e
status_halves true false w = let e : status true false w / 4096 % 2 ≡ 0 = omega arith in ap (λ (n : ℕ). n == 1) e
status_halves false false w = let e : status false false w / 4096 % 2 ≡ 0 = omega arith in ap (λ (n : ℕ). n == 1) e

state_shows : (i : Assignment) (g : Terms) (s : SymState) (m : State) → StandsFor i g s m → shows s ≡ shown_of m
unfolding rqm drs
state_shows i g s m st =
    let pc = st.pc in
    let sp = st.sp in
    let stack = st.stack in
    let request : s.rqm ≡ rqm m = sym (status_requests s.rqm s.drs (word_value i g s.sr)) ∙ ap (λ (n : ℕ). n / 32768 % 2 == 1) st.sr in
    let second : s.drs ≡ drs m = sym (status_halves s.rqm s.drs (word_value i g s.sr)) ∙ ap (λ (n : ℕ). n / 4096 % 2 == 1) st.sr in
    cc

-- lists that a function makes

module _ {X Y : Type 0} (f : X → Y) where
  pub made_listed : (xs : List X) (y : Y) → Contains (map f xs) y → (x : X) × Contains xs x × (f x ≡ y)
  made_listed [] y c = absurd (listed_none y c)
  made_listed (x ∷ xs) y c = elim (listed_cases (f x) y (map f xs) c) [ inl e ↦ (x, listed_head x x xs refl, e) | inr d ↦ more (made_listed xs y d) ]
    where
      more : ((z : X) × Contains xs z × (f z ≡ y)) → (z : X) × Contains (x ∷ xs) z × (f z ≡ y)
      more (z, h, e) = (z, listed_tail x z xs h, e)

  apart_made : (R : X → X → Type 0) (S : Y → Y → Type 0) → ((x z : X) → R x z → S (f x) (f z)) → (xs : List X) → AllPairs R xs → AllPairs S (map f xs)
  apart_made R S from [] h = λ i j d less within. absurd (omega arith)
  apart_made R S from (x ∷ xs) h = AllPairs-cons S (f x) (map f xs)
      (all_from (S (f x)) (map f xs) (λ y c. behind y (made_listed xs y c)))
      (apart_made R S from xs (λ i j d less within. h (suc i) (suc j) d (omega arith) (omega arith)))
    where
      behind : (y : Y) → ((z : X) × Contains xs z × (f z ≡ y)) → S (f x) y
      behind y (z, (k, less, e), same) =
          let r = h 0 (suc k) z (omega arith) (omega arith) in
          subst (S (f x)) same (from x z (subst (R x) e r))

module _ (laws : RunLaws) (no_more : DifferentValuesAreNoMore Point) (image : Image) (p : Plan) (g : Terms) (old new : List ReachedPoint) (l : Requests) where
  -- the point of a request state is one that was added

  built : Side → List Kind → ℕ → Bool → Shown → Point
  built s ks n asked x = record { side = s; kinds = ks; count = n; pc = x.pc; sp = x.sp; stack = x.stack; asked = asked; rqm = x.rqm; drs = x.drs }

  at_request : (c : Chip) (s : SymState) → IsFresh c → shows s ≡ shown_of c.machine → point_at p.side p.kinds c ≡ request_point p s
  unfolding built
  at_request c s fresh same =
      ap (λ (n : ℕ). built p.side p.kinds n c.monitor.asked (shown_of c.machine)) fresh.count
      ∙ ap (λ (b : Bool). built p.side p.kinds 0 b (shown_of c.machine)) fresh.asked
      ∙ ap (λ (x : Shown). built p.side p.kinds 0 true x) (sym same)

  asks_passes : (i : Assignment) (c : Chip) → Asks (runs_of image p) i c → Passes image p.side p.pace (dialogue_under p.kinds i p.power) (point_at p.side p.kinds c)
  asks_passes i c asks =
      let k = laws.of_kinds p.kinds i p.power in
      let way = laws.on_the_way image p.pace asks.after c asks.request in
      (laws.passed_last image p.side p.pace (dialogue_under p.kinds i p.power) (point_at p.side p.kinds c) k.transfers (sym k.kinds)).1
      (record {
        after = asks.after;
        given = asks.given;
        steps = way.0;
        point = ap (point_at p.side (kinds (accesses_under i 0 p.kinds))) way.1 ∙ ap (λ (ks : List Kind). point_at p.side ks c) k.kinds;
      })

  request_known : IsLayer g image l → l.plan ≡ p → Knows image p new → (q : Request) → Contains l.requests q → Contains (points_of new) (request_point p q.state)
  request_known layer plan knows q listed =
      let r = layer.each q listed in
      let t = layer.requests.sound q listed q.inputs r.assignment r.reached in
      let asks = subst (λ (o : Plan). Asks (runs_of image o) q.inputs t.0) plan t.1 in
      let fresh = laws.first_fresh image p.pace (start_under q.inputs p.power) (accesses_under q.inputs 0 p.kinds) t.0 asks in
      subst (Contains (points_of new)) (at_request t.0 q.state fresh (state_shows q.inputs g q.state t.0.machine t.2))
      (knows p.kinds [] (sym (append-nil p.kinds)) q.inputs r.assignment (point_at p.side p.kinds t.0) (asks_passes q.inputs t.0 asks))

  not_before : All (IsOfOther p) old → (s : SymState) → Contains (points_of old) (request_point p s) → ⊥
  not_before others s c =
      let x = made_listed (λ (r : ReachedPoint). r.point) old (request_point p s) c in
      from_all (IsOfOther p) old x.0 others x.1 (ap (λ (y : Point). y.side) x.2) (ap (λ (y : Point). y.kinds) x.2)

  pub requests_are_few : IsLayer g image l → l.plan ≡ p → Knows image p new → All (IsOfOther p) old → (a : AddsPassed image p old new) → length l.requests ≤ length a.added
  requests_are_few layer plan knows others a =
      let n = no_more (map (λ (q : Request). request_point p q.state) l.requests) (points_of a.added) apart (all_from (Contains (points_of a.added)) (map (λ (q : Request). request_point p q.state) l.requests) (λ y c. added y (made_listed (λ (q : Request). request_point p q.state) l.requests y c))) in
      let e = length-map l.requests (λ (q : Request). request_point p q.state) in
      let f = length-map a.added (λ (r : ReachedPoint). r.point) in
      omega arith
    where
      shown_point : Point → Shown
      shown_point x = record { pc = x.pc; sp = x.sp; stack = x.stack; rqm = x.rqm; drs = x.drs }

      apart : AllPairs (λ x y. x ≢ y) (map (λ (q : Request). request_point p q.state) l.requests)
      apart = apart_made (λ (q : Request). request_point p q.state) (λ (x y : Request). shows x.state ≢ shows y.state) (λ x y. x ≢ y) (λ x z differ same. differ (ap shown_point same)) l.requests layer.apart

      added : (y : Point) → ((q : Request) × Contains l.requests q × (request_point p q.state ≡ y)) → Contains (points_of a.added) y
      added y (q, listed, same) = subst (Contains (points_of a.added)) same (by_case (Contains-append_cases (points_of old) (points_of a.added) (request_point p q.state) whole))
        where
          whole : Contains (points_of old ++ points_of a.added) (request_point p q.state)
          whole =
              subst (λ (xs : List Point). Contains xs (request_point p q.state)) (map-append (λ (r : ReachedPoint). r.point) old a.added)
              (subst (λ (rs : List ReachedPoint). Contains (points_of rs) (request_point p q.state)) a.after (request_known layer plan knows q listed))

          by_case : Contains (points_of old) (request_point p q.state) ⊎ Contains (points_of a.added) (request_point p q.state) → Contains (points_of a.added) (request_point p q.state)
          by_case (inl c) = absurd (not_before others q.state c)
          by_case (inr c) = c
