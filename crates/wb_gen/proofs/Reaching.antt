-- The points that the held runs of the demo pass: those of the circle, after each list of kinds.
use Rattle.std.proofs.Common.{◌≡◌, ℕ, suc, ◌+◌, ◌*◌, ◌/◌, ◌%◌, ◌<◌, Bool, true, false, ◌==◌, List, [], ◌∷◌, ◌++◌, length, map, replicate, refl, sym, subst, ◌∙◌, arith, length-append}
use Rattle.std.specs.Prelude.{Contains}
use Rattle.std.specs.List.{range_with_len, AllByRecursion}
use Rattle.std.proofs.lemmas.List.FromFn.{length-map-range_with_len, get_or-map-range_with_len}
use Rattle.std.proofs.lemmas.List.Elements.{Contains-append_left, Contains-append_right, recursion_from_All}
use Rattle.wb_word.specs.declared.sides.Side.{Side}
use Rattle.wb_word.specs.declared.sides.Side.TheVariants as side
use Rattle.wb_rom.specs.declared.images.Image.{Image}
use Rattle.wb_port.specs.declared.accesses.Access.{Access}
use Rattle.wb_port.specs.declared.accesses.Access.TheVariants as access
use Rattle.wb_port.specs.declared.accesses.Kind.{Kind}
use Rattle.wb_port.specs.declared.accesses.Kind.TheVariants as kind
use Rattle.wb_port.specs.declared.accesses.Power.{Power}
use Rattle.wb_port.specs.declared.chips.Chip.{Chip}
use Rattle.wb_port.specs.declared.points.Point.{Point}
use Rattle.wb_port.specs.Dialogue.{Fits, AllowsEach}
use Rattle.wb_port.specs.Facts.{CalmWordsKeepThePort, RaisingWordsTouch}
use Rattle.wb_law.specs.FitLaws.{FrontsFit}
use Rattle.wb_port.specs.Points.{point_at, IsReachedOn}
use Rattle.wb_port.specs.Port.{rqm, drs}
use Rattle.wb_port.specs.Schedule.{powered}
use Rattle.wb_port.specs.Talk.{kinds, dialogue, IsTransfer}
use Rattle.wb_law.specs.Course.{strides, Given}
use Rattle.wb_law.specs.Points.{PointsArePassedAfterAccesses}
use Rattle.wb_law.specs.Reached.{ListsBoundPointsOfASide, BoundsOfSidesAddUp}
use Rattle.wb_gen.specs.Laws.{demo_shape, PairsReachFewPoints}
use Rattle.wb_gen.proofs.Circle.{Stands, Stage, Start, First, Asking, Served, Going, Back, At, Before, After, Has, IsIn, IsServing, strides_in, given_after, powered_in}
use Rattle.wb_gen.proofs.Programs.{serving_pair}

module _ (s : Side) (calm : ℕ) where
  -- the point of a chip that stands so
  spot : List Kind → ℕ → ℕ → ℕ → Bool → Point
  spot ks pc sr count asked =
      record {
        side = s;
        kinds = ks;
        count = count;
        pc = pc;
        sp = 0;
        stack = replicate 4 0;
        asked = asked;
        rqm = sr / 32768 % 2 == 1;
        drs = sr / 4096 % 2 == 1;
      }

  stands_point : (ks : List Kind) (pc sr count : ℕ) (asked : Bool) (c : Chip) → Stands pc sr count asked c → point_at s ks c ≡ spot ks pc sr count asked
  unfolding spot rqm drs
  stands_point ks pc sr count asked c h =
      let p = h.part.pc_is in
      let r = h.part.sr_is in
      let q = h.part.sp_is in
      let t = h.part.stack_is in
      let n = h.count_is in
      let a = h.asked_is in
      simp (p, r, q, t, n, a)

  before_points : List Point
  before_points = spot [] 0 0 0 false ∷ spot [] 1 1024 1 false ∷ spot [] 2 33792 0 true ∷ []

  going_point : List Kind → ℕ → Point
  going_point ks j = spot ks (3 + j) 1024 (1 + j) false

  going_points : List Kind → List Point
  going_points ks = map (going_point ks) (range_with_len 0 (calm + 2))

  after_points : List Kind → List Point
  after_points ks = spot ks 2 33792 0 true ∷ spot ks 2 1024 0 true ∷ spot ks 1 1024 (calm + 3) false ∷ going_points ks

  after_length : (ks : List Kind) → length (after_points ks) ≡ calm + 5
  unfolding after_points going_points
  after_length ks = let l = length-map-range_with_len (going_point ks) 0 (calm + 2) in omega arith

  abbrev w : List Kind
  w = kind.Write ∷ []

  abbrev wr : List Kind
  wr = kind.Write ∷ kind.Read ∷ []

  abbrev wrw : List Kind
  wrw = kind.Write ∷ kind.Read ∷ kind.Write ∷ []

  abbrev wrwr : List Kind
  wrwr = kind.Write ∷ kind.Read ∷ kind.Write ∷ kind.Read ∷ []

  all_points : List Point
  all_points = before_points ++ (after_points w ++ (after_points wr ++ (after_points wrw ++ after_points wrwr)))

  all_length : length all_points ≡ 3 + 4 * (calm + 5)
  unfolding all_points before_points
  all_length =
      let a = after_length w in
      let b = after_length wr in
      let c = after_length wrw in
      let d = after_length wrwr in
      omega (
        arith,
        length-append (after_points w) (after_points wr ++ (after_points wrw ++ after_points wrwr)),
        length-append (after_points wr) (after_points wrw ++ after_points wrwr),
        length-append (after_points wrw) (after_points wrwr),
      )

  -- each point of the circle stands in the list of its kinds
  before_listed : (c : Chip) → IsIn calm Before c → Contains before_points (point_at s [] c)
  unfolding before_points
  before_listed c h = by_stage h.stage h.has h.at
    where
      by_stage : (x : Stage) → Has calm Before x → At calm x c → Contains before_points (point_at s [] c)
      by_stage Start has at = (0, omega arith, sym (stands_point [] 0 0 0 false c at))
      by_stage First has at = (1, omega arith, sym (stands_point [] 1 1024 1 false c at))
      by_stage Asking has at = (2, omega arith, sym (stands_point [] 2 33792 0 true c at))
      by_stage Served has at = absurd has
      by_stage (Going j) has at = absurd has
      by_stage Back has at = absurd has

  after_listed : (ks : List Kind) (c : Chip) → IsIn calm After c → Contains (after_points ks) (point_at s ks c)
  unfolding after_points going_points going_point
  after_listed ks c h = by_stage h.stage h.has h.at
    where
      by_stage : (x : Stage) → Has calm After x → At calm x c → Contains (after_points ks) (point_at s ks c)
      by_stage Asking has at = (0, omega arith, sym (stands_point ks 2 33792 0 true c at))
      by_stage Served has at = (1, omega arith, sym (stands_point ks 2 1024 0 true c at))
      by_stage Back has at = (2, omega arith, sym (stands_point ks 1 1024 (calm + 3) false c at))
      by_stage (Going j) has at =
          let less : j < calm + 2 = omega arith in
          let l = length-map-range_with_len (going_point ks) 0 (calm + 2) in
          let e : point_at s ks c ≡ going_point ks j = stands_point ks (3 + j) 1024 (1 + j) false c at in
          (suc (suc (suc j)), omega arith, get_or-map-range_with_len (going_point ks) 0 (calm + 2) j j (point_at s ks c) less (omega arith) ∙ sym e)
      by_stage Start has at = absurd has
      by_stage First has at = absurd has

  -- the lists of kinds that the shape of the demo allows
  in_all : (x : Point) (k : Kind) (ks : List Kind) → AllowsEach demo_shape (k ∷ ks) → Contains (after_points (k ∷ ks)) x → Contains all_points x
  unfolding all_points
  in_all x kind.Write [] h c =
      Contains-append_right before_points _ x (Contains-append_left (after_points w) (after_points wr ++ (after_points wrw ++ after_points wrwr)) x c)
  in_all x kind.Write (kind.Read ∷ []) h c =
      Contains-append_right before_points _ x (Contains-append_right (after_points w) _ x (Contains-append_left (after_points wr) (after_points wrw ++ after_points wrwr) x c))
  in_all x kind.Write (kind.Read ∷ kind.Write ∷ []) h c =
      Contains-append_right before_points _ x (Contains-append_right (after_points w) _ x (Contains-append_right (after_points wr) _ x (Contains-append_left (after_points wrw) (after_points wrwr) x c)))
  in_all x kind.Write (kind.Read ∷ kind.Write ∷ kind.Read ∷ []) h c =
      Contains-append_right before_points _ x (Contains-append_right (after_points w) _ x (Contains-append_right (after_points wr) _ x (Contains-append_right (after_points wrw) (after_points wrwr) x c)))
  in_all x kind.Write (kind.Read ∷ kind.Write ∷ kind.Read ∷ k ∷ ks) h c = absurd h.1.1.1.1
  in_all x kind.Write (kind.Read ∷ kind.Write ∷ kind.Write ∷ ks) h c = absurd h.1.1.1.0
  in_all x kind.Write (kind.Read ∷ kind.Read ∷ ks) h c = absurd h.1.1.0
  in_all x kind.Write (kind.Write ∷ ks) h c = absurd h.1.0
  in_all x kind.Read ks h c = absurd h.0

first_transfer : (a : Access) (front rest : List Access) → AllByRecursion IsTransfer ((a ∷ front) ++ rest) → (k : Kind) × (kinds (a ∷ front) ≡ k ∷ kinds front)
first_transfer access.Status front rest h = absurd h.0
first_transfer access.Read front rest h = (kind.Read, refl)
first_transfer (access.Write byte) front rest h = (kind.Write, refl)

module _ (keeps : CalmWordsKeepThePort) (raising : RaisingWordsTouch) (fronts : FrontsFit) (passed : PointsArePassedAfterAccesses) where
  listed : (image : Image) (s : Side) (calm : ℕ) (power : Power) → IsServing image 101 calm
      → (x : Point) → IsReachedOn image s 4 101 demo_shape power x → Contains (all_points s calm) x
  unfolding all_points before_points
  listed image s calm power p x r =
      let d = r.dialogue in
      let v = passed image s 101 d x r.passes in
      let t = v.passes in
      let fit : Fits 4 demo_shape power (dialogue d.start (v.front ++ v.rest)) = subst (λ (l : List Access). Fits 4 demo_shape power (dialogue d.start l)) v.parts r.fits in
      let shaped = (fronts 4 demo_shape power d.start v.front v.rest fit).shaped in
      let all : AllByRecursion IsTransfer (v.front ++ v.rest) = subst (AllByRecursion IsTransfer) v.parts (recursion_from_All IsTransfer d.accesses r.transfers) in
      by_front d.start v.front v.rest t.after t.steps shaped all t.given t.point
    where
      by_front : (start : List ℕ) (front rest : List Access) (after : Chip) (steps : ℕ) → AllowsEach demo_shape (kinds front) → AllByRecursion IsTransfer (front ++ rest)
          → Given image 101 front (powered start) after → point_at s (kinds front) (strides image 101 true steps after) ≡ x → Contains (all_points s calm) x
      by_front start [] rest after steps shaped all given e =
          let here : IsIn calm Before after = subst (IsIn calm Before) given (powered_in keeps raising image 101 calm p start) in
          let there = strides_in keeps raising image 101 calm p true Before steps after here in
          Contains-append_left (before_points s calm) _ x (subst (Contains (before_points s calm)) e (before_listed s calm _ there))
      by_front start (a ∷ front) rest after steps shaped all given e =
          let k = first_transfer a front rest all in
          let here = given_after keeps raising image 101 calm p a front Before (powered start) after (powered_in keeps raising image 101 calm p start) given in
          let there = strides_in keeps raising image 101 calm p true After steps after here in
          let there_listed : Contains (after_points s calm (kinds (a ∷ front))) x = subst (Contains (after_points s calm (kinds (a ∷ front)))) e (after_listed s calm (kinds (a ∷ front)) _ there) in
          in_all s calm x k.0 (kinds front) (subst (AllowsEach demo_shape) k.1 shaped) (subst (λ (ks : List Kind). Contains (after_points s calm ks) x) k.1 there_listed)

  pub pairs_reach_few_points : ListsBoundPointsOfASide → BoundsOfSidesAddUp → PairsReachFewPoints
  pairs_reach_few_points lists sums body a b power h p =
      let q = serving_pair body a b h p in
      let fl = all_length side.A 65 in
      let sl = all_length side.B 97 in
      let first = lists a side.A 4 101 demo_shape power (all_points side.A 65) 283 (listed a side.A 65 power q.first) (omega arith) in
      let second = lists b side.B 4 101 demo_shape power (all_points side.B 97) 411 (listed b side.B 97 power q.second) (omega arith) in
      record { first = first; second = second; both = sums a b 4 101 demo_shape power 283 411 first second }
