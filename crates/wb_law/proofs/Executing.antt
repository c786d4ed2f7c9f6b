-- The addresses that held runs execute, and how points show them.
use Rattle.std.proofs.Common.{◌≡◌, ℕ, Bool, true, false, Option, Some, None, List, [], ◌∷◌, ◌++◌, refl, sym, ap, subst, ◌∙◌}
use mathlib.Core.Logic.◌⊎◌.{inl, inr}
use Rattle.std.specs.List.{AllByRecursion}
use Rattle.std.proofs.lemmas.Bool.{and_left}
use Rattle.std.proofs.lemmas.List.Elements.{All-from_recursion}
use Rattle.wb_word.specs.declared.sides.Side.{Side}
use Rattle.wb_rom.specs.declared.images.Image.{Image}
use Rattle.wb_port.specs.declared.accesses.Access.{Access}
use Rattle.wb_port.specs.declared.accesses.Access.TheVariants as access
use Rattle.wb_port.specs.declared.accesses.Event.TheVariants as event
use Rattle.wb_port.specs.declared.accesses.Kind.{Kind}
use Rattle.wb_port.specs.declared.chips.Chip.{Chip}
use Rattle.wb_port.specs.declared.points.Point.{Point}
use Rattle.wb_port.specs.declared.runs.Run.{Run}
use Rattle.wb_port.specs.declared.runs.Run.TheVariants.{Answered}
use Rattle.wb_port.specs.Port.{rqm}
use Rattle.wb_port.specs.Wait.{is_poll, follow_times}
use Rattle.wb_port.specs.Monitor.{place}
use Rattle.wb_port.specs.Schedule.{powered, applied}
use Rattle.wb_port.specs.Talk.{Talk, kinds, dialogue, transfers_of, IsTransfer}
use Rattle.wb_port.specs.Dialogue.{Fits}
use Rattle.wb_port.specs.Run.{Moment, Steps, Ends, is_waiting, turn, turns, beginning}
use Rattle.wb_law.specs.Course.{stop_of, strides, RestsAt, Given}
use Rattle.wb_port.specs.Points.{point_of, point_at}
use Rattle.wb_law.specs.Points.{PassesAfter}
use Rattle.wb_law.specs.FitLaws.{FrontsFit, StatusReadsAlwaysFit}
use Rattle.wb_port.specs.Executes.{Executes}
use Rattle.wb_law.specs.declared.classes.Class.TheVariants.{Rests, GoesOn}
use Rattle.wb_law.specs.Addresses.{Shows, IsShown, ExecutedAddressesAreShown, ShownAddressesAreExecuted, ReachedPointsShowTheExecuted}
use Rattle.wb_law.proofs.Turns.{moment, gives, waits}
use Rattle.wb_law.proofs.Stops.{strides_then, rests_then}
use Rattle.wb_law.proofs.Eager.{not_stopped}
use Rattle.wb_law.proofs.Ranks.{on_the_way}
use Rattle.wb_law.proofs.Replies.{kinds_stripped, all_transfers}
use Rattle.wb_law.proofs.HeldPoints.{points_after_accesses, last_points}
use Rattle.wb_law.proofs.Telling.{points_tell_what_comes}
use Rattle.wb_law.proofs.Moments.{IsAfter, leads, comes_all, silent_as, held_as}

module _ (image : Image) (k : ℕ) where
  -- a held chip that executes an instruction neither waits nor stops
  works_of : (l g : List Access) (c : Chip) (s : List ℕ) (n : Moment) → turn image k true (moment c l g s) ≡ Steps n → (is_waiting image c ≡ false) × (stop_of image k c ≡ None)
  works_of [] g c s n e = by_wait (is_waiting image c) (stop_of image k c) refl refl
    where
      by_wait : (w : Bool) (o : Option Run) → is_waiting image c ≡ w → stop_of image k c ≡ o → (is_waiting image c ≡ false) × (stop_of image k c ≡ None)
      by_wait true o w q = let t = waits image k c g s w in absurd (cc)
      by_wait false (Some x) w q = let t = held_as image k g c s (Some x) w q in absurd (cc)
      by_wait false None w q = (w, q)
  works_of (a ∷ l) g c s n e = by_request (rqm c.machine) (stop_of image k c) refl refl
    where
      by_request : (r : Bool) (o : Option Run) → rqm c.machine ≡ r → stop_of image k c ≡ o → (is_waiting image c ≡ false) × (stop_of image k c ≡ None)
      by_request true o r q = let t = gives image k true c a l g s r in absurd (cc)
      by_request false (Some x) r q = let t = silent_as image k (a ∷ l) g c s (Some x) r q in absurd (cc)
      by_request false None r q = (and_left (rqm c.machine) (is_poll image (place c)) r, q)

  -- a held run that is answered has given all, and waits
  waits_of : (l g : List Access) (c : Chip) (s r : List ℕ) → turn image k true (moment c l g s) ≡ Ends (Answered r) → (l ≡ []) × (is_waiting image c ≡ true)
  waits_of [] g c s r e = by_wait (is_waiting image c) (stop_of image k c) refl refl
    where
      by_wait : (w : Bool) (o : Option Run) → is_waiting image c ≡ w → stop_of image k c ≡ o → (let none : List Access = [] in none ≡ []) × (is_waiting image c ≡ true)
      by_wait true o w q = (refl, w)
      by_wait false (Some x) w q = let t = held_as image k g c s (Some x) w q in absurd (not_stopped image k c r (let f : stop_of image k c ≡ Some (Answered r) = cc in f))
      by_wait false None w q = let t = held_as image k g c s None w q in absurd (cc)
  waits_of (a ∷ l) g c s r e = by_request (rqm c.machine) (stop_of image k c) refl refl
    where
      by_request : (b : Bool) (o : Option Run) → rqm c.machine ≡ b → stop_of image k c ≡ o → (a ∷ l ≡ []) × (is_waiting image c ≡ true)
      by_request true o b q = let t = gives image k true c a l g s b in absurd (cc)
      by_request false (Some x) b q = let t = silent_as image k (a ∷ l) g c s (Some x) b q in absurd (not_stopped image k c r (let f : stop_of image k c ≡ Some (Answered r) = cc in f))
      by_request false None b q = let t = silent_as image k (a ∷ l) g c s None b q in absurd (cc)

  -- where these accesses are given, the held chip comes to the second chip
  pub record ComesAfter (l : List Access) (c d : Chip) : Type 0 where
    pub after : Chip
    pub given : Given image k l c after
    pub steps : ℕ
    pub comes : strides image k true steps after ≡ d

  comes_from : (l : List Access) (c b d : Chip) → RestsAt image k false c b → ComesAfter l b d → ComesAfter l c d
  comes_from [] c b d r h =
      let w = on_the_way image k c b r in
      let n = strides_then image k true w.0 c b d w.1 h.steps (ap (strides image k true h.steps) h.given ∙ h.comes) in
      record { after = c; given = refl; steps = n.0; comes = n.1 }
  comes_from (a ∷ l) c b d r h =
      let g = h.given in
      record { after = h.after; given = (g.0, rests_then image k false c b g.0 r g.1, g.2); steps = h.steps; comes = h.comes }

  comes_more : (a : Access) (l : List Access) (c b d : Chip) → RestsAt image k false c b → ComesAfter l (applied image (event.Host a) b) d → ComesAfter (a ∷ l) c d
  comes_more a l c b d r h = record { after = h.after; given = (b, r, h.given); steps = h.steps; comes = h.comes }

  -- it comes there without the status reads among them
  comes_stripped : (l : List Access) (c b d : Chip) (n : ℕ) → Given image k l c b → strides image k true n b ≡ d → ComesAfter (transfers_of l) c d
  comes_stripped [] c b d n g e = record { after = b; given = g; steps = n; comes = e }
  comes_stripped (access.Status ∷ l) c b d n g e = comes_from (transfers_of l) c g.0 d g.1 (comes_stripped l g.0 b d n g.2 e)
  comes_stripped (access.Read ∷ l) c b d n g e = comes_more access.Read (transfers_of l) c g.0 d g.1 (comes_stripped l (applied image (event.Host access.Read) g.0) b d n g.2 e)
  comes_stripped (access.Write x ∷ l) c b d n g e = comes_more (access.Write x) (transfers_of l) c g.0 d g.1 (comes_stripped l (applied image (event.Host (access.Write x)) g.0) b d n g.2 e)

transfers_append : (xs ys : List Access) → transfers_of (xs ++ ys) ≡ transfers_of xs ++ transfers_of ys
transfers_append [] ys = refl
transfers_append (access.Status ∷ xs) ys = transfers_append xs ys
transfers_append (access.Read ∷ xs) ys = let e = transfers_append xs ys in cc
transfers_append (access.Write b ∷ xs) ys = let e = transfers_append xs ys in cc

-- what a chip shows that the run comes to
shown : (image : Image) (s : Side) (k : ℕ) (d : Talk) (at : ℕ) (m : Moment) → IsAfter image k d.accesses [] (powered d.start) m → Shows image k (point_of s m) at → IsShown image s k d at
shown image s k d at m h show =
    let c = comes_stripped image k h.front (powered d.start) h.after m.chip h.steps h.given h.comes in
    let front : List Access = transfers_of h.front in
    let t = comes_all image k front [] (powered d.start) c.after [] c.steps c.given in
    let j = t.1 in
    let p : Point = point_at s (kinds front) m.chip in
    let same : kinds m.given ≡ kinds front = ap kinds h.gave ∙ sym (kinds_stripped h.front) in
    let e : d.accesses ≡ h.front ++ m.left = h.parts in
    record {
      front = front;
      rest = transfers_of m.left;
      parts = ap transfers_of e ∙ transfers_append h.front m.left;
      point = p;
      whole = refl;
      passes = (j.0, ap (point_of s) j.1 ∙ ap (λ (y : Chip). point_at s (kinds front) y) c.comes);
      shows = subst (λ (ks : List Kind). Shows image k (record p { kinds = ks }) at) same show;
    }

pub executed_addresses_are_shown : ExecutedAddressesAreShown
executed_addresses_are_shown image s k d at h = go_by h
  where
    go_by : Executes image d k at → IsShown image s k d at
    go_by (inl x) =
        let m = turns image k true x.before (beginning d) in
        let w = works_of image k m.left m.given m.chip m.said x.next x.executes in
        shown image s k d at m (leads image k x.before d.accesses [] (powered d.start) [])
        (inl (record { class = (points_tell_what_comes image k s (kinds m.given) m.chip GoesOn).1 w; place = x.place }))
    go_by (inr x) =
        let m = turns image k true x.before (beginning d) in
        let w = waits_of image k m.left m.given m.chip m.said x.replies x.answered in
        shown image s k d at m (leads image k x.before d.accesses [] (powered d.start) [])
        (inr (record { class = (points_tell_what_comes image k s (kinds m.given) m.chip Rests).1 w.1; follows = x.follows; few = x.few; place = x.place }))

-- a chip that the held one comes to after all accesses executes what it shows
executed : (image : Image) (s : Side) (k : ℕ) (start : List ℕ) (l : List Access) (p : Point) (at : ℕ) → PassesAfter image s k l (powered start) p → Shows image k p at → Executes image (dialogue start l) k at
executed image s k start l p at h show =
    let t = comes_all image k l [] (powered start) h.after [] h.steps h.given in
    go_by t.0 t.1 (subst (λ (q : Point). Shows image k q at) (sym h.point) show)
  where
    c : Chip
    c = strides image k true h.steps h.after

    go_by : (said : List ℕ) → (j : ℕ) × (turns image k true j (beginning (dialogue start l)) ≡ moment c [] l said) → Shows image k (point_at s (kinds l) c) at → Executes image (dialogue start l) k at
    go_by said (j, e) (inl g) = inl (record {
      before = j;
      next = _;
      executes = let w = (points_tell_what_comes image k s (kinds l) c GoesOn).0 g.class in ap (turn image k true) e ∙ held_as image k l c said None w.0 w.1;
      place = ap (λ (m : Moment). place m.chip) e ∙ g.place;
    })
    go_by said (j, e) (inr g) = inr (record {
      before = j;
      replies = said;
      answered = ap (turn image k true) e ∙ waits image k c l said ((points_tell_what_comes image k s (kinds l) c Rests).0 g.class);
      follows = g.follows;
      few = g.few;
      place = ap (λ (m : Moment). follow_times image g.follows (place m.chip)) e ∙ g.place;
    })

pub shown_addresses_are_executed : ShownAddressesAreExecuted
shown_addresses_are_executed image s k d p at only same passes show =
    executed image s k d.start d.accesses p at ((last_points image s k d p only same).0 passes) show

transfers_first : (xs ys : List Access) → AllByRecursion IsTransfer (xs ++ ys) → AllByRecursion IsTransfer xs
transfers_first [] ys h = tt
transfers_first (x ∷ xs) ys h = (h.0, transfers_first xs ys h.1)

pub reached_points_show_the_executed : FrontsFit → StatusReadsAlwaysFit → ReachedPointsShowTheExecuted
reached_points_show_the_executed fronts stripped image s n k shape power at = (
  λ h.
      let d = h.dialogue in
      let w = executed_addresses_are_shown image s k d at h.executes in
      let e : transfers_of d.accesses ≡ w.front ++ w.rest = w.parts in
      let all : AllByRecursion IsTransfer (w.front ++ w.rest) = subst (AllByRecursion IsTransfer) e (all_transfers d.accesses) in
      record {
        point = w.point;
        reached = record {
          dialogue = dialogue d.start w.front;
          fits = fronts n shape power d.start w.front w.rest (subst (λ (x : List Access). Fits n shape power (dialogue d.start x)) e ((stripped n shape power d.start d.accesses).0 h.fits));
          transfers = All-from_recursion IsTransfer w.front (transfers_first w.front w.rest all);
          passes = w.passes;
        };
        shows = w.shows;
      },
  λ h.
      let r = h.reached in
      let d = r.dialogue in
      let w = points_after_accesses image s k d h.point r.passes in
      let e : d.accesses ≡ w.front ++ w.rest = w.parts in
      record {
        dialogue = dialogue d.start w.front;
        fits = fronts n shape power d.start w.front w.rest (subst (λ (x : List Access). Fits n shape power (dialogue d.start x)) e r.fits);
        executes = executed image s k d.start w.front h.point at w.passes h.shows;
      },
)
