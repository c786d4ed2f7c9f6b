-- Status reads pass no point: the run without them passes the same ones.
use Rattle.std.proofs.Common.{◌≡◌, ℕ, zero, suc, Bool, true, false, Option, Some, None, List, [], ◌∷◌, ◌++◌, refl, sym, ap, subst, ◌∙◌}
use Rattle.std.proofs.lemmas.List.{append-nil}
use Rattle.std.specs.Option.{option_to_list}
use Rattle.wb_word.specs.declared.sides.Side.{Side}
use Rattle.wb_rom.specs.declared.images.Image.{Image}
use Rattle.wb_port.specs.declared.accesses.Access.{Access}
use Rattle.wb_port.specs.declared.accesses.Access.TheVariants as access
use Rattle.wb_port.specs.declared.accesses.Event.TheVariants as event
use Rattle.wb_port.specs.declared.accesses.Kind.{Kind}
use Rattle.wb_port.specs.declared.chips.Chip.{Chip}
use Rattle.wb_port.specs.declared.points.Point.{Point}
use Rattle.wb_port.specs.declared.runs.Run.{Run}
use Rattle.wb_port.specs.declared.runs.Run.TheVariants.{Answered}
use Rattle.wb_port.specs.Port.{rqm, access_reply}
use Rattle.wb_port.specs.Monitor.{stepped}
use Rattle.wb_port.specs.Schedule.{powered, applied}
use Rattle.wb_port.specs.Talk.{kinds, transfers_of, dialogue}
use Rattle.wb_port.specs.Run.{Moment, Turn, Gives, Steps, Ends, give, is_waiting, turn, goes_on, turns}
use Rattle.wb_law.specs.Course.{stop_of}
use Rattle.wb_port.specs.Points.{point_of, point_at}
use Rattle.wb_law.specs.FitLaws.{StatusReadsAlwaysFit, TransfersAreLeft}
use Rattle.wb_law.specs.Reached.{StatusReadsPassNoPoint, FittingDialoguesPassReachedPoints}
use Rattle.wb_law.proofs.Replies.{kinds_append}
use Rattle.wb_law.proofs.Turns.{moment, gives, waits, stays}
use Rattle.wb_law.proofs.Moments.{silent_as, held_as}

module _ (image : Image) (side : Side) (k : ℕ) where
  -- the point of a chip after these accesses
  abbrev pub spot : List Access → Chip → Point
  spot g c = point_at side (kinds g) c

  -- the held run from the moment passes the point
  abbrev pub Meets : Moment → Point → Type 0
  Meets m p = (j : ℕ) × (point_of side (turns image k true j m) ≡ p)

  meets_later : (m : Moment) (t : Turn) (p : Point) → turn image k true m ≡ t → Meets (goes_on t m) p → Meets m p
  meets_later m t p e h = (suc h.0, ap (λ (u : Turn). point_of side (turns image k true h.0 (goes_on u m))) e ∙ h.1)

  -- from the turn that comes first, and the point met after all
  meets_sooner : (j : ℕ) (m : Moment) (t : Turn) (p : Point) → turn image k true m ≡ t → point_of side (turns image k true (suc j) m) ≡ p → point_of side (turns image k true j (goes_on t m)) ≡ p
  meets_sooner j m t p e q = subst (λ (u : Turn). point_of side (turns image k true j (goes_on u m)) ≡ p) e q

  ended : (j : ℕ) (m : Moment) (x : Run) (p : Point) → turn image k true m ≡ Ends x → point_of side (turns image k true j m) ≡ p → point_of side m ≡ p
  ended j m x p e q = ap (point_of side) (sym (stays image k true m x e j)) ∙ q

  same_spot : (g h : List Access) (c : Chip) → kinds g ≡ kinds h → spot g c ≡ spot h c
  same_spot g h c e = ap (λ (ks : List Kind). point_at side ks c) e

  -- what is passed with some accesses left is passed with others, by the point after so many turns
  abbrev pub PassesToo : List Access → List Access → Point → ℕ → Type 0
  PassesToo l n p j =
      (g h : List Access) (c : Chip) (s t : List ℕ)
      → kinds g ≡ kinds h → point_of side (turns image k true j (moment c l g s)) ≡ p → Meets (moment c n h t) p

  -- the same where a request stands, once it is known of a turn less
  abbrev pub StandsToo : List Access → List Access → Point → Type 0
  StandsToo l n p =
      (j : ℕ) → PassesToo l n p j
      → (g h : List Access) (c : Chip) (s t : List ℕ)
      → kinds g ≡ kinds h → rqm c.machine ≡ true → point_of side (turns image k true (suc j) (moment c l g s)) ≡ p → Meets (moment c n h t) p

  passes_too : (l n : List Access) (p : Point) → StandsToo l n p → (j : ℕ) → PassesToo l n p j
  passes_too l n p stands zero g h c s t e q = (zero, sym (same_spot g h c e) ∙ q)
  passes_too l n p stands (suc j) g h c s t e q = by_request (rqm c.machine) (stop_of image k c) refl refl (passes_too l n p stands j)
    where
      by_request : (r : Bool) (o : Option Run) → rqm c.machine ≡ r → stop_of image k c ≡ o → PassesToo l n p j → Meets (moment c n h t) p
      by_request true o r z rest = stands j rest g h c s t e r q
      by_request false (Some x) r z rest = (zero, sym (same_spot g h c e) ∙ ended (suc j) (moment c l g s) x p (silent_as image k l g c s (Some x) r z) q)
      by_request false None r z rest =
          meets_later (moment c n h t) (Steps (moment (stepped image c) n h t)) p (silent_as image k n h c t None r z)
          (rest g h (stepped image c) s t e (meets_sooner j (moment c l g s) (Steps (moment (stepped image c) l g s)) p (silent_as image k l g c s None r z) q))

  -- with nothing left
  stands_alone : (p : Point) → StandsToo [] [] p
  stands_alone p j rest g h c s t e r q = by_wait (is_waiting image c) (stop_of image k c) refl refl
    where
      by_wait : (w : Bool) (o : Option Run) → is_waiting image c ≡ w → stop_of image k c ≡ o → Meets (moment c [] h t) p
      by_wait true o w z = (zero, sym (same_spot g h c e) ∙ ended (suc j) (moment c [] g s) (Answered s) p (waits image k c g s w) q)
      by_wait false (Some x) w z = (zero, sym (same_spot g h c e) ∙ ended (suc j) (moment c [] g s) x p (held_as image k g c s (Some x) w z) q)
      by_wait false None w z =
          meets_later (moment c [] h t) (Steps (moment (stepped image c) [] h t)) p (held_as image k h c t None w z)
          (rest g h (stepped image c) s t e (meets_sooner j (moment c [] g s) (Steps (moment (stepped image c) [] g s)) p (held_as image k g c s None w z) q))

  -- with the same access first in both
  stands_given : (a : Access) (l n : List Access) (p : Point) → ((j : ℕ) → PassesToo l n p j) → StandsToo (a ∷ l) (a ∷ n) p
  stands_given a l n p later j rest g h c s t e r q =
      meets_later (moment c (a ∷ n) h t) (Gives a (give image a n (moment c (a ∷ n) h t))) p (gives image k true c a n h t r)
      (later j (g ++ a ∷ []) (h ++ a ∷ []) (applied image (event.Host a) c) (s ++ option_to_list (access_reply a c.machine)) (t ++ option_to_list (access_reply a c.machine))
      (kinds_append g (a ∷ []) ∙ (ap (λ (ks : List Kind). ks ++ kinds (a ∷ [])) e ∙ sym (kinds_append h (a ∷ []))))
      (meets_sooner j (moment c (a ∷ l) g s) (Gives a (give image a l (moment c (a ∷ l) g s))) p (gives image k true c a l g s r) q))

  after_status : (g : List Access) → kinds (g ++ access.Status ∷ []) ≡ kinds g
  after_status g = kinds_append g (access.Status ∷ []) ∙ append-nil (kinds g)

  -- with a status read first in one of them
  stands_stripped : (l n : List Access) (p : Point) → ((j : ℕ) → PassesToo l n p j) → StandsToo (access.Status ∷ l) n p
  stands_stripped l n p later j rest g h c s t e r q =
      later j (g ++ access.Status ∷ []) h c (s ++ option_to_list (access_reply access.Status c.machine)) t (after_status g ∙ e)
      (meets_sooner j (moment c (access.Status ∷ l) g s) (Gives access.Status (give image access.Status l (moment c (access.Status ∷ l) g s))) p (gives image k true c access.Status l g s r) q)

  stands_added : (l n : List Access) (p : Point) → ((j : ℕ) → PassesToo l n p j) → StandsToo l (access.Status ∷ n) p
  stands_added l n p later j rest g h c s t e r q =
      meets_later (moment c (access.Status ∷ n) h t) (Gives access.Status (give image access.Status n (moment c (access.Status ∷ n) h t))) p (gives image k true c access.Status n h t r)
      (later (suc j) g (h ++ access.Status ∷ []) c s (t ++ option_to_list (access_reply access.Status c.machine)) (e ∙ sym (after_status h)) q)

  pub without : (l : List Access) (p : Point) (j : ℕ) → PassesToo l (transfers_of l) p j
  without [] p = passes_too [] [] p (stands_alone p)
  without (access.Status ∷ l) p = passes_too (access.Status ∷ l) (transfers_of l) p (stands_stripped l (transfers_of l) p (without l p))
  without (access.Read ∷ l) p = passes_too (access.Read ∷ l) (access.Read ∷ transfers_of l) p (stands_given access.Read l (transfers_of l) p (without l p))
  without (access.Write b ∷ l) p = passes_too (access.Write b ∷ l) (access.Write b ∷ transfers_of l) p (stands_given (access.Write b) l (transfers_of l) p (without l p))

  pub with_them : (l : List Access) (p : Point) (j : ℕ) → PassesToo (transfers_of l) l p j
  with_them [] p = passes_too [] [] p (stands_alone p)
  with_them (access.Status ∷ l) p = passes_too (transfers_of l) (access.Status ∷ l) p (stands_added (transfers_of l) l p (with_them l p))
  with_them (access.Read ∷ l) p = passes_too (access.Read ∷ transfers_of l) (access.Read ∷ l) p (stands_given access.Read (transfers_of l) l p (with_them l p))
  with_them (access.Write b ∷ l) p = passes_too (access.Write b ∷ transfers_of l) (access.Write b ∷ l) p (stands_given (access.Write b) (transfers_of l) l p (with_them l p))

pub status_reads_pass_no_point : StatusReadsPassNoPoint
status_reads_pass_no_point image s k start accesses p = (
  λ h. without image s k accesses p h.0 [] [] (powered start) [] [] refl h.1,
  λ h. with_them image s k accesses p h.0 [] [] (powered start) [] [] refl h.1,
)

pub fitting_dialogues_pass_reached_points : StatusReadsAlwaysFit → TransfersAreLeft → FittingDialoguesPassReachedPoints
fitting_dialogues_pass_reached_points fit only image s n k shape power d p f h =
    let l = only d.accesses in
    record {
      dialogue = dialogue d.start (transfers_of d.accesses);
      fits = (fit n shape power d.start d.accesses).0 f;
      transfers = l.left;
      passes = (status_reads_pass_no_point image s k d.start d.accesses p).0 h;
    }
