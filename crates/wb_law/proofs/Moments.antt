-- The moments of a held run, access by access.
use Rattle.std.proofs.Common.{◌≡◌, ℕ, zero, suc, Bool, true, false, Option, Some, None, List, [], ◌∷◌, ◌++◌, append_assoc, refl, sym, ap, subst, ◌∙◌}
use Rattle.std.proofs.lemmas.Bool.{and_left}
use Rattle.std.proofs.lemmas.List.{append-nil}
use Rattle.std.specs.Option.{option_to_list}
use Rattle.wb_rom.specs.declared.images.Image.{Image}
use Rattle.wb_port.specs.declared.accesses.Access.{Access}
use Rattle.wb_port.specs.declared.accesses.Event.TheVariants as event
use Rattle.wb_port.specs.declared.chips.Chip.{Chip}
use Rattle.wb_port.specs.declared.runs.Run.{Run}
use Rattle.wb_port.specs.declared.runs.Run.TheVariants.{Answered}
use Rattle.wb_port.specs.Port.{rqm, access_reply}
use Rattle.wb_port.specs.Wait.{is_poll}
use Rattle.wb_port.specs.Monitor.{place, stepped}
use Rattle.wb_port.specs.Schedule.{applied}
use Rattle.wb_port.specs.Run.{Moment, Turn, Gives, Steps, is_waiting, turn, goes_on, turns}
use Rattle.wb_law.specs.Course.{stop_of, stride, strides, Given}
use Rattle.wb_law.proofs.Turns.{moment, gives, waits, stays}
use Rattle.wb_law.proofs.Course.{stride_rests, stride_stops, stride_steps, strides_rest, strides_stop, rests_before, rests_here, gone, passed, held_turn, works_turn}

module _ (image : Image) (k : ℕ) where
  -- while no request stands, a held chip does the same whatever is left
  silent : (l g : List Access) (c : Chip) (s : List ℕ) → rqm c.machine ≡ false → turn image k true (moment c l g s) ≡ gone image k (stop_of image k c) (moment c l g s)
  silent [] g c s r = held_turn image k g c s (and_left (rqm c.machine) (is_poll image (place c)) r)
  silent (a ∷ l) g c s r = works_turn image k true a l g c s r

  pub silent_as : (l g : List Access) (c : Chip) (s : List ℕ) (o : Option Run) → rqm c.machine ≡ false → stop_of image k c ≡ o → turn image k true (moment c l g s) ≡ gone image k o (moment c l g s)
  silent_as l g c s o r q = silent l g c s r ∙ ap (λ (z : Option Run). gone image k z (moment c l g s)) q

  pub held_as : (g : List Access) (c : Chip) (s : List ℕ) (o : Option Run) → is_waiting image c ≡ false → stop_of image k c ≡ o → turn image k true (moment c [] g s) ≡ gone image k o (moment c [] g s)
  held_as g c s o r q = held_turn image k g c s r ∙ ap (λ (z : Option Run). gone image k z (moment c [] g s)) q

  -- the moment comes after some of the accesses that were left, by strides of the held chip
  pub record IsAfter (l g : List Access) (c : Chip) (m : Moment) : Type 0 where
    pub front : List Access
    pub parts : l ≡ front ++ m.left
    pub gave : m.given ≡ g ++ front
    pub after : Chip
    pub given : Given image k front c after
    pub steps : ℕ
    pub comes : strides image k true steps after ≡ m.chip

  after_none : (l g : List Access) (c : Chip) (s : List ℕ) (m : Moment) → m ≡ moment c l g s → IsAfter l g c m
  after_none l g c s m e = record {
    front = [];
    parts = ap (λ (n : Moment). n.left) (sym e);
    gave = ap (λ (n : Moment). n.given) e ∙ sym (append-nil g);
    after = c;
    given = refl;
    steps = zero;
    comes = ap (λ (n : Moment). n.chip) (sym e);
  }

  -- after an instruction; where an access was given since, no request stood before it
  after_step : (l g : List Access) (c : Chip) (m : Moment) → is_waiting image c ≡ false → stop_of image k c ≡ None
      → ((a : Access) (front : List Access) → l ≡ a ∷ front ++ m.left → rqm c.machine ≡ false)
      → IsAfter l g (stepped image c) m → IsAfter l g c m
  after_step l g c m w o silent h = go_by h.front h.parts h.gave h.given
    where
      go_by : (front : List Access) → l ≡ front ++ m.left → m.given ≡ g ++ front → Given image k front (stepped image c) h.after → IsAfter l g c m
      go_by [] e gave given = record {
        front = [];
        parts = e;
        gave = gave;
        after = c;
        given = refl;
        steps = suc h.steps;
        comes = ap (strides image k true h.steps) (stride_steps image k true c w o ∙ given) ∙ h.comes;
      }
      go_by (a ∷ front) e gave given = record {
        front = a ∷ front;
        parts = e;
        gave = gave;
        after = h.after;
        given = (given.0, rests_before image k false c given.0 (silent a front e) o given.1, given.2);
        steps = h.steps;
        comes = h.comes;
      }

  after_given : (a : Access) (l g : List Access) (c : Chip) (m : Moment) → rqm c.machine ≡ true → IsAfter l (g ++ a ∷ []) (applied image (event.Host a) c) m → IsAfter (a ∷ l) g c m
  after_given a l g c m r h = record {
    front = a ∷ h.front;
    parts = let e = h.parts in ap (λ (x : List Access). a ∷ x) e;
    gave = h.gave ∙ append_assoc g (a ∷ []) h.front;
    after = h.after;
    given = (c, rests_here image k false c r, h.given);
    steps = h.steps;
    comes = h.comes;
  }

  -- where the run is after so many turns
  pub leads : (j : ℕ) (l g : List Access) (c : Chip) (s : List ℕ) → IsAfter l g c (turns image k true j (moment c l g s))
  leads zero l g c s = after_none l g c s (moment c l g s) refl
  leads (suc j) [] g c s = by_wait (is_waiting image c) (stop_of image k c) refl refl (leads j [] g (stepped image c) s)
    where
      m : Moment
      m = moment c [] g s

      n : Moment
      n = turns image k true (suc j) m

      none : (a : Access) (front : List Access) → [] ≡ a ∷ front ++ n.left → rqm c.machine ≡ false
      none a front e = cc

      by_wait : (r : Bool) (o : Option Run) → is_waiting image c ≡ r → stop_of image k c ≡ o
          → IsAfter [] g (stepped image c) (turns image k true j (moment (stepped image c) [] g s)) → IsAfter [] g c n
      by_wait true o r q rest = after_none [] g c s n (stays image k true m (Answered s) (waits image k c g s r) (suc j))
      by_wait false (Some x) r q rest = after_none [] g c s n (stays image k true m x (held_as g c s (Some x) r q) (suc j))
      by_wait false None r q rest =
          after_step [] g c n r q none
          (subst (λ (u : Turn). IsAfter [] g (stepped image c) (turns image k true j (goes_on u m))) (sym (held_as g c s None r q)) rest)
  leads (suc j) (a ∷ l) g c s =
      by_request (rqm c.machine) (stop_of image k c) refl refl
      (leads j l (g ++ a ∷ []) (applied image (event.Host a) c) (s ++ option_to_list (access_reply a c.machine)))
      (leads j (a ∷ l) g (stepped image c) s)
    where
      m : Moment
      m = moment c (a ∷ l) g s

      n : Moment
      n = turns image k true (suc j) m

      by_request : (r : Bool) (o : Option Run) → rqm c.machine ≡ r → stop_of image k c ≡ o
          → IsAfter l (g ++ a ∷ []) (applied image (event.Host a) c) (turns image k true j (passed image k a l c g s))
          → IsAfter (a ∷ l) g (stepped image c) (turns image k true j (moment (stepped image c) (a ∷ l) g s))
          → IsAfter (a ∷ l) g c n
      by_request true o r q given rest =
          after_given a l g c n r
          (subst (λ (u : Turn). IsAfter l (g ++ a ∷ []) (applied image (event.Host a) c) (turns image k true j (goes_on u m))) (sym (gives image k true c a l g s r)) given)
      by_request false (Some x) r q given rest = after_none (a ∷ l) g c s n (stays image k true m x (silent_as (a ∷ l) g c s (Some x) r q) (suc j))
      by_request false None r q given rest =
          after_step (a ∷ l) g c n (and_left (rqm c.machine) (is_poll image (place c)) r) q (λ b front e. r)
          (subst (λ (u : Turn). IsAfter (a ∷ l) g (stepped image c) (turns image k true j (goes_on u m))) (sym (silent_as (a ∷ l) g c s None r q)) rest)

  -- back from strides to turns
  abbrev pub Comes : Moment → Moment → Type 0
  Comes m n = (j : ℕ) × (turns image k true j m ≡ n)

  comes_later : (m n : Moment) (t : Turn) → turn image k true m ≡ t → Comes (goes_on t m) n → Comes m n
  comes_later m n t e h = (suc h.0, ap (λ (u : Turn). turns image k true h.0 (goes_on u m)) e ∙ h.1)

  comes_held : (n : ℕ) (c : Chip) (g : List Access) (s : List ℕ) → Comes (moment c [] g s) (moment (strides image k true n c) [] g s)
  comes_held zero c g s = (zero, refl)
  comes_held (suc n) c g s = by_wait (is_waiting image c) (stop_of image k c) refl refl (comes_held n (stepped image c) g s)
    where
      by_wait : (r : Bool) (o : Option Run) → is_waiting image c ≡ r → stop_of image k c ≡ o
          → Comes (moment (stepped image c) [] g s) (moment (strides image k true n (stepped image c)) [] g s)
          → Comes (moment c [] g s) (moment (strides image k true (suc n) c) [] g s)
      by_wait true o r q rest = (zero, ap (λ (y : Chip). moment y [] g s) (sym (strides_rest image k true (suc n) c r)))
      by_wait false (Some x) r q rest = (zero, ap (λ (y : Chip). moment y [] g s) (sym (strides_stop image k true (suc n) c x q)))
      by_wait false None r q rest =
          comes_later (moment c [] g s) (moment (strides image k true (suc n) c) [] g s) (Steps (moment (stepped image c) [] g s)) (held_as g c s None r q)
          (subst (λ (y : Chip). Comes (moment (stepped image c) [] g s) (moment (strides image k true n y) [] g s)) (sym (stride_steps image k true c r q)) rest)

  comes_works : (j : ℕ) (a : Access) (l g : List Access) (c d : Chip) (s : List ℕ) (n : Moment) → strides image k false j c ≡ d → Comes (moment d (a ∷ l) g s) n → Comes (moment c (a ∷ l) g s) n
  comes_works zero a l g c d s n e h = subst (λ (x : Chip). Comes (moment x (a ∷ l) g s) n) (sym e) h
  comes_works (suc j) a l g c d s n e h = by_request (rqm c.machine) (stop_of image k c) refl refl (comes_works j a l g (stride image k false c) d s n e h)
    where
      by_request : (r : Bool) (o : Option Run) → rqm c.machine ≡ r → stop_of image k c ≡ o → Comes (moment (stride image k false c) (a ∷ l) g s) n → Comes (moment c (a ∷ l) g s) n
      by_request true o r q h = subst (λ (x : Chip). Comes (moment x (a ∷ l) g s) n) (stride_rests image k false c r) h
      by_request false (Some y) r q h = subst (λ (x : Chip). Comes (moment x (a ∷ l) g s) n) (stride_stops image k false c y q) h
      by_request false None r q h =
          comes_later (moment c (a ∷ l) g s) n (Steps (moment (stepped image c) (a ∷ l) g s)) (silent_as (a ∷ l) g c s None r q)
          (subst (λ (x : Chip). Comes (moment x (a ∷ l) g s) n) (stride_steps image k false c r q) h)

  -- after all accesses the run comes to each chip to which the held chip strides
  pub comes_all : (l g : List Access) (c d : Chip) (s : List ℕ) (n : ℕ) → Given image k l c d
      → (t : List ℕ) × Comes (moment c l g s) (moment (strides image k true n d) [] (g ++ l) t)
  comes_all [] g c d s n h = (
    s,
    subst (λ (x : Chip). Comes (moment c [] g s) (moment (strides image k true n x) [] (g ++ []) s)) h
        (subst (λ (x : List Access). Comes (moment c [] g s) (moment (strides image k true n c) [] x s)) (sym (append-nil g)) (comes_held n c g s)),
  )
  comes_all (a ∷ l) g c d s n h =
      let r = h.1 in
      let b = h.0 in
      let t = comes_all l (g ++ a ∷ []) (applied image (event.Host a) b) d (s ++ option_to_list (access_reply a b.machine)) n h.2 in
      let there : Moment = moment (strides image k true n d) [] (g ++ a ∷ l) t.0 in (
        t.0,
        comes_works r.steps a l g c b s there r.comes
            (comes_later (moment b (a ∷ l) g s) there (Gives a (passed image k a l b g s)) (gives image k true b a l g s r.rest)
            (subst (λ (x : List Access). Comes (passed image k a l b g s) (moment (strides image k true n d) [] x t.0)) (append_assoc g (a ∷ []) l) t.1)),
      )
