-- The circle of stages in which a chip goes that runs one of the two programs: it asks, waits, works, and asks again.
use Rattle.std.proofs.Common.{◌≡◌, ℕ, zero, suc, ◌+◌, ◌/◌, ◌%◌, ◌<◌, ◌≤◌, Bool, true, false, ◌==◌, None, List, [], ◌∷◌, ◌⊎◌, refl, sym, ap, subst, ◌∙◌, arith, inl, inr}
use Rattle.std.proofs.lemmas.Bool.{ne_eqb, cases_lt, cases_Bool, true≢false}
use Rattle.wb_rom.specs.declared.images.Image.{Image}
use Rattle.wb_machine.specs.State.{State, power}
use Rattle.wb_machine.specs.Next.{next}
use Rattle.wb_port.specs.declared.accesses.Access.{Access}
use Rattle.wb_port.specs.declared.accesses.Access.TheVariants as access
use Rattle.wb_port.specs.declared.accesses.Event.TheVariants as event
use Rattle.wb_port.specs.declared.chips.Chip.{Chip}
use Rattle.wb_port.specs.declared.runs.Run.{Run}
use Rattle.wb_port.specs.Facts.{CalmWordsKeepThePort, RaisingWordsTouch}
use Rattle.wb_port.specs.Port.{rqm, drc, drs, after_read, after_write, ported, transferred}
use Rattle.wb_port.specs.Wait.{touches, raises_request, is_test, is_poll, word_of}
use Rattle.wb_port.specs.Monitor.{place, word_at, is_idle, is_breach, is_leaving, observed, stepped}
use Rattle.wb_port.specs.Schedule.{powered, applied}
use Rattle.wb_port.specs.Talk.{Talk, IsTransfer}
use Rattle.wb_port.specs.Run.{EndsAs}
use Rattle.wb_law.specs.Course.{rests, stop_of, stride, strides, StopsAs, RestsAt, Given, StopsBefore, IsStop}
use Rattle.wb_law.specs.Runs.{HeldRunsStopBeforeOrAfter}
use Rattle.wb_gen.proofs.Words.{IsPart, IsCalm, setting_parts, asking_parts, leaving_parts, reading_parts, calm_parts, turning_parts, setting_raises, asking_raises, waiting_raises, reading_raises, turning_raises, waiting_tests, waiting_touches, poll_at_two}

-- the program of an image, with so many calm words in its circle, at a pace that is enough
pub record IsServing (image : Image) (k calm : ℕ) : Type 0 where
  pub sets : word_of image 0 ≡ 0xC10007
  pub asks : word_of image 1 ≡ 0x000026
  pub waits : word_of image 2 ≡ 0x97C008
  pub reads : word_of image 3 ≡ 0x000091
  pub works : (i : ℕ) → i < calm → IsCalm (word_of image (4 + i))
  pub turns : word_of image (4 + calm) ≡ 0xA00004
  pub short : calm < 2000
  pub paced : calm + 3 < k

-- a chip at an address, with this status register, this count, and a request asked or not
pub record Stands (pc sr count : ℕ) (asked : Bool) (c : Chip) : Type 0 where
  pub part : IsPart pc sr c.machine
  pub count_is : c.monitor.count ≡ count
  pub asked_is : c.monitor.asked ≡ asked

-- the stages of the circle, and the two before it
pub data Stage : Type 0 where
  Start : Stage
  First : Stage
  Asking : Stage
  Served : Stage
  Going : ℕ → Stage
  Back : Stage

-- the chip is at the stage
abbrev pub At : ℕ → Stage → Chip → Type 0
At calm Start c = Stands 0 0 0 false c
At calm First c = Stands 1 1024 1 false c
At calm Asking c = Stands 2 33792 0 true c
At calm Served c = Stands 2 1024 0 true c
At calm (Going j) c = Stands (3 + j) 1024 (1 + j) false c
At calm Back c = Stands 1 1024 (calm + 3) false c

-- the stages before the first transfer, and those after one
pub data Group : Type 0 where
  Before : Group
  After : Group

abbrev pub Has : ℕ → Group → Stage → Type 0
Has calm Before Start = Unit {0}
Has calm Before First = Unit {0}
Has calm _ Asking = Unit {0}
Has calm After Served = Unit {0}
Has calm After (Going j) = j ≤ calm + 1
Has calm After Back = Unit {0}
Has calm _ _ = ⊥

pub record IsIn (calm : ℕ) (g : Group) (c : Chip) : Type 0 where
  pub stage : Stage
  pub has : Has calm g stage
  pub at : At calm stage c

-- whether a request stands, by the status register
asks_by : (c : Chip) (pc sr count : ℕ) (asked : Bool) → Stands pc sr count asked c → rqm c.machine ≡ (sr / 32768 % 2 == 1)
unfolding rqm
asks_by c pc sr count asked h = ap (λ (x : ℕ). x / 32768 % 2 == 1) h.part.sr_is

-- a chip that executes its next instruction
pub record IsFree (image : Image) (k : ℕ) (c : Chip) : Type 0 where
  pub works : (held : Bool) → rests image held c ≡ false
  pub runs : stop_of image k c ≡ None

works_by : (image : Image) (c : Chip) (held : Bool) → rqm c.machine ≡ false → rests image held c ≡ false
works_by image c false e = e
works_by image c true e = simp e

runs_by : (image : Image) (k : ℕ) (c : Chip) → c.monitor.count < k → is_breach image c ≡ false → stop_of image k c ≡ None
unfolding stop_of
runs_by image k c less calm =
    let n : (c.monitor.count == k) ≡ false = ne_eqb c.monitor.count k (λ e. absurd (omega arith)) in
    simp (n, calm)

-- a chip of which nothing is asked
unasked_free : (image : Image) (k pc sr count : ℕ) (c : Chip) → Stands pc sr count false c → (sr / 32768 % 2 == 1) ≡ false → count < k → IsFree image k c
unfolding is_breach
unasked_free image k pc sr count c h quiet less =
    let a = h.asked_is in
    let n = h.count_is in
    record {
      works = λ held. works_by image c held (asks_by c pc sr count false h ∙ quiet);
      runs = runs_by image k c (omega arith) (simp a);
    }

unasked_goes : (image : Image) (pc sr count pc_next sr_next : ℕ) (c : Chip) → Stands pc sr count false c
    → raises_request (word_of image pc) ≡ false → IsPart pc_next sr_next (next image c.machine)
    → Stands pc_next sr_next (count + 1) false (stepped image c)
unfolding stepped observed is_idle
unasked_goes image pc sr count pc_next sr_next c h raises part =
    let a = h.asked_is in
    let n = h.count_is in
    let r : raises_request (word_at image c) ≡ false = ap (λ (x : ℕ). raises_request (word_of image x)) h.part.pc_is ∙ raises in
    record { part = part; count_is = simp (a, r, n); asked_is = simp (a, r) }

unasked_asks : (image : Image) (pc sr count pc_next sr_next : ℕ) (c : Chip) → Stands pc sr count false c
    → raises_request (word_of image pc) ≡ true → IsPart pc_next sr_next (next image c.machine)
    → Stands pc_next sr_next 0 true (stepped image c)
unfolding stepped observed is_idle
unasked_asks image pc sr count pc_next sr_next c h raises part =
    let a = h.asked_is in
    let r : raises_request (word_at image c) ≡ true = ap (λ (x : ℕ). raises_request (word_of image x)) h.part.pc_is ∙ raises in
    record { part = part; count_is = simp (a, r); asked_is = simp r }

pub powered_stands : (start : List ℕ) → Stands 0 0 0 false (powered start)
unfolding power
powered_stands start =
    record { part = record { pc_is = refl; sr_is = refl; sp_is = refl; stack_is = refl }; count_is = refl; asked_is = refl }

module _ (keeps : CalmWordsKeepThePort) (raising : RaisingWordsTouch) (image : Image) (k calm : ℕ) (p : IsServing image k calm) where
  -- a chip that waits no more leaves the poll
  pub served_free : (c : Chip) → At calm Served c → IsFree image k c
  unfolding is_breach
  served_free c h =
      let n = h.count_is in
      let w = h.part.pc_is in
      let l = p.paced in
      let poll : is_poll image (place c) ≡ true = ap (is_poll image) w ∙ poll_at_two image p.waits in
      let touch : touches (word_at image c) ≡ true = ap (λ (x : ℕ). touches (word_of image x)) w ∙ (ap touches p.waits ∙ waiting_touches) in
      record {
        works = λ held. works_by image c held (asks_by c 2 1024 0 true h);
        runs = runs_by image k c (omega arith) (simp (h.asked_is, poll, touch));
      }

  pub served_goes : (c : Chip) → At calm Served c → At calm (Going 0) (stepped image c)
  unfolding stepped observed is_idle is_leaving
  served_goes c h =
      let a = h.asked_is in
      let n = h.count_is in
      let w = h.part.pc_is in
      let poll : is_poll image (place c) ≡ true = ap (is_poll image) w ∙ poll_at_two image p.waits in
      let test : is_test (word_at image c) ≡ true = ap (λ (x : ℕ). is_test (word_of image x)) w ∙ (ap is_test p.waits ∙ waiting_tests) in
      let r : raises_request (word_at image c) ≡ false = ap (λ (x : ℕ). raises_request (word_of image x)) w ∙ (ap raises_request p.waits ∙ waiting_raises) in
      let q : rqm c.machine ≡ false = asks_by c 2 1024 0 true h in
      record { part = leaving_parts image c.machine p.waits h.part; count_is = simp (a, poll, test, r, q, n); asked_is = simp (a, poll, test, r, q) }

  -- what each stage comes to: a rest where a request stands, and else the next stage of its group
  abbrev pub Comes : Bool → Group → Chip → Type 0
  Comes held g c = (rests image held c ≡ true) ⊎ (IsFree image k c × IsIn calm g (stepped image c))

  calm_raises : (word : ℕ) → IsCalm word → raises_request word ≡ false
  calm_raises word h = elim (cases_Bool (raises_request word)) [ inl r ↦ absurd (true≢false (sym (raising word r) ∙ h.calm)) | inr r ↦ r ]

  going_parts : (j : ℕ) (s : State) → j ≤ calm → IsPart (3 + j) 1024 s → IsPart (3 + suc j) 1024 (next image s) × (raises_request (word_of image (3 + j)) ≡ false)
  going_parts zero s less h = (reading_parts image s p.reads h, ap raises_request p.reads ∙ reading_raises)
  going_parts (suc i) s less h =
      let at : 4 + i ≡ 3 + suc i = omega arith in
      let l = p.short in
      let w : IsCalm (word_of image (3 + suc i)) = subst (λ (x : ℕ). IsCalm (word_of image x)) at (p.works i (omega arith)) in
      let q : IsPart (3 + suc i + 1) 1024 (next image s) = calm_parts keeps image s (3 + suc i) (omega arith) w h in
      (subst (λ (x : ℕ). IsPart x 1024 (next image s)) (let e : 3 + suc i + 1 ≡ 3 + suc (suc i) = omega arith in e) q, calm_raises (word_of image (3 + suc i)) w)

  pub going_free : (j : ℕ) (c : Chip) → j ≤ calm + 1 → At calm (Going j) c → IsFree image k c
  going_free j c most h = let l = p.paced in unasked_free image k (3 + j) 1024 (1 + j) c h refl (omega arith)

  pub going_on : (j : ℕ) (c : Chip) → j ≤ calm → At calm (Going j) c → At calm (Going (suc j)) (stepped image c)
  going_on j c within h =
      let q = going_parts j c.machine within h.part in
      subst (λ (x : ℕ). Stands (3 + suc j) 1024 x false (stepped image c)) (let n : 1 + j + 1 ≡ 1 + suc j = omega arith in n)
      (unasked_goes image (3 + j) 1024 (1 + j) (3 + suc j) 1024 c h q.1 q.0)

  pub going_turns : (j : ℕ) (c : Chip) → j ≡ calm + 1 → At calm (Going j) c → At calm Back (stepped image c)
  going_turns j c e h =
      let w : word_of image (3 + j) ≡ 0xA00004 = ap (word_of image) (let f : 3 + j ≡ 4 + calm = omega arith in f) ∙ p.turns in
      subst (λ (x : ℕ). Stands 1 1024 x false (stepped image c)) (let n : 1 + j + 1 ≡ calm + 3 = omega arith in n)
      (unasked_goes image (3 + j) 1024 (1 + j) 1 1024 c h (ap raises_request w ∙ turning_raises) (turning_parts image c.machine (3 + j) w h.part))

  going_goes : (j : ℕ) (c : Chip) → j ≤ calm + 1 → At calm (Going j) c → IsFree image k c × IsIn calm After (stepped image c)
  going_goes j c most h = (going_free j c most h, elim (cases_lt calm j) [ inl past ↦ turning past | inr within ↦ on within ])
    where
      turning : calm < j → IsIn calm After (stepped image c)
      turning past = record { stage = Back; has = tt; at = going_turns j c (omega arith) h }

      on : j ≤ calm → IsIn calm After (stepped image c)
      on within = record { stage = Going (suc j); has = omega arith; at = going_on j c within h }

  pub asking_rests : (held : Bool) (c : Chip) → At calm Asking c → rests image held c ≡ true
  asking_rests false c h = asks_by c 2 33792 0 true h
  asking_rests true c h =
      let poll : is_poll image (place c) ≡ true = ap (is_poll image) h.part.pc_is ∙ poll_at_two image p.waits in
      let q : rqm c.machine ≡ true = asks_by c 2 33792 0 true h in
      simp (q, poll)

  pub asked_free : (c : Chip) (count : ℕ) → count < k → Stands 1 1024 count false c → IsFree image k c
  asked_free c count less h = unasked_free image k 1 1024 count c h refl less

  pub asked_again : (c : Chip) (count : ℕ) → Stands 1 1024 count false c → At calm Asking (stepped image c)
  asked_again c count h = unasked_asks image 1 1024 count 2 33792 c h (ap raises_request p.asks ∙ asking_raises) (asking_parts image c.machine p.asks h.part)

  pub start_free : (c : Chip) → At calm Start c → IsFree image k c
  start_free c h = let l = p.paced in unasked_free image k 0 0 0 c h refl (omega arith)

  pub start_goes : (c : Chip) → At calm Start c → At calm First (stepped image c)
  start_goes c h = unasked_goes image 0 0 0 1 1024 c h (ap raises_request p.sets ∙ setting_raises) (setting_parts image c.machine p.sets h.part)

  comes : (held : Bool) (g : Group) (c : Chip) → IsIn calm g c → Comes held g c
  comes held g c h = by_stage g h.stage h.has h.at
    where
      by_stage : (g : Group) (x : Stage) → Has calm g x → At calm x c → Comes held g c
      by_stage Before Start has at = inr (start_free c at, record { stage = First; has = tt; at = start_goes c at })
      by_stage Before First has at =
          inr (asked_free c 1 (let l = p.paced in omega arith) at, record { stage = Asking; has = tt; at = asked_again c 1 at })
      by_stage Before Asking has at = inl (asking_rests held c at)
      by_stage After Asking has at = inl (asking_rests held c at)
      by_stage After Served has at = inr (served_free c at, record { stage = Going 0; has = omega arith; at = served_goes c at })
      by_stage After (Going j) has at = inr (going_goes j c has at)
      by_stage After Back has at =
          inr (asked_free c (calm + 3) p.paced at, record { stage = Asking; has = tt; at = asked_again c (calm + 3) at })
      by_stage Before Served has at = absurd has
      by_stage Before (Going j) has at = absurd has
      by_stage Before Back has at = absurd has
      by_stage After Start has at = absurd has
      by_stage After First has at = absurd has

  stride_in : (held : Bool) (g : Group) (c : Chip) → IsIn calm g c → IsIn calm g (stride image k held c)
  unfolding stride
  stride_in held g c h = elim (comes held g c h) [
    | inl r ↦ subst (IsIn calm g) (let e : c ≡ stride image k held c = simp r in e) h
    | inr t ↦ subst (IsIn calm g) (let r = t.0.works held in let s = t.0.runs in let e : stepped image c ≡ stride image k held c = simp (r, s) in e) t.1
  ]

  pub strides_in : (held : Bool) (g : Group) (j : ℕ) (c : Chip) → IsIn calm g c → IsIn calm g (strides image k held j c)
  strides_in held g zero c h = h
  strides_in held g (suc j) c h = strides_in held g j (stride image k held c) (stride_in held g c h)

  -- a chip of the circle never stops
  pub never_stops : (held : Bool) (g : Group) (c : Chip) (end : Run) → IsIn calm g c → StopsAs image k held c end → ⊥
  never_stops held g c end h s =
      let here : IsIn calm g s.at = subst (IsIn calm g) s.comes (strides_in held g s.steps c h) in
      elim (comes held g s.at here) [
        | inl r ↦ absurd (true≢false (sym r ∙ s.works))
        | inr t ↦ let a = t.0.runs in let b = s.stop in absurd (cc)
      ]

  -- a request stands in one stage alone
  pub asking_there : (g : Group) (c : Chip) → IsIn calm g c → rqm c.machine ≡ true → At calm Asking c
  asking_there g c h r = by_stage h.stage h.at
    where
      by_stage : (x : Stage) → At calm x c → At calm Asking c
      by_stage Start at = absurd (true≢false (sym r ∙ asks_by c 0 0 0 false at))
      by_stage First at = absurd (true≢false (sym r ∙ asks_by c 1 1024 1 false at))
      by_stage Asking at = at
      by_stage Served at = absurd (true≢false (sym r ∙ asks_by c 2 1024 0 true at))
      by_stage (Going j) at = absurd (true≢false (sym r ∙ asks_by c (3 + j) 1024 (1 + j) false at))
      by_stage Back at = absurd (true≢false (sym r ∙ asks_by c 1 1024 (calm + 3) false at))

  -- where an access is given, a request stands
  pub asking_found : (g : Group) (c d : Chip) → IsIn calm g c → RestsAt image k false c d → At calm Asking d
  asking_found g c d h r = asking_there g d (subst (IsIn calm g) r.comes (strides_in false g r.steps c h)) r.rest

  served_parts : (dr : ℕ) (s : State) → IsPart 2 33792 s → IsPart 2 1024 (ported dr (transferred (drc s) (drs s) s.regs.sr) s)
  unfolding drc
  served_parts dr s h = record { pc_is = h.pc_is; sr_is = let e = h.sr_is in rw e refl; sp_is = h.sp_is; stack_is = h.stack_is }

  pub served_by : (a : Access) (c : Chip) → IsTransfer a → At calm Asking c → At calm Served (applied image (event.Host a) c)
  unfolding after_read after_write
  served_by access.Status c t h = absurd t
  served_by access.Read c t h = record { part = served_parts _ c.machine h.part; count_is = h.count_is; asked_is = h.asked_is }
  served_by (access.Write byte) c t h = record { part = served_parts _ c.machine h.part; count_is = h.count_is; asked_is = h.asked_is }

  applied_in : (a : Access) (c : Chip) → At calm Asking c → IsIn calm After (applied image (event.Host a) c)
  applied_in access.Status c h = record { stage = Asking; has = tt; at = h }
  applied_in access.Read c h = record { stage = Served; has = tt; at = served_by access.Read c tt h }
  applied_in (access.Write byte) c h = record { stage = Served; has = tt; at = served_by (access.Write byte) c tt h }

  -- after an access, and at power-up
  pub given_after : (a : Access) (rest : List Access) (g : Group) (c d : Chip) → IsIn calm g c → Given image k (a ∷ rest) c d → IsIn calm After d
  given_after a [] g c d h t = subst (IsIn calm After) t.2 (applied_in a t.0 (asking_found g c t.0 h t.1))
  given_after a (b ∷ rest) g c d h t = given_after b rest After _ d (applied_in a t.0 (asking_found g c t.0 h t.1)) t.2

  pub powered_in : (start : List ℕ) → IsIn calm Before (powered start)
  powered_in start = record { stage = Start; has = tt; at = powered_stands start }

  pub given_in : (accesses : List Access) (start : List ℕ) (d : Chip) → Given image k accesses (powered start) d → (g : Group) × IsIn calm g d
  given_in [] start d t = (Before, subst (IsIn calm Before) t (powered_in start))
  given_in (a ∷ rest) start d t = (After, given_after a rest Before (powered start) d (powered_in start) t)

  -- no run stops
  never_before : (accesses : List Access) (g : Group) (c : Chip) (end : Run) → IsIn calm g c → StopsBefore image k accesses c end → ⊥
  never_before [] g c end h s = s
  never_before (a ∷ rest) g c end h (inl s) = never_stops false g c end h s
  never_before (a ∷ rest) g c end h (inr s) = never_before rest After _ end (applied_in a s.0 (asking_found g c s.0 h s.1)) s.2

  pub held_goes_on : HeldRunsStopBeforeOrAfter → (d : Talk) (end : Run) → IsStop end → EndsAs image k true d end → ⊥
  held_goes_on stopping d end stop ends =
      elim ((stopping image k d.start d.accesses end stop).0 ends) [
        | inl s ↦ never_before d.accesses Before (powered d.start) end (powered_in d.start) s
        | inr s ↦ let t = given_in d.accesses d.start s.after s.given in never_stops true t.0 s.after end t.1 s.stops
      ]
