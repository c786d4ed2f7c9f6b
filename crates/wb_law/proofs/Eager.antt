-- An eager host is a host: a plain run that is answered is an obedient schedule.
use Rattle.std.proofs.Common.{◌≡◌, ℕ, zero, suc, Bool, true, false, ◌==◌, Option, Some, None, List, [], ◌∷◌, ◌++◌, append_assoc, refl, sym, ap, subst, ◌∙◌}
use mathlib.Core.Logic.◌⊎◌.{inl, inr}
use Rattle.std.proofs.lemmas.Bool.{eq-eqb}
use Rattle.std.proofs.lemmas.List.{append-nil}
use Rattle.std.specs.Option.{option_to_list}
use Rattle.wb_rom.specs.declared.images.Image.{Image}
use Rattle.wb_port.specs.declared.accesses.Access.{Access}
use Rattle.wb_port.specs.declared.accesses.Access.TheVariants as access
use Rattle.wb_port.specs.declared.accesses.Event.{Event}
use Rattle.wb_port.specs.declared.accesses.Event.TheVariants as event
use Rattle.wb_port.specs.declared.chips.Chip.{Chip}
use Rattle.wb_port.specs.declared.runs.Run.{Run}
use Rattle.wb_port.specs.declared.runs.Run.TheVariants.{Answered, Overrun}
use Rattle.wb_port.specs.Port.{rqm, access_reply}
use Rattle.wb_port.specs.Monitor.{is_idle, is_breach, stepped}
use Rattle.wb_port.specs.Schedule.{powered, applied, IsPolite, IsPoliteEvent, KeepsPace, talk_from, said_from, talk, said}
use Rattle.wb_port.specs.Talk.{Talk}
use Rattle.wb_port.specs.Run.{EndsAs}
use Rattle.wb_port.specs.Dialogue.{Fits}
use Rattle.wb_law.specs.Schedules.{AnsweredRunsAreSchedules, DifferencesRefute, RepliesDecide}
use Rattle.wb_law.specs.PortFacts.{PortFacts}
use Rattle.wb_law.specs.Course.{stop_of, stride, strides, Ran}
use Rattle.wb_law.proofs.Course.{stride_rests, stride_stops, stride_steps, ran_if_ends}
use Rattle.wb_law.proofs.Faithful.{told_standing, reply_standing, every_schedule}

module _ (image : Image) (k : ℕ) where
  -- a schedule from the chip that gives these accesses and says these bytes
  pub record Holds (c : Chip) (l : List Access) (r : List ℕ) : Type 0 where
    pub schedule : List Event
    pub polite : IsPolite image schedule c
    pub paced : KeepsPace image k schedule c
    pub gives : talk_from image schedule c ≡ l
    pub says : said_from image schedule c ≡ r

  unstopped : (c : Chip) → stop_of image k c ≡ None → (c.monitor.count ≡ k → is_idle image c ≡ true)
  unfolding stop_of
  unstopped c o e = let t = eq-eqb c.monitor.count k e in let s : (let r : Option Run = stop_of image k c in r) ≡ Some Overrun = simp t in absurd (cc)

  holds_nothing : (c : Chip) → Holds c [] []
  holds_nothing c = record { schedule = []; polite = tt; paced = tt; gives = refl; says = refl }

  holds_step : (c : Chip) (l : List Access) (r : List ℕ) → stop_of image k c ≡ None → Holds (stepped image c) l r → Holds c l r
  holds_step c l r o h = record {
    schedule = event.Step ∷ h.schedule;
    polite = (tt, h.polite);
    paced = (unstopped c o, h.paced);
    gives = h.gives;
    says = h.says;
  }

  polite_standing : (a : Access) (c : Chip) → rqm c.machine ≡ true → IsPoliteEvent (event.Host a) c
  polite_standing access.Status c h = tt
  polite_standing access.Read c h = h
  polite_standing (access.Write b) c h = h

  holds_access : (a : Access) (c : Chip) (l : List Access) (r : List ℕ) → rqm c.machine ≡ true → Holds (applied image (event.Host a) c) l r → Holds c (a ∷ l) (option_to_list (access_reply a c.machine) ++ r)
  holds_access a c l r stands h =
      let g = h.gives in
      let s = h.says in
      record {
        schedule = event.Host a ∷ h.schedule;
        polite = (polite_standing a c stands, h.polite);
        paced = (tt, h.paced);
        gives = ap (λ (x : List Access). x ++ talk_from image h.schedule (applied image (event.Host a) c)) (told_standing a c stands) ∙ ap (λ (x : List Access). a ∷ x) g;
        says =
            ap (λ (x : List ℕ). x ++ said_from image h.schedule (applied image (event.Host a) c)) (reply_standing a c stands)
            ∙ ap (λ (x : List ℕ). option_to_list (access_reply a c.machine) ++ x) s;
      }

  -- strides to a request are instructions
  holds_strides : (j : ℕ) (c d : Chip) (l : List Access) (r : List ℕ) → strides image k false j c ≡ d → rqm d.machine ≡ true → Holds d l r → Holds c l r
  holds_strides zero c d l r e stands h = subst (λ (x : Chip). Holds x l r) (sym e) h
  holds_strides (suc j) c d l r e stands h = by_request (rqm c.machine) (stop_of image k c) refl refl (holds_strides j (stride image k false c) d l r e stands h)
    where
      by_request : (q : Bool) (o : Option Run) → rqm c.machine ≡ q → stop_of image k c ≡ o → Holds (stride image k false c) l r → Holds c l r
      by_request true o q p x = subst (λ (y : Chip). Holds y l r) (stride_rests image k false c q) x
      by_request false (Some z) q p x = subst (λ (y : Chip). Holds y l r) (stride_stops image k false c z p) x
      by_request false None q p x = holds_step c l r p (subst (λ (y : Chip). Holds y l r) (stride_steps image k false c q p) x)

  -- what a plain run that began with these bytes adds to them
  pub record Eager (c : Chip) (l : List Access) (s r : List ℕ) : Type 0 where
    pub more : List ℕ
    pub sum : r ≡ s ++ more
    pub holds : Holds c l more

  pub not_stopped : (at : Chip) (r : List ℕ) → stop_of image k at ≡ Some (Answered r) → ⊥
  unfolding stop_of
  not_stopped at r e = by_count (at.monitor.count == k) (is_breach image at) refl refl
    where
      by_count : (p q : Bool) → (at.monitor.count == k) ≡ p → is_breach image at ≡ q → ⊥
      by_count true q x y = let h = (simp x at e) in cc
      by_count false true x y = let h = (simp (x, y) at e) in cc
      by_count false false x y = let h = (simp (x, y) at e) in cc

  eager_from : (l : List Access) (c : Chip) (s r : List ℕ) → Ran image k false l c s (Answered r) → Eager c l s r
  eager_from [] c s r h = record { more = []; sum = let e : r ≡ s = cc in e ∙ sym (append-nil s); holds = holds_nothing c }
  eager_from (a ∷ l) c s r (inl h) =
      let t = eager_from l (applied image (event.Host a) h.0) (s ++ option_to_list (access_reply a h.0.machine)) r h.2 in
      let q = h.1 in
      record {
        more = option_to_list (access_reply a h.0.machine) ++ t.more;
        sum = t.sum ∙ append_assoc s (option_to_list (access_reply a h.0.machine)) t.more;
        holds = holds_strides q.steps c h.0 (a ∷ l) (option_to_list (access_reply a h.0.machine) ++ t.more) q.comes q.rest (holds_access a h.0 l t.more q.rest t.holds);
      }
  eager_from (a ∷ l) c s r (inr h) = absurd (not_stopped h.at r h.stop)

pub eager : AnsweredRunsAreSchedules
unfolding talk said
eager image k d replies ends =
    let t = eager_from image k d.accesses (powered d.start) [] replies (ran_if_ends image k false d.accesses (powered d.start) [] [] (Answered replies) ends) in
    let h = t.holds in
    record {
      schedule = h.schedule;
      obedient = record { polite = h.polite; paced = h.paced };
      talks = let g = h.gives in ap (λ (l : List Access). let x : Talk = record { start = d.start; accesses = l } in x) g;
      says = let s = h.says in s ∙ sym (t.sum);
    }

last_same : (l : List ℕ) (x y : ℕ) → l ++ x ∷ [] ≡ l ++ y ∷ [] → x ≡ y
last_same [] x y e = cc
last_same (z ∷ l) x y e = last_same l x y (cc)

pub differences_refute : DifferencesRefute
differences_refute a b n k shape power d fits differs alike =
    let s = eager a k d (differs.earlier ++ differs.first_reply ∷ []) differs.first in
    let t = eager b k d (differs.earlier ++ differs.second_reply ∷ []) differs.second in
    let same = alike d.start s.schedule t.schedule s.obedient t.obedient (s.talks ∙ sym t.talks) (subst (Fits n shape power) (sym s.talks) fits) in
    differs.differ (last_same differs.earlier differs.first_reply differs.second_reply (sym s.says ∙ (same ∙ t.says)))

pub bridge : PortFacts → RepliesDecide
bridge facts a b n k shape power never_a never_b replies start s t obedient_a obedient_b same fits =
    let x = every_schedule facts a n k shape power never_a start s obedient_a fits in
    let y = every_schedule facts b n k shape power never_b start t obedient_b (subst (Fits n shape power) same fits) in
    replies (talk a start s) (said a start s) (said b start t) fits x.answered
    (subst (λ (d : Talk). EndsAs b k false d (Answered (said b start t))) (sym same) y.answered)
