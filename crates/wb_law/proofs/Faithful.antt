-- Every schedule: what an obedient host hears is what an eager host hears.
use Rattle.std.proofs.Common.{◌≡◌, ℕ, zero, suc, Bool, true, false, not, ◌&&◌, ◌==◌, Option, None, List, [], ◌∷◌, ◌++◌, append_assoc, refl, sym, ap, subst, ◌∙◌, arith}
use mathlib.Core.Logic.◌⊎◌.{inl, inr}
use Rattle.std.proofs.lemmas.Bool.{both_ways, and_left, and_right, eqb-true, false_from_ne_true, true_from_ne_false, or_right}
use Rattle.std.proofs.lemmas.List.{append-nil}
use Rattle.std.specs.Option.{option_to_list}
use Rattle.wb_word.specs.Encoding.{addr_at}
use Rattle.wb_word.specs.declared.numbers.Addr.{Addr}
use Rattle.wb_rom.specs.declared.images.Image.{Image}
use Rattle.wb_machine.specs.State.{power}
use Rattle.wb_machine.specs.Next.{next}
use Rattle.wb_port.specs.declared.accesses.Access.{Access}
use Rattle.wb_port.specs.declared.accesses.Access.TheVariants as access
use Rattle.wb_port.specs.declared.accesses.Event.{Event}
use Rattle.wb_port.specs.declared.accesses.Event.TheVariants as event
use Rattle.wb_port.specs.declared.chips.Chip.{Chip}
use Rattle.wb_port.specs.declared.runs.Run.TheVariants.{Answered, Breach}
use Rattle.wb_port.specs.Port.{rqm, access_reply}
use Rattle.wb_port.specs.Wait.{touches, raises_request, is_test, is_poll, word_of, follow, to_gate}
use Rattle.wb_port.specs.Monitor.{place, word_at, is_idle, is_breach, is_leaving, first_breach, observed, stepped}
use Rattle.wb_port.specs.Schedule.{powered, applied, after, IsPolite, KeepsPace, told, told_reply, talk_from, said_from, talk, said}
use Rattle.wb_port.specs.Run.{Gives, Steps, go, is_waiting, turn, EndsFrom, EndsAs}
use Rattle.wb_port.specs.Alike.{IsObedient, IsFaithful}
use Rattle.wb_law.specs.Schedules.{OwnTalkSuffices, ObedientSchedulesAreFaithful}
use Rattle.wb_port.specs.Facts.{moved_to, gate}
use Rattle.wb_law.specs.PortFacts.{PortFacts}
use Rattle.wb_law.proofs.Turns.{moment, gives, works, works_on, answers, breaks, executes, now, later, stays}
use Rattle.wb_law.proofs.Walks.{access_keeps_place, same_rqm, same_reply, no_first, IsWalk, IsBeside, IsNear, Follows, walk_longer, walk_access, idle_beside, follows_itself, follows_port, follows_access, follows_off, follows_unasked, quiet_no_breach, walk_port, near_port}

no_third : (x y : Bool) → (x && y && false) ≡ false
no_third true true = refl
no_third true false = refl
no_third false _ = refl

-- where a request stands, each access is told
pub told_standing : (a : Access) (c : Chip) → rqm c.machine ≡ true → told (event.Host a) c ≡ a ∷ []
told_standing access.Status c h = simp h
told_standing access.Read c h = refl
told_standing (access.Write b) c h = refl

pub reply_standing : (a : Access) (c : Chip) → rqm c.machine ≡ true → told_reply (event.Host a) c ≡ option_to_list (access_reply a c.machine)
reply_standing access.Status c h = simp h
reply_standing access.Read c h = refl
reply_standing (access.Write b) c h = refl

module _ (facts : PortFacts) (image : Image) (k : ℕ) where
  -- the plain run from the chip comes to these bytes
  abbrev pub Answers : Chip → List Access → List Access → List ℕ → List ℕ → Type 0
  Answers e l g s r = EndsFrom image k false (moment e l g s) (Answered r)

  -- the held run from the chip comes to no breach
  abbrev pub IsSafe : Chip → List Access → List Access → List ℕ → Type 0
  IsSafe e l g s = (at : Addr) → EndsFrom image k true (moment e l g s) (Breach at) → ⊥

  -- the chip executes its next instruction in every run
  pub record IsFree (e : Chip) : Type 0 where
    pub silent : rqm e.machine ≡ false
    pub paced : (e.monitor.count == k) ≡ false
    pub fine : is_breach image e ≡ false

  pub silent_not_waiting : (e : Chip) → rqm e.machine ≡ false → is_waiting image e ≡ false
  silent_not_waiting e h = and_left (rqm e.machine) (is_poll image (place e)) h

  pub off_not_waiting : (e : Chip) → is_poll image (place e) ≡ false → is_waiting image e ≡ false
  off_not_waiting e h = and_right (rqm e.machine) (is_poll image (place e)) h

  pub free_held : (e : Chip) → IsFree e → (l g : List Access) (s : List ℕ) → turn image k true (moment e l g s) ≡ Steps (moment (stepped image e) l g s)
  free_held e f [] g s = works_on image k e g s (silent_not_waiting e f.silent) ∙ executes image k (moment e [] g s) f.paced f.fine
  free_held e f (a ∷ l) g s = works image k true e a l g s f.silent ∙ executes image k (moment e (a ∷ l) g s) f.paced f.fine

  pub free_safe : (e : Chip) → IsFree e → (l g : List Access) (s : List ℕ) → IsSafe e l g s → IsSafe (stepped image e) l g s
  free_safe e f l g s safe at h = safe at (later image k true (moment e l g s) (Steps (moment (stepped image e) l g s)) (Breach at) (free_held e f l g s) h)

  -- a plain run with no access left is answered at once
  pub answered_now : (e : Chip) (g : List Access) (s r : List ℕ) → Answers e [] g s r → s ≡ r
  answered_now e g s r h =
      let m = moment e [] g s in
      let same = stays image k false m (Answered s) (answers image k e g s) h.0 in
      let here = ap (turn image k false) same in
      let q = h.1 in
      let a = answers image k e g s in
      cc

  pub free_answers : (e : Chip) → IsFree e → (l g : List Access) (s r : List ℕ) → Answers (stepped image e) l g s r → Answers e l g s r
  free_answers e f [] g s r h =
      let same = answered_now (stepped image e) g s r h in
      subst (λ x. Answers e [] g s x) same (now image k false (moment e [] g s) (Answered s) (answers image k e g s))
  free_answers e f (a ∷ l) g s r h =
      later image k false (moment e (a ∷ l) g s) (Steps (moment (stepped image e) (a ∷ l) g s)) (Answered r)
      (works image k false e a l g s f.silent ∙ executes image k (moment e (a ∷ l) g s) f.paced f.fine)
      h

  -- so many such instructions
  abbrev pub IsChain : ℕ → Chip → Chip → Type 0
  IsChain zero e d = e ≡ d
  IsChain (suc n) e d = IsFree e × IsChain n (stepped image e) d

  pub record Reaches (e d : Chip) : Type 0 where
    pub steps : ℕ
    pub chain : IsChain steps e d

  pub chain_safe : (n : ℕ) (e d : Chip) → IsChain n e d → (l g : List Access) (s : List ℕ) → IsSafe e l g s → IsSafe d l g s
  chain_safe zero e d c l g s safe = subst (λ (x : Chip). IsSafe x l g s) c safe
  chain_safe (suc n) e d c l g s safe = chain_safe n (stepped image e) d c.1 l g s (free_safe e c.0 l g s safe)

  pub chain_answers : (n : ℕ) (e d : Chip) → IsChain n e d → (l g : List Access) (s r : List ℕ) → Answers d l g s r → Answers e l g s r
  chain_answers zero e d c l g s r h = subst (λ (x : Chip). Answers x l g s r) (sym c) h
  chain_answers (suc n) e d c l g s r h = free_answers e c.0 l g s r (chain_answers n (stepped image e) d c.1 l g s r h)

  pub reaches_itself : (e d : Chip) → e ≡ d → Reaches e d
  reaches_itself e d q = record { steps = zero; chain = q }

  pub reaches_next : (e d : Chip) → IsFree e → Reaches (stepped image e) d → Reaches e d
  reaches_next e d f r = record { steps = suc r.steps; chain = (f, r.chain) }

  -- an access that is given to the eager chip
  pub given_safe : (a : Access) (e : Chip) (l g : List Access) (s : List ℕ) → rqm e.machine ≡ true → IsSafe e (a ∷ l) g s → IsSafe (applied image (event.Host a) e) l (g ++ a ∷ []) (s ++ option_to_list (access_reply a e.machine))
  given_safe a e l g s stands safe at h =
      let n = moment (applied image (event.Host a) e) l (g ++ a ∷ []) (s ++ option_to_list (access_reply a e.machine)) in
      safe at (later image k true (moment e (a ∷ l) g s) (Gives a n) (Breach at) (gives image k true e a l g s stands) h)

  pub given_answers : (a : Access) (e : Chip) (l g : List Access) (s r : List ℕ) → rqm e.machine ≡ true → Answers (applied image (event.Host a) e) l (g ++ a ∷ []) (s ++ option_to_list (access_reply a e.machine)) r → Answers e (a ∷ l) g s r
  given_answers a e l g s r stands h =
      let n = moment (applied image (event.Host a) e) l (g ++ a ∷ []) (s ++ option_to_list (access_reply a e.machine)) in
      later image k false (moment e (a ∷ l) g s) (Gives a n) (Answered r) (gives image k false e a l g s stands) h

  -- the next instruction is a breach in pace
  pub record IsBroken (c : Chip) : Type 0 where
    pub paced : (c.monitor.count == k) ≡ false
    pub broken : is_breach image c ≡ true

  pub breach_access : (a : Access) (c : Chip) → is_breach image (applied image (event.Host a) c) ≡ is_breach image c
  unfolding is_breach
  breach_access a c = let e = access_keeps_place a c.machine in simp e

  pub broken_access : (a : Access) (c : Chip) → IsBroken c → IsBroken (applied image (event.Host a) c)
  broken_access a c b = record { paced = b.paced; broken = breach_access a c ∙ b.broken }

  pub poll_no_breach : (c : Chip) → is_poll image (place c) ≡ true → is_breach image c ≡ false
  unfolding is_breach
  poll_no_breach c e =
      ap (λ (p : Bool). c.monitor.asked && touches (word_at image c) && not p) e
      ∙ no_third c.monitor.asked (touches (word_at image c))

  pub broken_off : (c : Chip) → is_breach image c ≡ true → is_poll image (place c) ≡ false
  broken_off c b = false_from_ne_true (is_poll image (place c)) (λ e. both_ways (is_breach image c) (poll_no_breach c e) b)

  -- a breach that the schedule's chip is about to make is met by the held run of the eager one
  found_free : (n : ℕ) (e c : Chip) → IsWalk facts image k n e c → IsBroken c → (l g : List Access) (s : List ℕ)
      → ((x : Chip) → is_poll image (place x) ≡ false → turn image k true (moment x l g s) ≡ go image k (moment x l g s))
      → IsSafe e l g s → ⊥
  found_free zero e c w b l g s works_here safe =
      let d : IsBroken e = subst IsBroken (sym w) b in
      safe (addr_at (place e))
      (now image k true (moment e l g s) (Breach (addr_at (place e)))
      (works_here e (broken_off e d.broken) ∙ breaks image k (moment e l g s) d.paced d.broken))
  found_free (suc n) e c w b l g s works_here safe =
      let q = w.0 in
      found_free n (stepped image e) c w.1 b l g s works_here
      (λ at h. safe at (later image k true (moment e l g s) (Steps (moment (stepped image e) l g s)) (Breach at)
      (works_here e q.off ∙ executes image k (moment e l g s) q.paced (quiet_no_breach facts image k e q)) h))

  abbrev pub Found : List Access → Type 0
  Found l = (n : ℕ) (e c : Chip) → IsWalk facts image k n e c → IsBroken c → (g : List Access) (s : List ℕ) → IsSafe e l g s → ⊥

  found_given : (a : Access) (l : List Access) → Found l → (n : ℕ) (e c : Chip) → IsWalk facts image k n e c → IsBroken c → (g : List Access) (s : List ℕ) → rqm e.machine ≡ true → IsSafe e (a ∷ l) g s → ⊥
  found_given a l rest n e c w b g s stands safe =
      rest n (applied image (event.Host a) e) (applied image (event.Host a) c) (walk_access facts image k a n e c w) (broken_access a c b)
      (g ++ a ∷ []) (s ++ option_to_list (access_reply a e.machine)) (given_safe a e l g s stands safe)

  found_more : (a : Access) (l : List Access) → Found l → Found (a ∷ l)
  found_more a l rest zero e c w b g s safe = by_request (rqm e.machine) refl
    where
      by_request : (r : Bool) → rqm e.machine ≡ r → ⊥
      by_request true h = found_given a l rest zero e c w b g s h safe
      by_request false h =
          let d : IsBroken e = subst IsBroken (sym w) b in
          safe (addr_at (place e))
          (now image k true (moment e (a ∷ l) g s) (Breach (addr_at (place e)))
          (works image k true e a l g s h ∙ breaks image k (moment e (a ∷ l) g s) d.paced d.broken))
  found_more a l rest (suc n) e c w b g s safe = by_request (rqm e.machine) refl (found_more a l rest n (stepped image e) c w.1 b g s)
    where
      by_request : (r : Bool) → rqm e.machine ≡ r → (IsSafe (stepped image e) (a ∷ l) g s → ⊥) → ⊥
      by_request true h next_one = found_given a l rest (suc n) e c w b g s h safe
      by_request false h next_one =
          let q = w.0 in
          next_one (free_safe e (record { silent = h; paced = q.paced; fine = quiet_no_breach facts image k e q }) (a ∷ l) g s safe)

  pub found : (l : List Access) → Found l
  found [] = λ n e c w b g s safe. found_free n e c w b [] g s (λ x off. works_on image k x g s (off_not_waiting x off)) safe
  found (a ∷ l) = found_more a l (found l)

  -- a chip about to leave its wait loop
  pub record IsLeavingNow (c : Chip) : Type 0 where
    pub asked : c.monitor.asked ≡ true
    pub poll : is_poll image (place c) ≡ true
    pub test : is_test (word_at image c) ≡ true
    pub silent : rqm c.machine ≡ false
    pub paced : (c.monitor.count == k) ≡ false

  pub leaving_free : (c : Chip) → IsLeavingNow c → IsFree c
  leaving_free c v = record { silent = v.silent; paced = v.paced; fine = poll_no_breach c v.poll }

  gate_of_test : (at : ℕ) → is_test (word_of image at) ≡ true → gate image at ≡ at
  unfolding gate
  gate_of_test at test = let e = facts.test_at_gate image at test in simp e

  pub idle_by : (c : Chip) → c.monitor.asked ≡ true → is_poll image (place c) ≡ true → is_test (word_at image c) ≡ false → is_idle image c ≡ true
  unfolding is_idle
  idle_by c asked poll test = simp (asked, poll, test)

  pub idle_standing : (c : Chip) → c.monitor.asked ≡ true → is_poll image (place c) ≡ true → rqm c.machine ≡ true → is_idle image c ≡ true
  unfolding is_idle
  idle_standing c asked poll stands = let h = or_right (not (is_test (word_at image c))) true refl in simp (asked, poll, stands, h)

  -- the eager chip in the same loop comes to where the schedule's chip is
  loop_free : (m c : Chip) → IsLeavingNow c → IsBeside facts image k c m → IsFree m
  loop_free m c v b = record {
    silent = sym (same_rqm m.machine c.machine (near_port facts image k c m (inr b))) ∙ v.silent;
    paced = ap (λ (d : Chip). d.monitor.count == k) (sym b.alike) ∙ v.paced;
    fine = poll_no_breach m b.there;
  }

  loop_next : (m c : Chip) → IsLeavingNow c → IsBeside facts image k c m → is_test (word_at image m) ≡ false → stepped image m ≡ moved_to (follow image (place m)) m
  loop_next m c v b other = facts.idle_moves image m (idle_by m (ap (λ (d : Chip). d.monitor.asked) (sym b.alike) ∙ b.asked) b.there other)

  loop_stays : (m c : Chip) → IsBeside facts image k c m → IsBeside facts image k c (moved_to (follow image (place m)) m)
  loop_stays m c b = record {
    asked = b.asked;
    alike = b.alike;
    here = b.here;
    there = facts.poll_follows image (place m) b.there;
    loop = b.loop ∙ sym (facts.one_gate image (place m) b.there);
  }

  loop_met : (m c : Chip) → IsLeavingNow c → IsBeside facts image k c m → is_test (word_at image m) ≡ true → m ≡ c
  loop_met m c v b test =
      let same : place c ≡ place m = sym (gate_of_test (place c) v.test) ∙ (b.loop ∙ gate_of_test (place m) test) in
      sym (b.alike ∙ ap (λ at. moved_to at m) same)

  loops_to : (fuel : ℕ) (m c : Chip) → IsLeavingNow c → IsBeside facts image k c m → to_gate image (place m) ≡ fuel → Reaches m c
  loops_to zero m c v b e = by_test (is_test (word_at image m)) refl
    where
      by_test : (r : Bool) → is_test (word_at image m) ≡ r → Reaches m c
      by_test true t = reaches_itself m c (loop_met m c v b t)
      by_test false t = let n = facts.comes_nearer image (place m) b.there t in absurd (omega arith)
  loops_to (suc fuel) m c v b e = by_test (is_test (word_at image m)) refl (loops_to fuel (moved_to (follow image (place m)) m) c v (loop_stays m c b))
    where
      by_test : (r : Bool) → is_test (word_at image m) ≡ r → (to_gate image (follow image (place m)) ≡ fuel → Reaches (moved_to (follow image (place m)) m) c) → Reaches m c
      by_test true t rest = reaches_itself m c (loop_met m c v b t)
      by_test false t rest =
          let n = facts.comes_nearer image (place m) b.there t in
          reaches_next m c (loop_free m c v b) (subst (λ (x : Chip). Reaches x c) (sym (loop_next m c v b t)) (rest (omega arith)))

  near_to : (m c : Chip) → IsLeavingNow c → IsNear facts image k c m → Reaches m c
  near_to m c v (inl e) = reaches_itself m c (sym e)
  near_to m c v (inr b) = loops_to (to_gate image (place m)) m c v b refl

  walks_to : (n : ℕ) (e m c : Chip) → IsWalk facts image k n e m → rqm m.machine ≡ false → Reaches m c → Reaches e c
  walks_to zero e m c w silent r = subst (λ (x : Chip). Reaches x c) (sym w) r
  walks_to (suc n) e m c w silent r =
      let q = w.0 in
      reaches_next e c (record { silent = sym (same_rqm e.machine m.machine (walk_port facts image k (suc n) e m w)) ∙ silent; paced = q.paced; fine = quiet_no_breach facts image k e q })
      (walks_to n (stepped image e) m c w.1 silent r)

  reaches_then : (n : ℕ) (e c : Chip) → IsChain n e c → IsFree c → Reaches e (stepped image c)
  reaches_then zero e c r f = reaches_next e (stepped image c) (subst IsFree (sym r) f) (reaches_itself (stepped image e) (stepped image c) (ap (stepped image) r))
  reaches_then (suc n) e c r f = reaches_next e (stepped image c) r.0 (reaches_then n (stepped image e) c r.1 f)

  -- where the eager chip is after an instruction of the schedule's chip
  pub record Advance (c e : Chip) : Type 0 where
    pub eager : Chip
    pub reached : Reaches e eager
    pub follows : Follows facts image k (stepped image c) eager

  leaves : (c e : Chip) → Follows facts image k c e → IsLeavingNow c → Advance c e
  leaves c e f v =
      let silent : rqm f.middle.machine ≡ false = sym (same_rqm f.middle.machine c.machine (near_port facts image k c f.middle f.near)) ∙ v.silent in
      let there = walks_to f.steps e f.middle c f.walk silent (near_to f.middle c v f.near) in
      record {
        eager = stepped image c;
        reached = reaches_then there.steps e c there.chain (leaving_free c v);
        follows = follows_itself facts image k (stepped image c) (stepped image c) refl;
      }

  -- the instruction isn't idle, so it is in pace
  pub in_pace : (c : Chip) → (c.monitor.count ≡ k → is_idle image c ≡ true) → is_idle image c ≡ false → (c.monitor.count == k) ≡ false
  in_pace c paced other = false_from_ne_true (c.monitor.count == k) (λ e. both_ways (is_idle image c) other (paced (eqb-true c.monitor.count k e)))

  not_idle_unasked : (c : Chip) → c.monitor.asked ≡ false → is_idle image c ≡ false
  unfolding is_idle
  not_idle_unasked c u = simp u

  pub not_idle_off : (c : Chip) → is_poll image (place c) ≡ false → is_idle image c ≡ false
  unfolding is_idle
  not_idle_off c off = let h = and_right c.monitor.asked false refl in simp (off, h)

  no_breach_unasked : (c : Chip) → c.monitor.asked ≡ false → is_breach image c ≡ false
  unfolding is_breach
  no_breach_unasked c u = simp u

  pub breach_by : (c : Chip) → c.monitor.asked ≡ true → is_poll image (place c) ≡ false → touches (word_at image c) ≡ true → is_breach image c ≡ true
  unfolding is_breach
  breach_by c asked off touching = simp (asked, off, touching)

  pub calm_by : (c : Chip) → c.monitor.asked ≡ true → is_poll image (place c) ≡ false → is_breach image c ≡ false → touches (word_at image c) ≡ false
  calm_by c asked off fine = false_from_ne_true (touches (word_at image c)) (λ t. both_ways (is_breach image c) fine (breach_by c asked off t))

  leaving_by : (c : Chip) → c.monitor.asked ≡ true → is_poll image (place c) ≡ true → is_idle image c ≡ false → (c.monitor.count == k) ≡ false → IsLeavingNow c
  leaving_by c asked poll other paced = record {
    asked = asked;
    poll = poll;
    test = true_from_ne_false (is_test (word_at image c)) (λ t. both_ways (is_idle image c) other (idle_by c asked poll t));
    silent = false_from_ne_true (rqm c.machine) (λ r. both_ways (is_idle image c) other (idle_standing c asked poll r));
    paced = paced;
  }

  -- a request that stands was asked for
  abbrev pub IsSane : Chip → Type 0
  IsSane c = rqm c.machine ≡ true → c.monitor.asked ≡ true

  pub advance : (c e : Chip) → Follows facts image k c e → IsSane c → (c.monitor.count ≡ k → is_idle image c ≡ true) → is_breach image c ≡ false → Advance c e
  advance c e f sane paced fine = by_asked c.monitor.asked refl
    where
      by_idle : (r : Bool) → is_idle image c ≡ r → c.monitor.asked ≡ true → is_poll image (place c) ≡ true → Advance c e
      by_idle true i asked poll = record {
        eager = e;
        reached = reaches_itself e e refl;
        follows = record { steps = f.steps; middle = f.middle; walk = f.walk; near = inr (idle_beside facts image k c f.middle f.near asked poll i) };
      }
      by_idle false i asked poll = leaves c e f (leaving_by c asked poll i (in_pace c paced i))

      by_poll : (r : Bool) → is_poll image (place c) ≡ r → c.monitor.asked ≡ true → Advance c e
      by_poll true poll asked = by_idle (is_idle image c) refl asked poll
      by_poll false off asked = record {
        eager = e;
        reached = reaches_itself e e refl;
        follows = record {
          steps = suc f.steps;
          middle = stepped image c;
          walk = walk_longer facts image k f.steps e c (follows_off facts image k c e f off)
              (record { asked = asked; off = off; calm = calm_by c asked off fine; paced = in_pace c paced (not_idle_off c off) });
          near = inl refl;
        };
      }

      by_asked : (r : Bool) → c.monitor.asked ≡ r → Advance c e
      by_asked true asked = by_poll (is_poll image (place c)) refl asked
      by_asked false u =
          let same = follows_unasked facts image k c e f u in
          let free : IsFree c = record {
            silent = false_from_ne_true (rqm c.machine) (λ r. both_ways c.monitor.asked u (sane r));
            paced = in_pace c paced (not_idle_unasked c u);
            fine = fine;
          } in
          record {
            eager = stepped image c;
            reached = reaches_next e (stepped image c) (subst IsFree same free) (reaches_itself (stepped image e) (stepped image c) (ap (stepped image) (sym same)));
            follows = follows_itself facts image k (stepped image c) (stepped image c) refl;
          }

  pub sane_raised : (c : Chip) → raises_request (word_at image c) ≡ true → (stepped image c).monitor.asked ≡ true
  unfolding stepped observed
  sane_raised c e = simp e

  not_leaving : (c : Chip) → rqm c.machine ≡ true → is_leaving image c ≡ false
  unfolding is_leaving
  not_leaving c r =
      ap (λ (p : Bool). is_poll image (place c) && is_test (word_at image c) && not p) r
      ∙ no_third (is_poll image (place c)) (is_test (word_at image c))

  sane_kept : (c : Chip) → raises_request (word_at image c) ≡ false → c.monitor.asked ≡ true → is_leaving image c ≡ false → (stepped image c).monitor.asked ≡ true
  unfolding stepped observed
  sane_kept c e asked stays = simp (e, asked, stays)

  pub machine_stepped : (c : Chip) → (stepped image c).machine ≡ next image c.machine
  unfolding stepped
  machine_stepped c = refl

  pub sane_step : (c : Chip) → IsSane c → IsSane (stepped image c)
  sane_step c sane stands = by_word (raises_request (word_at image c)) refl
    where
      by_word : (r : Bool) → raises_request (word_at image c) ≡ r → (stepped image c).monitor.asked ≡ true
      by_word true e = sane_raised c e
      by_word false e =
          let before = facts.only_raised image c.machine e (ap rqm (sym (machine_stepped c)) ∙ stands) in
          sane_kept c e (sane before) (not_leaving c before)

  pub sane_access : (a : Access) (c : Chip) → IsSane c → IsSane (applied image (event.Host a) c)
  sane_access a c sane stands = sane (facts.access_raises_nothing a c.machine stands)

  pub unbroken_step : (c : Chip) → is_breach image c ≡ false → c.monitor.breach ≡ None → (stepped image c).monitor.breach ≡ None
  unfolding stepped observed
  unbroken_step c fine none =
      ap (λ (b : Bool). first_breach c.monitor.breach b (place c)) fine ∙ (no_first c.monitor.breach (place c) ∙ none)

  -- what the law says of a schedule from a chip, beside an eager chip to which the rest of the talk is given
  pub record Heard (s : List Event) (c e : Chip) (g : List Access) (p : List ℕ) : Type 0 where
    pub answered : Answers e (talk_from image s c) g p (p ++ said_from image s c)
    pub unbroken : (after image s c).monitor.breach ≡ None

  abbrev pub IsHeard : List Event → Chip → Type 0
  IsHeard s c =
      (e : Chip) (g : List Access) (p : List ℕ)
      → Follows facts image k c e → IsSane c → c.monitor.breach ≡ None
      → IsPolite image s c → KeepsPace image k s c
      → IsSafe e (talk_from image s c) g p → Heard s c e g p

  heard_end : (c : Chip) → IsHeard [] c
  heard_end c e g p f sane none polite paced safe = record {
    answered = subst (λ x. Answers e [] g p x) (sym (append-nil p)) (now image k false (moment e [] g p) (Answered p) (answers image k e g p));
    unbroken = none;
  }

  heard_step : (s : List Event) (c : Chip) → IsHeard s (stepped image c) → IsHeard (event.Step ∷ s) c
  heard_step s c rest e g p f sane none polite paced safe = by_breach (is_breach image c) refl
    where
      by_breach : (r : Bool) → is_breach image c ≡ r → Heard (event.Step ∷ s) c e g p
      by_breach true b =
          let off = broken_off c b in
          absurd (found (talk_from image s (stepped image c)) f.steps e c (follows_off facts image k c e f off)
          (record { paced = in_pace c paced.0 (not_idle_off c off); broken = b }) g p safe)
      by_breach false fine =
          let adv = advance c e f sane paced.0 fine in
          let h = rest adv.eager g p adv.follows (sane_step c sane) (unbroken_step c fine none) polite.1 paced.1
          (chain_safe adv.reached.steps e adv.eager adv.reached.chain (talk_from image s (stepped image c)) g p safe) in
          record {
            answered = chain_answers adv.reached.steps e adv.eager adv.reached.chain (talk_from image s (stepped image c)) g p (p ++ said_from image s (stepped image c)) h.answered;
            unbroken = h.unbroken;
          }

  heard_given : (a : Access) (s : List Event) (c : Chip) → IsHeard s (applied image (event.Host a) c) → rqm c.machine ≡ true → IsHeard (event.Host a ∷ s) c
  heard_given a s c rest stands e g p f sane none polite paced safe =
      let port = follows_port facts image k c e f in
      let asks : rqm e.machine ≡ true = sym (same_rqm e.machine c.machine port) ∙ stands in
      let d : Chip = applied image (event.Host a) c in
      let l : List Access = talk_from image s d in
      let x : List ℕ = said_from image s d in
      let q : List ℕ = option_to_list (access_reply a e.machine) in
      let same_talk : told (event.Host a) c ++ l ≡ a ∷ l = ap (λ (t : List Access). t ++ l) (told_standing a c stands) in
      let same_said : told_reply (event.Host a) c ≡ q = reply_standing a c stands ∙ ap (λ (o : Option ℕ). option_to_list o) (same_reply a e.machine c.machine port) in
      let h = rest (applied image (event.Host a) e) (g ++ a ∷ []) (p ++ q) (follows_access facts image k a c e f) (sane_access a c sane) none polite.1 paced.1
      (given_safe a e l g p asks (subst (λ (t : List Access). IsSafe e t g p) same_talk safe)) in
      let told_all : Answers e (a ∷ l) g p ((p ++ q) ++ x) = given_answers a e l g p ((p ++ q) ++ x) asks h.answered in
      let together : (p ++ q) ++ x ≡ p ++ (told_reply (event.Host a) c ++ x) = append_assoc p q x ∙ ap (λ (t : List ℕ). p ++ (t ++ x)) (sym same_said) in
      record {
        answered = subst (λ (t : List Access). Answers e t g p (p ++ (told_reply (event.Host a) c ++ x))) (sym same_talk) (subst (Answers e (a ∷ l) g p) together told_all);
        unbroken = h.unbroken;
      }

  told_silent : (c : Chip) → rqm c.machine ≡ false → told (event.Host access.Status) c ≡ []
  told_silent c h = simp h

  reply_silent : (c : Chip) → rqm c.machine ≡ false → told_reply (event.Host access.Status) c ≡ []
  reply_silent c h = simp h

  heard_silent : (s : List Event) (c : Chip) → IsHeard s c → rqm c.machine ≡ false → IsHeard (event.Host access.Status ∷ s) c
  heard_silent s c rest silent e g p f sane none polite paced safe =
      let l : List Access = talk_from image s c in
      let x : List ℕ = said_from image s c in
      let same_talk : told (event.Host access.Status) c ++ l ≡ l = ap (λ (t : List Access). t ++ l) (told_silent c silent) in
      let same_said : told_reply (event.Host access.Status) c ++ x ≡ x = ap (λ (t : List ℕ). t ++ x) (reply_silent c silent) in
      let h = rest e g p f sane none polite.1 paced.1 (subst (λ (t : List Access). IsSafe e t g p) same_talk safe) in
      record {
        answered = subst (λ (t : List Access). Answers e t g p (p ++ (told_reply (event.Host access.Status) c ++ x))) (sym same_talk) (subst (λ (t : List ℕ). Answers e l g p (p ++ t)) (sym same_said) h.answered);
        unbroken = h.unbroken;
      }

  heard_host : (a : Access) (s : List Event) (c : Chip) → IsHeard s (applied image (event.Host a) c) → IsHeard (event.Host a ∷ s) c
  heard_host access.Status s c rest e g p f sane none polite paced safe = by_request (rqm c.machine) refl
    where
      by_request : (r : Bool) → rqm c.machine ≡ r → Heard (event.Host access.Status ∷ s) c e g p
      by_request true h = heard_given access.Status s c rest h e g p f sane none polite paced safe
      by_request false h = heard_silent s c rest h e g p f sane none polite paced safe
  heard_host access.Read s c rest e g p f sane none polite paced safe = heard_given access.Read s c rest polite.0 e g p f sane none polite paced safe
  heard_host (access.Write b) s c rest e g p f sane none polite paced safe = heard_given (access.Write b) s c rest polite.0 e g p f sane none polite paced safe

  pub heard : (s : List Event) (c : Chip) → IsHeard s c
  heard [] c = heard_end c
  heard (event.Step ∷ s) c = heard_step s c (heard s (stepped image c))
  heard (event.Host a ∷ s) c = heard_host a s c (heard s (applied image (event.Host a) c))

  pub powered_sane : (start : List ℕ) → IsSane (powered start)
  unfolding power rqm
  powered_sane start h = absurd (both_ways false refl h)

  plain_law : (start : List ℕ) (s : List Event) → IsObedient image k start s
      → ((at : Addr) → EndsAs image k true (talk image start s) (Breach at) → ⊥)
      → IsFaithful image k start s
  unfolding talk said
  plain_law start s obedient safe =
      let c : Chip = powered start in
      let h = heard s c c [] [] (follows_itself facts image k c c refl) (powered_sane start) refl obedient.polite obedient.paced safe in
      record { answered = h.answered; unbroken = h.unbroken }

pub own_talk : PortFacts → OwnTalkSuffices
own_talk facts image k start s obedient safe = plain_law facts image k start s obedient safe

pub every_schedule : PortFacts → ObedientSchedulesAreFaithful
every_schedule facts image n k shape power never start s obedient fits =
    plain_law facts image k start s obedient (λ at. never (talk image start s) at fits)
