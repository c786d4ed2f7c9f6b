-- A schedule's chip beside the chip of an eager host: how far the one is ahead of the other.
use Rattle.std.proofs.Common.{◌≡◌, ℕ, zero, suc, ◌+◌, Bool, true, false, ◌==◌, Option, Some, None, ◌⊎◌, refl, sym, ap, subst, ◌∙◌}
use mathlib.Core.Logic.◌⊎◌.{inl, inr}
use Rattle.std.proofs.lemmas.Bool.{both_ways}
use Rattle.wb_word.specs.declared.numbers.Addr.{Addr}
use Rattle.wb_rom.specs.declared.images.Image.{Image}
use Rattle.wb_machine.specs.State.{State}
use Rattle.wb_machine.specs.Next.{next}
use Rattle.wb_port.specs.declared.accesses.Access.{Access}
use Rattle.wb_port.specs.declared.accesses.Access.TheVariants as access
use Rattle.wb_port.specs.declared.accesses.Event.TheVariants as event
use Rattle.wb_port.specs.declared.chips.Chip.{Chip}
use Rattle.wb_port.specs.declared.chips.Monitor.{Monitor}
use Rattle.wb_port.specs.Port.{rqm, drs, drc, status_byte, byte_read, after_read, after_write, accessed, access_reply}
use Rattle.wb_port.specs.Wait.{touches, raises_request, is_poll, follow}
use Rattle.wb_port.specs.Monitor.{place, word_at, is_idle, is_breach, is_leaving, first_breach, observed, stepped}
use Rattle.wb_port.specs.Schedule.{applied}
use Rattle.wb_port.specs.Facts.{placed, moved_to, gate, SamePort, RaisingWordsTouch}
use Rattle.wb_law.specs.PortFacts.{PortFacts}

-- what an access leaves, and what it gives, depends on DR and the status register alone
pub access_keeps_place : (a : Access) (m : State) → (accessed a m).regs.pc ≡ m.regs.pc
unfolding after_read after_write
access_keeps_place access.Status m = refl
access_keeps_place access.Read m = refl
access_keeps_place (access.Write byte) m = refl

pub access_placed : (a : Access) (at : ℕ) (m : State) → accessed a (placed at m) ≡ placed at (accessed a m)
unfolding after_read after_write drc drs
access_placed access.Status at m = refl
access_placed access.Read at m = refl
access_placed (access.Write byte) at m = refl

pub same_rqm : (m n : State) → SamePort m n → rqm n ≡ rqm m
unfolding rqm
same_rqm m n s = let e = s.sr in simp e

pub same_reply : (a : Access) (m n : State) → SamePort m n → access_reply a n ≡ access_reply a m
unfolding status_byte byte_read drc drs
same_reply access.Status m n s = let e = s.sr in simp e
same_reply access.Read m n s = let e = s.sr in let d = s.dr in simp (e, d)
same_reply (access.Write byte) m n s = refl

pub same_port_trans : (a b c : State) → SamePort a b → SamePort b c → SamePort a c
same_port_trans a b c s t = record { dr = t.dr ∙ s.dr; sr = t.sr ∙ s.sr }

-- where no breach is added, the first one stays
pub no_first : (b : Option Addr) (at : ℕ) → first_breach b false at ≡ b
no_first (Some x) at = refl
no_first None at = refl

-- a word that doesn't touch raises no request
pub calm_raises_nothing : RaisingWordsTouch → (word : ℕ) → touches word ≡ false → raises_request word ≡ false
calm_raises_nothing raising_touches word calm = go_by (raises_request word) refl
  where
    go_by : (b : Bool) → raises_request word ≡ b → b ≡ false
    go_by false e = refl
    go_by true e = absurd (both_ways (touches word) calm (raising_touches word e))

module _ (facts : PortFacts) (image : Image) (k : ℕ) where
  -- the next instruction is counted, is in pace, and has nothing to do with the port, while a request is asked
  pub record IsQuiet (c : Chip) : Type 0 where
    pub asked : c.monitor.asked ≡ true
    pub off : is_poll image (place c) ≡ false
    pub calm : touches (word_at image c) ≡ false
    pub paced : (c.monitor.count == k) ≡ false

  -- the chip after a quiet instruction
  abbrev pub calmed : Chip → Chip
  calmed c = record {
    machine = next image c.machine;
    monitor = record { asked = c.monitor.asked; count = c.monitor.count + 1; breach = c.monitor.breach };
  }

  pub quiet_no_breach : (c : Chip) → IsQuiet c → is_breach image c ≡ false
  unfolding is_breach
  quiet_no_breach c q = simp (q.asked, q.calm)

  pub quiet_observed : (c : Chip) → IsQuiet c → observed image c ≡ (calmed c).monitor
  unfolding observed is_idle is_leaving is_breach
  quiet_observed c q =
      let r = calm_raises_nothing facts.raising_touches (word_at image c) q.calm in
      let n = no_first c.monitor.breach (place c) in
      simp (q.asked, q.off, q.calm, r, n)

  pub quiet_step : (c : Chip) → IsQuiet c → stepped image c ≡ calmed c
  unfolding stepped
  quiet_step c q = ap (λ (m : Monitor). let d : Chip = record { machine = next image c.machine; monitor = m } in d) (quiet_observed c q)

  -- an access before or after a quiet instruction
  pub quiet_access : (a : Access) (c : Chip) → IsQuiet c → IsQuiet (applied image (event.Host a) c)
  quiet_access a c q = let e = access_keeps_place a c.machine in record {
    asked = q.asked;
    off = simp e q.off;
    calm = simp e q.calm;
    paced = q.paced;
  }

  pub quiet_commutes : (a : Access) (c : Chip) → IsQuiet c → stepped image (applied image (event.Host a) c) ≡ applied image (event.Host a) (stepped image c)
  quiet_commutes a c q =
      let left = quiet_step (applied image (event.Host a) c) (quiet_access a c q) in
      let right = ap (applied image (event.Host a)) (quiet_step c q) in
      let middle = ap (λ (m : State). let d : Chip = record { machine = m; monitor = (calmed c).monitor } in d) (facts.calm_commutes image a c.machine q.calm) in
      left ∙ (middle ∙ sym right)

  -- so many quiet instructions lead from one chip to the other
  abbrev pub IsWalk : ℕ → Chip → Chip → Type 0
  IsWalk zero e m = e ≡ m
  IsWalk (suc n) e m = IsQuiet e × IsWalk n (stepped image e) m

  pub walk_longer : (n : ℕ) (e m : Chip) → IsWalk n e m → IsQuiet m → IsWalk (suc n) e (stepped image m)
  walk_longer zero e m w q = (subst IsQuiet (sym w) q, ap (stepped image) w)
  walk_longer (suc n) e m w q = (w.0, walk_longer n (stepped image e) m w.1 q)

  pub walk_access : (a : Access) (n : ℕ) (e m : Chip) → IsWalk n e m → IsWalk n (applied image (event.Host a) e) (applied image (event.Host a) m)
  walk_access a zero e m w = ap (applied image (event.Host a)) w
  walk_access a (suc n) e m w =
      (quiet_access a e w.0, subst (λ (x : Chip). IsWalk n x (applied image (event.Host a) m)) (sym (quiet_commutes a e w.0)) (walk_access a n (stepped image e) m w.1))

  pub quiet_port : (c : Chip) → IsQuiet c → SamePort c.machine (stepped image c).machine
  unfolding stepped
  quiet_port c q = facts.calm_keeps image c.machine q.calm

  pub walk_port : (n : ℕ) (e m : Chip) → IsWalk n e m → SamePort e.machine m.machine
  walk_port zero e m w = record { dr = ap (λ (c : Chip). c.machine.regs.dr) (sym w); sr = ap (λ (c : Chip). c.machine.regs.sr) (sym w) }
  walk_port (suc n) e m w = same_port_trans e.machine (stepped image e).machine m.machine (quiet_port e w.0) (walk_port n (stepped image e) m w.1)

  pub quiet_asked : (c : Chip) → IsQuiet c → (stepped image c).monitor.asked ≡ true
  quiet_asked c q = ap (λ (d : Chip). d.monitor.asked) (quiet_step c q) ∙ q.asked

  -- a walk that leads to where no request is asked has no step
  pub walk_unasked : (n : ℕ) (e m : Chip) → IsWalk n e m → m.monitor.asked ≡ false → e ≡ m
  walk_unasked zero e m w u = w
  walk_unasked (suc n) e m w u = absurd (both_ways m.monitor.asked u (ends_asked n (stepped image e) m w.1 (quiet_asked e w.0)))
    where
      ends_asked : (j : ℕ) (x y : Chip) → IsWalk j x y → x.monitor.asked ≡ true → y.monitor.asked ≡ true
      ends_asked zero x y v a = ap (λ (d : Chip). d.monitor.asked) (sym v) ∙ a
      ends_asked (suc j) x y v a = ends_asked j (stepped image x) y v.1 (quiet_asked x v.0)

  -- two chips in one wait loop, alike but for their places in it
  pub record IsBeside (c m : Chip) : Type 0 where
    pub asked : c.monitor.asked ≡ true
    pub alike : c ≡ moved_to (place c) m
    pub here : is_poll image (place c) ≡ true
    pub there : is_poll image (place m) ≡ true
    pub loop : gate image (place c) ≡ gate image (place m)

  abbrev pub IsNear : Chip → Chip → Type 0
  IsNear c m = (c ≡ m) ⊎ IsBeside c m

  pub near_port : (c m : Chip) → IsNear c m → SamePort m.machine c.machine
  near_port c m (inl e) = record { dr = ap (λ (d : Chip). d.machine.regs.dr) e; sr = ap (λ (d : Chip). d.machine.regs.sr) e }
  near_port c m (inr b) = record { dr = ap (λ (d : Chip). d.machine.regs.dr) b.alike; sr = ap (λ (d : Chip). d.machine.regs.sr) b.alike }

  -- an access leaves the two chips beside one another
  pub beside_access : (a : Access) (c m : Chip) → IsBeside c m → IsBeside (applied image (event.Host a) c) (applied image (event.Host a) m)
  beside_access a c m b =
      let p = access_keeps_place a c.machine in
      let q = access_keeps_place a m.machine in
      record {
        asked = b.asked;
        alike =
            ap (applied image (event.Host a)) b.alike
            ∙ (ap (λ (x : State). let d : Chip = record { machine = x; monitor = m.monitor } in d) (access_placed a (place c) m.machine)
            ∙ ap (λ (at : ℕ). moved_to at (applied image (event.Host a) m)) (sym p));
        here = simp p b.here;
        there = simp q b.there;
        loop = simp (p, q) b.loop;
      }

  pub near_access : (a : Access) (c m : Chip) → IsNear c m → IsNear (applied image (event.Host a) c) (applied image (event.Host a) m)
  near_access a c m (inl e) = inl (ap (applied image (event.Host a)) e)
  near_access a c m (inr b) = inr (beside_access a c m b)

  -- an idle instruction leaves the chip in its loop
  pub idle_beside : (c m : Chip) → IsNear c m → c.monitor.asked ≡ true → is_poll image (place c) ≡ true → is_idle image c ≡ true → IsBeside (stepped image c) m
  idle_beside c m n asked poll idle = go_by n
    where
      moves : stepped image c ≡ moved_to (follow image (place c)) c
      moves = facts.idle_moves image c idle

      at : (m : Chip) → c ≡ moved_to (place c) m → is_poll image (place m) ≡ true → gate image (place c) ≡ gate image (place m) → IsBeside (moved_to (follow image (place c)) c) m
      at m alike there loop = record {
        asked = asked;
        alike = ap (moved_to (follow image (place c))) alike;
        here = facts.poll_follows image (place c) poll;
        there = there;
        loop = facts.one_gate image (place c) poll ∙ loop;
      }

      go_by : IsNear c m → IsBeside (stepped image c) m
      go_by (inl e) = subst (λ (x : Chip). IsBeside x m) (sym moves) (at m (e ∙ ap (λ (d : Chip). moved_to (place d) m) (sym e)) (subst (λ (x : Chip). is_poll image (place x) ≡ true) e poll) (ap (λ (d : Chip). gate image (place d)) e))
      go_by (inr b) = subst (λ (x : Chip). IsBeside x m) (sym moves) (at m b.alike b.there b.loop)

  -- The schedule's chip is where the eager one comes to by some quiet instructions, or waits in the same loop.
  pub record Follows (c e : Chip) : Type 0 where
    pub steps : ℕ
    pub middle : Chip
    pub walk : IsWalk steps e middle
    pub near : IsNear c middle

  pub follows_itself : (c d : Chip) → c ≡ d → Follows c d
  follows_itself c d e = record { steps = zero; middle = d; walk = refl; near = inl e }

  pub follows_port : (c e : Chip) → Follows c e → SamePort e.machine c.machine
  follows_port c e f = same_port_trans e.machine f.middle.machine c.machine (walk_port f.steps e f.middle f.walk) (near_port c f.middle f.near)

  pub follows_access : (a : Access) (c e : Chip) → Follows c e → Follows (applied image (event.Host a) c) (applied image (event.Host a) e)
  follows_access a c e f = record {
    steps = f.steps;
    middle = applied image (event.Host a) f.middle;
    walk = walk_access a f.steps e f.middle f.walk;
    near = near_access a c f.middle f.near;
  }

  -- outside wait loops the chip is where the walk ends
  pub follows_off : (c e : Chip) → (f : Follows c e) → is_poll image (place c) ≡ false → IsWalk f.steps e c
  follows_off c e f off = go_by f.near
    where
      go_by : IsNear c f.middle → IsWalk f.steps e c
      go_by (inl q) = subst (IsWalk f.steps e) (sym q) f.walk
      go_by (inr b) = absurd (both_ways (is_poll image (place c)) off b.here)

  pub follows_unasked : (c e : Chip) → Follows c e → c.monitor.asked ≡ false → c ≡ e
  follows_unasked c e f u = go_by f.near
    where
      go_by : IsNear c f.middle → c ≡ e
      go_by (inl q) = q ∙ sym (walk_unasked f.steps e f.middle f.walk (ap (λ (d : Chip). d.monitor.asked) (sym q) ∙ u))
      go_by (inr b) = absurd (both_ways c.monitor.asked u b.asked)
