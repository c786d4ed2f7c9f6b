-- How many instructions a run may still execute, and that each of its turns lowers that or gives an access.
use Rattle.std.proofs.Common.{◌≡◌, ℕ, suc, ◌+◌, ◌*◌, ◌-◌, ◌<◌, ◌≤◌, inl, inr, Bool, true, false, not, ◌&&◌, ◌||◌, refl, sym, ◌∙◌, ap, subst, arith}
use Rattle.std.proofs.lemmas.Bool.{and_parts, and_from, and_left, and_right, or_from, cases_Bool, both_ways, true≢false, false≢true, not_from_true}
use Rattle.wb_rom.specs.declared.images.Image.{Image}
use Rattle.wb_machine.specs.Next.{next}
use Rattle.wb_port.specs.declared.chips.Chip.{Chip}
use Rattle.wb_port.specs.Port.{rqm}
use Rattle.wb_port.specs.Wait.{is_test, is_poll, follow, to_gate, raises_request}
use Rattle.wb_port.specs.Monitor.{place, word_at, is_idle, is_breach, is_leaving, observed, stepped, count_after}
use Rattle.wb_port.specs.Run.{Moment, is_waiting}
use Rattle.wb_port.specs.Talk.{transfers}
use Rattle.wb_port.proofs.Single.{next_keeps, next_raises, raising_touches, plain_calm, next_follows}
use Rattle.wb_port.proofs.Circles.{follow_poll, poll_plain, gate_near, nearer}

-- where a request stands, it is asked
abbrev pub IsSound : Chip → Type 0
IsSound c = rqm c.machine ≡ true → c.monitor.asked ≡ true

-- how many idle instructions may follow at once
abbrev pub lingering : Bool → Bool → ℕ → ℕ
lingering false _ _ = 0
lingering true true gate = gate
lingering true false gate = 7

unfoldable pub linger : Image → Chip → ℕ
linger image c = lingering c.monitor.asked (is_poll image (place c)) (to_gate image (place c))

-- how many requests may follow beside those of transfers that are left
abbrev pub open_of : Bool → ℕ
open_of true = 0
open_of false = 1

-- how many instructions may follow
unfoldable pub budget : Image → ℕ → Moment → ℕ
budget image k m =
    (k + 7) * (transfers m.left + open_of (rqm m.chip.machine)) + (k - m.chip.monitor.count) + linger image m.chip

pub linger-most : (image : Image) (c : Chip) → linger image c ≤ 7
unfolding linger
linger-most image c = by c.monitor.asked (is_poll image (place c)) refl
  where
    by : (a p : Bool) → is_poll image (place c) ≡ p → lingering a p (to_gate image (place c)) ≤ 7
    by false p e = omega arith
    by true false e = omega arith
    by true true e = let n = gate_near image (place c) e in omega arith

-- an idle word where no request stands is no test, and it stays in its loop
idle-nearer : (image : Image) (c : Chip) → is_idle image c ≡ true → rqm c.machine ≡ false → linger image c ≡ suc (linger image (stepped image c))
unfolding is_idle linger stepped observed is_leaving
idle-nearer image c idle off =
    let parts = and_parts _ _ idle in
    let asked : c.monitor.asked ≡ true = (and_parts _ _ parts.0).0 in
    let poll : is_poll image (place c) ≡ true = (and_parts _ _ parts.0).1 in
    let calm : is_test (word_at image c) ≡ false = no_test _ _ parts.1 off in
    let goes : (next image c.machine).regs.pc ≡ follow image (place c) = next_follows image c.machine (poll_plain image (place c) poll) (inl calm) in
    let poll_next : is_poll image (follow image (place c)) ≡ true = follow_poll image (place c) poll in
    let near : to_gate image (place c) ≡ suc (to_gate image (follow image (place c))) = nearer image (place c) poll calm in
    let quiet : raises_request (word_at image c) ≡ false = plain_calm _ (poll_plain image (place c) poll) in
    rw (asked, poll, goes, poll_next, calm, quiet) near
  where
    no_test : (t r : Bool) → (not t || r) ≡ true → r ≡ false → t ≡ false
    no_test false r h e = refl
    no_test true r h e = absurd (both_ways _ e h)

pub after_asked : (image : Image) (c : Chip) → raises_request (word_at image c) ≡ false → (c.monitor.asked && not (is_leaving image c)) ≡ false → (stepped image c).monitor.asked ≡ false
unfolding stepped observed
after_asked image c quiet h = or_from _ _ quiet h

leaving_at : (image : Image) (c : Chip) → c.monitor.asked ≡ true → is_poll image (place c) ≡ true → is_idle image c ≡ false → is_leaving image c ≡ true
unfolding is_idle is_leaving
leaving_at image c asked poll busy = by _ _ _ _ asked poll busy
  where
    by : (a p t r : Bool) → a ≡ true → p ≡ true → (a && p && (not t || r)) ≡ false → (p && t && not r) ≡ true
    by true true true false ae pe h = refl
    by true true true true ae pe h = absurd (true≢false h)
    by true true false r ae pe h = absurd (true≢false h)
    by true false t r ae pe h = absurd (false≢true pe)
    by false p t r ae pe h = absurd (false≢true ae)

unasked : (b p : Bool) (g : ℕ) → b ≡ false → lingering b p g ≡ 0
unasked false p g e = refl
unasked true p g e = absurd (true≢false e)

outside : (b p : Bool) (g : ℕ) → b ≡ true → p ≡ false → lingering b p g ≡ 7
outside true false g be pe = refl
outside true true g be pe = absurd (true≢false pe)
outside false p g be pe = absurd (false≢true be)

-- a counted word that raises no request lets no more idle instructions follow
counted-linger : (image : Image) (c : Chip) → is_idle image c ≡ false → raises_request (word_at image c) ≡ false → linger image (stepped image c) ≤ linger image c
unfolding linger
counted-linger image c busy quiet =
    elim (cases_Bool c.monitor.asked) [
      | inr idle ↦ none (and_left _ _ idle)
      | inl asked ↦ elim (cases_Bool (is_poll image (place c))) [
        | inl poll ↦ none (and_right _ _ (not_from_true _ (leaving_at image c asked poll busy)))
        | inr free ↦
            let e = outside c.monitor.asked (is_poll image (place c)) (to_gate image (place c)) asked free in
            let most = linger-most image (stepped image c) in
            subst (λ (n : ℕ). linger image (stepped image c) ≤ n) (sym e) most
      ]
    ]
  where
    none : (c.monitor.asked && not (is_leaving image c)) ≡ false → linger image (stepped image c) ≤ linger image c
    none h =
        let e : linger image (stepped image c) ≡ 0 = unasked _ _ _ (after_asked image c quiet h) in
        omega arith

pub stepped_machine : (image : Image) (c : Chip) → (stepped image c).machine ≡ next image c.machine
unfolding stepped
stepped_machine image c = refl

pub stepped_counts : (image : Image) (c : Chip) → (stepped image c).monitor.count ≡ count_after (is_idle image c) (raises_request (word_at image c)) c.monitor.count
unfolding stepped observed
stepped_counts image c = refl

-- a word that raises a request is executed without a breach only where none is asked
raising_unasked : (image : Image) (c : Chip) → raises_request (word_at image c) ≡ true → is_breach image c ≡ false → c.monitor.asked ≡ false
unfolding is_breach
raising_unasked image c raises fine =
    by _ _ _ (raising_touches _ raises) (false_poll (is_poll image (place c)) refl) fine
  where
    false_poll : (p : Bool) → is_poll image (place c) ≡ p → is_poll image (place c) ≡ false
    false_poll false e = e
    false_poll true e = absurd (both_ways _ (plain_calm _ (poll_plain image (place c) e)) raises)

    by : (a t p : Bool) → t ≡ true → p ≡ false → (a && t && not p) ≡ false → a ≡ false
    by false t p te pe h = refl
    by true true false te pe h = absurd (true≢false h)
    by true true true te pe h = absurd (true≢false pe)
    by true false p te pe h = absurd (false≢true te)

unasked_idle : (image : Image) (c : Chip) → c.monitor.asked ≡ false → is_idle image c ≡ false
unfolding is_idle
unasked_idle image c e = and_left _ _ (and_left _ _ e)

idle_poll : (image : Image) (c : Chip) → is_idle image c ≡ true → is_poll image (place c) ≡ true
unfolding is_idle
idle_poll image c h = (and_parts _ _ (and_parts _ _ h).0).1

-- an instruction that a run executes lowers what may follow
pub lighter : (image : Image) (k t : ℕ) (c : Chip) → IsSound c → c.monitor.count < k → is_breach image c ≡ false → is_waiting image c ≡ false → (k + 7) * (t + open_of (rqm (stepped image c).machine)) + (k - (stepped image c).monitor.count) + linger image (stepped image c) < (k + 7) * (t + open_of (rqm c.machine)) + (k - c.monitor.count) + linger image c
lighter image k t c sound small fine busy =
    elim (cases_Bool (raises_request (word_at image c))) [
      | inl raises ↦
          let free : c.monitor.asked ≡ false = raising_unasked image c raises fine in
          let off : rqm c.machine ≡ false = quiet_off free in
          let on : rqm (stepped image c).machine ≡ true = ap rqm (stepped_machine image c) ∙ next_raises image c.machine raises in
          let count : (stepped image c).monitor.count ≡ 0 = stepped_counts image c ∙ rw (unasked_idle image c free, raises) refl in
          by_request _ _ _ _ (linger image c) _ (ap open_of off) (ap open_of on) count (linger-most image (stepped image c)) small
      | inr quiet ↦
          let same : rqm (stepped image c).machine ≡ rqm c.machine = ap rqm (stepped_machine image c) ∙ next_keeps image c.machine quiet in
          elim (cases_Bool (is_idle image c)) [
            | inl idle ↦
                let off : rqm c.machine ≡ false = idle_off idle in
                let count : (stepped image c).monitor.count ≡ c.monitor.count = stepped_counts image c ∙ rw idle refl in
                by_idle _ _ _ _ _ _ (ap open_of same) count (idle-nearer image c idle off)
            | inr counted ↦
                let count : (stepped image c).monitor.count ≡ c.monitor.count + 1 = stepped_counts image c ∙ rw (counted, quiet) refl in
                by_count _ _ _ _ _ (ap open_of same) count (counted-linger image c counted quiet)
          ]
    ]
  where
    quiet_off : c.monitor.asked ≡ false → rqm c.machine ≡ false
    quiet_off free = elim (cases_Bool (rqm c.machine)) [ inl on ↦ absurd (both_ways _ free (sound on)) | inr off ↦ off ]

    idle_off : is_idle image c ≡ true → rqm c.machine ≡ false
    idle_off idle = elim (cases_Bool (rqm c.machine)) [ inl on ↦ absurd (both_ways _ busy (and_from _ _ on (idle_poll image c idle))) | inr off ↦ off ]

    by_request : (o o' n n' l l' : ℕ) → o ≡ 1 → o' ≡ 0 → n' ≡ 0 → l' ≤ 7 → n < k → (k + 7) * (t + o') + (k - n') + l' < (k + 7) * (t + o) + (k - n) + l
    by_request o o' n n' l l' oe oe' ne most less = rw (oe, oe', ne) (omega arith)

    by_idle : (o o' n n' l l' : ℕ) → o' ≡ o → n' ≡ n → l ≡ suc l' → (k + 7) * (t + o') + (k - n') + l' < (k + 7) * (t + o) + (k - n) + l
    by_idle o o' n n' l l' oe ne le = rw (oe, ne, le) (omega arith)

    by_count : (o o' n' l l' : ℕ) → o' ≡ o → n' ≡ c.monitor.count + 1 → l' ≤ l → (k + 7) * (t + o') + (k - n') + l' < (k + 7) * (t + o) + (k - c.monitor.count) + l
    by_count o o' n' l l' oe ne most = rw (oe, ne) (omega arith)
