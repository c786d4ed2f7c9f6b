-- Where held runs are answered.
use Rattle.std.proofs.Common.{◌≡◌, ℕ, true, false, List, [], ◌∷◌, ◌++◌, refl, sym, subst}
use mathlib.Core.Logic.◌⊎◌.{inl, inr}
use Rattle.std.specs.Option.{option_to_list}
use Rattle.wb_rom.specs.declared.images.Image.{Image}
use Rattle.wb_port.specs.declared.accesses.Access.{Access}
use Rattle.wb_port.specs.declared.accesses.Event.TheVariants as event
use Rattle.wb_port.specs.declared.chips.Chip.{Chip}
use Rattle.wb_port.specs.declared.runs.Run.TheVariants.{Answered}
use Rattle.wb_port.specs.Port.{access_reply}
use Rattle.wb_port.specs.Schedule.{powered, applied}
use Rattle.wb_law.specs.Course.{RestsAt, Ran, Given}
use Rattle.wb_law.specs.Waits.{WaitsAfter, HeldRunsAreAnsweredAtPolls, WaitsAreOne}
use Rattle.wb_law.proofs.Course.{ran_if_ends, ends_if_ran}
use Rattle.wb_law.proofs.Stops.{rests_one, given_one}
use Rattle.wb_law.proofs.Eager.{not_stopped}

-- how held runs are answered
module _ (image : Image) (k : ℕ) where
  waited : (l : List Access) (c : Chip) (s r : List ℕ) → Ran image k true l c s (Answered r) → Ran image k false l c s (Answered r) × ((d : Chip) × WaitsAfter image k l c d)
  waited [] c s r (inl h) = (h.2, (h.0, record { after = c; given = refl; waits = h.1 }))
  waited [] c s r (inr h) = absurd (not_stopped image k h.at r h.stop)
  waited (a ∷ l) c s r (inl h) =
      let t = waited l (applied image (event.Host a) h.0) (s ++ option_to_list (access_reply a h.0.machine)) r h.2 in
      let w = t.1.1 in
      (inl (h.0, h.1, t.0), (t.1.0, record { after = w.after; given = (h.0, h.1, w.given); waits = w.waits }))
  waited (a ∷ l) c s r (inr h) = absurd (not_stopped image k h.at r h.stop)

  answered_held : (l : List Access) (c d : Chip) (s r : List ℕ) → Ran image k false l c s (Answered r) → WaitsAfter image k l c d → Ran image k true l c s (Answered r)
  answered_held [] c d s r h w = inl (d, subst (λ (x : Chip). RestsAt image k true x d) (sym w.given) w.waits, h)
  answered_held (a ∷ l) c d s r (inl h) w =
      let g = w.given in
      let one : g.0 ≡ h.0 = rests_one image k false c g.0 h.0 g.1 h.1 in
      inl (
        h.0,
        h.1,
        answered_held l (applied image (event.Host a) h.0) d (s ++ option_to_list (access_reply a h.0.machine)) r h.2
            (record { after = w.after; given = subst (λ (x : Chip). Given image k l (applied image (event.Host a) x) w.after) one g.2; waits = w.waits }),
      )
  answered_held (a ∷ l) c d s r (inr h) w = absurd (not_stopped image k h.at r h.stop)

pub held_runs_are_answered_at_polls : HeldRunsAreAnsweredAtPolls
held_runs_are_answered_at_polls image k start l r = (
  λ h.
      let t = waited image k l (powered start) [] r (ran_if_ends image k true l (powered start) [] [] (Answered r) h) in
      record { answered = ends_if_ran image k false l (powered start) [] [] (Answered r) t.0; waiting = t.1.0; waits = t.1.1 },
  λ h.
      ends_if_ran image k true l (powered start) [] [] (Answered r)
      (answered_held image k l (powered start) h.waiting [] r (ran_if_ends image k false l (powered start) [] [] (Answered r) h.answered) h.waits),
)

pub waits_are_one : WaitsAreOne
waits_are_one image k l c d e g h =
    rests_one image k true g.after d e g.waits
    (subst (λ (x : Chip). RestsAt image k true x e) (sym (given_one image k l c g.after h.after g.given h.given)) h.waits)
