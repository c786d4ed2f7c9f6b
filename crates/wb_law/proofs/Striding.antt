-- Strides: they add up, they lead one way, and they raise the rank of a held chip.
use Rattle.std.proofs.Common.{◌≡◌, ℕ, zero, suc, ◌+◌, ◌*◌, ◌<◌, ◌≤◌, Bool, true, false, Option, Some, None, ◌⊎◌, refl, sym, ap, subst, ◌∙◌, arith}
use mathlib.Core.Logic.◌⊎◌.{inl, inr}
use Rattle.wb_rom.specs.declared.images.Image.{Image}
use Rattle.wb_port.specs.declared.chips.Chip.{Chip}
use Rattle.wb_port.specs.declared.runs.Run.{Run}
use Rattle.wb_port.specs.Monitor.{stepped}
use Rattle.wb_port.specs.Rank.{rank_by, rank_of}
use Rattle.wb_port.specs.Port.{rqm}
use Rattle.wb_port.specs.Monitor.{place}
use Rattle.wb_port.specs.Run.{is_waiting}
use Rattle.wb_law.specs.Course.{rests, stop_of, stride, strides, RestsAt, StopsAs}
use Rattle.wb_law.specs.Points.{IsInPace}
use Rattle.wb_law.specs.PortFacts.{PortFacts}
use Rattle.wb_law.specs.Strides.{StridesAddUp, RestingChipsStay, StoppedChipsStay, OtherStridesAreInstructions, LeadsOn, StridesBeginWithAnInstruction, LeadsTo, StridesAreOneWalk, RestsAreOne, StopsAreOne, RestingChipsDontStop, ChipsRestOrStop, StridesKeepPace, RanksNeverFall, EqualRanksAreOneChip}
use Rattle.wb_law.proofs.Course.{stride_steps, strides_rest, strides_stop, rests_here, stops_here, rests_before, stops_before}
use Rattle.wb_law.proofs.Stops.{rests_one, rests_or_stops}
use Rattle.wb_law.proofs.Ranks.{in_pace_step, in_pace_strides, strides_rise, once, rises}

pub strides_add_up : StridesAddUp
strides_add_up image k held zero j c = ap (λ (n : ℕ). strides image k held n c) (let e : 0 + j ≡ j = omega arith in e)
strides_add_up image k held (suc i) j c =
    ap (λ (n : ℕ). strides image k held n c) (let e : suc i + j ≡ suc (i + j) = omega arith in e)
    ∙ strides_add_up image k held i j (stride image k held c)

pub resting_chips_stay : RestingChipsStay
resting_chips_stay image k held j c r = strides_rest image k held j c r

pub stopped_chips_stay : StoppedChipsStay
stopped_chips_stay image k held j c end o = strides_stop image k held j c end o

pub other_strides_are_instructions : OtherStridesAreInstructions
other_strides_are_instructions image k held c r o = stride_steps image k held c r o

pub strides_begin_with_an_instruction : StridesBeginWithAnInstruction
strides_begin_with_an_instruction image k held zero c d e = inl e
strides_begin_with_an_instruction image k held (suc j) c d e = by_rest (rests image held c) (stop_of image k c) refl refl
  where
    by_rest : (r : Bool) (o : Option Run) → rests image held c ≡ r → stop_of image k c ≡ o → (c ≡ d) ⊎ LeadsOn image k held c d
    by_rest true o r q = inl (sym (strides_rest image k held (suc j) c r) ∙ e)
    by_rest false (Some x) r q = inl (sym (strides_stop image k held (suc j) c x q) ∙ e)
    by_rest false None r q =
        inr (record { works = r; unstopped = q; steps = j; comes = ap (strides image k held j) (sym (stride_steps image k held c r q)) ∙ e })

one_walk : (image : Image) (k : ℕ) (held : Bool) (i j : ℕ) (b : Chip)
    → LeadsTo image k held (strides image k held i b) (strides image k held j b) ⊎ LeadsTo image k held (strides image k held j b) (strides image k held i b)
one_walk image k held zero j b = inl (j, refl)
one_walk image k held (suc i) zero b = inr (suc i, refl)
one_walk image k held (suc i) (suc j) b = one_walk image k held i j (stride image k held b)

pub strides_are_one_walk : StridesAreOneWalk
strides_are_one_walk image k held b c d (i, e) (j, f) =
    subst (λ (x : Chip). LeadsTo image k held x d ⊎ LeadsTo image k held d x) e
    (subst (λ (y : Chip). LeadsTo image k held (strides image k held i b) y ⊎ LeadsTo image k held y (strides image k held i b)) f
    (one_walk image k held i j b))

pub rests_are_one : RestsAreOne
rests_are_one image k held c d e r t = rests_one image k held c d e r t

pub resting_chips_dont_stop : RestingChipsDontStop
resting_chips_dont_stop image k held c d end r t = rests_or_stops image k held c d end r t

pub stops_are_one : StopsAreOne
stops_are_one image k held c x y r t = meet r.steps t.steps c r.comes t.comes
  where
    same : r.at ≡ t.at → x ≡ y
    same e = let p = r.stop in let q = t.stop in let f = ap (stop_of image k) e in cc

    meet : (i j : ℕ) (c : Chip) → strides image k held i c ≡ r.at → strides image k held j c ≡ t.at → x ≡ y
    meet zero j c p q = same (sym p ∙ (sym (strides_stop image k held j c x (ap (stop_of image k) p ∙ r.stop)) ∙ q))
    meet (suc i) zero c p q = same (sym p ∙ (strides_stop image k held (suc i) c y (ap (stop_of image k) q ∙ t.stop) ∙ q))
    meet (suc i) (suc j) c p q = meet i j (stride image k held c) p q

pub strides_keep_pace : PortFacts → StridesKeepPace
strides_keep_pace facts image k held j c p = in_pace_strides facts image k held j c p

pub ranks_never_fall : PortFacts → RanksNeverFall
ranks_never_fall facts image k j c p = strides_rise facts image k j c p

pub equal_ranks_are_one_chip : PortFacts → EqualRanksAreOneChip
equal_ranks_are_one_chip facts image k b c d p (i, e) (j, f) same =
    sym e ∙ (once facts image k i j b p (ap (rank_of image k) e ∙ (same ∙ ap (rank_of image k) (sym f))) ∙ f)

-- ranks have a greatest number, so a chip that goes on comes to its rest or stop
rank_most : (image : Image) (k : ℕ) (asked standing : Bool) (count at : ℕ) → count ≤ k → rank_by image k asked standing count at < (k + 1 + k) * 8 + 8
rank_most image k asked true count at l = omega arith
rank_most image k asked false count at l = omega arith

module _ (facts : PortFacts) (image : Image) (k : ℕ) where
  abbrev pub RestsOrStops : Chip → Type 0
  RestsOrStops c = ((d : Chip) × RestsAt image k true c d) ⊎ ((end : Run) × StopsAs image k true c end)

  rests_or_stops_by : (n : ℕ) (c : Chip) → IsInPace k c → (k + 1 + k) * 8 + 8 ≤ rank_of image k c + n → RestsOrStops c
  rests_or_stops_by zero c p most = let l = rank_most image k c.monitor.asked (rqm c.machine) c.monitor.count (place c) p.count in absurd (omega arith)
  rests_or_stops_by (suc n) c p most = by_wait (is_waiting image c) (stop_of image k c) refl refl (rests_or_stops_by n (stepped image c))
    where
      by_wait : (r : Bool) (o : Option Run) → is_waiting image c ≡ r → stop_of image k c ≡ o
          → (IsInPace k (stepped image c) → (k + 1 + k) * 8 + 8 ≤ rank_of image k (stepped image c) + n → RestsOrStops (stepped image c))
          → RestsOrStops c
      by_wait true o r q rest = inl (c, rests_here image k true c r)
      by_wait false (Some x) r q rest = inr (x, stops_here image k true c x r q)
      by_wait false None r q rest =
          elim (rest (in_pace_step facts image k c p q) (let l = rises facts image k c p r q in omega arith)) [
            | inl t ↦ inl (t.0, rests_before image k true c t.0 r q t.1)
            | inr t ↦ inr (t.0, stops_before image k true c t.0 r q t.1)
          ]

pub chips_rest_or_stop : PortFacts → ChipsRestOrStop
chips_rest_or_stop facts image k c p = rests_or_stops_by facts image k ((k + 1 + k) * 8 + 8) c p (omega arith)
