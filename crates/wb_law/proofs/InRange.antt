-- The parts of a chip stay in their ranges along its strides.
use Rattle.std.proofs.Common.{◌≡◌, ℕ, zero, suc, Bool, true, false, Option, Some, None, List, [], ◌∷◌, refl, sym, subst}
use Rattle.std.specs.List.{AllByRecursion}
use Rattle.std.proofs.lemmas.List.Elements.{recursion_from_All}
use Rattle.wb_rom.specs.declared.images.Image.{Image}
use Rattle.wb_machine.specs.State.{IsState}
use Rattle.wb_machine.specs.Parts.{RangesAreKept, StartsAreInRange}
use Rattle.wb_port.specs.declared.accesses.Access.{Access}
use Rattle.wb_port.specs.declared.accesses.Event.TheVariants as event
use Rattle.wb_port.specs.declared.chips.Chip.{Chip}
use Rattle.wb_port.specs.declared.runs.Run.{Run}
use Rattle.wb_port.specs.Monitor.{stepped}
use Rattle.wb_port.specs.Schedule.{powered, applied}
use Rattle.wb_port.specs.Talk.{IsByteAccess}
use Rattle.wb_law.specs.Course.{rests, stop_of, stride, strides, Given}
use Rattle.wb_law.specs.Ranges.{AccessesKeepRanges, StridingChipsStayInRange}
use Rattle.wb_law.proofs.Course.{stride_rests, stride_stops, stride_steps}

module _ (kept : RangesAreKept) (starts : StartsAreInRange) (accesses : AccessesKeepRanges) where
  abbrev pub IsIn : Chip → Type 0
  IsIn c = IsState c.machine

  step_in : (image : Image) (c : Chip) → IsIn c → IsIn (stepped image c)
  unfolding stepped
  step_in image c h = kept image c.machine h

  stride_in : (image : Image) (k : ℕ) (held : Bool) (c : Chip) → IsIn c → IsIn (stride image k held c)
  stride_in image k held c h = by_rest (rests image held c) (stop_of image k c) refl refl
    where
      by_rest : (r : Bool) (o : Option Run) → rests image held c ≡ r → stop_of image k c ≡ o → IsIn (stride image k held c)
      by_rest true o r q = subst IsIn (sym (stride_rests image k held c r)) h
      by_rest false (Some x) r q = subst IsIn (sym (stride_stops image k held c x q)) h
      by_rest false None r q = subst IsIn (sym (stride_steps image k held c r q)) (step_in image c h)

  strides_in : (image : Image) (k : ℕ) (held : Bool) (j : ℕ) (c : Chip) → IsIn c → IsIn (strides image k held j c)
  strides_in image k held zero c h = h
  strides_in image k held (suc j) c h = strides_in image k held j (stride image k held c) (stride_in image k held c h)

  given_in : (image : Image) (k : ℕ) (l : List Access) (c d : Chip) → AllByRecursion IsByteAccess l → IsIn c → Given image k l c d → IsIn d
  given_in image k [] c d bytes h g = subst IsIn g h
  given_in image k (a ∷ l) c d bytes h g =
      let r = g.1 in
      let here : IsIn g.0 = subst IsIn r.comes (strides_in image k false r.steps c h) in
      given_in image k l (applied image (event.Host a) g.0) d bytes.1 (accesses a g.0.machine bytes.0 here) g.2

  pub stay_in_range : StridingChipsStayInRange
  stay_in_range image k held start l b j fit bytes g =
      strides_in image k held j b (given_in image k l (powered start) b (recursion_from_All IsByteAccess l bytes) (starts start fit) g)
