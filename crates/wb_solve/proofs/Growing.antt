-- Trails that grow by entries that are no assumptions.
use Rattle.std.proofs.Common.{◌≡◌, ℕ, ◌+◌, ◌≤◌, List, [], ◌∷◌, ◌++◌, length, Some, Option, None, refl, sym, ◌∙◌, ap, subst, arith, length-append, append_assoc}
use Rattle.std.proofs.lemmas.List.{append-nil}
use Rattle.wb_solve.specs.declared.trail.Entry.{Entry}
use Rattle.wb_solve.specs.declared.propagation.Propagation.{Propagation}
use Rattle.wb_gate.specs.Circuit.{Circuit}
use Rattle.wb_gate.specs.declared.gates.Lit.{Lit}
use Rattle.wb_solve.specs.Trails.{assumed_by, assumed_in}
use Rattle.wb_solve.specs.Propagating.{Grows, IsDoneTo, IsPassed}

pub assumed_append : (es ds : List Entry) → assumed_in (es ++ ds) ≡ assumed_in es ++ assumed_in ds
assumed_append [] ds = refl
assumed_append (e ∷ es) ds = ap (λ xs. assumed_by e.lit e.reason ++ xs) (assumed_append es ds) ∙ sym (append_assoc (assumed_by e.lit e.reason) (assumed_in es) (assumed_in ds))

pub grows_trans : (one two three : List Entry) → Grows one two → Grows two three → Grows one three
grows_trans one two three first second = (
  first.0 ++ second.0,
  second.1 ∙ ap (λ es. es ++ second.0) first.1 ∙ append_assoc one first.0 second.0,
  assumed_append first.0 second.0 ∙ ap (λ xs. xs ++ assumed_in second.0) first.2 ∙ second.2,
)

pub grows_longer : (old new : List Entry) → Grows old new → length old ≤ length new
grows_longer old new grows =
    let whole = length-append old grows.0 in
    let same = ap (λ (es : List Entry). length es) grows.1 in
    omega arith

pub grows_assumed : (old new : List Entry) → Grows old new → assumed_in new ≡ assumed_in old
grows_assumed old new grows =
    ap assumed_in grows.1 ∙ assumed_append old grows.0 ∙ ap (λ xs. assumed_in old ++ xs) grows.2 ∙ append-nil (assumed_in old)

-- at the end of the trail all is done
pub done_whole : (c : Circuit) (steps : List (List Lit)) (s : Propagation) (next : ℕ) → IsDoneTo c steps s next → next ≡ length s.trail.entries → IsPassed c steps s (length s.trail.entries) None
done_whole c steps s next done same = subst (IsDoneTo c steps s) same done

pub done_next : (c : Circuit) (steps : List (List Lit)) (s : Propagation) (head : ℕ) (found : Option ℕ) → ((number : ℕ) → found ≡ Some number → ⊥) → IsPassed c steps s (head + 1) found → IsDoneTo c steps s (head + 1)
done_next c steps s head (Some number) none is = absurd (none number refl)
done_next c steps s head None none is = is
