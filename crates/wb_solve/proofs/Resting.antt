-- Where all clauses are guarded, none is falsified or unit.
use Rattle.std.proofs.Common.{◌≡◌, ℕ, ◌⊎◌, inl, inr, List, ◌++◌, take, Some, None, sym, ◌∙◌, ap, subst}
use Rattle.std.specs.List.{slice_get}
use Rattle.wb_gate.specs.declared.gates.Lit.{Lit}
use Rattle.wb_gate.specs.Circuit.{Circuit, variable}
use Rattle.wb_gate.specs.Clauses.{clauses_of}
use Rattle.wb_derive.specs.Partial.{Partial}
use Rattle.wb_solve.specs.declared.links.Links.{Links}
use Rattle.wb_solve.specs.declared.trail.Reason.{Reason}
use Rattle.wb_solve.specs.declared.trail.Reason.TheVariants.{Assumed}
use Rattle.wb_solve.specs.Descent.{IsStable}
use Rattle.wb_solve.specs.Trails.{Track, made, IsJust, AreStable}
use Rattle.wb_solve.specs.Judging.{IsQuiet}
use Rattle.wb_solve.specs.Guarding.{AreGuarded, NoneBlank, IsHeld, Waits}
use Rattle.wb_solve.specs.Propagating.{IsRunning}
use Rattle.wb_solve.proofs.Quiet.{held_quiet, open_quiet, guarded_quiet}
use Rattle.wb_solve.proofs.Gates.{known_split}

stable_at : (clauses steps : List (List Lit)) (p : Partial) → NoneBlank clauses → AreGuarded clauses p p → ((j : ℕ) (step : List Lit) → slice_get steps j ≡ Some step → IsQuiet p step) → IsStable (clauses ++ steps) p
stable_at clauses steps p filled guarded quiet = record {
  no_falsified = λ found. (each found.0 found.1 (known_split clauses steps found.0 found.1 found.2)).no_falsified found.3;
  no_unit = λ l found. (each found.0 found.1.0 (known_split clauses steps found.0 found.1.0 found.1.1)).no_unit l found.1.2;
}
  where
    each : (k : ℕ) (clause : List Lit) → (slice_get clauses k ≡ Some clause) ⊎ ((j : ℕ) × (slice_get steps j ≡ Some clause)) → IsQuiet p clause
    each k clause (inl at) = guarded_quiet p clause (λ e. filled k (at ∙ ap (λ (d : List Lit). Some d) e)) (guarded k clause at)
    each k clause (inr at) = quiet at.0 clause at.1

step_quiet : (p : Partial) (x : ℕ) (step : List Lit) → p x ≡ None → IsHeld p step ⊎ Waits p x step → IsQuiet p step
step_quiet p x step still (inl held) = held_quiet p step held.0 held.1 held.2
step_quiet p x step still (inr waits) =
    open_quiet p step (variable x) waits.1.0 waits.0 waits.1.1 (λ e. waits.1.2 (ap (λ (l : Lit). l.var) (sym e))) still waits.1.3

assumed_open : (inputs : ℕ) (known : List (List Lit)) (p : Partial) (l : Lit) (r : Reason) → r ≡ Assumed → IsJust inputs known p l r → p l.var ≡ None
assumed_open inputs known p l r is just = (subst (IsJust inputs known p l) is just).0.still_open

module _ (c : Circuit) (steps : List (List Lit)) (links : Links) (track : Track) (is : IsRunning c steps links track) where
  pub running_stable : AreStable (clauses_of c ++ steps) track.entries
  running_stable k e at reason =
      let p = made (take k track.entries) in
      let still = assumed_open c.inputs (clauses_of c ++ steps) p e.lit e.reason reason (is.just.at k e at) in
      stable_at (clauses_of c) steps p is.filled (is.settled k e at reason)
      (λ j step found. step_quiet p e.lit.var step still (is.held.earlier k e j step at reason found))

  pub running_rests : AreGuarded (clauses_of c) (made track.entries) (made track.entries) → IsStable (clauses_of c ++ steps) (made track.entries)
  running_rests guarded =
      stable_at (clauses_of c) steps (made track.entries) is.filled guarded
      (λ j step found. let held = is.held.now j step found in held_quiet (made track.entries) step held.0 held.1 held.2)
