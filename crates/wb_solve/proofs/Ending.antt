-- How descents end.
use Rattle.std.proofs.Common.{◌≡◌, ℕ, ◌⊎◌, inl, inr, Bool, true, List, ◌++◌, length, map, Option, Some, Result, Ok, Err, IfOk, refl, sym, ◌∙◌, ap, subst, arith}
use Rattle.std.specs.List.{slice_get}
use Rattle.wb_gate.specs.declared.gates.Lit.{Lit}
use Rattle.wb_gate.specs.Circuit.{Circuit, variables}
use Rattle.wb_gate.specs.Clauses.{clauses_of, names_only}
use Rattle.wb_derive.specs.declared.steps.Step.{Step}
use Rattle.wb_derive.specs.Clause.{rises}
use Rattle.wb_derive.specs.Partial.{nothing, refute}
use Rattle.wb_derive.specs.Lawful.{Refutes}
use Rattle.wb_solve.specs.declared.decisions.Descents.{Descents}
use Rattle.wb_solve.specs.declared.decisions.Halt.TheVariants as halt
use Rattle.wb_solve.specs.Descent.{IsStable, AreValued, Conflict, Values, clause_of, conflicts, gives, IsDescent}
use Rattle.wb_solve.specs.Search.{clauses_in, AreSteps}
use Rattle.wb_solve.specs.Course.{partial_of, known_to}
use Rattle.wb_solve.specs.Turns.{IsConflict, AreEndValues, value_or_false}
use Rattle.wb_solve.specs.Trails.{AllNamed, made, assumed_in}
use Rattle.wb_solve.specs.Starting.{IsBlocked}
use Rattle.wb_solve.specs.Halting.{IsHalted}
use Rattle.wb_solve.proofs.Few.{step_fresh}
use Rattle.wb_solve.proofs.Searching.{names_below}
use Rattle.wb_solve.proofs.Gates.{known_split}
use Rattle.wb_solve.proofs.Resting.{running_stable}
use Rattle.wb_solve.proofs.Whole.{trail_descends}

-- steps name only inputs
pub named_known : (c : Circuit) (steps : List (List Lit)) → AllNamed (variables c) (clauses_of c) → AreSteps c steps → AllNamed (variables c) (clauses_of c ++ steps)
named_known c steps named are k clause at = by (known_split (clauses_of c) steps k clause at)
  where
    by : (slice_get (clauses_of c) k ≡ Some clause) ⊎ ((j : ℕ) × (slice_get steps j ≡ Some clause)) → names_only (variables c) clause ≡ true
    by (inl here) = named k clause here
    by (inr there) =
        let fresh = step_fresh c _ clause (are.descents there.0 clause there.1) in
        ap (names_only (variables c)) fresh.is ∙ names_below c.inputs (variables c) fresh.assumed (omega arith) fresh.below

module _ (c : Circuit) (steps : List Step) (d : Descents) (are : AreSteps c (clauses_in steps)) where
  pub conflict_descends : (number : ℕ) → IsBlocked c (clauses_in steps) d.propagation number → IsDescent c.inputs (known_to c steps) (Conflict (clause_of (assumed_in d.propagation.trail.entries)))
  conflict_descends number is =
      let entries = d.propagation.trail.entries in
      trail_descends c.inputs (variables c) (known_to c steps) (named_known c (clauses_in steps) is.named are) (omega arith) entries is.just is.stable (Conflict (clause_of (assumed_in entries)))
      (conflicts (made entries) (assumed_in entries) (number, is.falsified.0, is.falsified.1, is.falsified.2) refl)

  pub halted_rises : (number : ℕ) (lits : List Lit) → IsHalted c (clauses_in steps) d (halt.Conflict number) → lits ≡ d.assumed.items → rises lits ≡ true
  halted_rises number lits is same =
      let clause_is = same ∙ is.0.assumed in
      let descent = conflict_descends number is.1 in
      ap rises clause_is ∙ (step_fresh c (clauses_in steps) (clause_of (assumed_in d.propagation.trail.entries)) descent).rises

  pub halted_named : (number : ℕ) → IsHalted c (clauses_in steps) d (halt.Conflict number) → AllNamed (variables c) (known_to c steps)
  halted_named number is = named_known c (clauses_in steps) is.1.named are

  pub conflict_is : {E : Type 0} (number : ℕ) (lits : List Lit) (hints numbers : List ℕ) (r : Result Step E) → IsHalted c (clauses_in steps) d (halt.Conflict number) → Refutes (known_to c steps) hints (refute (clause_of (assumed_in d.propagation.trail.entries)) nothing) → lits ≡ d.assumed.items → numbers ≡ hints → IfOk r (λ step. step.clause ≡ lits) → IfOk r (λ step. step.hints ≡ numbers) → IfOk r (λ step. IsConflict c (known_to c steps) step)
  conflict_is number lits hints numbers (Err e) is refutes same_lits same_numbers clause_is hints_are = tt
  conflict_is number lits hints numbers (Ok step) is refutes same_lits same_numbers clause_is hints_are =
      let known = known_to c steps in
      let clause = clause_of (assumed_in d.propagation.trail.entries) in
      let same : clause ≡ step.clause = sym (clause_is ∙ same_lits ∙ is.0.assumed) in
      let numbers_are : hints ≡ step.hints = sym (hints_are ∙ same_numbers) in (
        subst (λ ls. IsDescent c.inputs known (Conflict ls)) same (conflict_descends number is.1),
        subst (λ ls. Refutes known step.hints (refute ls nothing)) same (subst (λ hs. Refutes known hs (refute clause nothing)) numbers_are refutes),
      )

  pub values_are : {E : Type 0} (values : List (Option Bool)) (r : Result (List Bool) E) → IsHalted c (clauses_in steps) d halt.Values → partial_of values ≡ made d.propagation.trail.entries → length values ≡ d.propagation.trail.variables → IfOk r (λ list. list ≡ map value_or_false values) → IfOk r (λ list. AreEndValues c (known_to c steps) list)
  values_are values (Err e) is same covers made_so = tt
  values_are values (Ok list) is same covers made_so =
      let entries = d.propagation.trail.entries in
      let running = is.1 in
      let known = known_to c steps in
      let stable = running_stable c (clauses_in steps) d.propagation.links d.propagation.trail running in
      let descent = trail_descends c.inputs (variables c) known (named_known c (clauses_in steps) running.named are) (omega arith) entries running.just stable (Values (made entries)) (gives (made entries) (assumed_in entries) is.2 is.3 refl) in (
        values,
        made_so,
        covers ∙ running.variable_count,
        subst (IsStable known) (sym same) is.2,
        subst (AreValued c.inputs) (sym same) is.3,
        subst (λ p. IsDescent c.inputs known (Values p)) (sym same) descent,
      )
