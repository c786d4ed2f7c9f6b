-- Where descents over one trail stand.
use Rattle.std.proofs.Common.{◌≡◌, ℕ, ◌+◌, ◌-◌, ◌<◌, ◌≤◌, inr, true, false, List, [], ◌∷◌, ◌++◌, length, take, Option, Some, None, refl, sym, ◌∙◌, ap, subst, arith, length-append}
use Rattle.std.proofs.lemmas.List.{map-append}
use Rattle.wb_gate.specs.declared.gates.Lit.{Lit}
use Rattle.wb_gate.specs.Circuit.{Circuit, variable}
use Rattle.wb_gate.specs.Clauses.{clauses_of}
use Rattle.wb_derive.specs.declared.steps.Step.{Step}
use Rattle.wb_solve.specs.declared.trail.Entry.{Entry}
use Rattle.wb_solve.specs.declared.trail.Reason.TheVariants.{Assumed, Clause}
use Rattle.wb_solve.specs.declared.decisions.Descents.{Descents}
use Rattle.wb_solve.specs.declared.decisions.Halt.TheVariants as halt
use Rattle.wb_solve.specs.Descent.{IsFirstOpen, AreValued, clause_of}
use Rattle.wb_solve.specs.Search.{clauses_in}
use Rattle.wb_solve.specs.Course.{known_to}
use Rattle.wb_solve.specs.Trails.{Track, made, assumed_in}
use Rattle.wb_solve.specs.Guarding.{AreGuarded}
use Rattle.wb_solve.specs.Propagating.{IsRunning, IsPassed, Grows}
use Rattle.wb_solve.specs.Starting.{IsBlocked}
use Rattle.wb_solve.specs.Halting.{IsFitting, IsReady, IsDecided, IsTakenBack, IsResumable, IsHalted}
use Rattle.wb_solve.proofs.Partials.{Below}
use Rattle.wb_solve.proofs.Searching.{clauses_more}
use Rattle.wb_solve.proofs.Growing.{grows_longer, grows_assumed}
use Rattle.wb_solve.proofs.Visiting.{grown_below}
use Rattle.wb_solve.proofs.Resting.{running_stable, running_rests}
use Rattle.wb_solve.proofs.Deciding.{decided_running, decided_guarded, decided_assumed, decided_valued}
use Rattle.wb_solve.proofs.Returning.{returned_open, returned_below, names_are, returned_running, returned_guarded, returned_assumed, returned_valued}

take_whole : {X : Type 0} (xs : List X) → take (length xs) xs ≡ xs
take_whole [] = refl
take_whole (x ∷ xs) = ap (λ ys. x ∷ ys) (take_whole xs)

take_but_last : {X : Type 0} (xs : List X) (x : X) → take (length xs) (xs ++ (x ∷ [])) ≡ xs
take_but_last [] x = refl
take_but_last (y ∷ xs) x = ap (λ ys. y ∷ ys) (take_but_last xs x)

pub assumed_ready : (c : Circuit) (steps : List (List Lit)) (old new : Descents) (x : ℕ) → IsReady c steps (length old.propagation.trail.entries) old → IsFirstOpen c.inputs (made old.propagation.trail.entries) x → new.propagation.links ≡ old.propagation.links → new.propagation.trail.entries ≡ old.propagation.trail.entries ++ (record { lit = record { var = x; neg = true }; reason = Assumed } ∷ []) → new.propagation.trail.variables ≡ old.propagation.trail.variables → new.assumed.items ≡ old.assumed.items ++ (variable x ∷ []) → new.marks ≡ old.marks → new.next ≡ x → length new.propagation.trail.entries ≤ new.propagation.trail.variables → IsDecided c steps old new
assumed_ready c steps old new x is first same_links grown same assumed same_marks next few =
    let links = old.propagation.links in
    let track = old.propagation.trail in
    let after = new.propagation.trail in
    let at_rest = subst (λ es. AreGuarded (clauses_of c) (made es) (made track.entries)) (take_whole track.entries) is.done.1 in
    let running = decided_running c steps links track after is.done.0 x grown same at_rest first in
    let guarded = decided_guarded c steps links track after is.done.0 x grown same at_rest first in
    let names = decided_assumed c steps links track after is.done.0 x grown same at_rest first in
    let valued = decided_valued c steps links track after is.done.0 x grown same at_rest first in
    let count = length-append track.entries (record { lit = record { var = x; neg = true }; reason = Assumed } ∷ []) in
    let longer : length after.entries ≡ length track.entries + 1 = ap length grown ∙ count in
    record {
      ready = record {
        fitting = record {
          assumed = assumed ∙ ap (λ ls. ls ++ (variable x ∷ [])) is.fitting.assumed ∙ sym (map-append variable (assumed_in track.entries) (x ∷ [])) ∙ sym (ap clause_of names);
          marks = ap (λ m. length m.stamps) same_marks ∙ is.fitting.marks;
        };
        done = (
          subst (λ ls. IsRunning c steps ls after) (sym same_links) running,
          guarded,
        );
        within = omega arith;
        valued = subst (λ n. AreValued n (made after.entries)) (sym next) valued;
      };
      longer = longer;
      few = few;
      same_variables = same;
    }

pub fits_more : (c : Circuit) (old new : Descents) → IsFitting c old → Grows old.propagation.trail.entries new.propagation.trail.entries → new.assumed ≡ old.assumed → new.marks ≡ old.marks → IsFitting c new
fits_more c old new is grows same_assumed same_marks = record {
  assumed = ap (λ v. v.items) same_assumed ∙ is.assumed ∙ ap clause_of (sym (grows_assumed old.propagation.trail.entries new.propagation.trail.entries grows));
  marks = ap (λ m. length m.stamps) same_marks ∙ is.marks;
}

-- propagation goes on over more entries
pub passed_ready : (c : Circuit) (steps : List (List Lit)) (head : ℕ) (old new : Descents) → IsReady c steps head old → IsPassed c steps new.propagation (length new.propagation.trail.entries) None → Grows old.propagation.trail.entries new.propagation.trail.entries → new.assumed ≡ old.assumed → new.marks ≡ old.marks → new.next ≡ old.next → IsReady c steps (length new.propagation.trail.entries) new
passed_ready c steps head old new is passed grows same_assumed same_marks same_next =
    let longer = grows_longer old.propagation.trail.entries new.propagation.trail.entries grows in
    record {
      fitting = fits_more c old new is.fitting grows same_assumed same_marks;
      done = passed;
      within = omega arith;
      valued = subst (λ n. AreValued n (made new.propagation.trail.entries)) (sym same_next) (λ y h. let was = is.valued y h in (was.0, below.on y was.0 was.1));
    }
  where
    below : Below (made old.propagation.trail.entries) (made new.propagation.trail.entries)
    below = grown_below c.inputs (clauses_of c ++ steps) old.propagation.trail.entries new.propagation.trail.entries passed.0.just grows

pub running_blocked : (c : Circuit) (steps : List (List Lit)) (s : Descents) (number : ℕ) → IsPassed c steps s.propagation (length s.propagation.trail.entries) (Some number) → IsBlocked c steps s.propagation number
running_blocked c steps s number passed = record {
  named = passed.0.named;
  variable_count = passed.0.variable_count;
  just = passed.0.just;
  stable = running_stable c steps s.propagation.links s.propagation.trail passed.0;
  falsified = passed.1;
}

pub rests_halted : (c : Circuit) (steps : List (List Lit)) (s : Descents) → IsReady c steps (length s.propagation.trail.entries) s → AreValued c.inputs (made s.propagation.trail.entries) → IsHalted c steps s halt.Values
rests_halted c steps s is valued =
    let entries = s.propagation.trail.entries in
    let at_rest = subst (λ es. AreGuarded (clauses_of c) (made es) (made entries)) (take_whole entries) is.done.1 in
    (is.fitting, is.done.0, running_rests c steps s.propagation.links s.propagation.trail is.done.0 at_rest, valued)

pub resumed : (c : Circuit) (steps : List Step) (old new : Descents) (mid : Track) (x number : ℕ) → IsResumable c steps old → IsTakenBack old.propagation.trail mid x → number ≡ length (known_to c steps) - 1 → new.propagation.links ≡ old.propagation.links → new.propagation.trail.entries ≡ mid.entries ++ (record { lit = record { var = x; neg = false }; reason = Clause number } ∷ []) → new.propagation.trail.variables ≡ mid.variables → new.assumed.items ≡ take (length old.assumed.items - 1) old.assumed.items → new.marks ≡ old.marks → new.next ≡ x → IsReady c (clauses_in steps) (length mid.entries) new
resumed c steps old new mid x number is back count same_links grown same assumed same_marks next =
    let links = old.propagation.links in
    let track = old.propagation.trail in
    let after = new.propagation.trail in
    let before = clauses_in is.before in
    let front = mid.entries in
    let grown_here : after.entries ≡ front ++ (record { lit = record { var = back.entry.lit.var; neg = false }; reason = Clause number } ∷ []) = grown ∙ ap (λ v. front ++ (record { lit = record { var = v; neg = false }; reason = Clause number } ∷ [])) (sym back.names) in
    let variables_here = same ∙ back.same_variables in
    let steps_are : clauses_in steps ≡ before ++ (is.step.clause ∷ []) = ap clauses_in is.whole ∙ clauses_more is.before is.step in
    let clause_is : is.step.clause ≡ clause_of (assumed_in track.entries) = is.clause ∙ is.fitting.assumed in
    let all : clauses_in steps ≡ before ++ (clause_of (assumed_in track.entries) ∷ []) = steps_are ∙ ap (λ d. before ++ (d ∷ [])) clause_is in
    let one = length-append (clauses_of c) (clauses_in steps) in
    let two = ap (λ (ds : List (List Lit)). length ds) all ∙ length-append before (clause_of (assumed_in track.entries) ∷ []) in
    let numbered : number ≡ length (clauses_of c) + length before = omega (arith, count, one, two) in
    let running = returned_running c before links track after is.running front back.rest back.entry back.whole back.is_assumed back.last number numbered grown_here variables_here in
    let guarded = returned_guarded c before links track after is.running front back.rest back.entry back.whole back.is_assumed back.last number numbered grown_here variables_here in
    let names = returned_assumed c before links track after is.running front back.rest back.entry back.whole back.is_assumed back.last number numbered grown_here variables_here in
    let were = names_are c before links track after is.running front back.rest back.entry back.whole back.is_assumed back.last number numbered grown_here variables_here in
    let valued = returned_valued c before links track after is.running front back.rest back.entry back.whole back.is_assumed back.last number numbered grown_here variables_here in
    let lits = clause_of (assumed_in front) in
    let old_lits : old.assumed.items ≡ lits ++ (variable back.entry.lit.var ∷ []) = is.fitting.assumed ∙ ap clause_of were ∙ map-append variable (assumed_in front) (back.entry.lit.var ∷ []) in
    let lits_count = length-append lits (variable back.entry.lit.var ∷ []) in
    let shorter : length (lits ++ (variable back.entry.lit.var ∷ [])) - 1 ≡ length lits = omega arith in
    let new_lits : new.assumed.items ≡ lits = assumed ∙ ap (λ ls. take (length ls - 1) ls) old_lits ∙ ap (λ n. take n (lits ++ (variable back.entry.lit.var ∷ []))) shorter ∙ take_but_last lits (variable back.entry.lit.var) in
    let longer = ap (λ (es : List Entry). length es) grown ∙ length-append front (record { lit = record { var = x; neg = false }; reason = Clause number } ∷ []) in
    record {
      fitting = record {
        assumed = new_lits ∙ ap clause_of (sym names);
        marks = ap (λ m. length m.stamps) same_marks ∙ is.fitting.marks;
      };
      done = (
        subst (λ ls. IsRunning c (clauses_in steps) ls after) (sym same_links) (subst (λ ds. IsRunning c ds links after) (sym all) running),
        guarded,
      );
      within = omega arith;
      valued = subst (λ n. AreValued n (made after.entries)) (back.names ∙ sym next) valued;
    }

-- the variable that is taken back has no value then
pub taken_open : (c : Circuit) (steps : List Step) (old : Descents) (mid : Track) (x : ℕ) → IsResumable c steps old → IsTakenBack old.propagation.trail mid x → (made mid.entries x ≡ None) × (x < mid.variables)
taken_open c steps old mid x is back =
    let before = clauses_in is.before in
    let track = old.propagation.trail in
    let number = length (clauses_of c) + length before in
    let after : Track = record { entries = mid.entries ++ (record { lit = record { var = back.entry.lit.var; neg = false }; reason = Clause number } ∷ []); variables = track.variables } in
    let still = returned_open c before old.propagation.links track after is.running mid.entries back.rest back.entry back.whole back.is_assumed back.last number refl refl refl in
    let below = returned_below c before old.propagation.links track after is.running mid.entries back.rest back.entry back.whole back.is_assumed back.last number refl refl refl in
    let names = back.names in
    let count = is.running.variable_count in
    let same = back.same_variables in
    (ap (made mid.entries) (sym names) ∙ still, omega arith)

pub passed_none : (c : Circuit) (steps : List (List Lit)) (s : Descents) (head : ℕ) (found : Option ℕ) → ((number : ℕ) → found ≡ Some number → ⊥) → IsPassed c steps s.propagation head found → IsPassed c steps s.propagation head None
passed_none c steps s head (Some number) none is = absurd (none number refl)
passed_none c steps s head None none is = is

pub conflict_halted : (c : Circuit) (steps : List (List Lit)) (head : ℕ) (old new : Descents) (number : ℕ) → IsReady c steps head old → IsPassed c steps new.propagation (length new.propagation.trail.entries) (Some number) → Grows old.propagation.trail.entries new.propagation.trail.entries → new.assumed ≡ old.assumed → new.marks ≡ old.marks → IsHalted c steps new (halt.Conflict number)
conflict_halted c steps head old new number is passed grows same_assumed same_marks =
    (fits_more c old new is.fitting grows same_assumed same_marks, running_blocked c steps new number passed, inr passed.0)
