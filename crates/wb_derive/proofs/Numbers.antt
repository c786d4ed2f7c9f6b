-- Which clause a number names, and which variables a unit clause can give.
use Rattle.std.proofs.Common.{◌≡◌, ℕ, zero, suc, ◌-◌, ◌<◌, ◌≤◌, Bool, true, false, ◌&&◌, nat_lt, if◌then◌else◌, List, [], ◌∷◌, ◌++◌, length, map, Option, Some, None, refl, sym, ◌∙◌, ap, arith}
use Rattle.std.specs.List.{slice_get, fold}
use Rattle.std.specs.Option.{option_map}
use Rattle.std.proofs.lemmas.Bool.{ltb-true, lt-ltb}
use Rattle.wb_gate.specs.declared.gates.Lit.{Lit}
use Rattle.wb_gate.specs.Clauses.{names_only}
use Rattle.wb_derive.specs.declared.steps.Step.{Step}
use Rattle.wb_derive.specs.declared.checks.Status.{Status}
use Rattle.wb_derive.specs.declared.checks.Status.TheVariants.{Falsified, Other}
use Rattle.wb_derive.specs.declared.checks.Status.TheVariants.{Unit as UnitOf}
use Rattle.wb_derive.specs.Partial.{Partial}
use Rattle.wb_derive.specs.Course.{agrees, is_same, with_open, with_lit, status, known_from, NameOnly, UnitWithin}

open_within : (n : ℕ) (s : Status) (l : Lit) → UnitWithin n (Some s) → l.var < n → UnitWithin n (Some (with_open s l))
open_within n Falsified l h below = below
open_within n (UnitOf m) l h below = by (is_same m l)
  where
    by : (b : Bool) → UnitWithin n (Some (if b then UnitOf m else Other))
    by true = h
    by false = tt
open_within n Other l h below = tt

lit_within : (n : ℕ) (s : Status) (l : Lit) (value : Option Bool) → UnitWithin n (Some s) → l.var < n → UnitWithin n (Some (with_lit s l value))
lit_within n s l None h below = open_within n s l h below
lit_within n s l (Some value) h below = by (agrees value l.neg)
  where
    by : (b : Bool) → UnitWithin n (Some (if b then s else Other))
    by true = h
    by false = tt

fold_within : (n : ℕ) (p : Partial) (clause : List Lit) (s : Status) → UnitWithin n (Some s) → names_only n clause ≡ true → UnitWithin n (Some (fold (λ t l. with_lit t l (p l.var)) s clause))
fold_within n p [] s h named = h
fold_within n p (l ∷ ls) s h named = by (fold_within n p ls) (nat_lt l.var n) refl named
  where
    by : ((t : Status) → UnitWithin n (Some t) → names_only n ls ≡ true → UnitWithin n (Some (fold (λ t l. with_lit t l (p l.var)) t ls))) → (b : Bool) → nat_lt l.var n ≡ b → (b && names_only n ls) ≡ true → UnitWithin n (Some (fold (λ t l. with_lit t l (p l.var)) (with_lit s l (p l.var)) ls))
    by later true e named = later (with_lit s l (p l.var)) (lit_within n s l (p l.var) h (ltb-true l.var n e)) named
    by later false e named = absurd (cc)

pub status_within : (n : ℕ) (p : Partial) (clause : List Lit) (s : Status) → s ≡ status p clause → names_only n clause ≡ true → UnitWithin n (Some s)
status_within n p clause s e named = rw e (fold_within n p clause Falsified tt named)

get_left : {X : Type 0} (xs ys : List X) (k : ℕ) (x : X) → slice_get xs k ≡ Some x → slice_get (xs ++ ys) k ≡ Some x
get_left [] ys k x e = absurd (cc)
get_left (y ∷ xs) ys zero x e = e
get_left (y ∷ xs) ys (suc k) x e = get_left xs ys k x e

get_right : {X : Type 0} (xs ys : List X) (k : ℕ) → length xs ≤ k → slice_get (xs ++ ys) k ≡ slice_get ys (k - length xs)
get_right [] ys k h = let e : k ≡ k - 0 = omega arith in ap (slice_get ys) e
get_right (x ∷ xs) ys zero h = absurd (omega arith)
get_right (x ∷ xs) ys (suc k) h =
    let e : k - length xs ≡ suc k - length (x ∷ xs) = omega arith in
    get_right xs ys k (omega arith) ∙ ap (slice_get ys) e

get_clause : (steps : List Step) (k : ℕ) → slice_get (map (λ (s : Step). s.clause) steps) k ≡ option_map (λ (s : Step). s.clause) (slice_get steps k)
get_clause [] k = refl
get_clause (s ∷ steps) zero = refl
get_clause (s ∷ steps) (suc k) = get_clause steps k

pub number_in_formula : (clauses : List (List Lit)) (steps : List Step) (number : ℕ) (clause : List Lit) → slice_get clauses number ≡ Some clause → slice_get (known_from clauses steps) number ≡ Some clause
number_in_formula clauses steps number clause e = get_left clauses (map (λ (s : Step). s.clause) steps) number clause e

pub number_in_steps : (clauses : List (List Lit)) (steps : List Step) (number place : ℕ) → length clauses ≤ number → place ≡ number - length clauses → slice_get (known_from clauses steps) number ≡ option_map (λ (s : Step). s.clause) (slice_get steps place)
number_in_steps clauses steps number place past e =
    get_right clauses (map (λ (s : Step). s.clause) steps) number past
    ∙ get_clause steps (number - length clauses)
    ∙ ap (λ k. option_map (λ (s : Step). s.clause) (slice_get steps k)) (sym e)

pub step_status : (clauses : List (List Lit)) (steps : List Step) (number place : ℕ) (p : Partial) → length clauses ≤ number → place ≡ number - length clauses → option_map (λ (step : Step). status p step.clause) (slice_get steps place) ≡ option_map (status p) (slice_get (known_from clauses steps) number)
step_status clauses steps number place p past e =
    by (slice_get steps place) ∙ ap (option_map (status p)) (sym (number_in_steps clauses steps number place past e))
  where
    by : (o : Option Step) → option_map (λ (step : Step). status p step.clause) o ≡ option_map (status p) (option_map (λ (s : Step). s.clause) o)
    by None = refl
    by (Some s) = refl

pub step_within : (n : ℕ) (steps : List Step) (place : ℕ) (p : Partial) → NameOnly n steps → UnitWithin n (option_map (λ (step : Step). status p step.clause) (slice_get steps place))
step_within n steps place p named = by (slice_get steps place) refl
  where
    by : (o : Option Step) → slice_get steps place ≡ o → UnitWithin n (option_map (λ (step : Step). status p step.clause) o)
    by None e = tt
    by (Some s) e = status_within n p s.clause (status p s.clause) refl (named.each place s e)

names_more : (m n : ℕ) (clause : List Lit) → m ≤ n → names_only m clause ≡ true → names_only n clause ≡ true
names_more m n [] h named = refl
names_more m n (l ∷ ls) h named = by (names_more m n ls h) (nat_lt l.var m) refl named
  where
    by : (names_only m ls ≡ true → names_only n ls ≡ true) → (b : Bool) → nat_lt l.var m ≡ b → (b && names_only m ls) ≡ true → (nat_lt l.var n && names_only n ls) ≡ true
    by later true e named =
        let small : l.var < m = ltb-true l.var m e in
        rw (lt-ltb l.var n (omega arith)) (later named)
    by later false e named = absurd (cc)

pub names_covered : (m n : ℕ) (clause : List Lit) (b : Bool) → m ≤ n → b ≡ names_only m clause → b ≡ true → names_only n clause ≡ true
names_covered m n clause b h e is = names_more m n clause h (sym e ∙ is)
