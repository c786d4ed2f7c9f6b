-- What a clause is, as it is computed.
use Rattle.std.proofs.Common.{◌≡◌, ℕ, ◌⊎◌, inl, inr, Bool, true, false, ◌&&◌, ◌||◌, if◌then◌else◌, eqb, find, List, [], ◌∷◌, Option, Some, None, refl, sym, ◌∙◌, ap, ap₂, eq-eqb}
use Rattle.std.proofs.lemmas.Bool.{eqb-true, false≢true}
use Rattle.wb_gate.specs.declared.gates.Lit.{Lit}
use Rattle.wb_derive.specs.Partial.{Partial, IsFalse, IsOpen, IsFalsified, Occurs, AreFalseBut}
use Rattle.wb_solve.specs.Course.{Falsified, UnitOf, Other, is_false_value, is_false, is_none, is_open, same_bool, is_same, all_false, all_false_but, unit_with, standing, IsStanding}
use Rattle.wb_solve.proofs.Units.{open_is}

false_is : (o : Option Bool) (neg : Bool) → is_false_value o neg ≡ true → o ≡ Some neg
false_is None neg h = cc
false_is (Some true) neg h = ap (λ (b : Bool). Some b) (sym h)
false_is (Some false) true h = cc
false_is (Some false) false h = refl

is_false_one : (o : Option Bool) (neg : Bool) → o ≡ Some neg → is_false_value o neg ≡ true
is_false_one None neg h = cc
is_false_one (Some true) true h = refl
is_false_one (Some true) false h = cc
is_false_one (Some false) true h = cc
is_false_one (Some false) false h = refl

falsified_is : (p : Partial) (clause : List Lit) → all_false p clause ≡ true → IsFalsified p clause
falsified_is p [] h = tt
falsified_is p (l ∷ ls) h = by (is_false p l) refl h (falsified_is p ls)
  where
    by : (b : Bool) → is_false p l ≡ b → (b && all_false p ls) ≡ true → (all_false p ls ≡ true → IsFalsified p ls) → IsFalsified p (l ∷ ls)
    by true e h later = (false_is (p l.var) l.neg e, later h)
    by false e h later = absurd (cc)

is_falsified_true : (p : Partial) (clause : List Lit) → IsFalsified p clause → all_false p clause ≡ true
is_falsified_true p [] all = refl
is_falsified_true p (l ∷ ls) all = rw (is_false_one (p l.var) l.neg all.0) (is_falsified_true p ls all.1)

same_bool_is : (a b : Bool) → same_bool a b ≡ true → a ≡ b
same_bool_is true true h = refl
same_bool_is false true h = cc
same_bool_is true false h = cc
same_bool_is false false h = refl

same_bool_self : (a : Bool) → same_bool a a ≡ true
same_bool_self true = refl
same_bool_self false = refl

same_is : (l m : Lit) → is_same l m ≡ true → l ≡ m
same_is l m h = by (eqb l.var m.var) refl h
  where
    by : (b : Bool) → eqb l.var m.var ≡ b → (b && same_bool l.neg m.neg) ≡ true → l ≡ m
    by true e h =
        let lit : ℕ → Bool → Lit = λ v n. record { var = v; neg = n } in
        ap₂ lit (eqb-true l.var m.var e) (same_bool_is l.neg m.neg h)
    by false e h = cc

same_self : (l : Lit) → is_same l l ≡ true
same_self l = rw (eq-eqb l.var l.var refl) (same_bool_self l.neg)

but_is : (l : Lit) (p : Partial) (clause : List Lit) → all_false_but l p clause ≡ true → AreFalseBut l p clause
but_is l p [] h = tt
but_is l p (m ∷ ms) h = by (is_same m l) (is_false p m) refl refl h (but_is l p ms)
  where
    by : (a b : Bool) → is_same m l ≡ a → is_false p m ≡ b → ((a || b) && all_false_but l p ms) ≡ true → (all_false_but l p ms ≡ true → AreFalseBut l p ms) → AreFalseBut l p (m ∷ ms)
    by true b e f h later = (inl (same_is m l e), later h)
    by false true e f h later = (inr (false_is (p m.var) m.neg f), later h)
    by false false e f h later = absurd (cc)

or_true : (a : Bool) → (a || true) ≡ true
or_true true = refl
or_true false = refl

but_true : (l : Lit) (p : Partial) (clause : List Lit) → AreFalseBut l p clause → all_false_but l p clause ≡ true
but_true l p [] all = refl
but_true l p (m ∷ ms) all = by (but_true l p ms all.1) all.0
  where
    by : all_false_but l p ms ≡ true → (m ≡ l) ⊎ IsFalse p m → ((is_same m l || is_false p m) && all_false_but l p ms) ≡ true
    by rest (inl same) =
        let e : is_same m l ≡ true = ap (is_same m) (sym same) ∙ same_self m in
        rw e rest
    by rest (inr f) = rw (is_false_one (p m.var) m.neg f, or_true (is_same m l)) rest

none_is : (o : Option Bool) → is_none o ≡ true → o ≡ None
none_is None h = refl
none_is (Some b) h = cc

-- the first open literal stands there, or there is none
record IsFirst (p : Partial) (clause : List Lit) (l : Lit) : Type 0 where
  there : Occurs l clause
  still_open : IsOpen p l

first_some : (p : Partial) (clause : List Lit) (l : Lit) → find (is_open p) clause ≡ Some l → IsFirst p clause l
first_some p [] l e = absurd (cc)
first_some p (m ∷ ms) l e = by (is_open p m) refl e (first_some p ms l)
  where
    by : (b : Bool) → is_open p m ≡ b → (if b then Some m else find (is_open p) ms) ≡ Some l → (find (is_open p) ms ≡ Some l → IsFirst p ms l) → IsFirst p (m ∷ ms) l
    by true is e later =
        let same : m ≡ l = cc in
        record { there = inl same; still_open = ap (λ (k : Lit). p k.var) (sym same) ∙ none_is (p m.var) is }
    by false is e later = let rest = later e in record { there = inr rest.there; still_open = rest.still_open }

first_none : (p : Partial) (clause : List Lit) (l : Lit) → find (is_open p) clause ≡ None → Occurs l clause → IsOpen p l → ⊥
first_none p [] l e o still = o
first_none p (m ∷ ms) l e o still = by (is_open p m) refl e (first_none p ms l) o
  where
    by : (b : Bool) → is_open p m ≡ b → (if b then Some m else find (is_open p) ms) ≡ None → (find (is_open p) ms ≡ None → Occurs l ms → IsOpen p l → ⊥) → (m ≡ l) ⊎ Occurs l ms → ⊥
    by true is e later o = absurd (cc)
    by false is e later (inl here) =
        let opened : is_open p m ≡ true = ap (λ (k : Lit). is_open p k) here ∙ ap is_none still in
        false≢true (sym is ∙ opened)
    by false is e later (inr there) = later e there still

pub standing_is : (p : Partial) (clause : List Lit) → IsStanding p clause (standing p clause)
standing_is p clause = by (all_false p clause) refl
  where
    none : all_false p clause ≡ false → IsFalsified p clause → ⊥
    none e all = false≢true (sym e ∙ is_falsified_true p clause all)

    last : all_false p clause ≡ false → (l : Lit) → IsFirst p clause l → (b : Bool) → all_false_but l p clause ≡ b → IsStanding p clause (if b then UnitOf l else Other)
    last e l first true but = record { there = first.there; still_open = first.still_open; others = but_is l p clause but }
    last e l first false but = record {
      no_falsified = none e;
      no_unit = λ k unit. false≢true (sym but ∙ ap (λ m. all_false_but m p clause) (open_is k l p clause first.there first.still_open unit.others) ∙ but_true k p clause unit.others);
    }

    found : all_false p clause ≡ false → (o : Option Lit) → find (is_open p) clause ≡ o → IsStanding p clause (unit_with o p clause)
    found e None f = record {
      no_falsified = none e;
      no_unit = λ k unit. first_none p clause k f unit.there unit.still_open;
    }
    found e (Some l) f = last e l (first_some p clause l f) (all_false_but l p clause) refl

    by : (b : Bool) → all_false p clause ≡ b → IsStanding p clause (if b then Falsified else unit_with (find (is_open p) clause) p clause)
    by true e = falsified_is p clause e
    by false e = found e (find (is_open p) clause) refl
