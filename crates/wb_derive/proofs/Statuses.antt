-- What a clause is, as it is computed literal by literal.
use Rattle.std.proofs.Common.{◌≡◌, ℕ, ◌⊎◌, inl, inr, Bool, true, false, ◌&&◌, if◌then◌else◌, eqb, List, [], ◌∷◌, ◌++◌, Option, Some, None, refl, sym, ◌∙◌, ap, ap₂, subst, append_assoc, eq-eqb}
use Rattle.std.specs.List.{fold}
use Rattle.std.proofs.lemmas.Bool.{eqb-true, false≢true}
use Rattle.std.proofs.lemmas.List.{append-nil}
use Rattle.wb_gate.specs.declared.gates.Lit.{Lit}
use Rattle.wb_derive.specs.declared.checks.Status.{Status}
use Rattle.wb_derive.specs.declared.checks.Status.TheVariants.{Falsified, Other}
use Rattle.wb_derive.specs.declared.checks.Status.TheVariants.{Unit as UnitOf}
use Rattle.wb_derive.specs.Partial.{Partial, IsFalse, IsOpen, IsFalsified, Occurs, AreFalseBut, IsUnit}
use Rattle.wb_derive.specs.Course.{agrees, is_same, with_open, with_lit, status}

-- a clause is neither falsified nor unit
pub record IsNeither (p : Partial) (clause : List Lit) : Type 0 where
  pub no_conflict : IsFalsified p clause → ⊥
  pub no_unit : (l : Lit) → IsUnit p clause l → ⊥

-- what a status says of a clause
abbrev pub IsStatus : Partial → List Lit → Status → Type 0
IsStatus p clause Falsified = IsFalsified p clause
IsStatus p clause (UnitOf l) = IsUnit p clause l
IsStatus p clause Other = IsNeither p clause

agrees_is : (a b : Bool) → agrees a b ≡ true → a ≡ b
agrees_is true true h = refl
agrees_is false true h = cc
agrees_is true false h = cc
agrees_is false false h = refl

agrees_same : (a : Bool) → agrees a a ≡ true
agrees_same true = refl
agrees_same false = refl

same_parts : (l m : Lit) → l.var ≡ m.var → l.neg ≡ m.neg → l ≡ m
same_parts l m e f =
    let lit : ℕ → Bool → Lit = λ v n. record { var = v; neg = n } in
    ap₂ lit e f

same_is : (l m : Lit) → is_same l m ≡ true → l ≡ m
same_is l m h = by (eqb l.var m.var) refl h
  where
    by : (b : Bool) → eqb l.var m.var ≡ b → (b && agrees l.neg m.neg) ≡ true → l ≡ m
    by true e h = same_parts l m (eqb-true l.var m.var e) (agrees_is l.neg m.neg h)
    by false e h = cc

is_same_self : (l : Lit) → is_same l l ≡ true
is_same_self l = rw (eq-eqb l.var l.var refl) (agrees_same l.neg)

-- a literal has one value
false_open : (p : Partial) (l : Lit) → IsFalse p l → IsOpen p l → ⊥
false_open p l f o = cc

-- lists with one literal more at the end
falsified_more : (p : Partial) (xs : List Lit) (l : Lit) → IsFalsified p xs → IsFalse p l → IsFalsified p (xs ++ (l ∷ []))
falsified_more p [] l all f = (f, tt)
falsified_more p (x ∷ xs) l all f = (all.0, falsified_more p xs l all.1 f)

falsified_front : (p : Partial) (xs : List Lit) (l : Lit) → IsFalsified p (xs ++ (l ∷ [])) → IsFalsified p xs
falsified_front p [] l all = tt
falsified_front p (x ∷ xs) l all = (all.0, falsified_front p xs l all.1)

falsified_last : (p : Partial) (xs : List Lit) (l : Lit) → IsFalsified p (xs ++ (l ∷ [])) → IsFalse p l
falsified_last p [] l all = all.0
falsified_last p (x ∷ xs) l all = falsified_last p xs l all.1

occurs_left : (k : Lit) (xs : List Lit) (l : Lit) → Occurs k xs → Occurs k (xs ++ (l ∷ []))
occurs_left k [] l o = absurd o
occurs_left k (x ∷ xs) l (inl here) = inl here
occurs_left k (x ∷ xs) l (inr there) = inr (occurs_left k xs l there)

occurs_last : (xs : List Lit) (l : Lit) → Occurs l (xs ++ (l ∷ []))
occurs_last [] l = inl refl
occurs_last (x ∷ xs) l = inr (occurs_last xs l)

but_more : (k : Lit) (p : Partial) (xs : List Lit) (l : Lit) → AreFalseBut k p xs → (l ≡ k) ⊎ IsFalse p l → AreFalseBut k p (xs ++ (l ∷ []))
but_more k p [] l all one = (one, tt)
but_more k p (x ∷ xs) l all one = (all.0, but_more k p xs l all.1 one)

but_front : (k : Lit) (p : Partial) (xs : List Lit) (l : Lit) → AreFalseBut k p (xs ++ (l ∷ [])) → AreFalseBut k p xs
but_front k p [] l all = tt
but_front k p (x ∷ xs) l all = (all.0, but_front k p xs l all.1)

but_last : (k : Lit) (p : Partial) (xs : List Lit) (l : Lit) → AreFalseBut k p (xs ++ (l ∷ [])) → (l ≡ k) ⊎ IsFalse p l
but_last k p [] l all = all.0
but_last k p (x ∷ xs) l all = but_last k p xs l all.1

but_from_false : (k : Lit) (p : Partial) (xs : List Lit) → IsFalsified p xs → AreFalseBut k p xs
but_from_false k p [] all = tt
but_from_false k p (x ∷ xs) all = (inr all.0, but_from_false k p xs all.1)

-- the other one stands there, or all are false
there_or_false : (k : Lit) (p : Partial) (xs : List Lit) → AreFalseBut k p xs → Occurs k xs ⊎ IsFalsified p xs
there_or_false k p [] all = inr tt
there_or_false k p (x ∷ xs) all = by all.0 (there_or_false k p xs all.1)
  where
    by : (x ≡ k) ⊎ IsFalse p x → Occurs k xs ⊎ IsFalsified p xs → Occurs k (x ∷ xs) ⊎ IsFalsified p (x ∷ xs)
    by (inl same) rest = inl (inl same)
    by (inr f) (inl there) = inl (inr there)
    by (inr f) (inr rest) = inr (f, rest)

-- an open literal that stands in a clause whose others are false is the one
open_is : (k l : Lit) (p : Partial) (xs : List Lit) → Occurs l xs → IsOpen p l → AreFalseBut k p xs → l ≡ k
open_is k l p [] o still all = absurd o
open_is k l p (x ∷ xs) (inl here) still all = by all.0
  where
    by : (x ≡ k) ⊎ IsFalse p x → l ≡ k
    by (inl same) = sym here ∙ same
    by (inr f) = absurd (false_open p l (subst (IsFalse p) here f) still)
open_is k l p (x ∷ xs) (inr there) still all = open_is k l p xs there still all.1

pub unit_one : (p : Partial) (clause : List Lit) (l k : Lit) → IsUnit p clause l → IsUnit p clause k → l ≡ k
unit_one p clause l k is also = open_is k l p clause is.there is.still_open also.others

falsified_open : (p : Partial) (xs : List Lit) (l : Lit) → IsFalsified p xs → Occurs l xs → IsOpen p l → ⊥
falsified_open p [] l all o still = o
falsified_open p (x ∷ xs) l all (inl here) still = false_open p l (subst (IsFalse p) here all.0) still
falsified_open p (x ∷ xs) l all (inr there) still = falsified_open p xs l all.1 there still

pub falsified_unit : (p : Partial) (clause : List Lit) (l : Lit) → IsFalsified p clause → IsUnit p clause l → ⊥
falsified_unit p clause l all is = falsified_open p clause l all is.there is.still_open

-- one literal more
neither_more : (p : Partial) (xs : List Lit) (l : Lit) → IsNeither p xs → IsNeither p (xs ++ (l ∷ []))
neither_more p xs l is = record {
  no_conflict = λ all. is.no_conflict (falsified_front p xs l all);
  no_unit = λ k unit. by k unit (there_or_false k p xs (but_front k p xs l unit.others));
}
  where
    by : (k : Lit) → IsUnit p (xs ++ (l ∷ [])) k → Occurs k xs ⊎ IsFalsified p xs → ⊥
    by k unit (inl there) = is.no_unit k (record { there = there; still_open = unit.still_open; others = but_front k p xs l unit.others })
    by k unit (inr all) = is.no_conflict all

open_more : (p : Partial) (xs : List Lit) (l : Lit) (s : Status) → IsOpen p l → IsStatus p xs s → IsStatus p (xs ++ (l ∷ [])) (with_open s l)
open_more p xs l Falsified still is = record { there = occurs_last xs l; still_open = still; others = but_more l p xs l (but_from_false l p xs is) (inl refl) }
open_more p xs l (UnitOf m) still is = by (is_same m l) refl
  where
    by : (b : Bool) → is_same m l ≡ b → IsStatus p (xs ++ (l ∷ [])) (if b then UnitOf m else Other)
    by true e = record { there = occurs_left m xs l is.there; still_open = is.still_open; others = but_more m p xs l is.others (inl (sym (same_is m l e))) }
    by false e = record {
      no_conflict = λ all. false_open p l (falsified_last p xs l all) still;
      no_unit = λ k unit. two k unit (but_last k p xs l unit.others);
    }
      where
        two : (k : Lit) → IsUnit p (xs ++ (l ∷ [])) k → (l ≡ k) ⊎ IsFalse p l → ⊥
        two k unit (inr f) = false_open p l f still
        two k unit (inl same) =
            let first : m ≡ k = open_is k m p xs is.there is.still_open (but_front k p xs l unit.others) in
            false≢true (sym e ∙ ap (is_same m) (same ∙ sym first) ∙ is_same_self m)
open_more p xs l Other still is = neither_more p xs l is

false_more : (p : Partial) (xs : List Lit) (l : Lit) (s : Status) → IsFalse p l → IsStatus p xs s → IsStatus p (xs ++ (l ∷ [])) s
false_more p xs l Falsified f is = falsified_more p xs l is f
false_more p xs l (UnitOf m) f is = record { there = occurs_left m xs l is.there; still_open = is.still_open; others = but_more m p xs l is.others (inr f) }
false_more p xs l Other f is = neither_more p xs l is

true_more : (p : Partial) (xs : List Lit) (l : Lit) (value : Bool) → p l.var ≡ Some value → agrees value l.neg ≡ false → IsNeither p (xs ++ (l ∷ []))
true_more p xs l value has other = record {
  no_conflict = λ all. is_true (falsified_last p xs l all);
  no_unit = λ k unit. by k unit (but_last k p xs l unit.others);
}
  where
    is_true : IsFalse p l → ⊥
    is_true f =
        let same : value ≡ l.neg = cc in
        false≢true (sym other ∙ ap (λ b. agrees b l.neg) same ∙ agrees_same l.neg)

    by : (k : Lit) → IsUnit p (xs ++ (l ∷ [])) k → (l ≡ k) ⊎ IsFalse p l → ⊥
    by k unit (inr f) = is_true f
    by k unit (inl same) = let still : p l.var ≡ None = ap (λ (m : Lit). p m.var) same ∙ unit.still_open in cc

status_more : (p : Partial) (xs : List Lit) (l : Lit) (s : Status) → IsStatus p xs s → IsStatus p (xs ++ (l ∷ [])) (with_lit s l (p l.var))
status_more p xs l s is = by (p l.var) refl
  where
    valued : (value same : Bool) → p l.var ≡ Some value → agrees value l.neg ≡ same → IsStatus p (xs ++ (l ∷ [])) (if same then s else Other)
    valued value true has e = false_more p xs l s (has ∙ ap (λ (b : Bool). Some b) (agrees_is value l.neg e)) is
    valued value false has e = true_more p xs l value has e

    by : (o : Option Bool) → p l.var ≡ o → IsStatus p (xs ++ (l ∷ [])) (with_lit s l o)
    by None e = open_more p xs l s e is
    by (Some value) e = valued value (agrees value l.neg) e refl

status_from : (p : Partial) (ys xs : List Lit) (s : Status) → IsStatus p xs s → IsStatus p (xs ++ ys) (fold (λ t l. with_lit t l (p l.var)) s ys)
status_from p [] xs s is =
    let P : List Lit → Type 0 = λ zs. IsStatus p zs s in
    subst P (sym (append-nil xs)) is
status_from p (y ∷ ys) xs s is =
    let P : List Lit → Type 0 = λ zs. IsStatus p zs (fold (λ t l. with_lit t l (p l.var)) (with_lit s y (p y.var)) ys) in
    subst P (append_assoc xs (y ∷ []) ys) (status_from p ys (xs ++ (y ∷ [])) (with_lit s y (p y.var)) (status_more p xs y s is))

pub status_is : (p : Partial) (clause : List Lit) → IsStatus p clause (status p clause)
status_is p clause = status_from p clause [] Falsified tt
