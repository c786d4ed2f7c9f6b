-- Clauses that are neither falsified nor unit.
use Rattle.std.proofs.Common.{◌≡◌, ℕ, zero, suc, ◌+◌, ◌⊎◌, inl, inr, Bool, true, false, not, List, [], ◌∷◌, Option, Some, None, refl, sym, ◌∙◌, ap, subst, arith}
use Rattle.wb_gate.specs.declared.gates.Lit.{Lit}
use Rattle.wb_derive.specs.Partial.{Partial, IsFalse, IsOpen, IsFalsified, Occurs, AreFalseBut, IsUnit}
use Rattle.wb_solve.specs.declared.judging.Truth.{Truth}
use Rattle.wb_solve.specs.declared.judging.Truth.TheVariants as truth
use Rattle.wb_solve.specs.declared.judging.Next.{Next}
use Rattle.wb_solve.specs.declared.judging.Next.TheVariants.{Stays, Makes, Falsified}
use Rattle.wb_solve.specs.declared.judging.Found.{Found}
use Rattle.wb_solve.specs.declared.judging.Found.TheVariants as found
use Rattle.wb_solve.specs.Trails.{Holds}
use Rattle.wb_solve.specs.Guarding.{IsGuarded, AreGuarded}
use Rattle.wb_solve.specs.Judging.{IsTruth, IsQuiet, AreQuiet, IsNext, IsFound}
use Rattle.wb_solve.proofs.Partials.{Below, but_below, but_falsified}
use Rattle.wb_solve.proofs.Units.{there_or_false}

-- a literal isn't both
pub not_both : (p : Partial) (l : Lit) → IsFalse p l → Holds p l → ⊥
not_both p l f t = by l.neg (sym f ∙ t)
  where
    by : (b : Bool) → Some b ≡ Some (not b) → ⊥
    by true e = cc
    by false e = cc

pub open_not_false : (p : Partial) (l : Lit) → IsOpen p l → IsFalse p l → ⊥
open_not_false p l still f = let e : None ≡ Some l.neg = sym still ∙ f in cc

pub open_not_true : (p : Partial) (l : Lit) → IsOpen p l → Holds p l → ⊥
open_not_true p l still t = let e : None ≡ Some (not l.neg) = sym still ∙ t in cc

pub held_below : (p q : Partial) (l : Lit) → Below p q → Holds p l → Holds q l
held_below p q l below t = below.on l.var (not l.neg) t

pub all_false : (l : Lit) (p : Partial) (clause : List Lit) → ((m : Lit) → Occurs m clause → (m ≡ l) ⊎ IsFalse p m) → AreFalseBut l p clause
all_false l p [] all = tt
all_false l p (m ∷ ms) all = (all m (inl refl), all_false l p ms (λ k o. all k (inr o)))

false_at : (p : Partial) (clause : List Lit) (l : Lit) → Occurs l clause → IsFalsified p clause → IsFalse p l
false_at p [] l o all = absurd o
false_at p (m ∷ ms) l (inl here) all = subst (IsFalse p) here all.0
false_at p (m ∷ ms) l (inr there) all = false_at p ms l there all.1

falsified_but : (p : Partial) (l : Lit) (clause : List Lit) → IsFalsified p clause → AreFalseBut l p clause
falsified_but p l [] all = tt
falsified_but p l (m ∷ ms) all = (inr all.0, falsified_but p l ms all.1)

pub but_at : (p : Partial) (clause : List Lit) (l k : Lit) → Occurs l clause → AreFalseBut k p clause → (l ≡ k) ⊎ IsFalse p l
but_at p [] l k o all = absurd o
but_at p (m ∷ ms) l k (inl here) all = by all.0
  where
    by : (m ≡ k) ⊎ IsFalse p m → (l ≡ k) ⊎ IsFalse p l
    by (inl same) = inl (sym here ∙ same)
    by (inr f) = inr (subst (IsFalse p) here f)
but_at p (m ∷ ms) l k (inr there) all = but_at p ms l k there all.1

pub held_quiet : (p : Partial) (clause : List Lit) (l : Lit) → Occurs l clause → Holds p l → IsQuiet p clause
held_quiet p clause l o holds = record {
  no_falsified = λ all. not_both p l (false_at p clause l o all) holds;
  no_unit = λ k unit. by k unit (but_at p clause l k o unit.others);
}
  where
    by : (k : Lit) → IsUnit p clause k → (l ≡ k) ⊎ IsFalse p l → ⊥
    by k unit (inl same) = open_not_true p k unit.still_open (subst (Holds p) same holds)
    by k unit (inr f) = not_both p l f holds

pub open_quiet : (p : Partial) (clause : List Lit) (l m : Lit) → Occurs l clause → Occurs m clause → (l ≡ m → ⊥) → IsOpen p l → IsOpen p m → IsQuiet p clause
open_quiet p clause l m l_in m_in distinct l_open m_open = record {
  no_falsified = λ all. open_not_false p l l_open (false_at p clause l l_in all);
  no_unit = λ k unit. by k (but_at p clause l k l_in unit.others) (but_at p clause m k m_in unit.others);
}
  where
    by : (k : Lit) → (l ≡ k) ⊎ IsFalse p l → (m ≡ k) ⊎ IsFalse p m → ⊥
    by k (inl one) (inl two) = distinct (one ∙ sym two)
    by k (inr f) other = open_not_false p l l_open f
    by k (inl one) (inr f) = open_not_false p m m_open f

-- one more literal
open_stays : (p : Partial) (l : Lit) (clause : List Lit) → IsOpen p l → IsQuiet p clause → IsQuiet p (l ∷ clause)
open_stays p l clause still quiet = record {
  no_falsified = λ all. quiet.no_falsified all.1;
  no_unit = λ k unit. by k unit unit.others.0;
}
  where
    alone : AreFalseBut l p clause → ⊥
    alone all = one (there_or_false l p clause all)
      where
        one : Occurs l clause ⊎ IsFalsified p clause → ⊥
        one (inl there) = quiet.no_unit l (record { there = there; still_open = still; others = all })
        one (inr f) = quiet.no_falsified f

    by : (k : Lit) → IsUnit p (l ∷ clause) k → (l ≡ k) ⊎ IsFalse p l → ⊥
    by k unit (inl same) = alone (subst (λ m. AreFalseBut m p clause) (sym same) unit.others.1)
    by k unit (inr f) = open_not_false p l still f

pub joined_true : (p : Partial) (l : Lit) (clause : List Lit) (t : Truth) → t ≡ truth.True → IsTruth p l t → IsNext p (l ∷ clause) Stays
joined_true p l clause t is seen = held_quiet p (l ∷ clause) l (inl refl) (subst (IsTruth p l) is seen)

pub joined_stays : (p : Partial) (l : Lit) (clause : List Lit) (t : Truth) (rest : Next) → t ≡ truth.Open → rest ≡ Stays → IsTruth p l t → IsNext p clause rest → IsNext p (l ∷ clause) Stays
joined_stays p l clause t rest is rest_is seen next = open_stays p l clause (subst (IsTruth p l) is seen) (subst (IsNext p clause) rest_is next)

pub joined_makes : (p : Partial) (l : Lit) (clause : List Lit) (t : Truth) (rest : Next) → t ≡ truth.Open → rest ≡ Falsified → IsTruth p l t → IsNext p clause rest → IsNext p (l ∷ clause) (Makes l)
joined_makes p l clause t rest is rest_is seen next =
    let all : IsFalsified p clause = subst (IsNext p clause) rest_is next in
    record { there = inl refl; still_open = subst (IsTruth p l) is seen; others = (inl refl, falsified_but p l clause all) }

pub joined_apart : (p : Partial) (l m : Lit) (clause : List Lit) (t : Truth) (rest : Next) → t ≡ truth.Open → rest ≡ Makes m → (l ≡ m → ⊥) → IsTruth p l t → IsNext p clause rest → IsNext p (l ∷ clause) Stays
joined_apart p l m clause t rest is rest_is apart seen next =
    let unit : IsUnit p clause m = subst (IsNext p clause) rest_is next in
    open_quiet p (l ∷ clause) l m (inl refl) (inr unit.there) apart (subst (IsTruth p l) is seen) unit.still_open

-- what holds of literals holds of the same ones
pub same_three : (P : Lit → Lit → Lit → Type 0) (a b d k l m : Lit) → a ≡ k → b ≡ l → d ≡ m → P a b d → P k l m
same_three P a b d k l m one two three is = subst (λ x. P x l m) one (subst (λ x. P a x m) two (subst (λ x. P a b x) three is))

pub same_four : (P : Lit → Lit → Lit → Lit → Type 0) (a b d e k l m n : Lit) → a ≡ k → b ≡ l → d ≡ m → e ≡ n → P a b d e → P k l m n
same_four P a b d e k l m n one two three four is = subst (λ x. P x l m n) one (subst (λ x. P a x m n) two (subst (λ x. P a b x n) three (subst (λ x. P a b d x) four is)))

-- what is found among clauses with one more before them
pub none_quiet : (p : Partial) → AreQuiet p []
none_quiet p k clause at = absurd (cc)

pub quiet_more : (p : Partial) (clause : List Lit) (clauses : List (List Lit)) → IsQuiet p clause → AreQuiet p clauses → AreQuiet p (clause ∷ clauses)
quiet_more p clause clauses quiet all zero d at = let same : clause ≡ d = cc in subst (IsQuiet p) same quiet
quiet_more p clause clauses quiet all (suc k) d at = all k d at

pub first_stays : (p : Partial) (number : ℕ) (clause : List Lit) (clauses : List (List Lit)) (later : Found) → IsQuiet p clause → IsFound p (number + 1) clauses later → IsFound p number (clause ∷ clauses) later
first_stays p number clause clauses found.Nothing quiet all = quiet_more p clause clauses quiet all
first_stays p number clause clauses (found.Unit other l) quiet is = (suc is.0, omega (arith, is.1), is.2)
first_stays p number clause clauses (found.Falsified other) quiet is = (suc is.0, omega (arith, is.1), is.2)

-- a clause that is quiet is guarded
pub quiet_guarded : (p : Partial) (clause : List Lit) → IsQuiet p clause → IsGuarded p p clause
quiet_guarded p clause quiet l there all = by (p l.var) refl
  where
    sign : (b n : Bool) → p l.var ≡ Some b → (b ≡ n) ⊎ (b ≡ not n)
    sign true true e = inl refl
    sign true false e = inr refl
    sign false true e = inr refl
    sign false false e = inl refl

    with_sign : (b : Bool) → p l.var ≡ Some b → (b ≡ l.neg) ⊎ (b ≡ not l.neg) → Holds p l
    with_sign b e (inl same) = absurd (quiet.no_falsified (but_falsified l p clause all (e ∙ ap (λ (c : Bool). Some c) same)))
    with_sign b e (inr same) = e ∙ ap (λ (c : Bool). Some c) same

    by : (o : Option Bool) → p l.var ≡ o → Holds p l
    by None e = absurd (quiet.no_unit l (record { there = there; still_open = e; others = all }))
    by (Some b) e = with_sign b e (sign b l.neg e)

pub guarded_quiet : (p : Partial) (clause : List Lit) → (clause ≡ [] → ⊥) → IsGuarded p p clause → IsQuiet p clause
guarded_quiet p clause filled guarded = record {
  no_falsified = λ all. falls clause all refl;
  no_unit = λ k unit. open_not_true p k unit.still_open (guarded k unit.there unit.others);
}
  where
    falls : (d : List Lit) → IsFalsified p clause → clause ≡ d → ⊥
    falls [] all is = filled is
    falls (l ∷ ls) all is =
        let there : Occurs l clause = subst (Occurs l) (sym is) (inl refl) in
        not_both p l (false_at p clause l there all) (guarded l there (falsified_but p l clause all))

-- fewer values on the one side, and more on the other
pub guarded_below : (p q r s : Partial) (clause : List Lit) → Below p q → Below r s → IsGuarded q r clause → IsGuarded p s clause
guarded_below p q r s clause below above guarded l there all = held_below r s l above (guarded l there (but_below l p q clause below all))

pub all_guarded_below : (p q r s : Partial) (clauses : List (List Lit)) → Below p q → Below r s → AreGuarded clauses q r → AreGuarded clauses p s
all_guarded_below p q r s clauses below above guarded k clause at = guarded_below p q r s clause below above (guarded k clause at)

pub quiet_all : (p : Partial) (clauses : List (List Lit)) → AreQuiet p clauses → AreGuarded clauses p p
quiet_all p clauses quiet k clause at = quiet_guarded p clause (quiet k clause at)
