-- Assignments that have the values of others.
use Rattle.std.proofs.Common.{◌≡◌, ℕ, ◌⊎◌, inl, inr, Bool, true, false, not, if◌then◌else◌, eqb, List, [], ◌∷◌, Option, Some, None, refl, sym, ◌∙◌, ap, subst, eq-eqb}
use Rattle.std.proofs.lemmas.Bool.{eqb-true}
use Rattle.wb_gate.specs.declared.gates.Lit.{Lit}
use Rattle.wb_derive.specs.Partial.{Partial, assume, IsFalse, IsOpen, IsFalsified, AreFalseBut}

pub same_partial : (p q : Partial) → ((x : ℕ) → p x ≡ q x) → p ≡ q
same_partial p q h = λ i x. h x i

-- each value of p is one of q
pub record Below (p q : Partial) : Type 0 where
  pub on : (x : ℕ) (b : Bool) → p x ≡ Some b → q x ≡ Some b

pub below_self : (p : Partial) → Below p p
below_self p = record { on = λ x b e. e }

pub below_trans : (p q r : Partial) → Below p q → Below q r → Below p r
below_trans p q r h k = record { on = λ x b e. k.on x b (h.on x b e) }

pub assume_at : (p : Partial) (l : Lit) → assume p l l.var ≡ Some (not l.neg)
assume_at p l = rw (eq-eqb l.var l.var refl) refl

pub below_assume : (p : Partial) (l : Lit) → IsOpen p l → Below p (assume p l)
below_assume p l still = record { on = λ x b e. by x b (eqb x l.var) refl e }
  where
    by : (x : ℕ) (b same : Bool) → eqb x l.var ≡ same → p x ≡ Some b → (if same then Some (not l.neg) else p x) ≡ Some b
    by x b true here e = let none : p x ≡ None = ap p (eqb-true x l.var here) ∙ still in absurd (cc)
    by x b false there e = e

pub assume_below : (p q : Partial) (l : Lit) → Below p q → q l.var ≡ Some (not l.neg) → Below (assume p l) q
assume_below p q l h at = record { on = λ x b e. by x b (eqb x l.var) refl e }
  where
    by : (x : ℕ) (b same : Bool) → eqb x l.var ≡ same → (if same then Some (not l.neg) else p x) ≡ Some b → q x ≡ Some b
    by x b true here e = ap q (eqb-true x l.var here) ∙ at ∙ e
    by x b false there e = h.on x b e

pub false_below : (p q : Partial) (clause : List Lit) → Below p q → IsFalsified p clause → IsFalsified q clause
false_below p q [] h all = tt
false_below p q (l ∷ ls) h all = (h.on l.var l.neg all.0, false_below p q ls h all.1)

pub but_below : (l : Lit) (p q : Partial) (clause : List Lit) → Below p q → AreFalseBut l p clause → AreFalseBut l q clause
but_below l p q [] h all = tt
but_below l p q (m ∷ ms) h all = (by all.0, but_below l p q ms h all.1)
  where
    by : (m ≡ l) ⊎ IsFalse p m → (m ≡ l) ⊎ IsFalse q m
    by (inl same) = inl same
    by (inr f) = inr (h.on m.var m.neg f)

-- a clause whose literals are false but for one is falsified where that one is false too
pub but_falsified : (l : Lit) (p : Partial) (clause : List Lit) → AreFalseBut l p clause → IsFalse p l → IsFalsified p clause
but_falsified l p [] all f = tt
but_falsified l p (m ∷ ms) all f = (by all.0, but_falsified l p ms all.1 f)
  where
    by : (m ≡ l) ⊎ IsFalse p m → IsFalse p m
    by (inl same) = subst (IsFalse p) (sym same) f
    by (inr g) = g

pub same_from_below : (p q : Partial) → Below p q → Below q p → p ≡ q
same_from_below p q h k = same_partial p q (λ x. by x (p x) (q x) refl refl)
  where
    by : (x : ℕ) (a b : Option Bool) → p x ≡ a → q x ≡ b → p x ≡ q x
    by x (Some a) b e f = e ∙ sym (h.on x a e)
    by x None (Some b) e f = k.on x b f ∙ sym f
    by x None None e f = e ∙ sym f
