-- When a clause is unit.
use Rattle.std.proofs.Common.{◌≡◌, ◌⊎◌, inl, inr, List, [], ◌∷◌, sym, ◌∙◌, subst}
use Rattle.wb_gate.specs.declared.gates.Lit.{Lit}
use Rattle.wb_derive.specs.Partial.{Partial, IsFalse, IsOpen, IsFalsified, Occurs, AreFalseBut, IsUnit}

-- the other one stands there, or all are false
pub there_or_false : (l : Lit) (p : Partial) (clause : List Lit) → AreFalseBut l p clause → Occurs l clause ⊎ IsFalsified p clause
there_or_false l p [] all = inr tt
there_or_false l p (m ∷ ms) all = by all.0 (there_or_false l p ms all.1)
  where
    by : (m ≡ l) ⊎ IsFalse p m → Occurs l ms ⊎ IsFalsified p ms → Occurs l (m ∷ ms) ⊎ IsFalsified p (m ∷ ms)
    by (inl same) rest = inl (inl same)
    by (inr f) (inl there) = inl (inr there)
    by (inr f) (inr rest) = inr (f, rest)

-- a clause whose literals are false but for an open one is unit or falsified
pub unit_or_false : (l : Lit) (p : Partial) (clause : List Lit) → IsOpen p l → AreFalseBut l p clause → IsUnit p clause l ⊎ IsFalsified p clause
unit_or_false l p clause still all = by (there_or_false l p clause all)
  where
    by : Occurs l clause ⊎ IsFalsified p clause → IsUnit p clause l ⊎ IsFalsified p clause
    by (inl there) = inl (record { there = there; still_open = still; others = all })
    by (inr f) = inr f

-- an open literal that stands in a clause whose others are false is the one
pub open_is : (k l : Lit) (p : Partial) (xs : List Lit) → Occurs l xs → IsOpen p l → AreFalseBut k p xs → l ≡ k
open_is k l p [] o still all = absurd o
open_is k l p (x ∷ xs) (inl here) still all = by all.0
  where
    by : (x ≡ k) ⊎ IsFalse p x → l ≡ k
    by (inl same) = sym here ∙ same
    by (inr f) = let g : IsFalse p l = subst (IsFalse p) here f in absurd (cc)
open_is k l p (x ∷ xs) (inr there) still all = open_is k l p xs there still all.1

pub unit_one : (p : Partial) (clause : List Lit) (l k : Lit) → IsUnit p clause l → IsUnit p clause k → l ≡ k
unit_one p clause l k is also = open_is k l p clause is.there is.still_open also.others
