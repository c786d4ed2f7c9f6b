-- Marked variables of clauses.
use Rattle.std.proofs.Common.{◌≡◌, ℕ, zero, suc, ◌+◌, ◌<◌, ◌⊎◌, inl, inr, Bool, true, false, ◌&&◌, nat_lt, List, [], ◌∷◌, length, take, drop, slice_index_or, refl, subst, arith}
use Rattle.wb_gate.specs.declared.gates.Lit.{Lit}
use Rattle.wb_gate.specs.Clauses.{names_only}
use Rattle.wb_derive.specs.Partial.{Occurs}
use Rattle.wb_solve.specs.Trails.{MarksAll, MarksMore}

occurs_taken : (xs : List Lit) (k : ℕ) (d l : Lit) → k < length xs → Occurs l (take (k + 1) xs) → Occurs l (take k xs) ⊎ (slice_index_or xs k d ≡ l)
occurs_taken [] k d l h o = absurd (omega arith)
occurs_taken (x ∷ xs) zero d l h (inl here) = inr here
occurs_taken (x ∷ xs) zero d l h (inr there) = absurd there
occurs_taken (x ∷ xs) (suc k) d l h o = let e : suc k + 1 ≡ suc (k + 1) = omega arith in
    by (occurs_taken xs k d l (omega arith)) (subst (λ m. Occurs l (take m (x ∷ xs))) e o)
  where
    by : (Occurs l (take (k + 1) xs) → Occurs l (take k xs) ⊎ (slice_index_or xs k d ≡ l)) → Occurs l (take (suc (k + 1)) (x ∷ xs)) → Occurs l (take (suc k) (x ∷ xs)) ⊎ (slice_index_or xs k d ≡ l)
    by later (inl here) = inl (inl here)
    by later (inr there) = rest (later there)
      where
        rest : Occurs l (take k xs) ⊎ (slice_index_or xs k d ≡ l) → Occurs l (take (suc k) (x ∷ xs)) ⊎ (slice_index_or xs k d ≡ l)
        rest (inl before) = inl (inr before)
        rest (inr same) = inr same

pub marks_taken : (old new : ℕ → Bool) (xs : List Lit) (k : ℕ) (d : Lit) → k < length xs → MarksMore old new → new (slice_index_or xs k d).var ≡ true → MarksAll old (take k xs) → MarksAll new (take (k + 1) xs)
marks_taken old new xs k d h more here before l o = by (occurs_taken xs k d l h o)
  where
    by : Occurs l (take k xs) ⊎ (slice_index_or xs k d ≡ l) → new l.var ≡ true
    by (inl there) = more l.var (before l there)
    by (inr same) = subst (λ (m : Lit). new m.var ≡ true) same here

and_right : (a b : Bool) → (a && b) ≡ true → b ≡ true
and_right true b h = h
and_right false b h = cc

named_one_less : (n : ℕ) (xs : List Lit) → names_only n xs ≡ true → names_only n (drop 1 xs) ≡ true
named_one_less n [] h = refl
named_one_less n (x ∷ xs) h = and_right (nat_lt x.var n) (names_only n xs) h

pub named_less : (n m : ℕ) (xs : List Lit) (k : ℕ) → n ≡ m → names_only n (drop k xs) ≡ true → names_only m (drop (k + 1) xs) ≡ true
named_less n m xs k same h = subst (λ j. names_only j (drop (k + 1) xs) ≡ true) same (by xs k h)
  where
    by : (ys : List Lit) (j : ℕ) → names_only n (drop j ys) ≡ true → names_only n (drop (j + 1) ys) ≡ true
    by ys zero h = named_one_less n ys h
    by [] (suc j) h = let e : suc (j + 1) ≡ suc j + 1 = omega arith in subst (λ i. names_only n (drop i []) ≡ true) e refl
    by (y ∷ ys) (suc j) h = let e : suc (j + 1) ≡ suc j + 1 = omega arith in subst (λ i. names_only n (drop i (y ∷ ys)) ≡ true) e (by ys j h)
