-- Trails that grow and shrink at their end.
use Rattle.std.proofs.Common.{◌≡◌, ℕ, zero, suc, ◌+◌, ◌<◌, ◌⊎◌, inl, inr, Bool, true, false, not, if◌then◌else◌, eqb, List, [], ◌∷◌, ◌++◌, length, set, take, replicate, Option, Some, None, refl, sym, ◌∙◌, ap, subst, arith, length-append, eq-eqb}
use Rattle.std.specs.List.{slice_get, fold}
use Rattle.std.proofs.lemmas.Bool.{eqb-true}
use Rattle.std.proofs.lemmas.List.{length-set, length-replicate}
use Rattle.std.proofs.lemmas.Option.{slice_get_within}
use Rattle.wb_gate.specs.declared.gates.Lit.{Lit}
use Rattle.wb_derive.specs.Partial.{Partial, nothing, assume}
use Rattle.wb_solve.specs.declared.trail.Entry.{Entry}
use Rattle.wb_solve.specs.Course.{value_in, partial_of, opens}
use Rattle.wb_solve.specs.Trails.{made, AreNew, IsTrail}
use Rattle.wb_solve.proofs.Lists.{get_left}
use Rattle.wb_solve.proofs.Partials.{assume_at}
use Rattle.wb_solve.proofs.Writing.{set_other, partial_set, partial_none}
use Rattle.wb_solve.proofs.Searching.{take_all, take_front, last_or_before, get_last}

fold_push : (p : Partial) (es : List Entry) (e : Entry) → fold (λ q d. assume q d.lit) p (es ++ (e ∷ [])) ≡ assume (fold (λ q d. assume q d.lit) p es) e.lit
fold_push p [] e = refl
fold_push p (d ∷ es) e = fold_push (assume p d.lit) es e

pub made_push : (es : List Entry) (e : Entry) → made (es ++ (e ∷ [])) ≡ assume (made es) e.lit
made_push es e = fold_push nothing es e

pub take_more : {X : Type 0} (xs : List X) (k : ℕ) (x : X) → slice_get xs k ≡ Some x → take (suc k) xs ≡ take k xs ++ (x ∷ [])
take_more [] k x e = absurd (cc)
take_more (y ∷ xs) zero x e = let same : y ≡ x = cc in ap (λ z. z ∷ []) same
take_more (y ∷ xs) (suc k) x e = ap (λ ys. y ∷ ys) (take_more xs k x e)

pub made_more : (es : List Entry) (k : ℕ) (e : Entry) → slice_get es k ≡ Some e → made (take (suc k) es) ≡ assume (made (take k es)) e.lit
made_more es k e at = ap made (take_more es k e at) ∙ made_push (take k es) e

pub assume_other : (p : Partial) (l : Lit) (x : ℕ) → (x ≡ l.var → ⊥) → assume p l x ≡ p x
assume_other p l x ne = by (eqb x l.var) refl
  where
    by : (b : Bool) → eqb x l.var ≡ b → (if b then Some (not l.neg) else p x) ≡ p x
    by true e = absurd (ne (eqb-true x l.var e))
    by false e = refl

-- what an entry of a longer or a shorter list says of the entries before it
pub at_front : (P : List Entry → Entry → Type 0) (es : List Entry) (e : Entry) → ((k : ℕ) (d : Entry) → slice_get (es ++ (e ∷ [])) k ≡ Some d → P (take k (es ++ (e ∷ []))) d) → (k : ℕ) (d : Entry) → slice_get es k ≡ Some d → P (take k es) d
at_front P es e all k d at =
    let within = slice_get_within es k d at in
    subst (λ front. P front d) (take_front es (e ∷ []) k (omega arith)) (all k d (get_left es (e ∷ []) k d at))

pub at_pushed : (P : List Entry → Entry → Type 0) (es : List Entry) (e : Entry) → ((k : ℕ) (d : Entry) → slice_get es k ≡ Some d → P (take k es) d) → P es e → (k : ℕ) (d : Entry) → slice_get (es ++ (e ∷ [])) k ≡ Some d → P (take k (es ++ (e ∷ []))) d
at_pushed P es e all last k d at = by (last_or_before es e k d at)
  where
    by : (slice_get es k ≡ Some d) ⊎ ((k ≡ length es) × (e ≡ d)) → P (take k (es ++ (e ∷ []))) d
    by (inl before) =
        let within = slice_get_within es k d before in
        subst (λ front. P front d) (sym (take_front es (e ∷ []) k (omega arith))) (all k d before)
    by (inr here) =
        let front : take k (es ++ (e ∷ [])) ≡ es = ap (λ n. take n (es ++ (e ∷ []))) here.0 ∙ take_all es (e ∷ []) in
        subst (λ ds. P ds d) (sym front) (subst (P es) here.1 last)

opens_one : (values : List (Option Bool)) (x : ℕ) (b : Bool) → x < length values → partial_of values x ≡ None → opens (set values x (Some b)) + 1 ≡ opens values
opens_one [] x b h e = absurd (omega arith)
opens_one (None ∷ values) zero b h e = omega arith
opens_one (Some v ∷ values) zero b h e = absurd (cc)
opens_one (None ∷ values) (suc x) b h e = let one = opens_one values x b (omega arith) e in omega arith
opens_one (Some v ∷ values) (suc x) b h e = opens_one values x b (omega arith) e

opens_back : (values : List (Option Bool)) (x : ℕ) (b : Bool) → partial_of values x ≡ Some b → opens (set values x None) ≡ opens values + 1
opens_back [] x b e = absurd (cc)
opens_back (None ∷ values) zero b e = absurd (cc)
opens_back (Some v ∷ values) zero b e = omega arith
opens_back (None ∷ values) (suc x) b e = let one = opens_back values x b e in omega arith
opens_back (Some v ∷ values) (suc x) b e = opens_back values x b e

opens_none : (n : ℕ) → opens (replicate n None) ≡ n
opens_none zero = refl
opens_none (suc n) = let one = opens_none n in omega arith

pub trail_first : (n : ℕ) → IsTrail [] (replicate n None)
trail_first n = record {
  values_made = partial_none n;
  new = record { was_open = λ k e at. absurd (cc); below = λ k e at. absurd (cc) };
  count = let one = opens_none n in let two : length (replicate {A = Option Bool} n None) ≡ n = length-replicate n None in omega arith;
}

pub trail_push : (es : List Entry) (values : List (Option Bool)) (e : Entry) → IsTrail es values → e.lit.var < length values → made es e.lit.var ≡ None → IsTrail (es ++ (e ∷ [])) (set values e.lit.var (Some (not e.lit.neg)))
trail_push es values e is h still =
    let l = e.lit in
    let same = length-set values l.var (Some (not l.neg)) in
    let one = opens_one values l.var (not l.neg) h (ap (λ (p : Partial). p l.var) is.values_made ∙ still) in
    let count = is.count in
    let longer = length-append es (e ∷ []) in
    record {
      values_made = partial_set values l h ∙ ap (λ p. assume p l) is.values_made ∙ sym (made_push es e);
      new = subst (λ n. AreNew n (es ++ (e ∷ []))) (sym same) (record {
        was_open = at_pushed (λ front d. made front d.lit.var ≡ None) es e is.new.was_open still;
        below = at_pushed (λ front d. d.lit.var < length values) es e is.new.below h;
      });
      count = omega arith;
    }

set_back : (values : List (Option Bool)) (x : ℕ) → partial_of (set values x None) x ≡ None
set_back [] x = refl
set_back (v ∷ values) zero = refl
set_back (v ∷ values) (suc x) = set_back values x

pub trail_pop : (es : List Entry) (values : List (Option Bool)) (e : Entry) → IsTrail (es ++ (e ∷ [])) values → IsTrail es (set values e.lit.var None)
trail_pop es values e is =
    let l = e.lit in
    let same = length-set values l.var None in
    let was : partial_of values ≡ assume (made es) l = is.values_made ∙ made_push es e in
    let back = opens_back values l.var (not l.neg) (ap (λ (p : Partial). p l.var) was ∙ assume_at (made es) l) in
    let count = is.count in
    let longer = length-append es (e ∷ []) in
    let still : made es l.var ≡ None = ap (λ (front : List Entry). made front l.var) (sym (take_all es (e ∷ []))) ∙ is.new.was_open (length es) e (get_last es e) in
    record {
      values_made = λ i x. at l still was x i;
      new = subst (λ n. AreNew n es) (sym same) (record {
        was_open = at_front (λ front d. made front d.lit.var ≡ None) es e is.new.was_open;
        below = at_front (λ front d. d.lit.var < length values) es e is.new.below;
      });
      count = omega arith;
    }
  where
    ne_from : (x y : ℕ) → eqb x y ≡ false → x ≡ y → ⊥
    ne_from x y e same = let f : eqb x y ≡ true = eq-eqb x y same in cc

    at : (l : Lit) → made es l.var ≡ None → partial_of values ≡ assume (made es) l → (x : ℕ) → partial_of (set values l.var None) x ≡ made es x
    at l still was x = by (eqb x l.var) refl
      where
        by : (b : Bool) → eqb x l.var ≡ b → partial_of (set values l.var None) x ≡ made es x
        by true same = ap (partial_of (set values l.var None)) (eqb-true x l.var same) ∙ set_back values l.var ∙ sym still ∙ ap (made es) (sym (eqb-true x l.var same))
        by false ne =
            let other = ne_from x l.var ne in
            ap value_in (set_other values l.var x None other) ∙ ap (λ (p : Partial). p x) was ∙ assume_other (made es) l x other
