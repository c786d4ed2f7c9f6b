-- Lists of entries: what is listed after one was put or taken.
use Rattle.std.proofs.Common.{◌≡◌, ◌≢◌, ℕ, zero, suc, ◌+◌, ◌<◌, List, [], ◌∷◌, ◌++◌, ◌⊎◌, inl, inr, length, take, drop, map, refl, sym, ap, subst, ◌∙◌, arith, slice_index_or}
use Rattle.std.specs.Prelude.{Contains, All}
use Rattle.std.specs.List.{sum_by, remove}
use Rattle.std.proofs.lemmas.List.{take-append-drop, drop_more, length-append}
use Rattle.std.proofs.lemmas.List.Elements.{Contains-append_left, Contains-append_right, Contains-append_cases, Contains-push_cases}
use Rattle.std.proofs.lemmas.List.Sums.{sum_by-append, sum_by-cons}
use Rattle.wb_port.specs.declared.points.Point.{Point}
use Rattle.wb_explore.specs.declared.reached.ReachedPoint.{ReachedPoint}
use Rattle.wb_explore.specs.Entries.{AreApart, Taken}

pub listed_head : {X : Type 0} (x y : X) (xs : List X) → x ≡ y → Contains (x ∷ xs) y
listed_head x y xs e = (0, omega arith, e)

pub listed_tail : {X : Type 0} (x y : X) (xs : List X) → Contains xs y → Contains (x ∷ xs) y
listed_tail x y xs h = Contains-append_right (x ∷ []) xs y h

pub listed_cases : {X : Type 0} (x y : X) (xs : List X) → Contains (x ∷ xs) y → (x ≡ y) ⊎ Contains xs y
listed_cases {X} x y xs h = elim (Contains-append_cases (x ∷ []) xs y h) [ inl a ↦ inl (only a) | inr b ↦ inr b ]
  where
    only : Contains (x ∷ []) y → x ≡ y
    only (zero, less, e) = e
    only (suc i, less, e) = absurd (omega arith)

pub listed_none : {X : Type 0} (x : X) → Contains [] x → ⊥
listed_none x (k, less, e) = absurd (omega arith)

pub from_all : {X : Type 0} (P : X → Type 0) (xs : List X) (x : X) → All P xs → Contains xs x → P x
from_all P xs x h (k, less, e) = subst P e (h k x less)

-- of a list and it without one

module _ {X : Type 0} where
  pub between : (front back : List X) (x : X) → Contains (front ++ x ∷ back) x
  between front back x = Contains-append_right front (x ∷ back) x (listed_head x x back refl)

  pub around : (front back : List X) (x y : X) → Contains (front ++ back) y → Contains (front ++ x ∷ back) y
  around front back x y h = elim (Contains-append_cases front back y h) [ inl a ↦ Contains-append_left front (x ∷ back) y a | inr b ↦ Contains-append_right front (x ∷ back) y (listed_tail x y back b) ]

  pub within : (front back : List X) (x y : X) → Contains (front ++ x ∷ back) y → (y ≡ x) ⊎ Contains (front ++ back) y
  within front back x y h = elim (Contains-append_cases front (x ∷ back) y h) [ inl a ↦ inr (Contains-append_left front back y a) | inr b ↦ behind (listed_cases x y back b) ]
    where
      behind : (x ≡ y) ⊎ Contains back y → (y ≡ x) ⊎ Contains (front ++ back) y
      behind (inl e) = inl (sym e)
      behind (inr c) = inr (Contains-append_right front back y c)

  pub taken_itself : (old new : List X) (x : X) → Taken old new x → Contains old x
  taken_itself old new x t = subst (λ (xs : List X). Contains xs x) (sym t.was) (between t.front t.back x)

  pub taken_back : (old new : List X) (x y : X) → Taken old new x → Contains new y → Contains old y
  taken_back old new x y t h = subst (λ (xs : List X). Contains xs y) (sym t.was) (around t.front t.back x y (subst (λ (xs : List X). Contains xs y) t.remains h))

  pub taken_cases : (old new : List X) (x y : X) → Taken old new x → Contains old y → (y ≡ x) ⊎ Contains new y
  taken_cases old new x y t h = elim (within t.front t.back x y (subst (λ (xs : List X). Contains xs y) t.was h)) [ inl e ↦ inl e | inr c ↦ inr (subst (λ (xs : List X). Contains xs y) (sym t.remains) c) ]

  pub taken_sum : (f : X → ℕ) (old new : List X) (x : X) → Taken old new x → sum_by f old ≡ f x + sum_by f new
  taken_sum f old new x t =
      let a = ap (sum_by f) t.was in
      let b = ap (sum_by f) t.remains in
      let c = sum_by-append f t.front (x ∷ t.back) in
      let d = sum_by-append f t.front t.back in
      let e = sum_by-cons f x t.back in
      grind arith

  pub taken_length : (old new : List X) (x : X) → Taken old new x → length old ≡ suc (length new)
  taken_length old new x t =
      let a = ap length t.was in
      let b = ap length t.remains in
      let c = length-append t.front (x ∷ t.back) in
      let d = length-append t.front t.back in
      grind arith

  pub removed : (xs : List X) (i : ℕ) (x : X) → i < length xs → x ≡ slice_index_or xs i x → Taken xs (remove xs i) x
  removed xs i x less e = record {
    front = take i xs;
    back = drop (suc i) xs;
    was = sym (take-append-drop i xs) ∙ ap (λ (ys : List X). take i xs ++ ys) (split ∙ ap (λ (y : X). y ∷ drop (suc i) xs) (sym e));
    remains = refl;
  }
    where
      split : drop i xs ≡ slice_index_or xs i x ∷ drop (suc i) xs
      split = let d = drop_more xs i x less in let n : i + 1 ≡ suc i = omega arith in d ∙ ap (λ (k : ℕ). slice_index_or xs i x ∷ drop k xs) n

-- of entries apart

module _ {E : Type 0} (key : E → Point) where
  pub apart_split : (front back : List E) (x : E) → AreApart key (front ++ x ∷ back) → AreApart key (front ++ back) × ((f : E) → Contains (front ++ back) f → key x ≢ key f)
  apart_split [] back x h = (h.1, h.0)
  apart_split (y ∷ front) back x h =
      let rest = apart_split front back x h.1 in
      ((λ f c. h.0 f (around front back x f c), rest.0), λ f c e. by_case rest.1 f e (listed_cases y f (front ++ back) c))
    where
      by_case : ((f : E) → Contains (front ++ back) f → key x ≢ key f) → (f : E) → key x ≡ key f → (y ≡ f) ⊎ Contains (front ++ back) f → ⊥
      by_case ih f e (inl q) = h.0 x (between front back x) (ap key q ∙ sym e)
      by_case ih f e (inr c) = ih f c e

  pub apart_taken : (old new : List E) (x : E) → Taken old new x → AreApart key old → AreApart key new × ((f : E) → Contains new f → key x ≢ key f)
  apart_taken old new x t h =
      let s = apart_split t.front t.back x (subst (AreApart key) t.was h) in
      (subst (AreApart key) (sym t.remains) s.0, λ f c. s.1 f (subst (λ (xs : List E). Contains xs f) t.remains c))

  pub apart_push : (xs : List E) (x : E) → AreApart key xs → ((f : E) → Contains xs f → key f ≢ key x) → AreApart key (xs ++ x ∷ [])
  apart_push [] x h n = (λ f c. absurd (listed_none f c), tt)
  apart_push (y ∷ xs) x h n = (λ f c e. by_case f e (Contains-push_cases xs x f c), apart_push xs x h.1 (λ f c. n f (listed_tail y f xs c)))
    where
      by_case : (f : E) → key y ≡ key f → Contains xs f ⊎ (x ≡ f) → ⊥
      by_case f e (inl c) = h.0 f c e
      by_case f e (inr q) = n y (listed_head y y xs refl) (e ∙ ap key (sym q))

  -- an entry is the only one of its point
  pub apart_only : (xs : List E) (a b : E) → AreApart key xs → Contains xs a → Contains xs b → key a ≡ key b → a ≡ b
  apart_only [] a b h c d e = absurd (listed_none a c)
  apart_only (y ∷ xs) a b h c d e = by_cases (λ p q. apart_only xs a b h.1 p q e) (listed_cases y a xs c) (listed_cases y b xs d)
    where
      by_cases : (Contains xs a → Contains xs b → a ≡ b) → (y ≡ a) ⊎ Contains xs a → (y ≡ b) ⊎ Contains xs b → a ≡ b
      by_cases ih (inl p) (inl q) = sym p ∙ q
      by_cases ih (inl p) (inr q) = absurd (h.0 b q (ap key p ∙ e))
      by_cases ih (inr p) (inl q) = absurd (h.0 a p (ap key q ∙ sym e))
      by_cases ih (inr p) (inr q) = ih p q

-- of points that were reached

pub listed_point : (reached : List ReachedPoint) (x : ReachedPoint) → Contains reached x → Contains (map (λ (r : ReachedPoint). r.point) reached) x.point
listed_point [] x c = absurd (listed_none x c)
listed_point (y ∷ rs) x c = elim (listed_cases y x rs c) [ inl e ↦ listed_head y.point x.point _ (ap (λ (r : ReachedPoint). r.point) e) | inr d ↦ listed_tail y.point x.point _ (listed_point rs x d) ]

pub point_listed : (reached : List ReachedPoint) (p : Point) → Contains (map (λ (r : ReachedPoint). r.point) reached) p → (x : ReachedPoint) × Contains reached x × (x.point ≡ p)
point_listed [] p c = absurd (listed_none p c)
point_listed (y ∷ rs) p c = elim (listed_cases y.point p (map (λ (r : ReachedPoint). r.point) rs) c) [ inl e ↦ (y, listed_head y y rs refl, e) | inr d ↦ more (point_listed rs p d) ]
  where
    more : ((x : ReachedPoint) × Contains rs x × (x.point ≡ p)) → (x : ReachedPoint) × Contains (y ∷ rs) x × (x.point ≡ p)
    more (x, h, e) = (x, listed_tail y x rs h, e)
