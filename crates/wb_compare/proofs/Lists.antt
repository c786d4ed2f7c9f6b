-- Lists: what is listed, and lists of kinds with one more at the end.
use Rattle.std.proofs.Common.{◌≡◌, ℕ, zero, suc, ◌<◌, ◌≤◌, Bool, true, false, List, [], ◌∷◌, ◌++◌, ◌⊎◌, inl, inr, length, map, refl, sym, ap, subst, arith}
use Rattle.std.specs.Prelude.{Contains, All, slice_index_or, Some}
use Rattle.std.proofs.lemmas.List.{length-append}
use Rattle.std.proofs.lemmas.List.Elements.{Contains-append_right, Contains-append_cases, All-contains_itself}
use Rattle.wb_port.specs.declared.accesses.Kind.{Kind}
use Rattle.wb_port.specs.declared.accesses.Kind.TheVariants as kind
use Rattle.wb_port.specs.declared.accesses.Letter.{Letter}
use Rattle.wb_port.specs.declared.accesses.Letter.TheVariants as letter
use Rattle.wb_port.specs.declared.accesses.Access.{Access}
use Rattle.wb_port.specs.declared.accesses.Access.TheVariants as access
use Rattle.wb_port.specs.Dialogue.{Allows, AllowsEach}
use Rattle.wb_replies.specs.Differences.{asked_for}
use Rattle.wb_compare.specs.Growing.{allows, allows_next}

module _ {X : Type 0} where
  pub listed_head : (x y : X) (xs : List X) → x ≡ y → Contains (x ∷ xs) y
  listed_head x y xs e = (0, omega arith, e)

  pub listed_tail : (x y : X) (xs : List X) → Contains xs y → Contains (x ∷ xs) y
  listed_tail x y xs h = Contains-append_right (x ∷ []) xs y h

  pub listed_cases : (x y : X) (xs : List X) → Contains (x ∷ xs) y → (x ≡ y) ⊎ Contains xs y
  listed_cases x y xs h = elim (Contains-append_cases (x ∷ []) xs y h) [ inl a ↦ inl (only a) | inr b ↦ inr b ]
    where
      only : Contains (x ∷ []) y → x ≡ y
      only (zero, less, e) = e
      only (suc i, less, e) = absurd (omega arith)

  pub listed_none : (x : X) → Contains [] x → ⊥
  listed_none x (k, less, e) = absurd (omega arith)

  pub from_all : (P : X → Type 0) (xs : List X) (x : X) → All P xs → Contains xs x → P x
  from_all P xs x h (k, less, e) = subst P e (h k x less)

  pub all_from : (P : X → Type 0) (xs : List X) → ((x : X) → Contains xs x → P x) → All P xs
  all_from P xs h k d less = h _ (All-contains_itself xs k d less)

  pub same_default : (xs : List X) (k : ℕ) (d : X) → k < length xs → slice_index_or xs k (slice_index_or xs k d) ≡ slice_index_or xs k d
  same_default [] k d less = absurd (omega arith)
  same_default (x ∷ xs) zero d less = refl
  same_default (x ∷ xs) (suc k) d less = same_default xs k d (omega arith)

  -- the last of two equal lists is one, and what is before it
  pub snoc_same : (xs ys : List X) (x y : X) → xs ++ x ∷ [] ≡ ys ++ y ∷ [] → (xs ≡ ys) × (x ≡ y)
  snoc_same [] [] x y e = (refl, cc)
  snoc_same [] (z ∷ []) x y e = absurd (cc)
  snoc_same [] (z ∷ w ∷ ys) x y e = absurd (cc)
  snoc_same (z ∷ []) [] x y e = absurd (cc)
  snoc_same (z ∷ w ∷ xs) [] x y e = absurd (cc)
  snoc_same (z ∷ xs) (w ∷ ys) x y e =
      let r = snoc_same xs ys x y (let t : xs ++ x ∷ [] ≡ ys ++ y ∷ [] = cc in t) in
      let h : z ≡ w = cc in
      (let f = r.0 in cc, r.1)

  -- each list is empty, or has a last
  pub snoc_view : (xs : List X) → (xs ≡ []) ⊎ ((front : List X) × (last : X) × (xs ≡ front ++ last ∷ []))
  snoc_view [] = inl refl
  snoc_view (x ∷ xs) = elim (snoc_view xs) [ inl e ↦ inr ([], x, ap (λ (ys : List X). x ∷ ys) e) | inr h ↦ inr (x ∷ h.0, h.1, ap (λ (ys : List X). x ∷ ys) h.2) ]

  pub push_append : (xs ys : List X) (x : X) → (xs ++ x ∷ []) ++ ys ≡ xs ++ x ∷ ys
  push_append [] ys x = refl
  push_append (z ∷ xs) ys x = ap (λ (zs : List X). z ∷ zs) (push_append xs ys x)

  -- a front as long as the whole is the whole
  pub whole_front : (front rest : List X) → length (front ++ rest) ≤ length front → rest ≡ []
  whole_front front [] h = refl
  whole_front front (x ∷ rest) h = absurd (let e = length-append front (x ∷ rest) in omega arith)

  pub map_contains : {Y : Type 0} (f : X → Y) (xs : List X) (x : X) → Contains xs x → Contains (map f xs) (f x)
  map_contains f [] x c = absurd (listed_none x c)
  map_contains f (y ∷ xs) x c = elim (listed_cases y x xs c) [ inl e ↦ head (ap f e) | inr d ↦ tail (map_contains f xs x d) ]
    where
      head : f y ≡ f x → Contains (map f (y ∷ xs)) (f x)
      head e = (0, omega arith, e)

      tail : Contains (map f xs) (f x) → Contains (map f (y ∷ xs)) (f x)
      tail h = Contains-append_right (f y ∷ []) (map f xs) (f x) h

-- two tests that a value can't meet at once
pub true_false : (b : Bool) → b ≡ true → b ≡ false → ⊥
true_false b e f = cc

-- of what a shape allows

letter_allows : (l : Letter) (k : Kind) → Allows l k → allows (Some l) k ≡ true
letter_allows letter.R kind.Read h = refl
letter_allows letter.R kind.Write h = absurd h
letter_allows letter.W kind.Read h = absurd h
letter_allows letter.W kind.Write h = refl
letter_allows letter.X k h = refl

allows_letter : (l : Letter) (k : Kind) → allows (Some l) k ≡ true → Allows l k
allows_letter letter.R kind.Read h = tt
allows_letter letter.R kind.Write h = absurd (cc)
allows_letter letter.W kind.Read h = absurd (cc)
allows_letter letter.W kind.Write h = tt
allows_letter letter.X k h = tt

pub next_allowed : (shape : List Letter) (ks : List Kind) (k : Kind) → AllowsEach shape (ks ++ k ∷ []) → allows_next shape ks k ≡ true
next_allowed [] [] k h = absurd h
next_allowed [] (x ∷ ks) k h = absurd h
next_allowed (l ∷ shape) [] k h = letter_allows l k h.0
next_allowed (l ∷ shape) (x ∷ ks) k h = next_allowed shape ks k h.1

pub allowed_next : (shape : List Letter) (ks : List Kind) (k : Kind) → AllowsEach shape ks → allows_next shape ks k ≡ true → AllowsEach shape (ks ++ k ∷ [])
allowed_next [] [] k h e = absurd (cc)
allowed_next [] (x ∷ ks) k h e = absurd h
allowed_next (l ∷ shape) [] k h e = (allows_letter l k e, tt)
allowed_next (l ∷ shape) (x ∷ ks) k h e = (h.0, allowed_next shape ks k h.1 e)

pub allowed_front : (shape : List Letter) (front rest : List Kind) → AllowsEach shape (front ++ rest) → AllowsEach shape front
allowed_front shape [] rest h = tt
allowed_front [] (x ∷ front) rest h = absurd h
allowed_front (l ∷ shape) (x ∷ front) rest h = (h.0, allowed_front shape front rest h.1)

pub allowed_length : (shape : List Letter) (ks : List Kind) → AllowsEach shape ks → length ks ≤ length shape
allowed_length shape [] h = omega arith
allowed_length [] (x ∷ ks) h = absurd h
allowed_length (l ∷ shape) (x ∷ ks) h = let r = allowed_length shape ks h.1 in omega arith

-- of the accesses that are asked for

pub status_asked : (want : Bool) → Contains (asked_for want) access.Status
status_asked false = listed_head access.Status access.Status [] refl
status_asked true = listed_head access.Status access.Status (access.Read ∷ []) refl

pub read_asked : (want : Bool) → want ≡ true → Contains (asked_for want) access.Read
read_asked false e = absurd (cc)
read_asked true e = listed_tail access.Status access.Read (access.Read ∷ []) (listed_head access.Read access.Read [] refl)

-- an access that is asked for is a status read, or a read that is wanted
pub asked_cases : (want : Bool) (x : Access) → Contains (asked_for want) x → (x ≡ access.Status) ⊎ ((x ≡ access.Read) × (want ≡ true))
asked_cases false x c = elim (listed_cases access.Status x [] c) [ inl e ↦ inl (sym e) | inr d ↦ absurd (listed_none x d) ]
asked_cases true x c = elim (listed_cases access.Status x (access.Read ∷ []) c) [ inl e ↦ inl (sym e) | inr d ↦ rest (listed_cases access.Read x [] d) ]
  where
    rest : (access.Read ≡ x) ⊎ Contains [] x → (x ≡ access.Status) ⊎ ((x ≡ access.Read) × (true ≡ true))
    rest (inl e) = inr (sym e, refl)
    rest (inr d) = absurd (listed_none x d)
