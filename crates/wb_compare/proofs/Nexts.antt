-- The lists of kinds that are visited next.
use Rattle.std.proofs.Common.{◌≡◌, ℕ, zero, suc, ◌<◌, Bool, true, false, List, [], ◌∷◌, ◌++◌, inl, inr, length, take, map, refl, sym, subst, ◌∙◌, arith}
use Rattle.std.specs.Prelude.{Contains, if◌then◌else◌, slice_index_or}
use Rattle.std.proofs.lemmas.List.Elements.{Contains-append_cases, Contains-append_left, Contains-append_right}
use Rattle.wb_port.specs.declared.accesses.Kind.{Kind}
use Rattle.wb_port.specs.declared.accesses.Kind.TheVariants as kind
use Rattle.wb_port.specs.declared.accesses.Letter.{Letter}
use Rattle.wb_compare.specs.declared.pairs.Pair.{Pair}
use Rattle.wb_compare.specs.Growing.{allows_next, next_if, nexts, kinds_of, is_silent, nexts_of, all_nexts, AreDistinct}
use Rattle.wb_compare.proofs.Lists.{listed_head, listed_tail, listed_cases, listed_none, snoc_same, map_contains, same_default}

-- the kinds that are visited next

pub in_if : (shape : List Letter) (ks : List Kind) (k : Kind) (c : List Kind) → Contains (next_if shape ks k) c → (c ≡ ks ++ k ∷ []) × (allows_next shape ks k ≡ true)
in_if shape ks k c h = by_test (allows_next shape ks k) refl (subst (λ (xs : List (List Kind)). Contains xs c) refl h)
  where
    by_test : (t : Bool) → allows_next shape ks k ≡ t → Contains (if t then (ks ++ k ∷ []) ∷ [] else []) c → (c ≡ ks ++ k ∷ []) × (allows_next shape ks k ≡ true)
    by_test true e h = elim (listed_cases (ks ++ k ∷ []) c [] h) [ inl s ↦ (sym s, e) | inr d ↦ absurd (listed_none c d) ]
    by_test false e h = absurd (listed_none c h)

if_in : (shape : List Letter) (ks : List Kind) (k : Kind) → allows_next shape ks k ≡ true → Contains (next_if shape ks k) (ks ++ k ∷ [])
if_in shape ks k e = by_test (allows_next shape ks k) e
  where
    by_test : (t : Bool) → t ≡ true → Contains (if t then (ks ++ k ∷ []) ∷ [] else []) (ks ++ k ∷ [])
    by_test true e = listed_head (ks ++ k ∷ []) (ks ++ k ∷ []) [] refl
    by_test false e = absurd (cc)

pub in_nexts : (shape : List Letter) (ks : List Kind) (c : List Kind) → Contains (nexts shape ks) c → (k : Kind) × (c ≡ ks ++ k ∷ []) × (allows_next shape ks k ≡ true)
in_nexts shape ks c h = elim (Contains-append_cases (next_if shape ks kind.Read) (next_if shape ks kind.Write) c h)
    [ inl d ↦ found kind.Read (in_if shape ks kind.Read c d) | inr d ↦ found kind.Write (in_if shape ks kind.Write c d) ]
  where
    found : (k : Kind) → (c ≡ ks ++ k ∷ []) × (allows_next shape ks k ≡ true) → (k : Kind) × (c ≡ ks ++ k ∷ []) × (allows_next shape ks k ≡ true)
    found k h = (k, h.0, h.1)

nexts_in : (shape : List Letter) (ks : List Kind) (k : Kind) → allows_next shape ks k ≡ true → Contains (nexts shape ks) (ks ++ k ∷ [])
nexts_in shape ks kind.Read e = Contains-append_left (next_if shape ks kind.Read) (next_if shape ks kind.Write) (ks ++ kind.Read ∷ []) (if_in shape ks kind.Read e)
nexts_in shape ks kind.Write e = Contains-append_right (next_if shape ks kind.Read) (next_if shape ks kind.Write) (ks ++ kind.Write ∷ []) (if_in shape ks kind.Write e)

pub in_nexts_of : (shape : List Letter) (p : Pair) (c : List Kind) → Contains (nexts_of shape p) c → (k : Kind) × (c ≡ kinds_of p ++ k ∷ []) × (allows_next shape (kinds_of p) k ≡ true)
in_nexts_of shape p c h = by_test (is_silent p) h
  where
    by_test : (t : Bool) → Contains (if t then [] else nexts shape (kinds_of p)) c → (k : Kind) × (c ≡ kinds_of p ++ k ∷ []) × (allows_next shape (kinds_of p) k ≡ true)
    by_test true h = absurd (listed_none c h)
    by_test false h = in_nexts shape (kinds_of p) c h

pub nexts_of_in : (shape : List Letter) (p : Pair) (k : Kind) → is_silent p ≡ false → allows_next shape (kinds_of p) k ≡ true → Contains (nexts_of shape p) (kinds_of p ++ k ∷ [])
nexts_of_in shape p k open_ e = by_test (is_silent p) open_
  where
    by_test : (t : Bool) → t ≡ false → Contains (if t then [] else nexts shape (kinds_of p)) (kinds_of p ++ k ∷ [])
    by_test true f = absurd (cc)
    by_test false f = nexts_in shape (kinds_of p) k e

-- a list of kinds that is visited next, with the pair from which it comes
pub record ComesOf (shape : List Letter) (ps : List Pair) (c : List Kind) : Type 0 where
  pub pair : Pair
  pub listed : Contains ps pair
  pub kind_ : Kind
  pub same : c ≡ kinds_of pair ++ kind_ ∷ []
  pub allowed : allows_next shape (kinds_of pair) kind_ ≡ true

pub in_all : (shape : List Letter) (ps : List Pair) (c : List Kind) → Contains (all_nexts shape ps) c → ComesOf shape ps c
in_all shape [] c h = absurd (listed_none c h)
in_all shape (p ∷ ps) c h = elim (Contains-append_cases (nexts_of shape p) (all_nexts shape ps) c h) [ inl d ↦ here (in_nexts_of shape p c d) | inr d ↦ more (in_all shape ps c d) ]
  where
    here : ((k : Kind) × (c ≡ kinds_of p ++ k ∷ []) × (allows_next shape (kinds_of p) k ≡ true)) → ComesOf shape (p ∷ ps) c
    here (k, e, f) = record { pair = p; listed = listed_head p p ps refl; kind_ = k; same = e; allowed = f }

    more : ComesOf shape ps c → ComesOf shape (p ∷ ps) c
    more m = record { pair = m.pair; listed = listed_tail p m.pair ps m.listed; kind_ = m.kind_; same = m.same; allowed = m.allowed }

pub all_in : (shape : List Letter) (ps : List Pair) (p : Pair) (c : List Kind) → Contains ps p → Contains (nexts_of shape p) c → Contains (all_nexts shape ps) c
all_in shape [] p c h d = absurd (listed_none p h)
all_in shape (r ∷ ps) p c h d = elim (listed_cases r p ps h) [
  | inl e ↦ Contains-append_left (nexts_of shape r) (all_nexts shape ps) c (subst (λ (z : Pair). Contains (nexts_of shape z) c) (sym e) d)
  | inr f ↦ Contains-append_right (nexts_of shape r) (all_nexts shape ps) c (all_in shape ps p c f d)
]

-- they are pairwise different

distinct_append : (xs ys : List (List Kind)) → AreDistinct xs → AreDistinct ys → ((c : List Kind) → Contains xs c → Contains ys c → ⊥) → AreDistinct (xs ++ ys)
distinct_append [] ys h g apart = g
distinct_append (x ∷ xs) ys h g apart = (
  λ c. elim (Contains-append_cases xs ys x c) [ inl d ↦ h.0 d | inr d ↦ apart x (listed_head x x xs refl) d ],
  distinct_append xs ys h.1 g (λ c d e. apart c (listed_tail x c xs d) e),
)

distinct_if : (shape : List Letter) (ks : List Kind) (k : Kind) → AreDistinct (next_if shape ks k)
distinct_if shape ks k = by_test (allows_next shape ks k)
  where
    by_test : (t : Bool) → AreDistinct (if t then (ks ++ k ∷ []) ∷ [] else [])
    by_test true = (λ c. listed_none (ks ++ k ∷ []) c, tt)
    by_test false = tt

pub read_no_write : (shape : List Letter) (ks c : List Kind) → Contains (next_if shape ks kind.Read) c → Contains (next_if shape ks kind.Write) c → ⊥
read_no_write shape ks c h g =
    let e = (in_if shape ks kind.Read c h).0 in
    let f = (in_if shape ks kind.Write c g).0 in
    let s = (snoc_same ks ks kind.Read kind.Write (sym e ∙ f)).1 in
    absurd (cc)

distinct_nexts_of : (shape : List Letter) (p : Pair) → AreDistinct (nexts_of shape p)
distinct_nexts_of shape p = by_test (is_silent p)
  where
    by_test : (t : Bool) → AreDistinct (if t then [] else nexts shape (kinds_of p))
    by_test true = tt
    by_test false = distinct_append (next_if shape (kinds_of p) kind.Read) (next_if shape (kinds_of p) kind.Write) (distinct_if shape (kinds_of p) kind.Read) (distinct_if shape (kinds_of p) kind.Write) (read_no_write shape (kinds_of p))

-- what comes of one pair comes of no other
one_parent : (shape : List Letter) (p : Pair) (ps : List Pair) (c : List Kind) → Contains (nexts_of shape p) c → Contains (all_nexts shape ps) c → Contains (map kinds_of ps) (kinds_of p)
one_parent shape p ps c h g =
    let e = in_nexts_of shape p c h in
    let f = in_all shape ps c g in
    let s = (snoc_same (kinds_of f.pair) (kinds_of p) f.kind_ e.0 (sym f.same ∙ e.1)).0 in
    subst (Contains (map kinds_of ps)) s (map_contains kinds_of ps f.pair f.listed)

pub distinct_all : (shape : List Letter) (ps : List Pair) → AreDistinct (map kinds_of ps) → AreDistinct (all_nexts shape ps)
distinct_all shape [] h = tt
distinct_all shape (p ∷ ps) h = distinct_append (nexts_of shape p) (all_nexts shape ps) (distinct_nexts_of shape p) (distinct_all shape ps h.1) (λ c d e. h.0 (one_parent shape p ps c d e))

-- a pair isn't among those before it
pub not_before : (ps : List Pair) (at : ℕ) (d : Pair) → at < length ps → AreDistinct (map kinds_of ps) → Contains (map kinds_of (take at ps)) (kinds_of (slice_index_or ps at d)) → ⊥
not_before [] at d less h c = absurd (omega arith)
not_before (p ∷ ps) zero d less h c = listed_none (kinds_of p) c
not_before (p ∷ ps) (suc at) d less h c = elim (listed_cases (kinds_of p) (kinds_of (slice_index_or ps at d)) (map kinds_of (take at ps)) c) [
  | inl e ↦ h.0 (subst (Contains (map kinds_of ps)) (sym e) (map_contains kinds_of ps (slice_index_or ps at d) (at, omega arith, same_default ps at d (omega arith))))
  | inr f ↦ not_before ps at d (omega arith) h.1 f
]
