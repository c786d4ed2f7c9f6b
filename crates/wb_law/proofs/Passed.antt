-- The points of a trail are those that the held run passes.
use Rattle.std.proofs.Common.{◌≡◌, ℕ, zero, suc, ◌+◌, ◌-◌, ◌<◌, ◌≤◌, ◌⊎◌, inl, inr, Bool, true, List, [], ◌∷◌, ◌++◌, refl, sym, ◌∙◌, ap, subst, arith, append-nil}
use Rattle.std.specs.Prelude.{Contains}
use Rattle.std.proofs.lemmas.List.Elements.{Contains-append_right, Contains-append_cases}
use Rattle.std.proofs.lemmas.Bool.{cases_lt}
use Rattle.wb_word.specs.declared.sides.Side.{Side}
use Rattle.wb_rom.specs.declared.images.Image.{Image}
use Rattle.wb_port.specs.declared.accesses.Access.TheVariants as access
use Rattle.wb_port.specs.declared.accesses.Kind.{Kind}
use Rattle.wb_port.specs.declared.points.Point.{Point}
use Rattle.wb_port.specs.Run.{Moment, Turn, turn, goes_on, turns, beginning}
use Rattle.wb_port.specs.Talk.{kinds}
use Rattle.wb_port.specs.Points.{Passes, point_of, points_of, points_after}
use Rattle.wb_law.specs.Points.{TrailsHoldThePoints}
use Rattle.wb_law.proofs.Fitting.{kinds_join}
use Rattle.wb_law.proofs.Turns.{stays}
use Rattle.wb_law.proofs.Views.{View, gives, steps, ends, view}

head_of : (p q : Point) (ps : List Point) → p ≡ q → Contains (p ∷ ps) q
head_of p q ps e = (0, omega arith, e)

tail_of : (p q : Point) (ps : List Point) → Contains ps q → Contains (p ∷ ps) q
tail_of p q ps h = Contains-append_right (p ∷ []) ps q h

head_or_tail : (p q : Point) (ps : List Point) → Contains (p ∷ ps) q → (p ≡ q) ⊎ Contains ps q
head_or_tail p q ps h = elim (Contains-append_cases (p ∷ []) ps q h) [ inl a ↦ inl (only a) | inr b ↦ inr b ]
  where
    only : Contains (p ∷ []) q → p ≡ q
    only (zero, less, e) = e
    only (suc i, less, e) = absurd (omega arith)

-- a turn notes the point that it comes to, or the point stays
noted_or_same : (image : Image) (s : Side) (k : ℕ) (m : Moment) (t : Turn) → View image k true m t → (points_of s t ≡ point_of s (goes_on t m) ∷ []) ⊎ ((points_of s t ≡ []) × (point_of s (goes_on t m) ≡ point_of s m))
noted_or_same image s k m _ (gives access.Status rest left on) =
    inr (refl, ap (λ (ks : List Kind). record (point_of s m) { kinds = ks }) (kinds_join m.given (access.Status ∷ []) ∙ append-nil (kinds m.given)))
noted_or_same image s k m _ (gives access.Read rest left on) = inl refl
noted_or_same image s k m _ (gives (access.Write byte) rest left on) = inl refl
noted_or_same image s k m _ (steps other fine busy) = inl refl
noted_or_same image s k m _ (ends e) = inr (refl, refl)

-- a point of the trail is passed
passed_of : (image : Image) (s : Side) (k j : ℕ) (m : Moment) (p : Point) → Contains (point_of s m ∷ points_after image s k j m) p → (i : ℕ) × (point_of s (turns image k true i m) ≡ p)
passed_of image s k zero m p h = elim (head_or_tail (point_of s m) p [] h) [ inl e ↦ (0, e) | inr n ↦ absurd (let less : n.0 < 0 = n.1 in omega arith) ]
passed_of image s k (suc j) m p h =
    elim (head_or_tail (point_of s m) p (points_of s (turn image k true m) ++ points_after image s k j (goes_on (turn image k true m) m)) h) [
      | inl e ↦ (0, e)
      | inr r ↦ by_note r (noted_or_same image s k m (turn image k true m) (view image k true m)) (passed_of image s k j (goes_on (turn image k true m) m) p)
    ]
  where
    n : Moment
    n = goes_on (turn image k true m) m

    rest : List Point
    rest = points_after image s k j n

    by_note : Contains (points_of s (turn image k true m) ++ rest) p → (points_of s (turn image k true m) ≡ point_of s n ∷ []) ⊎ ((points_of s (turn image k true m) ≡ []) × (point_of s n ≡ point_of s m)) → (Contains (point_of s n ∷ rest) p → (i : ℕ) × (point_of s (turns image k true i n) ≡ p)) → (i : ℕ) × (point_of s (turns image k true i m) ≡ p)
    by_note r (inl one) ih =
        let found = ih (subst (λ (ps : List Point). Contains (ps ++ rest) p) one r) in
        (suc found.0, found.1)
    by_note r (inr none) ih =
        let found = ih (tail_of (point_of s n) p rest (subst (λ (ps : List Point). Contains (ps ++ rest) p) none.0 r)) in
        (suc found.0, found.1)

-- a point that is passed in so many turns is of the trail
of_passed : (image : Image) (s : Side) (k j i : ℕ) (m : Moment) → i ≤ j → Contains (point_of s m ∷ points_after image s k j m) (point_of s (turns image k true i m))
of_passed image s k j zero m most = head_of (point_of s m) (point_of s m) (points_after image s k j m) refl
of_passed image s k zero (suc i) m most = absurd (omega arith)
of_passed image s k (suc j) (suc i) m most =
    by_note (noted_or_same image s k m (turn image k true m) (view image k true m)) (of_passed image s k j i (goes_on (turn image k true m) m) (omega arith))
  where
    n : Moment
    n = goes_on (turn image k true m) m

    rest : List Point
    rest = points_after image s k j n

    q : Point
    q = point_of s (turns image k true i n)

    by_note : (points_of s (turn image k true m) ≡ point_of s n ∷ []) ⊎ ((points_of s (turn image k true m) ≡ []) × (point_of s n ≡ point_of s m)) → Contains (point_of s n ∷ rest) q → Contains (point_of s m ∷ (points_of s (turn image k true m) ++ rest)) q
    by_note (inl one) h =
        tail_of (point_of s m) q (points_of s (turn image k true m) ++ rest) (subst (λ (ps : List Point). Contains (ps ++ rest) q) (sym one) h)
    by_note (inr none) h =
        subst (λ (ps : List Point). Contains (point_of s m ∷ (ps ++ rest)) q) (sym none.0)
        (subst (λ (x : Point). Contains (x ∷ rest) q) none.1 h)

turns-add : (image : Image) (k : ℕ) (held : Bool) (i j : ℕ) (m : Moment) → turns image k held (i + j) m ≡ turns image k held j (turns image k held i m)
turns-add image k held zero j m = ap (λ (n : ℕ). turns image k held n m) (let e : 0 + j ≡ j = omega arith in e)
turns-add image k held (suc i) j m =
    ap (λ (n : ℕ). turns image k held n m) (let e : suc i + j ≡ suc (i + j) = omega arith in e)
    ∙ turns-add image k held i j (goes_on (turn image k held m) m)

pub trails_hold_the_points : TrailsHoldThePoints
trails_hold_the_points image s k d points p t = (forth, back)
  where
    forth : Contains points p → Passes image s k d p
    forth h = passed_of image s k t.last (beginning d) p (subst (λ (ps : List Point). Contains ps p) t.list h)

    within : (i : ℕ) → i ≤ t.last → point_of s (turns image k true i (beginning d)) ≡ p → Contains points p
    within i most e =
        subst (λ (ps : List Point). Contains ps p) (sym t.list)
        (subst (λ (x : Point). Contains (point_of s (beginning d) ∷ points_after image s k t.last (beginning d)) x) e
        (of_passed image s k t.last i (beginning d) most))

    back : Passes image s k d p → Contains points p
    back h =
        elim (cases_lt t.last h.0) [
          | inr most ↦ within h.0 most h.1
          | inl more ↦ within t.last (omega arith) (ap (point_of s) (sym (after_last more)) ∙ h.1)
        ]
      where
        after_last : t.last < h.0 → turns image k true h.0 (beginning d) ≡ turns image k true t.last (beginning d)
        after_last more =
            ap (λ (n : ℕ). turns image k true n (beginning d)) (let e : h.0 ≡ t.last + (h.0 - t.last) = omega arith in e)
            ∙ turns-add image k true t.last (h.0 - t.last) (beginning d)
            ∙ stays image k true (turns image k true t.last (beginning d)) t.end t.ends (h.0 - t.last)
