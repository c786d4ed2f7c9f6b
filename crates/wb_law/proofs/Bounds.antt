-- How many points are reached.
use Rattle.std.proofs.Common.{◌≡◌, ℕ, ◌+◌, ◌≤◌, Bool, true, false, not, List, ◌≢◌, length, refl, sym, ap, subst, arith}
use Rattle.std.specs.Prelude.{slice_index_or, All, Contains, filter}
use Rattle.std.proofs.lemmas.List.Elements.{All-filter, filter_passes}
use Rattle.std.proofs.lemmas.List.Filters.{length-filter_both}
use Rattle.std.proofs.lemmas.List.Kept.{AllPairs-filter}
use Rattle.wb_word.specs.declared.sides.Side.{Side}
use Rattle.wb_word.specs.declared.sides.Side.TheVariants as side
use Rattle.wb_rom.specs.declared.images.Image.{Image}
use Rattle.wb_port.specs.declared.accesses.Letter.{Letter}
use Rattle.wb_port.specs.declared.accesses.Power.{Power}
use Rattle.wb_port.specs.declared.points.Point.{Point}
use Rattle.wb_port.specs.Points.{Passes, image_of, IsReachedOn, IsReached, AtMost}
use Rattle.wb_law.specs.Reached.{PointsAreReachedOnTheirSide, ListsBoundReachedPoints, ListsBoundPointsOfASide, GreaterBoundsHold, GreaterBoundsHoldOfASide, BoundsHoldOfEachSide, BoundsOfSidesAddUp}
use Rattle.wb_law.proofs.Pigeon.{no_more}

-- what holds of each value holds of each member
all_by : {X : Type 0} → (P Q : X → Type 0) (xs : List X) → ((x : X) → P x → Q x) → All P xs → All Q xs
all_by P Q xs f h i x less = f (slice_index_or xs i x) (h i x less)

bounded : {X : Type 0} → (P : X → Type 0) (ys : List X) (p : ℕ) → ((x : X) → P x → Contains ys x) → length ys ≤ p → AtMost P p
bounded P ys p f l xs d h = let m = no_more xs ys d (all_by P (Contains ys) xs f h) in omega arith

greater : {X : Type 0} → (P : X → Type 0) (p q : ℕ) → p ≤ q → AtMost P p → AtMost P q
greater P p q l b xs d h = let m = b xs d h in omega arith

narrower : {X : Type 0} → (P Q : X → Type 0) (p : ℕ) → ((x : X) → P x → Q x) → AtMost Q p → AtMost P p
narrower P Q p f b xs d h = b xs d (all_by P Q xs f h)

pub lists_bound_reached_points : ListsBoundReachedPoints
lists_bound_reached_points a b n k shape power points p f l = bounded (IsReached a b n k shape power) points p f l

pub lists_bound_points_of_a_side : ListsBoundPointsOfASide
lists_bound_points_of_a_side image s n k shape power points p f l = bounded (IsReachedOn image s n k shape power) points p f l

pub greater_bounds_hold : GreaterBoundsHold
greater_bounds_hold a b n k shape power p q l h = greater (IsReached a b n k shape power) p q l h

pub greater_bounds_hold_of_a_side : GreaterBoundsHoldOfASide
greater_bounds_hold_of_a_side image s n k shape power p q l h = greater (IsReachedOn image s n k shape power) p q l h

-- a point has the side of the run that passes it
pub side_of : (image : Image) (s : Side) (n k : ℕ) (shape : List Letter) (power : Power) (p : Point) → IsReachedOn image s n k shape power p → p.side ≡ s
side_of image s n k shape power p h = let w = h.passes in sym (ap (λ (q : Point). q.side) w.1)

module _ (a b : Image) (n k : ℕ) (shape : List Letter) (power : Power) where
  on_its_side : (s : Side) (p : Point) → IsReachedOn (image_of a b s) s n k shape power p → IsReached a b n k shape power p
  on_its_side s p h =
      let e = side_of (image_of a b s) s n k shape power p h in
      record {
        dialogue = h.dialogue;
        fits = h.fits;
        transfers = h.transfers;
        passes = subst (λ (x : Side). Passes (image_of a b x) x k h.dialogue p) (sym e) h.passes;
      }

  of_side : (s : Side) (p : Point) → p.side ≡ s → IsReached a b n k shape power p → IsReachedOn (image_of a b s) s n k shape power p
  of_side s p e h = record {
    dialogue = h.dialogue;
    fits = h.fits;
    transfers = h.transfers;
    passes = subst (λ (x : Side). Passes (image_of a b x) x k h.dialogue p) e h.passes;
  }

pub points_are_reached_on_their_side : PointsAreReachedOnTheirSide
points_are_reached_on_their_side a b s n k shape power p = (
  λ h. (on_its_side a b n k shape power s p h, side_of (image_of a b s) s n k shape power p h),
  λ h. of_side a b n k shape power s p h.1 h.0,
)

pub bounds_hold_of_each_side : BoundsHoldOfEachSide
bounds_hold_of_each_side a b s n k shape power p h =
    narrower (IsReachedOn (image_of a b s) s n k shape power) (IsReached a b n k shape power) p (on_its_side a b n k shape power s) h

-- the points of a list by their sides
abbrev pub on_a : Side → Bool
on_a side.A = true
on_a side.B = false

abbrev pub on_b : Side → Bool
on_b side.A = false
on_b side.B = true

off_a : (s : Side) → on_b s ≡ not (on_a s)
off_a side.A = refl
off_a side.B = refl

is_a : (s : Side) → on_a s ≡ true → s ≡ side.A
is_a side.A e = refl
is_a side.B e = absurd (cc)

is_b : (s : Side) → on_b s ≡ true → s ≡ side.B
is_b side.A e = absurd (cc)
is_b side.B e = refl

pub bounds_of_sides_add_up : BoundsOfSidesAddUp
bounds_of_sides_add_up a b n k shape power p q f g xs d h =
    let a_only : List Point = filter (λ (x : Point). on_a x.side) xs in
    let b_only : List Point = filter (λ (x : Point). on_b x.side) xs in
    let first : length a_only ≤ p = f a_only (AllPairs-filter (λ (x y : Point). x ≢ y) (λ (x : Point). on_a x.side) xs d) (all_on side.A on_a is_a) in
    let second : length b_only ≤ q = g b_only (AllPairs-filter (λ (x y : Point). x ≢ y) (λ (x : Point). on_b x.side) xs d) (all_on side.B on_b is_b) in
    let both : length a_only + length b_only ≡ length xs = length-filter_both (λ (x : Point). on_a x.side) (λ (x : Point). on_b x.side) (λ x. off_a x.side) xs in
    omega arith
  where
    all_on : (s : Side) (on : Side → Bool) → ((t : Side) → on t ≡ true → t ≡ s) → All (IsReachedOn (image_of a b s) s n k shape power) (filter (λ (x : Point). on x.side) xs)
    all_on s on is i x less =
        let only : List Point = filter (λ (y : Point). on y.side) xs in
        let y : Point = slice_index_or only i x in
        of_side a b n k shape power s y
        (is y.side (filter_passes (λ (z : Point). on z.side) xs i x less))
        (All-filter (λ (z : Point). on z.side) (IsReached a b n k shape power) xs h i x less)
