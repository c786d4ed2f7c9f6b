-- A held replay notes the points of its run.
use Rattle.std.proofs.Common.{◌≡◌, ℕ, zero, suc, ◌+◌, ◌<◌, true, List, [], ◌∷◌, ◌++◌, length, take, get_or, refl, sym, ◌∙◌, ap, subst, append_assoc, append-nil}
use Rattle.std.proofs.lemmas.List.{take_more}
use Rattle.wb_word.specs.declared.sides.Side.{Side}
use Rattle.wb_rom.specs.declared.images.Image.{Image}
use Rattle.wb_port.specs.declared.accesses.Access.{Access}
use Rattle.wb_port.specs.declared.accesses.Access.TheVariants as access
use Rattle.wb_port.specs.declared.accesses.Kind.TheVariants as kind
use Rattle.wb_port.specs.declared.replays.End.{End}
use Rattle.wb_port.proofs.Ends.{rest_of}
use Rattle.wb_port.specs.declared.points.Point.{Point}
use Rattle.wb_port.specs.declared.replays.Turned.{Turned}
use Rattle.wb_port.specs.declared.replays.Turned.TheVariants.{Gave, Stepped, Ended}
use Rattle.wb_port.specs.Run.{Moment, Turn, turn, goes_on, turns, beginning}
use Rattle.wb_port.specs.Talk.{Talk, kinds}
use Rattle.wb_port.specs.Points.{point_of, points_of, points_after, IsTrail}
use Rattle.wb_port.specs.Replay.{IsTurned, noted, run_of}
use Rattle.wb_port.proofs.Playing.{IsSoFar, goes_next, Lasts, begins}

pub kinds-append : (xs ys : List Access) → kinds (xs ++ ys) ≡ kinds xs ++ kinds ys
kinds-append [] ys = refl
kinds-append (access.Status ∷ xs) ys = kinds-append xs ys
kinds-append (access.Read ∷ xs) ys = ap (λ ks. kind.Read ∷ ks) (kinds-append xs ys)
kinds-append (access.Write _ ∷ xs) ys = ap (λ ks. kind.Write ∷ ks) (kinds-append xs ys)

pub kinds_more : (xs : List Access) (i : ℕ) (d : Access) → i < length xs → kinds (take (i + 1) xs) ≡ kinds (take i xs) ++ kinds (get_or xs i d ∷ [])
kinds_more xs i d less =
    ap kinds (take_more xs i d less) ∙ kinds-append (take i xs) (get_or xs i d ∷ [])

-- the points so far, with the moment that they lead to
pub record IsTrailSoFar (image : Image) (s : Side) (k : ℕ) (d : Talk) (m : Moment) (points : List Point) : Type 0 where
  pub so_far : IsSoFar image k true d m
  pub list : points ≡ point_of s (beginning d) ∷ points_after image s k so_far.count (beginning d)

pub points-suc : (image : Image) (s : Side) (k j : ℕ) (m : Moment) → points_after image s k (suc j) m ≡ points_after image s k j m ++ points_of s (turn image k true (turns image k true j m))
points-suc image s k zero m = append-nil _
points-suc image s k (suc j) m =
    ap (λ ps. points_of s (turn image k true m) ++ ps) (points-suc image s k j (goes_on (turn image k true m) m))
    ∙ sym (append_assoc (points_of s (turn image k true m)) (points_after image s k j (goes_on (turn image k true m) m)) (points_of s (turn image k true (turns image k true j (goes_on (turn image k true m) m)))))

noted_is : (s : Side) (t : Turned) (x : Turn) (old new : Moment) → IsTurned t x old new → Lasts t → noted s t new ≡ points_of s x
noted_is s (Gave access.Status) x old new e l = sym (ap (points_of s) e)
noted_is s (Gave access.Read) x old new e l = sym (ap (points_of s) e)
noted_is s (Gave (access.Write byte)) x old new e l = sym (ap (points_of s) e)
noted_is s Stepped x old new e l = sym (ap (points_of s) e)
noted_is s (Ended f) x old new e l = absurd l

pub trail_begins : (image : Image) (s : Side) (k : ℕ) (d : Talk) (m : Moment) (points : List Point) → m ≡ beginning d → points ≡ point_of s m ∷ [] → IsTrailSoFar image s k d m points
trail_begins image s k d m points e h =
    record {
      so_far = record { count = 0; way = sym e; fit = (begins image k true d m e).fit };
      list = h ∙ ap (λ (x : Moment). point_of s x ∷ []) e;
    }

pub record IsLonger (image : Image) (s : Side) (k : ℕ) (d : Talk) (old new : Moment) (points : List Point) : Type 0 where
  pub trail : IsTrailSoFar image s k d new points
  pub less : rest_of image k new < rest_of image k old

pub trail_next : (image : Image) (s : Side) (k : ℕ) (d : Talk) (t : Turned) (old new : Moment) (ps more : List Point) → IsTrailSoFar image s k d old ps → IsTurned t (turn image k true old) old new → Lasts t → more ≡ ps ++ noted s t new → IsLonger image s k d old new more
trail_next image s k d t old new ps more h e l me =
    let n = goes_next image k true d t old new h.so_far e l in
    record {
      trail = record {
        so_far = n.so_far;
        list =
            me ∙ ap (λ (xs : List Point). xs ++ noted s t new) h.list
            ∙ ap (λ (xs : List Point). point_of s (beginning d) ∷ (points_after image s k h.so_far.count (beginning d) ++ xs))
            (noted_is s t (turn image k true old) old new e l ∙ ap (λ (m : Moment). points_of s (turn image k true m)) (sym h.so_far.way))
            ∙ ap (λ (xs : List Point). point_of s (beginning d) ∷ xs)
            (sym (points-suc image s k h.so_far.count (beginning d)) ∙ ap (λ (j : ℕ). points_after image s k j (beginning d)) (sym n.counted));
      };
      less = n.less;
    }

pub trail_ends : (image : Image) (s : Side) (k : ℕ) (d : Talk) (t : Turned) (f : End) (old new : Moment) (ps : List Point) → IsTrailSoFar image s k d old ps → IsTurned t (turn image k true old) old new → t ≡ Ended f → IsTrail image s k d ps
trail_ends image s k d t f old new ps h turned is =
    let e : IsTurned (Ended f) (turn image k true old) old new = subst (λ (x : Turned). IsTurned x (turn image k true old) old new) is turned in
    record {
      last = h.so_far.count;
      end = run_of f new.said;
      ends = ap (turn image k true) h.so_far.way ∙ e.0;
      list = h.list;
    }
