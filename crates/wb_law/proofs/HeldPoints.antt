-- The points of a held run, access by access.
use Rattle.std.proofs.Common.{◌≡◌, ◌+◌, true, List, [], ◌∷◌, ◌++◌, length, length-append, refl, sym, ap, subst, ◌∙◌, arith, append-nil}
use Rattle.std.proofs.lemmas.List.Elements.{recursion_from_All}
use Rattle.std.specs.List.{AllByRecursion}
use Rattle.wb_port.specs.declared.accesses.Access.{Access}
use Rattle.wb_port.specs.declared.accesses.Access.TheVariants as access
use Rattle.wb_port.specs.declared.accesses.Kind.{Kind}
use Rattle.wb_port.specs.declared.chips.Chip.{Chip}
use Rattle.wb_port.specs.declared.points.Point.{Point}
use Rattle.wb_port.specs.Schedule.{powered}
use Rattle.wb_port.specs.Talk.{kinds, IsTransfer}
use Rattle.wb_port.specs.Run.{turns, beginning}
use Rattle.wb_port.specs.Points.{point_of, point_at, Passes}
use Rattle.wb_law.specs.Points.{PassesAfter, PointsArePassedAfterAccesses, LastPointsArePassedAfterAll}
use Rattle.wb_law.proofs.Replies.{kinds_append}
use Rattle.wb_law.proofs.Moments.{leads, comes_all}

-- a first part of some transfers that has all of their kinds is the whole
transfers_more : (l : List Access) (xs : List Kind) → AllByRecursion IsTransfer l → length xs ≡ length xs + length (kinds l) → l ≡ []
transfers_more [] xs h e = refl
transfers_more (access.Status ∷ l) xs h e = absurd h.0
transfers_more (access.Read ∷ l) xs h e = absurd (omega arith)
transfers_more (access.Write b ∷ l) xs h e = absurd (omega arith)

rest_transfers : (front rest : List Access) → AllByRecursion IsTransfer (front ++ rest) → AllByRecursion IsTransfer rest
rest_transfers [] rest h = h
rest_transfers (a ∷ front) rest h = rest_transfers front rest h.1

pub points_after_accesses : PointsArePassedAfterAccesses
points_after_accesses image s k d p h =
    let m = turns image k true h.0 (beginning d) in
    let w = leads image k h.0 d.accesses [] (powered d.start) [] in
    record {
      front = w.front;
      rest = m.left;
      parts = w.parts;
      passes = record {
        after = w.after;
        given = w.given;
        steps = w.steps;
        point =
            ap (λ (c : Chip). point_at s (kinds w.front) c) w.comes
            ∙ (ap (λ (g : List Access). point_at s (kinds g) m.chip) (sym w.gave) ∙ h.1);
      };
    }

pub last_points : LastPointsArePassedAfterAll
last_points image s k d p only same = (
  forth,
  λ h. let t = comes_all image k d.accesses [] (powered d.start) h.after [] h.steps h.given in (t.1.0, ap (point_of s) t.1.1 ∙ h.point),
)
  where
    forth : Passes image s k d p → PassesAfter image s k d.accesses (powered d.start) p
    forth h =
        let w = points_after_accesses image s k d p h in
        let v = w.passes in
        let e : d.accesses ≡ w.front ++ w.rest = w.parts in
        let k_front : kinds w.front ≡ p.kinds = ap (λ (q : Point). q.kinds) v.point in
        let all : AllByRecursion IsTransfer (w.front ++ w.rest) = subst (AllByRecursion IsTransfer) e (recursion_from_All IsTransfer d.accesses only) in
        let sizes : length (kinds w.front) ≡ length (kinds w.front) + length (kinds w.rest) =
        ap length (k_front ∙ (same ∙ (ap kinds e ∙ kinds_append w.front w.rest))) ∙ length-append (kinds w.front) (kinds w.rest) in
        let none : w.rest ≡ [] = transfers_more w.rest (kinds w.front) (rest_transfers w.front w.rest all) sizes in
        let whole : w.front ≡ d.accesses = sym (e ∙ (ap (λ (x : List Access). w.front ++ x) none ∙ append-nil w.front)) in
        subst (λ (x : List Access). PassesAfter image s k x (powered d.start) p) whole v
