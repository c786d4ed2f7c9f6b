-- Points of fewer transfers: none of them is one of more transfers.
use Rattle.std.proofs.Common.{◌≡◌, ℕ, ◌+◌, ◌<◌, ◌≤◌, List, [], ◌∷◌, ◌++◌, ◌⊎◌, inl, inr, length, slice_index_or, refl, sym, ap, subst, ◌∙◌, arith}
use Rattle.std.specs.Prelude.{Contains, All}
use Rattle.std.proofs.lemmas.List.{length-append}
use Rattle.std.proofs.lemmas.List.Elements.{Contains-get_or, Contains-append_cases}
use Rattle.wb_rom.specs.declared.images.Image.{Image}
use Rattle.wb_port.specs.declared.accesses.Kind.{Kind}
use Rattle.wb_port.specs.declared.points.Point.{Point}
use Rattle.wb_port.specs.Talk.{kinds}
use Rattle.wb_law.specs.Points.{PointsArePassedAfterAccesses}
use Rattle.wb_law.specs.FitLaws.{TransfersJoinInOrder}
use Rattle.wb_explore.specs.declared.plan.Plan.{Plan}
use Rattle.wb_explore.specs.declared.reached.ReachedPoint.{ReachedPoint}
use Rattle.wb_explore.specs.Layers.{IsPassedBy, AddsPassed}
use Rattle.wb_explore.specs.Explored.{longer_plan, IsOfOther}
use Rattle.wb_explored.specs.Explorations.{HasNoLonger}

one_longer : (p : Plan) (k : Kind) → length (longer_plan p k).kinds ≡ length p.kinds + 1
one_longer p k = let n = length-append p.kinds (k ∷ []) in n

other : (p : Plan) (k : Kind) (r : ReachedPoint) → HasNoLonger p r → IsOfOther (longer_plan p k) r
other p k r less side same =
    let n = one_longer p k in
    let m : length r.point.kinds ≡ length (longer_plan p k).kinds = ap (λ (ks : List Kind). length ks) same in
    absurd (omega (arith, n, m, less))

pub fresh : (p : Plan) (k : Kind) (rs : List ReachedPoint) → All (HasNoLonger p) rs → All (IsOfOther (longer_plan p k)) rs
fresh p k rs h i d less = other p k (slice_index_or rs i d) (h i d less)

pub none : (p : Plan) → All (HasNoLonger p) []
none p i d less = absurd (omega (arith, less))

listed : (P : ReachedPoint → Type 0) (rs : List ReachedPoint) (x : ReachedPoint) → All P rs → Contains rs x → P x
listed P rs x h (k, less, e) = subst P e (h k x less)

module _ (passed : PointsArePassedAfterAccesses) (join : TransfersJoinInOrder) where
  passed_within : (image : Image) (p : Plan) (x : ReachedPoint) → IsPassedBy image p x → HasNoLonger p x
  passed_within image p x b =
      let w = passed image p.side p.pace x.dialogue x.point b.passes in
      let j = join w.front w.rest in
      let a : length (kinds w.front) ≡ length x.point.kinds = ap (λ (q : Point). length q.kinds) w.passes.point in
      let c : length (kinds x.dialogue.accesses) ≡ length p.kinds = ap (λ (ks : List Kind). length ks) b.planned.kinds in
      let e : length (kinds x.dialogue.accesses) ≡ length (kinds w.front ++ kinds w.rest) = ap (λ (ks : List Kind). length ks) (ap kinds w.parts ∙ j.kinds_join) in
      let n = length-append (kinds w.front) (kinds w.rest) in
      omega (arith, a, c, e, n)

  either : (image : Image) (p : Plan) (k : Kind) (x : ReachedPoint) (old added : List ReachedPoint)
      → All (HasNoLonger p) old → ((y : ReachedPoint) → Contains added y → IsPassedBy image (longer_plan p k) y)
      → Contains old x ⊎ Contains added x → HasNoLonger (longer_plan p k) x
  either image p k x old added h all (inl c) =
      let less = listed (HasNoLonger p) old x h c in
      let n = one_longer p k in
      omega (arith, less, n)
  either image p k x old added h all (inr c) = passed_within image (longer_plan p k) x (all x c)

  pub shorter : (image : Image) (p : Plan) (k : Kind) (old new : List ReachedPoint) → All (HasNoLonger p) old → AddsPassed image (longer_plan p k) old new → All (HasNoLonger (longer_plan p k)) new
  shorter image p k old new h a i d less =
      either image p k (slice_index_or new i d) old a.added h a.passed
      (Contains-append_cases old a.added (slice_index_or new i d) (subst (λ (rs : List ReachedPoint). Contains rs (slice_index_or new i d)) a.after (Contains-get_or new i d less)))

  pub started : (image : Image) (p : Plan) (new : List ReachedPoint) → AddsPassed image p [] new → All (HasNoLonger p) new
  started image p new a i d less =
      from (Contains-append_cases [] a.added (slice_index_or new i d) (subst (λ (rs : List ReachedPoint). Contains rs (slice_index_or new i d)) a.after (Contains-get_or new i d less)))
    where
      from : Contains [] (slice_index_or new i d) ⊎ Contains a.added (slice_index_or new i d) → HasNoLonger p (slice_index_or new i d)
      from (inl (k, less, e)) = absurd (omega (arith, less))
      from (inr c) = passed_within image p (slice_index_or new i d) (a.passed (slice_index_or new i d) c)
