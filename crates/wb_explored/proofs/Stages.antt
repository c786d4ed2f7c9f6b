-- One transfer after the other.
use Rattle.std.proofs.Common.{◌≡◌, ℕ, suc, ◌+◌, ◌<◌, ◌≤◌, Bool, List, [], ◌∷◌, ◌++◌, length, take, drop, get_or, refl, sym, ap, subst, ◌∙◌, append_assoc, add-one, arith}
use Rattle.std.specs.Prelude.{All}
use Rattle.std.proofs.Math.Seq.{take-suc}
use Rattle.std.proofs.lemmas.List.{append-nil, take-append-drop, length-append, length-take-le}
use Rattle.wb_rom.specs.declared.images.Image.{Image}
use Rattle.wb_term.specs.Terms.{Terms, Tables, table_of, table_words}
use Rattle.wb_term.specs.Growth.{Grown}
use Rattle.wb_port.specs.declared.accesses.Kind.{Kind}
use Rattle.wb_port.specs.declared.accesses.Power.{Power}
use Rattle.wb_law.specs.Points.{PointsArePassedAfterAccesses}
use Rattle.wb_law.specs.FitLaws.{TransfersJoinInOrder}
use Rattle.wb_explore.specs.declared.budget.Budget.{Budget}
use Rattle.wb_explore.specs.declared.faults.ExploreFault.{ExploreFault}
use Rattle.wb_explore.specs.declared.plan.Plan.{Plan}
use Rattle.wb_explore.specs.declared.reached.ReachedPoint.{ReachedPoint}
use Rattle.wb_explore.specs.Explored.{longer_plan}
use Rattle.wb_explore.specs.Faults.{IsCause}
use Rattle.wb_explore.specs.Growth.{IsWithin, GrowsByPoints}
use Rattle.wb_explore.specs.Layers.{Requests, IsLayer, Knows, AddsPassed}
use Rattle.wb_explore.specs.Purses.{Holding}
use Rattle.wb_explored.specs.Explorations.{longer_by, HasNoLonger, IsUnderWay, StopsWithin}
use Rattle.wb_explored.proofs.Shorter.{shorter, started}
use Rattle.wb_explored.proofs.Rooms.{within_grown}

-- the plan

pub longer_none : (p : Plan) → p ≡ longer_by p []
longer_none p = sym (ap (λ (ks : List Kind). record p { kinds = ks }) (append-nil p.kinds))

longer_twice : (p : Plan) (done : List Kind) (k : Kind) → longer_plan (longer_by p done) k ≡ longer_by p (done ++ k ∷ [])
longer_twice p done k = ap (λ (ks : List Kind). record p { kinds = ks }) (append_assoc p.kinds done (k ∷ []))

pub next_plan : (p q : Plan) (done : List Kind) (k : Kind) → q ≡ longer_by p done → longer_plan q k ≡ longer_by p (done ++ k ∷ [])
next_plan p q done k e = ap (λ (r : Plan). longer_plan r k) e ∙ longer_twice p done k

-- the tables stay

words_stay : (g h : Terms) (image : Image) (p : Plan) (k : Kind) → Grown g h → table_words g.tables (table_of g.tables p.side) ≡ image.drom → table_words h.tables (table_of h.tables (longer_plan p k).side) ≡ image.drom
words_stay g h image p k grown e = ap (λ (t : Tables). table_words t (table_of t p.side)) grown.tables ∙ e

module _ (passed : PointsArePassedAfterAccesses) (join : TransfersJoinInOrder) where
  -- one transfer more
  pub next_stage : (g h : Terms) (image : Image) (p : Plan) (done : List Kind) (k : Kind) (l next : Requests) (old new : List ReachedPoint)
      → IsUnderWay g image p done l old → IsLayer h image next → next.plan ≡ longer_plan l.plan k → Knows image next.plan new
      → AddsPassed image (longer_plan l.plan k) old new → Grown g h → GrowsByPoints g h (length old) (length new) 3064 201024
      → IsUnderWay h image p (done ++ k ∷ []) next new
  next_stage g h image p done k l next old new u layer plan knows adds grown grows = record {
    layer = layer;
    plan = plan ∙ next_plan p l.plan done k u.plan;
    knows = knows;
    words = subst (λ (q : Plan). table_words h.tables (table_of h.tables q.side) ≡ image.drom) (sym plan) (words_stay g h image l.plan k grown u.words);
    shorter = subst (λ (q : Plan). All (HasNoLonger q) new) (sym plan) (shorter passed join image l.plan k old new u.shorter adds);
    within = subst (λ (q : Plan). IsWithin h q.power (length new) 3064 201024) (sym plan) (within_grown g h l.plan.power (length old) (length new) u.within grows);
  }

  -- the first layer
  pub first_stage : (g h : Terms) (image : Image) (p : Plan) (l : Requests) (old new : List ReachedPoint)
      → IsWithin g p.power (length old) 3064 201024 → table_words g.tables (table_of g.tables p.side) ≡ image.drom → old ≡ []
      → IsLayer h image l → l.plan ≡ p → Knows image l.plan new
      → AddsPassed image p old new → Grown g h → GrowsByPoints g h (length old) (length new) 3064 201024
      → IsUnderWay h image l.plan [] l new
  first_stage g h image p l old new within words none layer plan knows adds grown grows = record {
    layer = layer;
    plan = longer_none l.plan;
    knows = knows;
    words = subst (λ (q : Plan). table_words h.tables (table_of h.tables q.side) ≡ image.drom) (sym plan) (ap (λ (t : Tables). table_words t (table_of t p.side)) grown.tables ∙ words);
    shorter = subst (λ (q : Plan). All (HasNoLonger q) new) (sym plan) (started passed join image p new (subst (λ (rs : List ReachedPoint). AddsPassed image p rs new) none adds));
    within = subst (λ (q : Plan). IsWithin h q.power (length new) 3064 201024) (sym plan) (within_grown g h p.power (length old) (length new) within grows);
  }

-- a stage one further, and one that is short enough for it

pub one_further : (ks : List Kind) (i : ℕ) (d : Kind) → i < length ks → take i ks ++ get_or ks i d ∷ [] ≡ take (i + 1) ks
one_further ks i d less = let t = take-suc ks i d less in rw (add-one i) (sym t)

pub short_stage : (p q : Plan) (ks : List Kind) (i : ℕ) → q ≡ longer_by p (take i ks) → i < length ks → length p.kinds + length ks ≤ 16 → length q.kinds < 16
short_stage p q ks i e less few =
    let a : length q.kinds ≡ length (p.kinds ++ take i ks) = ap (λ (r : Plan). length r.kinds) e in
    let b = length-append p.kinds (take i ks) in
    let c = length-take-le i ks (omega (arith, less)) in
    omega (arith, a, b, c, less, few)

-- where it stops

pub stops : (image : Image) (p q : Plan) (ks : List Kind) (i : ℕ) (d : Kind) (sound later : Bool) (before : Holding) (after : List ReachedPoint) (budget : Budget) (f : ExploreFault)
    → i < length ks → q ≡ longer_by p (take i ks) → before.budget ≡ budget → later ≡ sound
    → AddsPassed image (longer_plan q (get_or ks i d)) before.reached after → IsCause image (longer_plan q (get_or ks i d)) later before f
    → StopsWithin image p ks sound budget f
stops image p q ks i d sound later before after budget f less e spends same adds cause = record {
  front = take (suc i) ks;
  rest = drop (suc i) ks;
  parts = sym (take-append-drop (suc i) ks);
  before = before;
  spends = spends;
  cause = subst (λ (b : Bool). IsCause image (longer_by p (take (suc i) ks)) b before f) same
      (subst (λ (r : Plan). IsCause image r later before f) (next_plan p q (take i ks) (get_or ks i d) e ∙ ap (longer_by p) (sym (take-suc ks i d less))) cause);
}

pub stops_first : (image : Image) (p : Plan) (ks : List Kind) (sound : Bool) (before : Holding) (budget : Budget) (f : ExploreFault)
    → before.budget ≡ budget → IsCause image p sound before f → StopsWithin image p ks sound budget f
stops_first image p ks sound before budget f spends cause = record {
  front = [];
  rest = ks;
  parts = refl;
  before = before;
  spends = spends;
  cause = subst (λ (r : Plan). IsCause image r sound before f) (longer_none p) cause;
}

-- what stopped at no transfer stopped within some
pub stops_sooner : (image : Image) (p : Plan) (ks : List Kind) (sound : Bool) (budget : Budget) (f : ExploreFault) → StopsWithin image p [] sound budget f → StopsWithin image p ks sound budget f
stops_sooner image p ks sound budget f s = stops_first image p ks sound s.before budget f s.spends (subst (λ (r : Plan). IsCause image r sound s.before f) at_first s.cause)
  where
    nothing : (front rest : List Kind) → [] ≡ front ++ rest → front ≡ []
    nothing [] rest e = refl
    nothing (k ∷ front) rest e = let n : 0 ≡ suc (length (front ++ rest)) = ap (λ (ks : List Kind). length ks) e in absurd (omega (arith, n))

    at_first : longer_by p s.front ≡ p
    at_first = ap (longer_by p) (nothing s.front s.rest s.parts) ∙ sym (longer_none p)
