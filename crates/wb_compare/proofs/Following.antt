-- One side, followed for some kinds.
use Rattle.std.proofs.Common.{◌≡◌, ℕ, ◌+◌, ◌≤◌, Option, Some, None, List, [], inl, inr, length, refl, sym, ap, subst, ◌∙◌, arith}
use Rattle.std.specs.Prelude.{Contains, All}
use Rattle.std.proofs.lemmas.List.{length-append, append-nil}
use Rattle.std.proofs.lemmas.List.Elements.{Contains-append_cases}
use Rattle.wb_word.specs.declared.sides.Side.{Side}
use Rattle.wb_word.specs.declared.sides.Side.TheVariants as side
use Rattle.wb_rom.specs.declared.images.Image.{Image}
use Rattle.wb_term.specs.Terms.{Terms, Tables, table_of, table_words}
use Rattle.wb_term.specs.Growth.{Grown}
use Rattle.wb_port.specs.declared.accesses.Kind.{Kind}
use Rattle.wb_port.specs.declared.points.Point.{Point}
use Rattle.wb_port.specs.Dialogue.{AllowsEach}
use Rattle.wb_port.specs.Points.{Passes, image_of}
use Rattle.wb_port.specs.Talk.{Talk, IsTalk}
use Rattle.wb_port.specs.Verdicts.{Overruns}
use Rattle.wb_law.specs.Values.{DifferentValuesAreNoMore}
use Rattle.wb_explore.specs.declared.plan.Plan.{Plan}
use Rattle.wb_explore.specs.declared.reached.ReachedPoint.{ReachedPoint}
use Rattle.wb_explore.specs.Explored.{IsOfOther}
use Rattle.wb_explore.specs.Growth.{GrowsByPoints}
use Rattle.wb_explore.specs.Layers.{Requests, IsLayer, KeepsOverrun, IsOverrun, Knows, AddsPassed, IsPassedBy}
use Rattle.wb_explore.specs.Purses.{Holding}
use Rattle.wb_compare.specs.declared.questions.Question.{Question}
use Rattle.wb_compare.specs.declared.working.Work.{Work}
use Rattle.wb_compare.specs.Questions.{IsQuestion, IsPlainOf}
use Rattle.wb_compare.specs.Laws.{RunLaws}
use Rattle.wb_compare.specs.Licences.{IsReachedBy}
use Rattle.wb_compare.specs.Settled.{plan_of, IsPaced}
use Rattle.wb_compare.specs.Working.{IsWork, HasSpare, Follows, kept_of, or_else, with_overrun, IsKept}
use Rattle.wb_compare.proofs.Lists.{allowed_front}
use Rattle.wb_compare.proofs.Talks.{planned_fits}
use Rattle.wb_compare.proofs.Counting.{requests_are_few}

-- the side of a point that a held run passes
pub side_of : (image : Image) (s : Side) (k : ℕ) (d : Talk) (x : Point) → Passes image s k d x → x.side ≡ s
side_of image s k d x (j, e) = sym (ap (λ (y : Point). y.side) e)

module _ (laws : RunLaws) (a b : Image) (q : Question) (asks : IsQuestion q) (s : Side) (ks : List Kind) (allowed : AllowsEach q.shape ks) where
  -- points that are passed are reached by fitting dialogues

  pub passed_reached : (x : ReachedPoint) → IsPassedBy (image_of a b s) (plan_of q s ks) x → IsReachedBy a b q x
  passed_reached x p =
      let here : Passes (image_of a b s) s q.k x.dialogue x.point = p.passes in
      let same = side_of (image_of a b s) s q.k x.dialogue x.point here in
      record {
        plain = record { fits = planned_fits laws q asks ks allowed x.dialogue p.planned.kinds p.planned.start p.planned.talk; transfers = p.planned.transfers };
        passes = subst (λ (t : Side). Passes (image_of a b t) t q.k x.dialogue x.point) (sym same) here;
      }

  pub reached_more : (old new : List ReachedPoint) → ((x : ReachedPoint) → Contains old x → IsReachedBy a b q x)
      → AddsPassed (image_of a b s) (plan_of q s ks) old new → (x : ReachedPoint) → Contains new x → IsReachedBy a b q x
  reached_more old new before adds x c =
      elim (Contains-append_cases old adds.added x (subst (λ (xs : List ReachedPoint). Contains xs x) adds.after c))
      [ inl h ↦ before x h | inr h ↦ passed_reached x (adds.passed x h) ]

  -- a layer's overrun is that of a fitting dialogue
  overrun_right : (l : Requests) → l.plan ≡ plan_of q s ks → (d : Talk) → IsOverrun (image_of a b s) l.plan d → IsTalk d → IsPlainOf q d × Overruns (image_of a b s) d q.k
  overrun_right l plan d h talk =
      let o = subst (λ (p : Plan). IsOverrun (image_of a b s) p d) plan h in (
        record {
          fits = planned_fits laws q asks o.front (allowed_front q.shape o.front o.rest (subst (AllowsEach q.shape) o.parts allowed)) d o.kinds o.start talk;
          transfers = o.transfers;
        },
        o.overruns,
      )

  -- the overrun that is kept, and what it tells where there is none

  kept_right : (l : Requests) → l.plan ≡ plan_of q s ks → KeepsOverrun (image_of a b s) l.plan l.overrun → (kept : Option Talk) → IsKept (image_of a b s) q kept → (kept ≡ None → (d : Talk) → l.overrun ≡ Some d → IsTalk d) → IsKept (image_of a b s) q (or_else kept l.overrun)
  kept_right l plan layer (Some d) right talk = right
  kept_right l plan layer None right talk = by_found l.overrun refl
    where
      by_found : (o : Option Talk) → l.overrun ≡ o → IsKept (image_of a b s) q o
      by_found None e = tt
      by_found (Some d) e = overrun_right l plan d (subst (KeepsOverrun (image_of a b s) l.plan) e layer) (talk refl d e)

  paced_here : (l : Requests) → l.plan ≡ plan_of q s ks → KeepsOverrun (image_of a b s) l.plan l.overrun → (kept : Option Talk) → or_else kept l.overrun ≡ None → IsPaced a b q s ks
  paced_here l plan layer (Some d) none i v ends = absurd (cc)
  paced_here l plan layer None none i v ends =
      let h = subst (KeepsOverrun (image_of a b s) l.plan) none layer in
      let o = subst (λ (p : Plan). KeepsOverrun (image_of a b s) p None) plan h in
      o ks [] (sym (append-nil ks)) i v ends

  -- what stays of the other side's overrun, and of this one's

  or_else_keeps : (kept found : Option Talk) (d : Talk) → kept ≡ Some d → or_else kept found ≡ Some d
  or_else_keeps (Some e) found d h = h
  or_else_keeps None found d h = absurd (cc)

  words_stay : (g h : Terms) → Grown g h → ((t : Side) → table_words g.tables (table_of g.tables t) ≡ (image_of a b t).drom) → (t : Side) → table_words h.tables (table_of h.tables t) ≡ (image_of a b t).drom
  words_stay g h grown words t = subst (λ (ts : Tables). table_words ts (table_of ts t) ≡ (image_of a b t).drom) (sym grown.tables) (words t)

  spare_more : (old mid : Work) (l : Requests) (adds : AddsPassed (image_of a b s) (plan_of q s ks) old.purse.reached mid.purse.reached)
      → GrowsByPoints old.graph mid.graph (length old.purse.reached) (length mid.purse.reached) 3064 201024
      → length l.requests ≤ length adds.added → (requests : ℕ) → HasSpare q old requests → HasSpare q mid (requests + length l.requests)
  spare_more old mid l adds grows few requests spare =
      let n = ap length adds.after in
      let m = length-append old.purse.reached adds.added in
      let c = grows.count in
      let more = grows.adds.longer_by in
      let heavier = grows.adds.heavier_by in
      let f = spare.few in
      let h = spare.light in
      record { few = omega arith; light = omega arith }

  module _ (no_more : DifferentValuesAreNoMore Point) (old : Work) (g : Terms) (purse : Holding) (l : Requests)
      (work : IsWork a b q old) (layer : IsLayer g (image_of a b s) l) (plan : l.plan ≡ plan_of q s ks) (knows : Knows (image_of a b s) l.plan purse.reached)
      (adds : AddsPassed (image_of a b s) (plan_of q s ks) old.purse.reached purse.reached) (budget : purse.budget ≡ old.purse.budget)
      (grown : Grown old.graph g) (grows : GrowsByPoints old.graph g (length old.purse.reached) (length purse.reached) 3064 201024)
      (fresh : All (IsOfOther (plan_of q s ks)) old.purse.reached) where
    mid : Work
    mid = record old { graph = g; purse = purse }

    pub few : length l.requests ≤ length adds.added
    few = requests_are_few laws no_more (image_of a b s) (plan_of q s ks) g old.purse.reached purse.reached l layer plan (subst (λ (p : Plan). Knows (image_of a b s) p purse.reached) plan knows) fresh adds

-- the same, with the overrun that is kept of the one or the other side

pub follows : (laws : RunLaws) (no_more : DifferentValuesAreNoMore Point) (a b : Image) (q : Question) (asks : IsQuestion q) (s : Side) (ks : List Kind) (allowed : AllowsEach q.shape ks)
    (old : Work) (g : Terms) (purse : Holding) (l : Requests)
    (work : IsWork a b q old) (layer : IsLayer g (image_of a b s) l) (plan : l.plan ≡ plan_of q s ks) (knows : Knows (image_of a b s) l.plan purse.reached)
    (adds : AddsPassed (image_of a b s) (plan_of q s ks) old.purse.reached purse.reached) (budget : purse.budget ≡ old.purse.budget)
    (grown : Grown old.graph g) (grows : GrowsByPoints old.graph g (length old.purse.reached) (length purse.reached) 3064 201024)
    (fresh : All (IsOfOther (plan_of q s ks)) old.purse.reached)
    → (kept_of old s ≡ None → (d : Talk) → l.overrun ≡ Some d → IsTalk d)
    → Follows a b q s ks old (with_overrun (record old { graph = g; purse = purse }) s l.overrun) l
follows laws no_more a b q asks side.A ks allowed old g purse l work layer plan knows adds budget grown grows fresh talk = record {
  layer = record { plan = plan; layer = layer; knows = knows };
  work = record {
    words = words_stay laws a b q asks side.A ks allowed old.graph g grown work.words;
    budget = budget ∙ work.budget;
    reached = reached_more laws a b q asks side.A ks allowed old.purse.reached purse.reached work.reached adds;
    kept = kept;
  };
  later = record { grown = grown; added = adds.added; reached = adds.after; kept = stays };
  paced = paced_here laws a b q asks side.A ks allowed l plan layer.overrun old.first_overrun;
  passed = adds;
  spare = λ requests h. let r = spare_more laws a b q asks side.A ks allowed old (record old { graph = g; purse = purse }) l adds grows (few laws a b q asks side.A ks allowed no_more old g purse l work layer plan knows adds budget grown grows fresh) requests h in record { few = r.few; light = r.light };
}
  where
    kept : (t : Side) → IsKept (image_of a b t) q (kept_of (with_overrun (record old { graph = g; purse = purse }) side.A l.overrun) t)
    kept side.A = kept_right laws a b q asks side.A ks allowed l plan layer.overrun old.first_overrun (work.kept side.A) talk
    kept side.B = work.kept side.B

    stays : (t : Side) (d : Talk) → kept_of old t ≡ Some d → kept_of (with_overrun (record old { graph = g; purse = purse }) side.A l.overrun) t ≡ Some d
    stays side.A d h = or_else_keeps laws a b q asks side.A ks allowed old.first_overrun l.overrun d h
    stays side.B d h = h
follows laws no_more a b q asks side.B ks allowed old g purse l work layer plan knows adds budget grown grows fresh talk = record {
  layer = record { plan = plan; layer = layer; knows = knows };
  work = record {
    words = words_stay laws a b q asks side.B ks allowed old.graph g grown work.words;
    budget = budget ∙ work.budget;
    reached = reached_more laws a b q asks side.B ks allowed old.purse.reached purse.reached work.reached adds;
    kept = kept;
  };
  later = record { grown = grown; added = adds.added; reached = adds.after; kept = stays };
  paced = paced_here laws a b q asks side.B ks allowed l plan layer.overrun old.second_overrun;
  passed = adds;
  spare = λ requests h. let r = spare_more laws a b q asks side.B ks allowed old (record old { graph = g; purse = purse }) l adds grows (few laws a b q asks side.B ks allowed no_more old g purse l work layer plan knows adds budget grown grows fresh) requests h in record { few = r.few; light = r.light };
}
  where
    kept : (t : Side) → IsKept (image_of a b t) q (kept_of (with_overrun (record old { graph = g; purse = purse }) side.B l.overrun) t)
    kept side.A = work.kept side.A
    kept side.B = kept_right laws a b q asks side.B ks allowed l plan layer.overrun old.second_overrun (work.kept side.B) talk

    stays : (t : Side) (d : Talk) → kept_of old t ≡ Some d → kept_of (with_overrun (record old { graph = g; purse = purse }) side.B l.overrun) t ≡ Some d
    stays side.A d h = h
    stays side.B d h = or_else_keeps laws a b q asks side.B ks allowed old.second_overrun l.overrun d h
