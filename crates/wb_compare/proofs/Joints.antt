-- Small steps between calls.
use Rattle.std.proofs.Common.{◌≡◌, ℕ, ◌+◌, ◌*◌, ◌≤◌, Bool, true, false, Option, Some, None, List, [], ◌∷◌, ◌++◌, inl, inr, length, Result, Ok, Err, IfOk, IfErr, refl, sym, ap, subst, ◌∙◌, arith}
use Rattle.std.specs.Prelude.{Contains, All, OnOk, if◌then◌else◌}
use Rattle.std.proofs.lemmas.List.{length-append}
use Rattle.std.proofs.lemmas.List.Elements.{Contains-append_cases, Contains-append_left, Contains-append_right}
use Rattle.wb_word.specs.declared.sides.Side.{Side}
use Rattle.wb_word.specs.declared.sides.Side.TheVariants as side
use Rattle.wb_rom.specs.declared.images.Image.{Image}
use Rattle.wb_term.specs.Terms.{Terms}
use Rattle.wb_term.specs.Growth.{Grown, AddsAtMost}
use Rattle.wb_port.specs.declared.accesses.Kind.{Kind}
use Rattle.wb_port.specs.declared.accesses.Kind.TheVariants as kind
use Rattle.wb_port.specs.declared.accesses.Letter.{Letter}
use Rattle.wb_port.specs.declared.accesses.Power.{Power}
use Rattle.wb_port.specs.declared.accesses.Power.TheVariants as power
use Rattle.wb_port.specs.declared.points.Point.{Point}
use Rattle.wb_port.specs.Dialogue.{AllowsEach}
use Rattle.wb_port.specs.Points.{image_of}
use Rattle.wb_port.specs.Talk.{Talk, IsTalk}
use Rattle.wb_law.specs.Values.{DifferentValuesAreNoMore}
use Rattle.wb_solve.specs.declared.search.Answer.{Answer}
use Rattle.wb_explore.specs.declared.budget.Budget.{Budget}
use Rattle.wb_explore.specs.declared.plan.Plan.{Plan}
use Rattle.wb_explore.specs.declared.reached.ReachedPoint.{ReachedPoint}
use Rattle.wb_explore.specs.Explored.{IsOfOther}
use Rattle.wb_explore.specs.declared.faults.ExploreFault.{ExploreFault}
use Rattle.wb_explore.specs.Faults.{StillTells, IsLastAnswer, IsCause}
use Rattle.wb_explore.specs.Growth.{start_nodes, GrowsByPoints}
use Rattle.wb_explore.specs.Laws.{LayersStay}
use Rattle.wb_explore.specs.Layers.{Requests, IsLayer, Knows, AddsPassed}
use Rattle.wb_explore.specs.Purses.{Holding, IsPurse}
use Rattle.wb_compare.specs.declared.endings.Ended.{Ended}
use Rattle.wb_compare.specs.declared.endings.Ended.TheVariants as ended
use Rattle.wb_compare.specs.declared.pairs.Pair.{Pair}
use Rattle.wb_compare.specs.declared.questions.Question.{Question}
use Rattle.wb_compare.specs.declared.verdicts.Verdict.{Verdict}
use Rattle.wb_compare.specs.declared.verdicts.Verdict.TheVariants as verdict
use Rattle.wb_compare.specs.declared.verdicts.CompareFault.{CompareFault}
use Rattle.wb_compare.specs.declared.verdicts.CompareFault.TheVariants as fault
use Rattle.wb_compare.specs.declared.working.Work.{Work}
use Rattle.wb_compare.specs.Endings.{EndTells}
use Rattle.wb_compare.specs.Growing.{allows_next, next_if, nexts, kinds_of, is_silent, nexts_of}
use Rattle.wb_compare.specs.Laws.{RunLaws}
use Rattle.wb_compare.specs.Questions.{IsQuestion}
use Rattle.wb_compare.specs.Settled.{plan_of, IsAlike}
use Rattle.wb_compare.specs.Telling.{HasLayers, HasRoomFor}
use Rattle.wb_compare.specs.Verdicts.{OfAnswered, OfBadAnswer}
use Rattle.wb_compare.specs.Working.{IsWork, HasSpare, IsSideOf, IsPair, Follows, Settles, AreFresh, Visits, kept_of, with_overrun}
use Rattle.wb_compare.proofs.Lists.{listed_head, all_from}
use Rattle.wb_compare.proofs.Following.{follows}
use Rattle.wb_compare.proofs.Going.{both_layers, both_spare, settles}
use Rattle.wb_compare.proofs.Nexts.{read_no_write, in_if}

-- through a result

pub on_ok : {T E : Type 0} {P Q : Type 0} (r : Result T E) → (P → Q) → OnOk r P → OnOk r Q
on_ok (Ok t) f h = f h
on_ok (Err e) f h = h

pub if_ok : {T E : Type 0} {P Q : T → Type 0} (r : Result T E) → ((t : T) → P t → Q t) → IfOk r P → IfOk r Q
if_ok (Ok t) f h = f t h
if_ok (Err e) f h = h

pub if_err : {T E : Type 0} {P Q : E → Type 0} (r : Result T E) → ((e : E) → P e → Q e) → IfErr r P → IfErr r Q
if_err (Ok t) f h = h
if_err (Err e) f h = f e h

-- what an oracle tells, over one call and another

pub still_on : (held : Option (List Answer)) (first mid last : Option ℕ) → StillTells held first mid → StillTells held mid last → StillTells held first last
still_on None first mid last h g = tt
still_on (Some answers) None mid last h g = tt
still_on (Some answers) (Some before) mid last h g = subst (λ (o : Option ℕ). StillTells (Some answers) o last) h.1 g

answered_on : (P Q : Type 0) → (P → Q) → (v : Verdict) → OfAnswered P v → OfAnswered Q v
answered_on P Q f (verdict.Equal p) h = f h
answered_on P Q f (verdict.Different d) h = f h
answered_on P Q f (verdict.Breach s d at) h = h
answered_on P Q f (verdict.Unknown spent) h = h

last_on : (held : Option (List Answer)) (first mid last : Option ℕ) → StillTells held first mid → (f : CompareFault) → OfBadAnswer (IsLastAnswer held mid last) f → OfBadAnswer (IsLastAnswer held first last) f
last_on None first mid last h (fault.BadAnswer asked answer) g = tt
last_on (Some answers) None mid last h (fault.BadAnswer asked answer) g = tt
last_on (Some answers) (Some before) mid last h (fault.BadAnswer asked answer) g = subst (λ (o : Option ℕ). IsLastAnswer (Some answers) o last asked.blasted.formula answer) h.1 g
last_on held first mid last h fault.OutOfMemory g = tt

pub tells_on : (held : Option (List Answer)) (first mid last : Option ℕ) → StillTells held first mid → (e : Ended) → EndTells held mid last e → EndTells held first last e
tells_on held first mid last h (ended.Shown v) g = answered_on (StillTells held mid last) (StillTells held first last) (still_on held first mid last h) v g
tells_on held first mid last h (ended.Failed f) g = last_on held first mid last h f g

-- room

start_few : (p : Power) → start_nodes p ≤ 544
start_few power.Zero = omega arith
start_few power.Any = omega arith

pub spare_less : (q : Question) (w : Work) (requests : ℕ) → HasSpare q w requests → HasSpare q w 0
spare_less q w requests h = let f = h.few in let l = h.light in record { few = omega arith; light = omega arith }

pub spare_spent : (q : Question) (w : Work) (g : Terms) (requests : ℕ) → HasSpare q w requests → AddsAtMost w.graph g (936 * requests) (58976 * requests) → HasSpare q (record w { graph = g }) 0
spare_spent q w g requests h adds =
    let f = h.few in
    let l = h.light in
    let m = adds.longer_by in
    let n = adds.heavier_by in
    record { few = omega arith; light = omega arith }

pub room_of : (a b : Image) (q : Question) → IsQuestion q → (w : Work) → IsWork a b q w → IsPurse w.purse → (requests : ℕ) → HasSpare q w requests → HasRoomFor w.graph requests
room_of a b q asks w work purse requests h =
    let f = h.few in
    let l = h.light in
    let s = start_few q.power in
    let e : w.purse.budget.points ≡ q.budget.points = ap (λ (x : Budget). x.points) work.budget in
    let p = purse.within in
    let m = asks.most in
    record { few = omega arith; light = omega arith }

-- points of no such kinds

pub fresh_side : (q : Question) (s : Side) (ks : List Kind) (reached : List ReachedPoint) → AreFresh reached (ks ∷ []) → All (IsOfOther (plan_of q s ks)) reached
fresh_side q s ks reached fresh = all_from (IsOfOther (plan_of q s ks)) reached (λ x c here same. fresh x c (listed_head ks x.point.kinds [] (sym same)))

side_apart : (s : Side) → s ≡ side.A → s ≡ side.B → ⊥
side_apart s e f = absurd (let h : side.A ≡ side.B = sym e ∙ f in cc)

-- the parts of a pair, in a graph

pub layers_of : (a b : Image) (q : Question) (w : Work) (ks : List Kind) (p : Pair) → IsPair a b q w ks p → HasLayers w.graph a b q (kinds_of p) p
layers_of a b q w ks p h =
    subst (λ (ls : List Kind). HasLayers w.graph a b q ls p) (sym (ap (λ (o : Plan). o.kinds) h.first.plan))
    (record { first_plan = h.first.plan; second_plan = h.second.plan; first = h.first.layer; second = h.second.layer; allowed = h.allowed })

pub plan_here : (a b : Image) (q : Question) (s : Side) (ks : List Kind) (k : Kind) (old new : Work) (p : Plan) (l : Requests) → p ≡ plan_of q s ks
    → Follows a b q p.side (p.kinds ++ k ∷ []) old new l → Follows a b q s (ks ++ k ∷ []) old new l
plan_here a b q s ks k old new p l e h = subst (λ (o : Plan). Follows a b q o.side (o.kinds ++ k ∷ []) old new l) e h

pub side_here : (a b : Image) (q : Question) (w : Work) (s : Side) (ks : List Kind) (l : Requests) → IsSideOf a b q w s ks l → IsSideOf a b q w l.plan.side l.plan.kinds l
side_here a b q w s ks l h =
    subst (λ (t : Side). IsSideOf a b q w t l.plan.kinds l) (sym (ap (λ (o : Plan). o.side) h.plan))
    (subst (λ (ls : List Kind). IsSideOf a b q w s ls l) (sym (ap (λ (o : Plan). o.kinds) h.plan)) h)

module _ (laws : RunLaws) (layers : LayersStay) (a b : Image) (q : Question) (asks : IsQuestion q) (ks : List Kind) (allowed : AllowsEach q.shape ks) (old mid : Work) (one : Requests)
    (first : Follows a b q side.A ks old mid one) where
  -- after the first side, before the second

  pub fresh_second : AreFresh old.purse.reached (ks ∷ []) → All (IsOfOther (plan_of q side.B ks)) mid.purse.reached
  fresh_second fresh = all_from (IsOfOther (plan_of q side.B ks)) mid.purse.reached other
    where
      other : (x : ReachedPoint) → Contains mid.purse.reached x → x.point.side ≡ side.B → x.point.kinds ≡ ks → ⊥
      other x c here same = elim (Contains-append_cases old.purse.reached first.passed.added x (subst (λ (rs : List ReachedPoint). Contains rs x) first.passed.after c)) [
        | inl d ↦ fresh x d (listed_head ks x.point.kinds [] (sym same))
        | inr d ↦ side_apart x.point.side (sym (ap (λ (y : Point). y.side) (first.passed.passed x d).passes.1)) here
      ]

  pub spare_second : HasSpare q old 0 → HasSpare q mid 0
  spare_second spare = spare_less q mid (0 + length one.requests) (first.spare 0 spare)

  module _ (late : Work) (other : Requests) (second : Follows a b q side.B ks mid late other) where
    pub layers_both : HasLayers late.graph a b q (kinds_of (record { first = one; second = other })) (record { first = one; second = other })
    layers_both = layers_of a b q late ks (record { first = one; second = other }) (both_layers a b q laws layers ks allowed old mid late one other first second)

    pub room_both : IsPurse late.purse → HasSpare q old 0 → HasRoomFor late.graph (length one.requests + length other.requests)
    room_both purse spare = room_of a b q asks late second.work purse (length one.requests + length other.requests) (both_spare a b q laws layers ks allowed old mid late one other first second spare)

    pub settles_both : (g : Terms) → Grown late.graph g → AddsAtMost late.graph g (936 * (length one.requests + length other.requests)) (58976 * (length one.requests + length other.requests))
        → HasSpare q old 0 → IsAlike a b q (kinds_of (record { first = one; second = other })) → Settles a b q ks old (record late { graph = g }) (record { first = one; second = other })
    settles_both g grown adds spare alike =
        settles a b q laws layers ks allowed old mid late one other first second g grown
        (subst (IsAlike a b q) (ap (λ (o : Plan). o.kinds) first.layer.plan) alike)
        (spare_spent q late g (length one.requests + length other.requests) (both_spare a b q laws layers ks allowed old mid late one other first second spare) adds)

-- what is visited after a pair

pub if_yes : (shape : List Letter) (ks : List Kind) (k : Kind) → allows_next shape ks k ≡ true → next_if shape ks k ≡ (ks ++ k ∷ []) ∷ []
if_yes shape ks k e = ap (λ (t : Bool). if t then (ks ++ k ∷ []) ∷ [] else []) e

pub if_no : (shape : List Letter) (ks : List Kind) (k : Kind) → allows_next shape ks k ≡ false → next_if shape ks k ≡ []
if_no shape ks k e = ap (λ (t : Bool). if t then (ks ++ k ∷ []) ∷ [] else []) e

pub nexts_open : (shape : List Letter) (p : Pair) → is_silent p ≡ false → nexts_of shape p ≡ nexts shape (kinds_of p)
nexts_open shape p e = ap (λ (t : Bool). if t then [] else nexts shape (kinds_of p)) e

pub nexts_silent : (shape : List Letter) (p : Pair) → is_silent p ≡ true → nexts_of shape p ≡ []
nexts_silent shape p e = ap (λ (t : Bool). if t then [] else nexts shape (kinds_of p)) e

pub fresh_if : (shape : List Letter) (ks : List Kind) (k : Kind) (reached : List ReachedPoint) → allows_next shape ks k ≡ true → AreFresh reached (next_if shape ks k) → AreFresh reached ((ks ++ k ∷ []) ∷ [])
fresh_if shape ks k reached e fresh = subst (AreFresh reached) (if_yes shape ks k e) fresh

pub fresh_read : (shape : List Letter) (p : Pair) (reached : List ReachedPoint) → is_silent p ≡ false → AreFresh reached (nexts_of shape p) → AreFresh reached (next_if shape (kinds_of p) kind.Read)
fresh_read shape p reached open_ fresh x c h =
    subst (AreFresh reached) (nexts_open shape p open_) fresh x c (Contains-append_left (next_if shape (kinds_of p) kind.Read) (next_if shape (kinds_of p) kind.Write) x.point.kinds h)

-- after the reads, the writes are as fresh as they were
pub fresh_write : (a b : Image) (q : Question) (p : Pair) (old mid : Work) (before after : List Pair) → is_silent p ≡ false → AreFresh old.purse.reached (nexts_of q.shape p)
    → Visits a b q (length (kinds_of p)) (next_if q.shape (kinds_of p) kind.Read) old mid before after → AreFresh mid.purse.reached (next_if q.shape (kinds_of p) kind.Write)
fresh_write a b q p old mid before after open_ fresh visits x c h = elim (visits.points x c) [
  | inl d ↦ subst (AreFresh old.purse.reached) (nexts_open q.shape p open_) fresh x d (Contains-append_right (next_if q.shape (kinds_of p) kind.Read) (next_if q.shape (kinds_of p) kind.Write) x.point.kinds h)
  | inr (inl few) ↦ absurd (longer few)
  | inr (inr e) ↦ read_no_write q.shape (kinds_of p) x.point.kinds e h
]
  where
    longer : length x.point.kinds ≤ length (kinds_of p) → ⊥
    longer few = let e = ap length (in_if q.shape (kinds_of p) kind.Write x.point.kinds h).0 in let f = length-append (kinds_of p) (kind.Write ∷ []) in absurd (grind arith)

-- the call of the exploration that followed a side
pub record Called (image : Image) (p : Plan) (old : Work) (g : Terms) (purse : Holding) (l : Requests) : Type 0 where
  pub layer : IsLayer g image l
  pub plan : l.plan ≡ p
  pub knows : Knows image l.plan purse.reached
  pub adds : AddsPassed image p old.purse.reached purse.reached
  pub budget : purse.budget ≡ old.purse.budget
  pub grown : Grown old.graph g
  pub grows : GrowsByPoints old.graph g (length old.purse.reached) (length purse.reached) 3064 201024
  pub fresh : All (IsOfOther p) old.purse.reached

kept_same : (w : Work) (g : Terms) (purse : Holding) (s : Side) → kept_of (record w { graph = g; purse = purse }) s ≡ kept_of w s
kept_same w g purse side.A = refl
kept_same w g purse side.B = refl

pub follows_call : (laws : RunLaws) (no_more : DifferentValuesAreNoMore Point) (a b : Image) (q : Question) (asks : IsQuestion q) (s : Side) (ks : List Kind) (allowed : AllowsEach q.shape ks)
    (old : Work) (g : Terms) (purse : Holding) (l : Requests) (work : IsWork a b q old) (image : Image) → image ≡ image_of a b s → (p : Plan) → p ≡ plan_of q s ks → Called image p old g purse l
    → (new : Work) → new ≡ with_overrun (record old { graph = g; purse = purse }) l.plan.side l.overrun
    → (kept_of (record old { graph = g; purse = purse }) l.plan.side ≡ None → (d : Talk) → l.overrun ≡ Some d → IsTalk d)
    → Follows a b q s ks old new l
follows_call laws no_more a b q asks s ks allowed old g purse l work image e p f called new kept lawful =
    let h = subst (λ (x : Image). Called x (plan_of q s ks) old g purse l) e (subst (λ (o : Plan). Called image o old g purse l) f called) in
    let here : l.plan.side ≡ s = ap (λ (o : Plan). o.side) h.plan in
    let talk : kept_of old s ≡ None → (d : Talk) → l.overrun ≡ Some d → IsTalk d = λ none. lawful (ap (kept_of (record old { graph = g; purse = purse })) here ∙ kept_same old g purse s ∙ none) in
    subst (λ (w : Work). Follows a b q s ks old w l) (ap (λ (t : Side). with_overrun (record old { graph = g; purse = purse }) t l.overrun) (sym here) ∙ sym kept)
    (follows laws no_more a b q asks s ks allowed old g purse l work h.layer h.plan h.knows h.adds h.budget h.grown h.grows h.fresh talk)

-- the cause of a fault of that call
pub cause_call : (a b : Image) (q : Question) (s : Side) (ks : List Kind) (sound : Bool) (before : Holding) (f : ExploreFault) (image : Image) → image ≡ image_of a b s → (p : Plan) → p ≡ plan_of q s ks
    → IsCause image p sound before f → IsCause (image_of a b s) (plan_of q s ks) sound before f
cause_call a b q s ks sound before f image e p g h = subst (λ (x : Image). IsCause x (plan_of q s ks) sound before f) e (subst (λ (o : Plan). IsCause image o sound before f) g h)

-- the same of the plan that is followed
pub fresh_plan : (q : Question) (s : Side) (ks : List Kind) (k : Kind) (p : Plan) → p ≡ plan_of q s ks → (reached : List ReachedPoint) → All (IsOfOther (plan_of q s (ks ++ k ∷ []))) reached → All (IsOfOther (plan_of q p.side (p.kinds ++ k ∷ []))) reached
fresh_plan q s ks k p e reached h = subst (λ (o : Plan). All (IsOfOther (plan_of q o.side (o.kinds ++ k ∷ []))) reached) (sym e) h

-- what the tests of the code say

pub allowed_here : (shape : List Letter) (ks : List Kind) (k : Kind) (given : List Kind) (t : Bool) → given ≡ ks → t ≡ allows_next shape given k → t ≡ true → allows_next shape ks k ≡ true
allowed_here shape ks k given true same e f = ap (λ (ls : List Kind). allows_next shape ls k) (sym same) ∙ sym e
allowed_here shape ks k given false same e f = absurd (cc)

pub silent_here : (p : Pair) (t : Bool) → t ≡ is_silent p → t ≡ false → is_silent p ≡ false
silent_here p t e f = sym e ∙ f
