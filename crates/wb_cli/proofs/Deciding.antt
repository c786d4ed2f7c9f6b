-- What the budget of a comparison decides, and what every demo comes to.
use Rattle.std.proofs.Common.{◌≡◌, ◌≢◌, ℕ, zero, suc, ◌+◌, ◌*◌, ◌^◌, ◌<◌, ◌≤◌, List, [], ◌∷◌, ◌++◌, length, map, refl, sym, ◌∙◌, ap, subst, inl, inr, arith}
use Rattle.std.specs.Prelude.{All, AllPairs, Contains}
use Rattle.std.proofs.Common.{lit<, lit≤}
use Rattle.std.specs.List.{slice_index_or}
use Rattle.std.proofs.lemmas.List.{get_or-map, length-map}
use Rattle.std.proofs.Math.Nat.{pow-le-pow_right}
use Rattle.std.proofs.lemmas.List.Elements.{All-map, All-contains_itself}
use Rattle.wb_word.specs.declared.sides.Side.TheVariants as side
use Rattle.wb_rom.specs.declared.images.Image.{Image}
use Rattle.wb_port.specs.declared.points.Point.{Point}
use Rattle.wb_port.specs.declared.accesses.Power.TheVariants as power
use Rattle.wb_port.specs.Dialogue.{input_bits}
use Rattle.wb_port.specs.Points.{IsReached, ReachedAtMost}
use Rattle.wb_explore.specs.declared.reached.ReachedPoint.{ReachedPoint}
use Rattle.wb_explore.specs.Purses.{points_of, AreDifferent}
use Rattle.wb_compare.specs.declared.questions.Question.{Question}
use Rattle.wb_compare.specs.declared.verdicts.Pace.TheVariants as pace
use Rattle.wb_compare.specs.declared.verdicts.Spent.TheVariants as spent
use Rattle.wb_compare.specs.declared.verdicts.Verdict.{Verdict}
use Rattle.wb_compare.specs.declared.verdicts.Verdict.TheVariants as verdict
use Rattle.wb_compare.specs.Licences.{AreTooMany, IsReachedBy, IsHard}
use Rattle.wb_compare.specs.Verdicts.{IsVerdict}
use Rattle.wb_gen.specs.Demo.{body_of, IsPairOf}
use Rattle.wb_gen.specs.Laws.{demo_transfers, demo_pace, demo_shape, FewPoints, KeepsGoing, SaysTheSame, NumbersHaveBodies, PairsReachFewPoints, PairsKeepGoing, PairsSayTheSame}
use Rattle.wb_cli.specs.declared.comparing.Compared.{Compared}
use Rattle.wb_cli.specs.Comparison.{IsDemonstration, demo_question}
use Rattle.wb_cli.specs.Complete.{IsDecided}
use Rattle.wb_cli.specs.Report.{verdict_ending}
use Rattle.wb_cli.specs.Status.{ending_status}

-- what holds of each element by itself holds of all
all_of : {X : Type 0} (P : X → Type 0) (xs : List X) → ((x : X) → Contains xs x → P x) → All P xs
all_of P xs h k d less = h (slice_index_or xs k d) (All-contains_itself xs k d less)

-- what a function gives for the elements differs, where it gives different values for each two
pairs_map : {X Y : Type 0} (f : X → Y) (xs : List X) → AllPairs (λ x y. f x ≢ f y) xs → AllPairs (λ x y. x ≢ y) (map f xs)
pairs_map f [] h i j d less within = absurd (omega arith)
pairs_map f (x ∷ xs) h i j d less within =
    let len = length-map (x ∷ xs) f in
    let high : j < length (x ∷ xs) = omega arith in
    let low : i < length (x ∷ xs) = omega arith in
    λ same. h i j x less high (sym (get_or-map f (x ∷ xs) i x d low) ∙ same ∙ get_or-map f (x ∷ xs) j x d high)

-- as many points as are reached aren't exceeded
pub too_many : (a b : Image) (q : Question) (list : List ReachedPoint) (p : ℕ) → AreTooMany a b q list → ReachedAtMost a b q.n q.k q.shape q.power p → p ≤ q.budget.points → ⊥
too_many a b q list p many most few =
    let reached : All (λ (x : ReachedPoint). IsReached a b q.n q.k q.shape q.power x.point) list =
    all_of (λ (x : ReachedPoint). IsReached a b q.n q.k q.shape q.power x.point) list
    (λ (x : ReachedPoint) inside.
    let by = many.reached x inside in
    record { dialogue = x.dialogue; fits = by.plain.fits; transfers = by.plain.transfers; passes = by.passes }) in
    let within : length (points_of list) ≤ p =
    most (points_of list) (pairs_map (λ (x : ReachedPoint). x.point) list many.different)
    (All-map (IsReached a b q.n q.k q.shape q.power) (λ (x : ReachedPoint). x.point) list reached) in
    let count = many.count in
    let same : length (points_of list) ≡ length list = length-map list (λ (x : ReachedPoint). x.point) in
    absurd (omega arith)

-- a number of conflicts that all inputs have isn't exceeded
too_hard : (conflicts inputs bits : ℕ) → conflicts + 1 < 2 ^ inputs → inputs ≤ bits → 2 ^ bits ≤ conflicts → ⊥
too_hard conflicts inputs bits bound few enough =
    let more : 2 ^ inputs ≤ 2 ^ bits = pow-le-pow_right {n = 2} (lit< tt) few in
    absurd (omega arith)

pub decided : (a b : Image) (q : Question) (v : Verdict) → ReachedAtMost a b q.n q.k q.shape q.power q.budget.points → 2 ^ input_bits q.shape q.power ≤ q.budget.conflicts → IsVerdict a b q v → IsDecided (ending_status (verdict_ending v))
decided a b q (verdict.Equal p) points conflicts h = tt
decided a b q (verdict.Different d) points conflicts h = tt
decided a b q (verdict.Breach s d at) points conflicts h = tt
decided a b q (verdict.Unknown (spent.Points list)) points conflicts h =
    absurd (too_many a b q list q.budget.points h points (omega arith))
decided a b q (verdict.Unknown (spent.Conflicts asked steps)) points conflicts h =
    absurd (too_hard q.budget.conflicts asked.blasted.formula.inputs (input_bits q.shape q.power) h.spent.bound h.bits conflicts)

-- what is known of demo pairs
pub record DemoLaws : Type 0 where
  pub bodies : NumbersHaveBodies
  pub points : PairsReachFewPoints
  pub going : PairsKeepGoing
  pub same : PairsSayTheSame

pair_keeps : (a b : Image) (v : Verdict) → FewPoints a b power.Zero → KeepsGoing a b power.Zero → SaysTheSame a b power.Zero → IsVerdict a b demo_question v → v ≡ verdict.Equal pace.Kept
pair_keeps a b (verdict.Equal pace.Kept) few going same h = refl
pair_keeps a b (verdict.Equal (pace.Overrun side.A d)) few going same h = absurd (going.first_paced d h.1.0.fits h.1.1)
pair_keeps a b (verdict.Equal (pace.Overrun side.B d)) few going same h = absurd (going.second_paced d h.1.0.fits h.1.1)
pair_keeps a b (verdict.Different d) few going same h = absurd (same.equal d h.0 h.2)
pair_keeps a b (verdict.Breach side.A d at) few going same h = absurd (going.first_unbroken d at h.0.fits h.1)
pair_keeps a b (verdict.Breach side.B d at) few going same h = absurd (going.second_unbroken d at h.0.fits h.1)
pair_keeps a b (verdict.Unknown (spent.Points list)) few going same h =
    absurd (too_many a b demo_question list 694 h few.both (omega arith))
pair_keeps a b (verdict.Unknown (spent.Conflicts asked steps)) few going same h =
    absurd (too_hard 100000 asked.blasted.formula.inputs 16 h.spent.bound h.bits (lit≤ tt))

-- the images of every demo answer alike, and keep the pace
pub demo_keeps : DemoLaws → (number : ℕ) (c : Compared) → IsDemonstration number c → c.verdict ≡ verdict.Equal pace.Kept
demo_keeps laws number c h =
    let body = body_of number in
    let lawful = laws.bodies number in
    pair_keeps c.first c.second c.verdict
    (laws.points body c.first c.second power.Zero lawful h.pair)
    (laws.going body c.first c.second power.Zero lawful h.pair)
    (laws.same body c.first c.second power.Zero lawful h.pair)
    h.compared.verdict
