-- A layer, of what was explored and of the layer before.
use Rattle.std.proofs.Common.{◌≡◌, ◌≢◌, ℕ, zero, suc, ◌+◌, ◌<◌, ◌≤◌, Bool, true, false, is_some, Option, Some, None, List, [], ◌∷◌, ◌++◌, ◌⊎◌, inl, inr, length, refl, sym, ap, subst, ◌∙◌, arith, append-nil, append_assoc}
use Rattle.std.specs.Prelude.{Contains, All}
use Rattle.std.proofs.lemmas.List.{length_push}
use Rattle.std.proofs.lemmas.List.Elements.{Contains-append_left}
use Rattle.wb_word.specs.declared.numbers.Addr.{Addr}
use Rattle.wb_rom.specs.declared.images.Image.{Image}
use Rattle.wb_term.specs.Inputs.{Assignment, IsAssignment}
use Rattle.wb_term.specs.Terms.{Terms}
use Rattle.wb_term.specs.Growth.{Grown}
use Rattle.wb_port.specs.declared.accesses.Access.{Access}
use Rattle.wb_port.specs.declared.accesses.Kind.{Kind}
use Rattle.wb_port.specs.declared.accesses.Kind.TheVariants as kind
use Rattle.wb_port.specs.declared.chips.Chip.{Chip}
use Rattle.wb_port.specs.declared.points.Point.{Point}
use Rattle.wb_port.specs.declared.runs.Run.{Run}
use Rattle.wb_port.specs.declared.runs.Run.TheVariants.{Overrun, Breach}
use Rattle.wb_port.specs.Schedule.{powered}
use Rattle.wb_port.specs.Talk.{Talk, dialogue, kinds}
use Rattle.wb_port.specs.Run.{EndsAs}
use Rattle.wb_port.specs.Points.{Passes, point_at}
use Rattle.wb_port.specs.Verdicts.{Breaks, Overruns}
use Rattle.wb_law.specs.Course.{strides, StopsBefore}
use Rattle.wb_law.specs.Points.{PassesAfter, PassesWithin}
use Rattle.wb_symstep.specs.Laws.{GrowthKeepsStates}
use Rattle.wb_point.specs.Dialogues.{accesses_under, access_under, start_under, dialogue_under}
use Rattle.wb_point.specs.Laws.{DialoguesAreOfTheirKinds, DialoguesGrowAtTheEnd}
use Rattle.wb_explore.specs.declared.plan.Plan.{Plan}
use Rattle.wb_explore.specs.declared.layer.Request.{Request}
use Rattle.wb_explore.specs.declared.reached.ReachedPoint.{ReachedPoint}
use Rattle.wb_explore.specs.HeldLaws.{HeldLaws}
use Rattle.wb_explore.specs.Runs.{Comes}
use Rattle.wb_explore.specs.Plans.{runs_of}
use Rattle.wb_explore.specs.Purses.{points_of}
use Rattle.wb_explore.specs.Seen.{HoldsPassed}
use Rattle.wb_explore.specs.Layers.{Requests, request_view, IsRequest, IsOverrun, KeepsOverrun, IsLayer, Knows, AddsPassed}
use Rattle.wb_explore.specs.Explored.{first_plan, longer_plan, KeepsRight, KeepsOlder, IsExplored}
use Rattle.wb_explore.proofs.Ending.{breach_before, overrun_before}
use Rattle.wb_explore.proofs.Giving.{request_grown}
use Rattle.wb_explore.proofs.Lists.{listed_point, point_listed}

-- fronts of a list with one more at the end

-- a front is the whole, or a front of the list before
front_cases : {X : Type 0} (xs : List X) (x : X) (front rest : List X) → xs ++ x ∷ [] ≡ front ++ rest → (front ≡ xs ++ x ∷ []) ⊎ ((more : List X) × (xs ≡ front ++ more) × (rest ≡ more ++ x ∷ []))
front_cases {X} xs x [] rest e = inr (xs, refl, sym e)
front_cases {X} [] x (y ∷ front) rest e = inl (whole front rest e)
  where
    whole : (front rest : List X) → x ∷ [] ≡ y ∷ (front ++ rest) → y ∷ front ≡ x ∷ []
    whole [] rest e = ap (λ (z : X). z ∷ []) (sym (head e))
      where
        head : x ∷ [] ≡ y ∷ rest → x ≡ y
        head e = cc
    whole (z ∷ front) rest e = absurd (let f : [] ≡ z ∷ (front ++ rest) = cc in cc)
front_cases {X} (z ∷ xs) x (y ∷ front) rest e = by_case (front_cases xs x front rest (tails e))
  where
    tails : z ∷ (xs ++ x ∷ []) ≡ y ∷ (front ++ rest) → xs ++ x ∷ [] ≡ front ++ rest
    tails e = cc

    heads : z ∷ (xs ++ x ∷ []) ≡ y ∷ (front ++ rest) → y ≡ z
    heads e = cc

    by_case : (front ≡ xs ++ x ∷ []) ⊎ ((more : List X) × (xs ≡ front ++ more) × (rest ≡ more ++ x ∷ [])) → (y ∷ front ≡ z ∷ (xs ++ x ∷ [])) ⊎ ((more : List X) × (z ∷ xs ≡ y ∷ (front ++ more)) × (rest ≡ more ++ x ∷ []))
    by_case (inl f) = inl (let h = heads e in cc)
    by_case (inr (more, f, g)) = inr (more, let h = heads e in cc, g)

-- the first of some accesses under inputs are those of their first kinds
record FirstKinds (i : Assignment) (n : ℕ) (ks : List Kind) (front : List Access) : Type 0 where
  pub first : List Kind
  pub more : List Kind
  pub parts : ks ≡ first ++ more
  pub accesses : accesses_under i n first ≡ front

first_kinds : (i : Assignment) (n : ℕ) (ks : List Kind) (front rest : List Access) → accesses_under i n ks ≡ front ++ rest → FirstKinds i n ks front
first_kinds i n ks [] rest e = record { first = []; more = ks; parts = refl; accesses = refl }
first_kinds i n [] (a ∷ front) rest e = absurd (cc)
first_kinds i n (k ∷ ks) (a ∷ front) rest e = made (first_kinds i (n + 1) ks front rest (tails e))
  where
    tails : access_under i n k ∷ accesses_under i (n + 1) ks ≡ a ∷ (front ++ rest) → accesses_under i (n + 1) ks ≡ front ++ rest
    tails e = cc

    head : access_under i n k ∷ accesses_under i (n + 1) ks ≡ a ∷ (front ++ rest) → access_under i n k ≡ a
    head e = cc

    made : FirstKinds i (n + 1) ks front → FirstKinds i n (k ∷ ks) (a ∷ front)
    made f = record {
      first = k ∷ f.first;
      more = f.more;
      parts = ap (λ (l : List Kind). k ∷ l) f.parts;
      accesses = ap (λ (b : Access). b ∷ accesses_under i (n + 1) f.first) (head e) ∙ ap (λ (l : List Access). a ∷ l) f.accesses;
    }

module _ (laws : HeldLaws) (of_kinds : DialoguesAreOfTheirKinds) (image : Image) where
  -- a point that is passed is passed after all of some first kinds
  record PassesFirst (p : Plan) (ks : List Kind) (i : Assignment) (x : Point) : Type 0 where
    pub first : List Kind
    pub more : List Kind
    pub parts : ks ≡ first ++ more
    pub passes : PassesAfter image p.side p.pace (accesses_under i 0 first) (powered (start_under i p.power)) x

  passes_first : (p : Plan) (ks : List Kind) (i : Assignment) (x : Point) → Passes image p.side p.pace (dialogue_under ks i p.power) x → PassesFirst p ks i x
  passes_first p ks i x h =
      let w = laws.passed_after image p.side p.pace (dialogue_under ks i p.power) x h in
      let f = first_kinds i 0 ks w.front w.rest w.parts in
      record {
        first = f.first;
        more = f.more;
        parts = f.parts;
        passes = subst (λ (l : List Access). PassesAfter image p.side p.pace l (powered (start_under i p.power)) x) (sym f.accesses) w.passes;
      }

  -- of all kinds: the chip comes there
  comes_there : (p : Plan) (i : Assignment) (x : Point) → PassesAfter image p.side p.pace (accesses_under i 0 p.kinds) (powered (start_under i p.power)) x
      → (points : List Point) → HoldsPassed (runs_of image p) points → IsAssignment i → Contains points x
  comes_there p i x h points holds a =
      let c : Chip = strides image p.pace true h.steps h.after in
      let come : Comes (runs_of image p) i c = record { start = h.after; begins = h.given; leads = (h.steps, refl) } in
      subst (Contains points) (ap (λ (ks : List Kind). point_at p.side ks c) (sym (of_kinds p.kinds i p.power).kinds) ∙ h.point) (holds.all i a c come)

  -- of some kinds: the dialogue of these kinds passes it
  passes_there : (p : Plan) (ks : List Kind) (i : Assignment) (x : Point) → PassesAfter image p.side p.pace (accesses_under i 0 ks) (powered (start_under i p.power)) x → Passes image p.side p.pace (dialogue_under ks i p.power) x
  passes_there p ks i x h =
      (laws.passed_last image p.side p.pace (dialogue_under ks i p.power) x (of_kinds ks i p.power).transfers (ap (λ (y : Point). y.kinds) (sym h.point))).1 h

  -- points that are in a list stay where some were added
  pub kept : (other : Image) (q : Plan) (old new : List ReachedPoint) → AddsPassed other q old new → (x : Point) → Contains (points_of old) x → Contains (points_of new) x
  kept other q old new adds x c =
      let r = point_listed old x c in
      let d = Contains-append_left old adds.added r.0 r.1 in
      subst (Contains (points_of new)) r.2 (listed_point new r.0 (subst (λ (l : List ReachedPoint). Contains l r.0) (sym adds.after) d))

  pub knows_first : (p : Plan) → p.kinds ≡ [] → (reached : List ReachedPoint) → HoldsPassed (runs_of image p) (points_of reached) → Knows image p reached
  knows_first p none reached holds front rest parts i a x h =
      let f = passes_first p front i x h in
      let e : [] ≡ f.first ++ (f.more ++ rest) = sym none ∙ (parts ∙ (ap (λ (l : List Kind). l ++ rest) f.parts ∙ append_assoc f.first f.more rest)) in
      let same : f.first ≡ p.kinds = empty f.first (f.more ++ rest) e ∙ sym none in
      comes_there p i x (subst (λ (l : List Kind). PassesAfter image p.side p.pace (accesses_under i 0 l) (powered (start_under i p.power)) x) same f.passes) (points_of reached) holds a
    where
      empty : (xs ys : List Kind) → [] ≡ xs ++ ys → xs ≡ []
      empty [] ys e = refl
      empty (x ∷ xs) ys e = absurd (cc)

  pub knows_longer : (p : Plan) (k : Kind) (old new : List ReachedPoint) → Knows image p old → AddsPassed image (longer_plan p k) old new → HoldsPassed (runs_of image (longer_plan p k)) (points_of new) → Knows image (longer_plan p k) new
  knows_longer p k old new knows adds holds front rest parts i a x h = by_case (front_cases p.kinds k f.first (f.more ++ rest) whole)
    where
      f : PassesFirst (longer_plan p k) front i x
      f = passes_first (longer_plan p k) front i x h

      whole : p.kinds ++ k ∷ [] ≡ f.first ++ (f.more ++ rest)
      whole = parts ∙ (ap (λ (l : List Kind). l ++ rest) f.parts ∙ append_assoc f.first f.more rest)

      by_case : (f.first ≡ p.kinds ++ k ∷ []) ⊎ ((more : List Kind) × (p.kinds ≡ f.first ++ more) × (f.more ++ rest ≡ more ++ k ∷ [])) → Contains (points_of new) x
      by_case (inl e) =
          comes_there (longer_plan p k) i x (subst (λ (l : List Kind). PassesAfter image p.side p.pace (accesses_under i 0 l) (powered (start_under i p.power)) x) e f.passes) (points_of new) holds a
      by_case (inr (more, e, g)) = kept image (longer_plan p k) old new adds x (knows f.first more e i a x (passes_there p f.first i x f.passes))

  -- a held run that stops before the last access stops so without it

  stops_shorter : (grow : DialoguesGrowAtTheEnd) (p : Plan) (k : Kind) (i : Assignment) (end : Run)
      → StopsBefore image p.pace (accesses_under i 0 (p.kinds ++ k ∷ [])) (powered (start_under i p.power)) end
      → EndsAs image p.pace true (dialogue_under p.kinds i p.power) end
  stops_shorter grow p k i end s =
      laws.stop_shorter image p.pace (start_under i p.power) (accesses_under i 0 p.kinds) (access_under i (length p.kinds) k) end
      (subst (λ (l : List Access). StopsBefore image p.pace l (powered (start_under i p.power)) end) (grow p.kinds k i) s)

  -- an overrun is kept

  keeps_first : (p : Plan) → p.kinds ≡ [] → (o : Option Talk) → ((i : Assignment) → IsAssignment i → Overruns image (dialogue_under p.kinds i p.power) p.pace → o ≡ None → ⊥) → KeepsRight image p o → KeepsOverrun image p o
  keeps_first p none (Some d) never right = right
  keeps_first p none None never right = λ front rest parts i a ends. never i a (subst (λ (l : List Kind). Overruns image (dialogue_under l i p.power) p.pace) (empty front rest (sym none ∙ parts) ∙ sym none) ends) refl
    where
      empty : (xs ys : List Kind) → [] ≡ xs ++ ys → xs ≡ []
      empty [] ys e = refl
      empty (x ∷ xs) ys e = absurd (cc)

  keeps_longer : (p : Plan) (k : Kind) (old o : Option Talk) → ((i : Assignment) → IsAssignment i → Overruns image (dialogue_under (p.kinds ++ k ∷ []) i p.power) p.pace → o ≡ None → Overruns image (dialogue_under p.kinds i p.power) p.pace)
      → KeepsOverrun image p old → KeepsOlder old o → KeepsRight image (longer_plan p k) o → KeepsOverrun image (longer_plan p k) o
  keeps_longer p k old (Some d) back keeps older right = right
  keeps_longer p k (Some d) None back keeps older right = absurd (let e = older in cc)
  keeps_longer p k None None back keeps older right = λ front rest parts i a ends. by_case front rest i a ends (front_cases p.kinds k front rest parts)
    where
      by_case : (front rest : List Kind) → (i : Assignment) → IsAssignment i → Overruns image (dialogue_under front i p.power) p.pace
          → (front ≡ p.kinds ++ k ∷ []) ⊎ ((more : List Kind) × (p.kinds ≡ front ++ more) × (rest ≡ more ++ k ∷ [])) → ⊥
      by_case front rest i a ends (inl e) =
          keeps p.kinds [] (sym (append-nil p.kinds)) i a (back i a (subst (λ (l : List Kind). Overruns image (dialogue_under l i p.power) p.pace) e ends) refl)
      by_case front rest i a ends (inr (more, e, g)) = keeps front more e i a ends

  none_kept : (o : Option Talk) → o ≡ None → is_some o ≡ false
  none_kept o e = ap is_some e

  -- what was explored of no transfers is a layer
  pub first_layer : (g : Terms) (reached : List ReachedPoint) (l : Requests) → 1 ≤ l.plan.pace → l.plan.kinds ≡ [] → IsExplored g image reached l → IsLayer g image l
  first_layer g reached l paced none x = record {
    paced = paced;
    few = subst (λ (ks : List Kind). length ks ≤ 16) (sym none) (omega arith);
    each = x.each;
    apart = x.apart;
    requests = x.requests;
    breaches = λ i a at ends. nothing i (Breach at) (breach_before laws (runs_of image l.plan) (is_some l.overrun) x.stops i a at ends);
    overrun = keeps_first l.plan none l.overrun (λ i a ends e. nothing i Overrun (overrun_before laws (runs_of image l.plan) (is_some l.overrun) x.stops (none_kept l.overrun e) i a ends)) x.overrun;
  }
    where
      nothing : (i : Assignment) (end : Run) → StopsBefore image l.plan.pace (accesses_under i 0 l.plan.kinds) (powered (start_under i l.plan.power)) end → ⊥
      nothing i end s = subst (λ (ks : List Kind). StopsBefore image l.plan.pace (accesses_under i 0 ks) (powered (start_under i l.plan.power)) end) none s

  -- what was explored of one transfer more is a layer
  pub longer_layer : (grow : DialoguesGrowAtTheEnd) (f g : Terms) (k : Kind) (reached : List ReachedPoint) (old l : Requests) → IsLayer f image old → length old.plan.kinds < 16 → l.plan ≡ longer_plan old.plan k
      → KeepsOlder old.overrun l.overrun → IsExplored g image reached l → IsLayer g image l
  longer_layer grow f g k reached old l before short same older x = record {
    paced = subst (λ (p : Plan). 1 ≤ p.pace) (sym same) before.paced;
    few = subst (λ (p : Plan). length p.kinds ≤ 16) (sym same) few;
    each = x.each;
    apart = x.apart;
    requests = x.requests;
    breaches = λ i a at ends. before.breaches i a at (shorter i (Breach at) (breach_before laws (runs_of image l.plan) (is_some l.overrun) x.stops i a at ends));
    overrun = subst (λ (p : Plan). KeepsOverrun image p l.overrun) (sym same) (keeps_longer old.plan k old.overrun l.overrun back before.overrun older (subst (λ (p : Plan). KeepsRight image p l.overrun) same x.overrun));
  }
    where
      few : length (old.plan.kinds ++ k ∷ []) ≤ 16
      few = let n = length_push old.plan.kinds k in omega (arith, short)

      shorter : (i : Assignment) (end : Run) → StopsBefore image l.plan.pace (accesses_under i 0 l.plan.kinds) (powered (start_under i l.plan.power)) end → EndsAs image old.plan.pace true (dialogue_under old.plan.kinds i old.plan.power) end
      shorter i end s = stops_shorter grow old.plan k i end (subst (λ (p : Plan). StopsBefore image p.pace (accesses_under i 0 p.kinds) (powered (start_under i p.power)) end) same s)

      back : (i : Assignment) → IsAssignment i → Overruns image (dialogue_under (old.plan.kinds ++ k ∷ []) i old.plan.power) old.plan.pace → l.overrun ≡ None → Overruns image (dialogue_under old.plan.kinds i old.plan.power) old.plan.pace
      back i a ends e =
          shorter i Overrun (overrun_before laws (runs_of image l.plan) (is_some l.overrun) x.stops (none_kept l.overrun e) i a (subst (λ (p : Plan). Overruns image (dialogue_under p.kinds i p.power) p.pace) (sym same) ends))
