-- Paths from a diagram to true.
use Rattle.std.proofs.Common.{◌≡◌, ◌≢◌, ℕ, ◌+◌, ◌≤◌, Bool, true, false, cond, List, [], ◌∷◌, ◌++◌, Some, slice_get, refl, sym, ap, ◌∙◌, subst, arith, eqb, append_assoc}
use Rattle.wb_diagram.specs.declared.nodes.Diagram.{Diagram}
use Rattle.wb_diagram.specs.declared.nodes.Turn.{Turn}
use Rattle.wb_diagram.specs.declared.nodes.Node.TheVariants.{Split}
use Rattle.wb_diagram.specs.Forest.{Forest, IsForest, IsSplit, HasDiagram, leaf_number, level, level_of}
use Rattle.wb_diagram.specs.Values.{value}
use Rattle.wb_diagram.specs.Paths.{turn_at, IsPath, RisesFrom, PathsAreTrue, PathsRise}
use Rattle.wb_diagram.proofs.Values.{value-is}
use Rattle.wb_diagram.proofs.Reach.{IsLeaf-at}

pub paths-true : PathsAreTrue
paths-true f first d [] v is p follows = (IsLeaf-at f is true d p).value v
paths-true f first d (t ∷ ts) v is p follows =
    value-is f is v d (Split t.variable p.0 p.1) p.2
    ∙ ap (λ (b : Bool). cond b (value v f p.1) (value v f p.0)) follows.0
    ∙ sided t.side (value v f) p.1 p.0
    ∙ paths-true f first (cond t.side p.1 p.0) ts v is p.4 follows.1 where
      sided : (s : Bool) (of : Diagram → Bool) (high low : Diagram) → cond s (of high) (of low) ≡ of (cond s high low)
      sided true of high low = refl
      sided false of high low = refl

rise_from : (f : Forest) (first : Bool) (d : Diagram) (ts : List Turn) (least : ℕ) → IsForest f → least ≤ level f d → IsPath f first d ts → RisesFrom least ts
rise_from f first d [] least is h p = tt
rise_from f first d (t ∷ ts) least is h p =
    let split : IsSplit f d.number t.variable p.0 p.1 = is.placed d.number (Split t.variable p.0 p.1) p.2 in
    let e : level f d ≡ t.variable = ap level_of p.2 in
    (omega (arith, e, h), rise_from f first (cond t.side p.1 p.0) ts (t.variable + 1) is (over t.side split) p.4) where
      over : (s : Bool) → IsSplit f d.number t.variable p.0 p.1 → t.variable + 1 ≤ level f (cond s p.1 p.0)
      over true split = let o = split.over_high in omega (arith, o)
      over false split = let o = split.over_low in omega (arith, o)

pub paths-rise : PathsRise
paths-rise f first d ts is p = rise_from f first d ts 0 is (omega arith) p

-- the preferred turn doesn't lead to the constant false
pub turn-true : (f : Forest) (k x : ℕ) (first : Bool) (low high : Diagram) → IsSplit f k x low high → (cond (turn_at first low high) high low).number ≢ 0
turn-true f k x true low high split = by (eqb high.number 0) refl where
  by : (b : Bool) → eqb high.number 0 ≡ b → (cond (cond (eqb high.number 0) false true) high low).number ≢ 0
  by true e q = let apart = split.apart in let zero_high : high.number ≡ 0 = grind arith in
      let here : low.number ≡ 0 = subst (λ (b : Bool). (cond (cond b false true) high low).number ≡ 0) e q in apart (here ∙ sym zero_high)
  by false e q = let here : high.number ≡ 0 = subst (λ (b : Bool). (cond (cond b false true) high low).number ≡ 0) e q in
      let no : high.number ≢ 0 = grind arith in no here
turn-true f k x false low high split = by (eqb low.number 0) refl where
  by : (b : Bool) → eqb low.number 0 ≡ b → (cond (cond (eqb low.number 0) true false) high low).number ≢ 0
  by true e q = let apart = split.apart in let zero_low : low.number ≡ 0 = grind arith in
      let here : high.number ≡ 0 = subst (λ (b : Bool). (cond (cond b true false) high low).number ≡ 0) e q in apart (zero_low ∙ sym here)
  by false e q = let here : low.number ≡ 0 = subst (λ (b : Bool). (cond (cond b true false) high low).number ≡ 0) e q in
      let no : low.number ≢ 0 = grind arith in no here

-- what the turns so far leave: a path from here makes one from the start
unfoldable pub Leads : Forest → Bool → Diagram → Diagram → List Turn → Type 0
Leads f first d at turns = (ts : List Turn) → IsPath f first at ts → IsPath f first d (turns ++ ts)

pub Leads-more : (f : Forest) (first : Bool) (d at low high : Diagram) (turns : List Turn) (t : Turn) → Leads f first d at turns →
    slice_get f.nodes at.number ≡ Some (Split t.variable low high) → t.side ≡ turn_at first low high → Leads f first d (cond t.side high low) (turns ++ t ∷ [])
unfolding Leads
Leads-more f first d at low high turns t leads node side ts p =
    subst (IsPath f first d) (sym (append_assoc turns (t ∷ []) ts)) (leads (t ∷ ts) (low, high, node, side, p))

pub Leads-end : (f : Forest) (first : Bool) (d at : Diagram) (b : Bool) (turns : List Turn) → Leads f first d at turns → at.number ≡ leaf_number b → at.number ≢ 0 →
    IsPath f first d turns
unfolding Leads
Leads-end f first d at true turns leads leaf some = subst (IsPath f first d) (no_more turns) (leads [] leaf) where
  no_more : (xs : List Turn) → xs ++ [] ≡ xs
  no_more [] = refl
  no_more (x ∷ xs) = ap (λ (ys : List Turn). x ∷ ys) (no_more xs)
Leads-end f first d at false turns leads leaf some = absurd (some leaf)

pub Leads-start : (f : Forest) (first : Bool) (d : Diagram) (turns : List Turn) → turns ≡ [] → Leads f first d d turns
unfolding Leads
Leads-start f first d turns e ts p = subst (λ (xs : List Turn). IsPath f first d (xs ++ ts)) (sym e) p

-- what holds after one more turn
pub Leads-step : (f : Forest) (first : Bool) (d at next low high : Diagram) (x : ℕ) (side : Bool) (turns more : List Turn) → Leads f first d at turns →
    HasDiagram f at → slice_get f.nodes at.number ≡ Some (Split x low high) → IsSplit f at.number x low high → side ≡ turn_at first low high →
    next ≡ cond side high low → more ≡ turns ++ (record { variable = x; side = side }) ∷ [] →
    HasDiagram f next × (next.number ≢ 0) × Leads f first d next more
Leads-step f first d at next low high x side turns more leads there node split is_side is_next is_more = (
  subst (HasDiagram f) (sym is_next) (below side),
  subst (λ (c : Diagram). c.number ≢ 0) (sym is_next) (subst (λ (s : Bool). (cond s high low).number ≢ 0) (sym is_side) (turn-true f at.number x first low high split)),
  subst (λ (c : Diagram). Leads f first d c more) (sym is_next) (subst (λ (xs : List Turn). Leads f first d (cond side high low) xs) (sym is_more)
      (Leads-more f first d at low high turns (record { variable = x; side = side }) leads node is_side)),
) where
  below : (s : Bool) → HasDiagram f (cond s high low)
  below true = let l = split.high_below in omega (arith, l, there)
  below false = let l = split.low_below in omega (arith, l, there)
