-- Each diagram but a constant has both values, since its variables come in order and its children differ.
use Rattle.std.proofs.Common.{◌≡◌, ◌≢◌, ℕ, ◌<◌, zero, suc, Bool, true, false, true≢false, not, cond, Option, None, Some, slice_get, refl, sym, ap, ◌∙◌, subst, arith, eqb}
use Rattle.std.proofs.lemmas.Option.{slice_get_within, slice_get-get_or}
use Rattle.wb_diagram.specs.declared.nodes.Diagram.{Diagram}
use Rattle.wb_diagram.specs.declared.nodes.Node.{Node}
use Rattle.wb_diagram.specs.declared.nodes.Node.TheVariants.{Leaf, Split}
use Rattle.wb_diagram.specs.declared.nodes.Choice.{Choice}
use Rattle.wb_diagram.specs.Forest.{Forest, IsForest, IsSplit, HasDiagram, level, level_of, leaf_number}
use Rattle.wb_diagram.specs.Values.{value, IsLeaf, Reaches}
use Rattle.wb_diagram.specs.Choices.{choice_value, HasChoice, IsOver, IsBranch, IsChosen, IsAnswer}
use Rattle.wb_diagram.proofs.Values.{value-is}

pub leaf-at : (f : Forest) → IsForest f → (b : Bool) → slice_get f.nodes (leaf_number b) ≡ Some (Leaf b)
leaf-at f is true = is.leaf_true
leaf-at f is false = is.leaf_false

pub IsLeaf-at : (f : Forest) → IsForest f → (b : Bool) (d : Diagram) → d.number ≡ leaf_number b → IsLeaf f b d
IsLeaf-at f is b d e =
    let at : slice_get f.nodes d.number ≡ Some (Leaf b) = subst (λ (k : ℕ). slice_get f.nodes k ≡ Some (Leaf b)) (sym e) (leaf-at f is b) in
    record {
      there = slice_get_within f.nodes d.number (Leaf b) at;
      value = λ v. value-is f is v d (Leaf b) at;
      level = ap level_of at;
    }

-- the assignment with another value of a variable
abbrev pub with_variable : (ℕ → Bool) → ℕ → Bool → ℕ → Bool
with_variable v x b y = cond (eqb y x) b (v y)

pub with_variable-same : (v : ℕ → Bool) (x : ℕ) (b : Bool) → with_variable v x b x ≡ b
with_variable-same v x b = grind arith

pub with_variable-other : (v : ℕ → Bool) (x : ℕ) (b : Bool) (y : ℕ) → y ≢ x → with_variable v x b y ≡ v y
with_variable-other v x b y h = grind arith

node_of : (f : Forest) (d : Diagram) → HasDiagram f d → (n : Node) × (slice_get f.nodes d.number ≡ Some n)
node_of f d h = by (slice_get f.nodes d.number) refl where
  by : (o : Option Node) → slice_get f.nodes d.number ≡ o → (n : Node) × (slice_get f.nodes d.number ≡ Some n)
  by (Some n) e = (n, e)
  by None e = let g = slice_get-get_or f.nodes d.number (Leaf true) h in cc

-- a variable before all of a diagram's changes nothing
pub value-independent : (f : Forest) → IsForest f → (v : ℕ → Bool) (x : ℕ) (b : Bool) (m : ℕ) (d : Diagram) → d.number < m → HasDiagram f d → x < level f d →
    value (with_variable v x b) f d ≡ value v f d
value-independent f is v x b zero d below there over = absurd (omega (arith, below))
value-independent f is v x b (suc m) d below there over = by (node_of f d there).0 (node_of f d there).1
    (λ c l h o. value-independent f is v x b m c (omega (arith, l, below)) h o) where
      same : (p p2 q q2 r r2 : Bool) → p ≡ p2 → q ≡ q2 → r ≡ r2 → cond p q r ≡ cond p2 q2 r2
      same p p2 q q2 r r2 a b c = cc

      by : (n : Node) → slice_get f.nodes d.number ≡ Some n →
          ((c : Diagram) → c.number < d.number → HasDiagram f c → x < level f c → value (with_variable v x b) f c ≡ value v f c) →
          value (with_variable v x b) f d ≡ value v f d
      by (Leaf c) at ih = value-is f is (with_variable v x b) d (Leaf c) at ∙ sym (value-is f is v d (Leaf c) at)
      by (Split y low high) at ih =
          let p = is.placed d.number (Split y low high) at in
          let e : level f d ≡ y = ap level_of at in
          let first : x < y = omega (arith, e, over) in
          let other : with_variable v x b y ≡ v y = with_variable-other v x b y (λ q. absurd (omega (arith, q, first))) in
          let a = ih low p.low_below (omega (arith, p.low_below, there)) (omega (arith, first, p.over_low)) in
          let c = ih high p.high_below (omega (arith, p.high_below, there)) (omega (arith, first, p.over_high)) in
          let one = value-is f is (with_variable v x b) d (Split y low high) at in
          let two = value-is f is v d (Split y low high) at in
          one ∙ same _ _ _ _ _ _ other c a ∙ sym two

pub independent : (f : Forest) → IsForest f → (v : ℕ → Bool) (x : ℕ) (b : Bool) (d : Diagram) → HasDiagram f d → x < level f d →
    value (with_variable v x b) f d ≡ value v f d
independent f is v x b d there over = value-independent f is v x b (suc d.number) d (omega arith) there over

-- a diagram that isn't the other constant has this value somewhere
reaches_below : (f : Forest) → IsForest f → (b : Bool) (m : ℕ) (d : Diagram) → d.number < m → HasDiagram f d → d.number ≢ leaf_number (not b) → Reaches f b d
reaches_below f is b zero d below there h = absurd (omega (arith, below))
reaches_below f is b (suc m) d below there h = by (node_of f d there).0 (node_of f d there).1
    (λ c l t e. reaches_below f is b m c (omega (arith, l, below)) t e) where
      leaf : (c : Bool) → d.number ≡ leaf_number c → d.number ≢ leaf_number (not b) → c ≡ b
      leaf c e h2 = two c b e h2 where
        two : (c b : Bool) → d.number ≡ leaf_number c → d.number ≢ leaf_number (not b) → c ≡ b
        two true true e h2 = refl
        two false false e h2 = refl
        two true false e h2 = absurd (h2 e)
        two false true e h2 = absurd (h2 e)

      to : (x : ℕ) (low high c : Diagram) (side : Bool) → slice_get f.nodes d.number ≡ Some (Split x low high) →
          cond side high low ≡ c → x < level f c → HasDiagram f c → Reaches f b c → Reaches f b d
      to x low high c side at is_c over t r =
          let w = with_variable r.0 x side in
          let set : w x ≡ side = with_variable-same r.0 x side in
          let stays : value w f c ≡ b = independent f is r.0 x side c t over ∙ r.1 in
          let here : value w f d ≡ cond (w x) (value w f high) (value w f low) = value-is f is w d (Split x low high) at in
          (w, here ∙ pick (w x) side set (value w f) ∙ ap (value w f) is_c ∙ stays) where
            pick : (s side : Bool) → s ≡ side → (of : Diagram → Bool) → cond s (of high) (of low) ≡ of (cond side high low)
            pick true true e of = refl
            pick false false e of = refl
            pick true false e of = absurd (true≢false e)
            pick false true e of = absurd (true≢false (sym e))

      by : (n : Node) → slice_get f.nodes d.number ≡ Some n →
          ((c : Diagram) → c.number < d.number → HasDiagram f c → c.number ≢ leaf_number (not b) → Reaches f b c) → Reaches f b d
      by (Leaf c) at ih =
          let e = is.placed d.number (Leaf c) at in
          ((λ x. true), value-is f is (λ x. true) d (Leaf c) at ∙ leaf c e h)
      by (Split x low high) at ih = dec (eqb low.number (leaf_number (not b))) refl where
        p : IsSplit f d.number x low high
        p = is.placed d.number (Split x low high) at

        dec : (t : Bool) → eqb low.number (leaf_number (not b)) ≡ t → Reaches f b d
        dec false e =
            let differs : low.number ≢ leaf_number (not b) = grind arith in
            let there_low : HasDiagram f low = omega (arith, p.low_below, there) in
            to x low high low false at refl p.over_low there_low (ih low p.low_below there_low differs)
        dec true e =
            let equal : low.number ≡ leaf_number (not b) = grind arith in
            let apart = p.apart in
            let differs : high.number ≢ leaf_number (not b) = λ q. apart (equal ∙ sym q) in
            let there_high : HasDiagram f high = omega (arith, p.high_below, there) in
            to x low high high true at refl p.over_high there_high (ih high p.high_below there_high differs)

pub reaches : (f : Forest) → IsForest f → (b : Bool) (d : Diagram) → HasDiagram f d → d.number ≢ leaf_number (not b) → Reaches f b d
reaches f is b d there h = reaches_below f is b (suc d.number) d (omega arith) there h

pub reaches-not : (f : Forest) → IsForest f → (b : Bool) (d : Diagram) → HasDiagram f d → d.number ≢ leaf_number b → Reaches f (not b) d
reaches-not f is true d there h = reaches f is false d there h
reaches-not f is false d there h = reaches f is true d there h

-- a diagram that comes before the leaves is none
pub no_leaf : (f : Forest) → IsForest f → (b : Bool) (d : Diagram) → level f d < 4294967295 → d.number ≢ leaf_number b
no_leaf f is b d h e = let l = (IsLeaf-at f is b d e).level in absurd (omega (arith, l, h))

-- where an arm of a choice is the constant that isn't wanted, and the test is none, the choice has that value
pub answer-yes : (f : Forest) → IsForest f → (c : Choice) (wanted : Bool) → HasChoice f c → level f c.test < 4294967295 → IsLeaf f (not wanted) c.yes → IsAnswer f c wanted false
answer-yes f is c wanted h l leaf =
    let r = reaches f is true c.test h.test (no_leaf f is false c.test l) in
    (r.0, ap (λ (b : Bool). cond b (value r.0 f c.yes) (value r.0 f c.no)) r.1 ∙ leaf.value r.0)

pub answer-no : (f : Forest) → IsForest f → (c : Choice) (wanted : Bool) → HasChoice f c → level f c.test < 4294967295 → IsLeaf f (not wanted) c.no → IsAnswer f c wanted false
answer-no f is c wanted h l leaf =
    let r = reaches f is false c.test h.test (no_leaf f is true c.test l) in
    (r.0, ap (λ (b : Bool). cond b (value r.0 f c.yes) (value r.0 f c.no)) r.1 ∙ leaf.value r.0)

-- a branch that fails somewhere shows where the choice fails
pub answer-branch : (f : Forest) → IsForest f → (c : Choice) (wanted : Bool) (x : ℕ) (side : Bool) (b : Choice) → IsBranch f c x side b → IsAnswer f b wanted false → IsAnswer f c wanted false
answer-branch f is c wanted x side b branch fails =
    let v = fails.0 in
    let w = with_variable v x side in
    let test = independent f is v x side b.test branch.there.test branch.over.test in
    let yes = independent f is v x side b.yes branch.there.yes branch.over.yes in
    let no = independent f is v x side b.no branch.there.no branch.over.no in
    (w, sym (branch.value w (with_variable-same v x side)) ∙ alike _ _ _ _ _ _ test yes no ∙ fails.1) where
      alike : (p p2 q q2 r r2 : Bool) → p ≡ p2 → q ≡ q2 → r ≡ r2 → cond p q r ≡ cond p2 q2 r2
      alike p p2 q q2 r r2 a b c = cc

-- a choice whose two branches have one value has it
pub answer-both : (f : Forest) (c : Choice) (wanted : Bool) (x : ℕ) (low high : Choice) → IsBranch f c x false low → IsBranch f c x true high →
    IsAnswer f low wanted true → IsAnswer f high wanted true → IsAnswer f c wanted true
answer-both f c wanted x low high at_low at_high a b v = by (v x) refl where
  by : (s : Bool) → v x ≡ s → choice_value v f c ≡ wanted
  by true e = sym (at_high.value v e) ∙ b v
  by false e = sym (at_low.value v e) ∙ a v

-- a constant is the diagram of a choice that has its value everywhere
pub IsChosen-leaf : (f : Forest) (c : Choice) (wanted : Bool) (d : Diagram) → IsLeaf f wanted d → ((x : ℕ) → IsOver f x c → x < 4294967295) → IsAnswer f c wanted true → IsChosen f c d
IsChosen-leaf f c wanted d leaf over a = record {
  there = leaf.there;
  value = λ v. leaf.value v ∙ sym (a v);
  over = λ x o. let l = leaf.level in let h = over x o in omega (arith, l, h);
}

-- the answer that a choice's diagram gives
pub answer-leaf : (f : Forest) (c : Choice) (wanted : Bool) (d : Diagram) → IsChosen f c d → IsLeaf f wanted d → IsAnswer f c wanted true
answer-leaf f c wanted d i leaf v = sym (i.value v) ∙ leaf.value v

pub answer-other : (f : Forest) (c : Choice) (wanted : Bool) (d : Diagram) → IsChosen f c d → Reaches f (not wanted) d → IsAnswer f c wanted false
answer-other f c wanted d i r = (r.0, sym (i.value r.0) ∙ r.1)
