-- Choices as nodes are added, and as they are made of their two halves.
use Rattle.std.proofs.Common.{◌≡◌, ℕ, Bool, true, false, cond, List, refl, sym, ap, ◌∙◌, arith}
use Rattle.wb_diagram.specs.declared.nodes.Diagram.{Diagram}
use Rattle.wb_diagram.specs.declared.nodes.Choice.{Choice}
use Rattle.wb_diagram.specs.declared.memo.Entry.{Entry}
use Rattle.wb_diagram.specs.Forest.{Forest}
use Rattle.wb_diagram.specs.Values.{value}
use Rattle.wb_diagram.specs.Growth.{Grown, IsJoined}
use Rattle.wb_diagram.specs.Choices.{choice_value, HasChoice, IsOver, IsFirst, IsChosen, IsBranch, IsHalf, IsMemo}

infixl 10 ◌▸◌
pub ◌▸◌ : {f g h : Forest} → Grown f g → Grown g h → Grown f h
◌▸◌ a b = record {
  limit = b.limit ∙ a.limit;
  longer = omega (arith, a.longer, b.longer);
  nodes = λ k l. b.nodes k (omega (arith, l, a.longer)) ∙ a.nodes k l;
  diagrams = λ d l. b.diagrams d (a.diagrams d l);
  levels = λ d l. b.levels d (a.diagrams d l) ∙ a.levels d l;
  values = λ v d l. b.values v d (a.diagrams d l) ∙ a.values v d l;
}

pub HasChoice-kept : (f g : Forest) → Grown f g → (c : Choice) → HasChoice f c → HasChoice g c
HasChoice-kept f g k c h = record { test = k.diagrams c.test h.test; yes = k.diagrams c.yes h.yes; no = k.diagrams c.no h.no }

choose-same : (a a2 b b2 c c2 : Bool) → a ≡ a2 → b ≡ b2 → c ≡ c2 → cond a b c ≡ cond a2 b2 c2
choose-same a a2 b b2 c c2 p q r = cc

pub choice_value-kept : (f g : Forest) → Grown f g → (v : ℕ → Bool) (c : Choice) → HasChoice f c → choice_value v g c ≡ choice_value v f c
choice_value-kept f g k v c h = choose-same _ _ _ _ _ _ (k.values v c.test h.test) (k.values v c.yes h.yes) (k.values v c.no h.no)

pub IsOver-kept : (f g : Forest) → Grown f g → (x : ℕ) (c : Choice) → HasChoice f c → IsOver f x c → IsOver g x c
IsOver-kept f g k x c h o = record {
  test = omega (arith, o.test, k.levels c.test h.test);
  yes = omega (arith, o.yes, k.levels c.yes h.yes);
  no = omega (arith, o.no, k.levels c.no h.no);
}

pub IsOver-before : (f g : Forest) → Grown f g → (x : ℕ) (c : Choice) → HasChoice f c → IsOver g x c → IsOver f x c
IsOver-before f g k x c h o = record {
  test = omega (arith, o.test, k.levels c.test h.test);
  yes = omega (arith, o.yes, k.levels c.yes h.yes);
  no = omega (arith, o.no, k.levels c.no h.no);
}

pub IsFirst-kept : (f g : Forest) → Grown f g → (c : Choice) (x : ℕ) → HasChoice f c → IsFirst f c x → IsFirst g c x
IsFirst-kept f g k c x h i = record {
  test = omega (arith, i.test, k.levels c.test h.test);
  yes = omega (arith, i.yes, k.levels c.yes h.yes);
  no = omega (arith, i.no, k.levels c.no h.no);
  last = λ y o. i.last y (IsOver-before f g k y c h o);
}

pub IsChosen-kept : (f g : Forest) → Grown f g → (c : Choice) (d : Diagram) → HasChoice f c → IsChosen f c d → IsChosen g c d
IsChosen-kept f g k c d h i = record {
  there = k.diagrams d i.there;
  value = λ v. k.values v d i.there ∙ i.value v ∙ sym (choice_value-kept f g k v c h);
  over = λ x o. let e = k.levels d i.there in let l = i.over x (IsOver-before f g k x c h o) in omega (arith, e, l);
}

pub IsMemo-kept : (f g : Forest) → Grown f g → (es : List Entry) → IsMemo f es → IsMemo g es
IsMemo-kept f g k es m = record {
  some = m.some;
  right = λ j e at. let r = m.right j e at in record {
    choice = HasChoice-kept f g k e.choice r.choice;
    result = IsChosen-kept f g k e.choice e.result r.choice r.result;
  };
}

pub IsHalf-kept : (f g : Forest) → Grown f g → (c : Choice) (x : ℕ) (side : Bool) (d : Diagram) → HasChoice f c → IsHalf f c x side d → IsHalf g c x side d
IsHalf-kept f g k c x side d h i = record {
  there = k.diagrams d i.there;
  value = λ v s. k.values v d i.there ∙ i.value v s ∙ sym (choice_value-kept f g k v c h);
  over = let e = k.levels d i.there in omega (arith, e, i.over);
}

-- the diagram of a branch of a choice is a half of the choice
pub IsHalf-chosen : (f g : Forest) → Grown f g → (c : Choice) (x : ℕ) (side : Bool) (b : Choice) (d : Diagram) → HasChoice f c → IsBranch f c x side b → IsChosen g b d → IsHalf g c x side d
IsHalf-chosen f g k c x side b d h branch i = record {
  there = i.there;
  value = λ v s. i.value v ∙ choice_value-kept f g k v b branch.there ∙ branch.value v s ∙ sym (choice_value-kept f g k v c h);
  over = i.over x (IsOver-kept f g k x b branch.there branch.over);
}

-- two halves joined are the choice
pub IsChosen-joined : (f g : Forest) → Grown f g → (c : Choice) (x : ℕ) (low high d : Diagram) → HasChoice f c → IsFirst f c x →
    IsHalf f c x false low → IsHalf f c x true high → IsJoined f g x low high d → IsChosen g c d
IsChosen-joined f g k c x low high d h first at_low at_high j = record {
  there = j.there;
  value = λ v. j.value v ∙ by v (v x) refl ∙ sym (choice_value-kept f g k v c h);
  over = λ y o. j.over y (first.last y (IsOver-before f g k y c h o));
} where
  by : (v : ℕ → Bool) (b : Bool) → v x ≡ b → cond (v x) (value v f high) (value v f low) ≡ choice_value v f c
  by v true e = ap (λ (b : Bool). cond b (value v f high) (value v f low)) e ∙ at_high.value v e
  by v false e = ap (λ (b : Bool). cond b (value v f high) (value v f low)) e ∙ at_low.value v e
