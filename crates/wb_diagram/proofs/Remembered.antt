-- The entries of the memo.
use Rattle.std.proofs.Common.{◌≡◌, ℕ, ◌<◌, zero, suc, Bool, true, false, cond, List, [], ◌∷◌, Some, length, slice_get, refl, sym, ap, ◌∙◌, subst, arith, ◌⊎◌, inl, inr}
use Rattle.std.specs.Prelude.{slice_set, slice_index_or, replicate}
use Rattle.std.proofs.lemmas.Grind.{common_steps}
use Rattle.std.proofs.lemmas.Option.{slice_get-get_or}
use Rattle.std.proofs.lemmas.List.{length-replicate}
use Rattle.wb_diagram.specs.declared.nodes.Diagram.{Diagram}
use Rattle.wb_diagram.specs.declared.nodes.Choice.{Choice}
use Rattle.wb_diagram.specs.declared.memo.Entry.{Entry}
use Rattle.wb_diagram.specs.contracts.nodes.ChoicePartialEq.TheImpl.{ghosts}
use Rattle.wb_diagram.specs.Forest.{Forest}
use Rattle.wb_diagram.specs.Values.{value, IsLeaf}
use Rattle.wb_diagram.specs.Choices.{IsEntry, IsMemo}

pub choice_eq-same : (a b : Choice) → ghosts.eq a b ≡ true → a ≡ b
choice_eq-same a b h = grind (arith, common_steps)

-- the entry at a place is right
pub entry-at : (f : Forest) (es : List Entry) (k : ℕ) (e : Entry) → IsMemo f es → k < length es → e ≡ slice_index_or es k e → IsEntry f e
entry-at f es k e m h at = m.right k e (slice_get-get_or es k e h ∙ ap Some (sym at))

set-cases : (es : List Entry) (i : ℕ) (e x : Entry) (k : ℕ) → slice_get (slice_set es i e) k ≡ Some x → (slice_get es k ≡ Some x) ⊎ (e ≡ x)
set-cases [] i e x k h = inl h
set-cases (y ∷ ys) zero e x zero h = inr cc
set-cases (y ∷ ys) zero e x (suc k) h = inl h
set-cases (y ∷ ys) (suc i) e x zero h = inl h
set-cases (y ∷ ys) (suc i) e x (suc k) h = set-cases ys i e x k h

set-length : (es : List Entry) (i : ℕ) (e : Entry) → length (slice_set es i e) ≡ length es
set-length [] i e = refl
set-length (y ∷ ys) zero e = refl
set-length (y ∷ ys) (suc i) e = ap suc (set-length ys i e)

pub IsMemo-set : (f : Forest) (es : List Entry) (i : ℕ) (e : Entry) → IsMemo f es → IsEntry f e → IsMemo f (slice_set es i e)
IsMemo-set f es i e m r = record {
  some = let l = set-length es i e in let s = m.some in omega (arith, l, s);
  right = λ k x at. elim (set-cases es i e x k at) [ inl old ↦ m.right k x old | inr new ↦ subst (IsEntry f) new r ];
}

replicated : (n : ℕ) (e x : Entry) (k : ℕ) → slice_get (replicate n e) k ≡ Some x → e ≡ x
replicated zero e x k h = cc
replicated (suc n) e x zero h = cc
replicated (suc n) e x (suc k) h = replicated n e x k h

pub IsMemo-empty : (f : Forest) (n : ℕ) (e : Entry) → 0 < n → IsEntry f e → IsMemo f (replicate n e)
IsMemo-empty f n e h r = record {
  some = let l = length-replicate n e in omega (arith, l, h);
  right = λ k x at. subst (IsEntry f) (replicated n e x k at) r;
}

-- the constant, chosen of itself
pub IsEntry-leaf : (f : Forest) (d : Diagram) → IsLeaf f false d → IsEntry f (record { choice = record { test = d; yes = d; no = d }; result = d })
IsEntry-leaf f d leaf = record {
  choice = record { test = leaf.there; yes = leaf.there; no = leaf.there };
  result = record { there = leaf.there; value = λ v. same (value v f d); over = λ x o. o.test };
} where
  same : (b : Bool) → b ≡ cond b b b
  same true = refl
  same false = refl
