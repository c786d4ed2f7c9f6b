-- The value of a node is that of its kind, of the values of its children; it stays when nodes are added.
use Rattle.std.proofs.Common.{◌≡◌, ℕ, ◌+◌, ◌<◌, zero, suc, List, [], ◌∷◌, ◌++◌, Some, length, slice_get, get_or, take, drop, refl, sym, ap, ◌∙◌, subst, arith, append_assoc, length-append}
use Rattle.std.specs.Prelude.{fold}
use Rattle.std.proofs.lemmas.List.{get_or_append_left, get_or_push, length-take}
use Rattle.std.proofs.lemmas.List.Sums.{fold-append}
use Rattle.std.proofs.lemmas.Option.{slice_get_within}
use Rattle.wb_term.specs.declared.nodes.WordNode.TheVariants.{Const, Byte, Cell, Not, And, Or, Xor, Sum, Diff, Ite, Shl, Shr, High, Low, Look}
use Rattle.wb_term.specs.declared.nodes.BitNode.TheVariants.{Known, Pick, NotB, AndB, OrB, XorB, IteB, Same, Carry, Borrow}
use Rattle.wb_term.specs.declared.nodes.Node.{Node}
use Rattle.wb_term.specs.declared.nodes.Node.TheVariants.{Word, Bit}
use Rattle.wb_term.specs.Nodes.{children, Each}
use Rattle.wb_term.specs.Inputs.{Assignment}
use Rattle.wb_term.specs.Terms.{Terms, Tables}
use Rattle.wb_term.specs.Values.{node_value, with_value, values, value}
use Rattle.wb_term.proofs.Placed.{Each-map}

-- the value of a node depends on those of its children alone
pub node_value-same : (t : Tables) (i : Assignment) (f g : ℕ → ℕ) (n : Node) → Each (λ c. f c ≡ g c) (children n) → node_value t i f n ≡ node_value t i g n
node_value-same t i f g (Word (Const v)) e = refl
node_value-same t i f g (Word (Byte place)) e = refl
node_value-same t i f g (Word (Cell place)) e = refl
node_value-same t i f g (Word (Not x)) e = let a = e.0 in cc
node_value-same t i f g (Word (And x y)) e = let a = e.0 in let b = e.1.0 in cc
node_value-same t i f g (Word (Or x y)) e = let a = e.0 in let b = e.1.0 in cc
node_value-same t i f g (Word (Xor x y)) e = let a = e.0 in let b = e.1.0 in cc
node_value-same t i f g (Word (Sum x y c)) e = let a = e.0 in let b = e.1.0 in let d = e.1.1.0 in cc
node_value-same t i f g (Word (Diff x y c)) e = let a = e.0 in let b = e.1.0 in let d = e.1.1.0 in cc
node_value-same t i f g (Word (Ite c x y)) e = let a = e.0 in let b = e.1.0 in let d = e.1.1.0 in cc
node_value-same t i f g (Word (Shl x m)) e = let a = e.0 in cc
node_value-same t i f g (Word (Shr x m)) e = let a = e.0 in cc
node_value-same t i f g (Word (High x y)) e = let a = e.0 in let b = e.1.0 in cc
node_value-same t i f g (Word (Low x y)) e = let a = e.0 in let b = e.1.0 in cc
node_value-same t i f g (Word (Look s x)) e = let a = e.0 in cc
node_value-same t i f g (Bit (Known v)) e = refl
node_value-same t i f g (Bit (Pick x m)) e = let a = e.0 in cc
node_value-same t i f g (Bit (NotB c)) e = let a = e.0 in cc
node_value-same t i f g (Bit (AndB c d)) e = let a = e.0 in let b = e.1.0 in cc
node_value-same t i f g (Bit (OrB c d)) e = let a = e.0 in let b = e.1.0 in cc
node_value-same t i f g (Bit (XorB c d)) e = let a = e.0 in let b = e.1.0 in cc
node_value-same t i f g (Bit (IteB c d h)) e = let a = e.0 in let b = e.1.0 in let k = e.1.1.0 in cc
node_value-same t i f g (Bit (Same x y)) e = let a = e.0 in let b = e.1.0 in cc
node_value-same t i f g (Bit (Carry x y c)) e = let a = e.0 in let b = e.1.0 in let d = e.1.1.0 in cc
node_value-same t i f g (Bit (Borrow x y c)) e = let a = e.0 in let b = e.1.0 in let d = e.1.1.0 in cc

length-values_after : (t : Tables) (i : Assignment) (done : List ℕ) (ns : List Node) → length (fold (with_value t i) done ns) ≡ length done + length ns
length-values_after t i done [] = omega arith
length-values_after t i done (n ∷ ns) =
    let e = length-values_after t i (with_value t i done n) ns in
    let f = length-append done (node_value t i (λ k. get_or done k 0) n ∷ []) in
    omega (arith, e, f)

pub length-values : (t : Tables) (i : Assignment) (ns : List Node) → length (values t i ns) ≡ length ns
unfolding values
length-values t i ns = let e = length-values_after t i [] ns in omega (arith, e)

pub values-push : (t : Tables) (i : Assignment) (ns : List Node) (n : Node) →
    values t i (ns ++ n ∷ []) ≡ values t i ns ++ node_value t i (λ k. get_or (values t i ns) k 0) n ∷ []
unfolding values
values-push t i ns n = fold-append (with_value t i) [] ns (n ∷ [])

kept_from : (t : Tables) (i : Assignment) (k : ℕ) (done : List ℕ) (ms : List Node) → k < length done → get_or (fold (with_value t i) done ms) k 0 ≡ get_or done k 0
kept_from t i k done [] h = refl
kept_from t i k done (n ∷ ms) h =
    let v = node_value t i (λ j. get_or done j 0) n in
    let longer : k < length (done ++ v ∷ []) = omega (arith, length-append done (v ∷ [])) in
    kept_from t i k (done ++ v ∷ []) ms longer ∙ get_or_append_left done (v ∷ []) 0 k h

-- the values of the first nodes stay when others are added
pub values-append : (t : Tables) (i : Assignment) (ns ms : List Node) (k : ℕ) → k < length ns → get_or (values t i (ns ++ ms)) k 0 ≡ get_or (values t i ns) k 0
unfolding values
values-append t i ns ms k h =
    let l : k < length (values t i ns) = omega (arith, length-values t i ns) in
    let e : get_or (fold (with_value t i) [] (ns ++ ms)) k 0 ≡ get_or (fold (with_value t i) (fold (with_value t i) [] ns) ms) k 0 =
    ap (λ (vs : List ℕ). get_or vs k 0) (fold-append (with_value t i) [] ns ms) in
    e ∙ kept_from t i k (values t i ns) ms l

-- the value of the node that comes after a list's
pub values-next : (t : Tables) (i : Assignment) (ns ms : List Node) (n : Node) →
    get_or (values t i (ns ++ n ∷ ms)) (length ns) 0 ≡ node_value t i (λ k. get_or (values t i ns) k 0) n
values-next t i ns ms n =
    let e : ns ++ n ∷ ms ≡ (ns ++ n ∷ []) ++ ms = sym (append_assoc ns (n ∷ []) ms) in
    let h : length ns < length (ns ++ n ∷ []) = omega (arith, length-append ns (n ∷ [])) in
    let kept = values-append t i (ns ++ n ∷ []) ms (length ns) h in
    let pushed : get_or (values t i (ns ++ n ∷ [])) (length ns) 0 ≡ node_value t i (λ k. get_or (values t i ns) k 0) n =
    ap (λ (vs : List ℕ). get_or vs (length ns) 0) (values-push t i ns n)
    ∙ get_or_push (values t i ns) (node_value t i (λ k. get_or (values t i ns) k 0) n) 0 (length ns) (length-values t i ns) in
    rw e (kept ∙ pushed)

split_at : (ns : List Node) (k : ℕ) (n : Node) → slice_get ns k ≡ Some n → ns ≡ take k ns ++ n ∷ drop (suc k) ns
split_at [] k n h = cc
split_at (x ∷ xs) zero n h = cc
split_at (x ∷ xs) (suc k) n h = ap (λ (ys : List Node). x ∷ ys) (split_at xs k n h)

-- The value of a node is that of its kind, of the values of its children.
pub value-at : (i : Assignment) (g : Terms) (k : ℕ) (n : Node) → slice_get g.nodes k ≡ Some n → Each (λ c. c < k) (children n) →
    value i g k ≡ node_value g.tables i (value i g) n
unfolding value
value-at i g k n h below =
    let t = g.tables in
    let front = take k g.nodes in
    let rest = drop (suc k) g.nodes in
    let e : g.nodes ≡ front ++ n ∷ rest = split_at g.nodes k n h in
    let within = slice_get_within g.nodes k n h in
    let len : length front ≡ k = omega (arith, length-take k g.nodes) in
    let here : get_or (values t i g.nodes) k 0 ≡ node_value t i (λ c. get_or (values t i front) c 0) n =
    subst (λ (ns : List Node). get_or (values t i ns) k 0 ≡ node_value t i (λ c. get_or (values t i front) c 0) n) (sym e)
    (subst (λ (m : ℕ). get_or (values t i (front ++ n ∷ rest)) m 0 ≡ node_value t i (λ c. get_or (values t i front) c 0) n) len
    (values-next t i front rest n)) in
    let stays : (c : ℕ) → c < k → get_or (values t i front) c 0 ≡ get_or (values t i g.nodes) c 0 =
    λ c l. subst (λ (ns : List Node). get_or (values t i front) c 0 ≡ get_or (values t i ns) c 0) (sym e)
    (sym (values-append t i front (n ∷ rest) c (omega (arith, len, l)))) in
    here ∙ node_value-same t i _ _ n (Each-map _ _ stays (children n) below)
