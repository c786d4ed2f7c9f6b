-- The value of a node is that of its kind, of the values of its children; it stays when nodes are added.
use Rattle.std.proofs.Common.{◌≡◌, ℕ, ◌+◌, ◌<◌, zero, suc, Bool, false, List, [], ◌∷◌, ◌++◌, Some, length, slice_get, get_or, take, drop, refl, sym, ap, ◌∙◌, subst, arith, append_assoc, length-append}
use Rattle.std.specs.Prelude.{fold}
use Rattle.std.proofs.lemmas.List.{get_or_append_left, get_or_push, length-take}
use Rattle.std.proofs.lemmas.List.Sums.{fold-append}
use Rattle.std.proofs.lemmas.Option.{slice_get_within}
use Rattle.wb_diagram.specs.declared.nodes.Diagram.{Diagram}
use Rattle.wb_diagram.specs.declared.nodes.Node.{Node}
use Rattle.wb_diagram.specs.declared.nodes.Node.TheVariants.{Leaf, Split}
use Rattle.wb_diagram.specs.Forest.{Forest, IsForest}
use Rattle.wb_diagram.specs.Values.{node_value, with_value, values, value}

-- what holds of each child of a node
abbrev pub Children : (Diagram → Type 0) → Node → Type 0
Children P (Leaf b) = Unit {0}
Children P (Split x low high) = P low × P high

pub Children-map : (P Q : Diagram → Type 0) → ((d : Diagram) → P d → Q d) → (n : Node) → Children P n → Children Q n
Children-map P Q f (Leaf b) e = tt
Children-map P Q f (Split x low high) e = (f low e.0, f high e.1)

-- the value of a node depends on those of its children alone
pub node_value-same : (v : ℕ → Bool) (f g : Diagram → Bool) (n : Node) → Children (λ d. f d ≡ g d) n → node_value v f n ≡ node_value v g n
node_value-same v f g (Leaf b) e = refl
node_value-same v f g (Split x low high) e = let a = e.0 in let b = e.1 in cc

length-values_after : (v : ℕ → Bool) (done : List Bool) (ns : List Node) → length (fold (with_value v) done ns) ≡ length done + length ns
length-values_after v done [] = omega arith
length-values_after v done (n ∷ ns) =
    let e = length-values_after v (with_value v done n) ns in
    let f = length-append done (node_value v (λ d. get_or done d.number false) n ∷ []) in
    omega (arith, e, f)

pub length-values : (v : ℕ → Bool) (ns : List Node) → length (values v ns) ≡ length ns
unfolding values
length-values v ns = let e = length-values_after v [] ns in omega (arith, e)

pub values-push : (v : ℕ → Bool) (ns : List Node) (n : Node) →
    values v (ns ++ n ∷ []) ≡ values v ns ++ node_value v (λ d. get_or (values v ns) d.number false) n ∷ []
unfolding values
values-push v ns n = fold-append (with_value v) [] ns (n ∷ [])

kept_from : (v : ℕ → Bool) (k : ℕ) (done : List Bool) (ms : List Node) → k < length done → get_or (fold (with_value v) done ms) k false ≡ get_or done k false
kept_from v k done [] h = refl
kept_from v k done (n ∷ ms) h =
    let b = node_value v (λ d. get_or done d.number false) n in
    let longer : k < length (done ++ b ∷ []) = omega (arith, length-append done (b ∷ [])) in
    kept_from v k (done ++ b ∷ []) ms longer ∙ get_or_append_left done (b ∷ []) false k h

-- the values of the first nodes stay when others are added
pub values-append : (v : ℕ → Bool) (ns ms : List Node) (k : ℕ) → k < length ns → get_or (values v (ns ++ ms)) k false ≡ get_or (values v ns) k false
unfolding values
values-append v ns ms k h =
    let l : k < length (values v ns) = omega (arith, length-values v ns) in
    let e : get_or (fold (with_value v) [] (ns ++ ms)) k false ≡ get_or (fold (with_value v) (fold (with_value v) [] ns) ms) k false =
    ap (λ (vs : List Bool). get_or vs k false) (fold-append (with_value v) [] ns ms) in
    e ∙ kept_from v k (values v ns) ms l

-- the value of the node that comes after a list's
pub values-next : (v : ℕ → Bool) (ns ms : List Node) (n : Node) →
    get_or (values v (ns ++ n ∷ ms)) (length ns) false ≡ node_value v (λ d. get_or (values v ns) d.number false) n
values-next v ns ms n =
    let e : ns ++ n ∷ ms ≡ (ns ++ n ∷ []) ++ ms = sym (append_assoc ns (n ∷ []) ms) in
    let h : length ns < length (ns ++ n ∷ []) = omega (arith, length-append ns (n ∷ [])) in
    let kept = values-append v (ns ++ n ∷ []) ms (length ns) h in
    let pushed : get_or (values v (ns ++ n ∷ [])) (length ns) false ≡ node_value v (λ d. get_or (values v ns) d.number false) n =
    ap (λ (vs : List Bool). get_or vs (length ns) false) (values-push v ns n)
    ∙ get_or_push (values v ns) (node_value v (λ d. get_or (values v ns) d.number false) n) false (length ns) (length-values v ns) in
    rw e (kept ∙ pushed)

split_at : (ns : List Node) (k : ℕ) (n : Node) → slice_get ns k ≡ Some n → ns ≡ take k ns ++ n ∷ drop (suc k) ns
split_at [] k n h = cc
split_at (x ∷ xs) zero n h = cc
split_at (x ∷ xs) (suc k) n h = ap (λ (ys : List Node). x ∷ ys) (split_at xs k n h)

-- The value of a node is that of its kind, of the values of its children.
pub value-at : (v : ℕ → Bool) (f : Forest) (d : Diagram) (n : Node) → slice_get f.nodes d.number ≡ Some n → Children (λ c. c.number < d.number) n →
    value v f d ≡ node_value v (value v f) n
unfolding value
value-at v f d n h below =
    let k = d.number in
    let front = take k f.nodes in
    let rest = drop (suc k) f.nodes in
    let e : f.nodes ≡ front ++ n ∷ rest = split_at f.nodes k n h in
    let within = slice_get_within f.nodes k n h in
    let len : length front ≡ k = omega (arith, length-take k f.nodes) in
    let here : get_or (values v f.nodes) k false ≡ node_value v (λ c. get_or (values v front) c.number false) n =
    subst (λ (ns : List Node). get_or (values v ns) k false ≡ node_value v (λ c. get_or (values v front) c.number false) n) (sym e)
    (subst (λ (m : ℕ). get_or (values v (front ++ n ∷ rest)) m false ≡ node_value v (λ c. get_or (values v front) c.number false) n) len
    (values-next v front rest n)) in
    let stays : (c : Diagram) → c.number < k → get_or (values v front) c.number false ≡ get_or (values v f.nodes) c.number false =
    λ c l. subst (λ (ns : List Node). get_or (values v front) c.number false ≡ get_or (values v ns) c.number false) (sym e)
    (sym (values-append v front (n ∷ rest) c.number (omega (arith, len, l)))) in
    here ∙ node_value-same v _ _ n (Children-map _ _ stays n below)

-- the children of a placed node have smaller numbers
pub children_below : (f : Forest) → IsForest f → (d : Diagram) (n : Node) → slice_get f.nodes d.number ≡ Some n → Children (λ c. c.number < d.number) n
children_below f is d (Leaf b) h = tt
children_below f is d (Split x low high) h = let p = is.placed d.number (Split x low high) h in (p.low_below, p.high_below)

pub value-is : (f : Forest) → IsForest f → (v : ℕ → Bool) (d : Diagram) (n : Node) → slice_get f.nodes d.number ≡ Some n → value v f d ≡ node_value v (value v f) n
value-is f is v d n h = value-at v f d n h (children_below f is d n h)
