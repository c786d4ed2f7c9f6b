-- A forest with one node more.
use Rattle.std.proofs.Common.{◌≡◌, ◌≢◌, ℕ, ◌<◌, ◌≤◌, zero, suc, Bool, true, false, true≢false, cond, ◌||◌, List, [], ◌∷◌, ◌++◌, Some, length, slice_get, refl, sym, ap, ◌∙◌, subst, arith, ◌⊎◌, inl, inr, length-append}
use Rattle.std.proofs.lemmas.Option.{slice_get_within}
use Rattle.std.specs.List.{list_any}
use Rattle.indexmap.specs.IndexSet.{insert_key}
use Rattle.wb_diagram.specs.declared.nodes.Diagram.{Diagram}
use Rattle.wb_diagram.specs.declared.nodes.Node.{Node}
use Rattle.wb_diagram.specs.declared.nodes.Node.TheVariants.{Leaf, Split}
use Rattle.wb_diagram.specs.Forest.{Forest, IsForest, IsPlaced, HasDiagram, level, level_of}
use Rattle.wb_diagram.specs.Values.{value}
use Rattle.wb_diagram.specs.Growth.{with_node, IsInterned, Grown, IsJoined}
use Rattle.wb_diagram.proofs.Same.{node_eq, node_eq-same, node_eq-self}
use Rattle.wb_diagram.proofs.Values.{values-append, value-is}

pub slice_get-push_old : (ns : List Node) (m : Node) (k : ℕ) (n : Node) → slice_get ns k ≡ Some n → slice_get (ns ++ m ∷ []) k ≡ Some n
slice_get-push_old [] m k n h = cc
slice_get-push_old (x ∷ xs) m zero n h = h
slice_get-push_old (x ∷ xs) m (suc k) n h = slice_get-push_old xs m k n h

pub slice_get-append_left : (ns ms : List Node) (k : ℕ) → k < length ns → slice_get (ns ++ ms) k ≡ slice_get ns k
slice_get-append_left [] ms k h = absurd (omega arith)
slice_get-append_left (x ∷ xs) ms zero h = refl
slice_get-append_left (x ∷ xs) ms (suc k) h = slice_get-append_left xs ms k (omega arith)

-- an element of a list with one more is an old one or the new one
pub slice_get-push_cases : (ns : List Node) (m : Node) (k : ℕ) (n : Node) → slice_get (ns ++ m ∷ []) k ≡ Some n →
    (slice_get ns k ≡ Some n) ⊎ ((k ≡ length ns) × (m ≡ n))
slice_get-push_cases [] m zero n h = inr (refl, cc)
slice_get-push_cases [] m (suc k) n h = cc
slice_get-push_cases (x ∷ xs) m zero n h = inl h
slice_get-push_cases (x ∷ xs) m (suc k) n h =
    elim (slice_get-push_cases xs m k n h) [ inl e ↦ inl e | inr e ↦ inr (ap suc e.0, e.1) ]

-- an element that passes settles the test of a list
pub any_at : (p : Node → Bool) (ns : List Node) (k : ℕ) (n : Node) → slice_get ns k ≡ Some n → p n ≡ true → list_any p ns ≡ true
any_at p [] k n h e = cc
any_at p (x ∷ xs) zero n h e = let q : x ≡ n = cc in rw q (rw e refl)
any_at p (x ∷ xs) (suc k) n h e = by (p x) (any_at p xs k n h e) where
  by : (b : Bool) → list_any p xs ≡ true → (b || list_any p xs) ≡ true
  by true i = refl
  by false i = i

-- what `insert_full` leaves
pub IsInterned-inserted : (f : Forest) (ms : List Node) (n m : Node) (number : ℕ) →
    ms ≡ insert_key node_eq f.nodes n → slice_get ms number ≡ Some m → node_eq n m ≡ true →
    IsInterned f (record { nodes = ms; limit = f.limit }) n number
IsInterned-inserted f ms n m number keys stored same = by (list_any (node_eq n) f.nodes) refl where
  here : slice_get ms number ≡ Some n
  here = stored ∙ ap Some (sym (node_eq-same n m same))

  by : (b : Bool) → list_any (node_eq n) f.nodes ≡ b → IsInterned f (record { nodes = ms; limit = f.limit }) n number
  by true e = record {
    at = here;
    added = inl (ap (λ (ns : List Node). let t : Forest = record { nodes = ns; limit = f.limit } in t) (keys ∙ ap (λ (b : Bool). cond b f.nodes (f.nodes ++ n ∷ [])) e));
  }
  by false e =
      let pushed : ms ≡ f.nodes ++ n ∷ [] = keys ∙ ap (λ (b : Bool). cond b f.nodes (f.nodes ++ n ∷ [])) e in
      let nowhere : (k : ℕ) → slice_get f.nodes k ≢ Some n = λ k h. true≢false (sym (any_at (node_eq n) f.nodes k n h (node_eq-self n)) ∙ e) in
      let last : number ≡ length f.nodes =
      elim (slice_get-push_cases f.nodes n number n (subst (λ (ns : List Node). slice_get ns number ≡ Some n) pushed here))
      [ inl old ↦ absurd (nowhere number old) | inr new ↦ new.0 ] in
      record {
        at = here;
        added = inr (ap (λ (ns : List Node). let t : Forest = record { nodes = ns; limit = f.limit } in t) pushed, last, nowhere);
      }

-- a place in the order of variables stays
pub level-push : (f : Forest) (n : Node) (d : Diagram) → HasDiagram f d → level (with_node f n) d ≡ level f d
level-push f n d h = ap level_of (slice_get-append_left f.nodes (n ∷ []) d.number h)

IsPlaced-push : (f : Forest) (m : Node) (k : ℕ) (n : Node) → k ≤ length f.nodes → IsPlaced f k n → IsPlaced (with_node f m) k n
IsPlaced-push f m k (Leaf b) h p = p
IsPlaced-push f m k (Split x low high) h p =
    let a = level-push f m low (omega (arith, p.low_below)) in
    let b = level-push f m high (omega (arith, p.high_below)) in
    record {
      low_below = p.low_below;
      high_below = p.high_below;
      apart = p.apart;
      over_low = omega (arith, a, p.over_low);
      over_high = omega (arith, b, p.over_high);
      below_leaves = p.below_leaves;
    }

pub IsForest-push : (f : Forest) (n : Node) → IsForest f → IsPlaced f (length f.nodes) n → length f.nodes < f.limit → ((k : ℕ) → slice_get f.nodes k ≢ Some n) → IsForest (with_node f n)
IsForest-push f n is placed room nowhere = record {
  leaf_false = slice_get-push_old f.nodes n 0 (Leaf false) is.leaf_false;
  leaf_true = slice_get-push_old f.nodes n 1 (Leaf true) is.leaf_true;
  placed = λ k m h. elim (slice_get-push_cases f.nodes n k m h) [
    | inl old ↦
        let within = slice_get_within f.nodes k m old in
        IsPlaced-push f n k m (omega arith) (is.placed k m old)
    | inr new ↦ subst (λ (x : Node). IsPlaced (with_node f n) k x) new.1
        (subst (λ (j : ℕ). IsPlaced (with_node f n) j n) (sym new.0) (IsPlaced-push f n (length f.nodes) n (omega arith) placed))
  ];
  once = λ j k m at_j at_k. once_apart j k m (slice_get-push_cases f.nodes n j m at_j) (slice_get-push_cases f.nodes n k m at_k);
  within = omega (arith, length-append f.nodes (n ∷ []));
  fits = is.fits;
} where
  once_apart : (j k : ℕ) (m : Node) →
      (slice_get f.nodes j ≡ Some m) ⊎ ((j ≡ length f.nodes) × (n ≡ m)) →
      (slice_get f.nodes k ≡ Some m) ⊎ ((k ≡ length f.nodes) × (n ≡ m)) → j ≡ k
  once_apart j k m (inl a) (inl b) = is.once j k m a b
  once_apart j k m (inl a) (inr b) = absurd (nowhere j (a ∙ ap Some (sym b.1)))
  once_apart j k m (inr a) (inl b) = absurd (nowhere k (b ∙ ap Some (sym a.1)))
  once_apart j k m (inr a) (inr b) = a.0 ∙ sym b.0

-- a forest whose node was given a number is a forest
pub IsForest-interned : (f g : Forest) (n : Node) (number : ℕ) → IsInterned f g n number → IsForest f → IsPlaced f (length f.nodes) n → length f.nodes < f.limit → IsForest g
IsForest-interned f g n number interned is placed room =
    elim interned.added [
      | inl same ↦ subst IsForest (sym same) is
      | inr new ↦ subst IsForest (sym new.0) (IsForest-push f n is placed room new.2)
    ]

pub Grown-refl : (f : Forest) → Grown f f
Grown-refl f = record {
  limit = refl;
  longer = omega arith;
  nodes = λ k h. refl;
  diagrams = λ d h. h;
  levels = λ d h. refl;
  values = λ v d h. refl;
}

value-push : (v : ℕ → Bool) (f : Forest) (n : Node) (d : Diagram) → HasDiagram f d → value v (with_node f n) d ≡ value v f d
unfolding value
value-push v f n d h = values-append v f.nodes (n ∷ []) d.number h

pub Grown-push : (f : Forest) (n : Node) → Grown f (with_node f n)
Grown-push f n = record {
  limit = refl;
  longer = omega (arith, length-append f.nodes (n ∷ []));
  nodes = λ k h. slice_get-append_left f.nodes (n ∷ []) k h;
  diagrams = λ d h. omega (arith, h, length-append f.nodes (n ∷ []));
  levels = level-push f n;
  values = λ v d h. value-push v f n d h;
}

pub Grown-interned : (f g : Forest) (n : Node) (number : ℕ) → IsInterned f g n number → Grown f g
Grown-interned f g n number interned =
    elim interned.added [
      | inl same ↦ subst (λ (t : Forest). Grown f t) (sym same) (Grown-refl f)
      | inr new ↦ subst (λ (t : Forest). Grown f t) (sym new.0) (Grown-push f n)
    ]

-- a split that was given a number is the diagram of its two children
pub IsJoined-interned : (f g : Forest) (x : ℕ) (low high : Diagram) (number : ℕ) → IsInterned f g (Split x low high) number → IsForest g →
    HasDiagram f low → HasDiagram f high → IsJoined f g x low high (record { number = number })
IsJoined-interned f g x low high number interned is at_low at_high =
    let d : Diagram = record { number = number } in
    let grown = Grown-interned f g (Split x low high) number interned in
    record {
      there = slice_get_within g.nodes number (Split x low high) interned.at;
      value = λ v. value-is g is v d (Split x low high) interned.at ∙ same v (grown.values v low at_low) (grown.values v high at_high);
      over = λ y h. let e : level g d ≡ x = ap level_of interned.at in omega (arith, e, h);
    } where
      same : (v : ℕ → Bool) → value v g low ≡ value v f low → value v g high ≡ value v f high →
          cond (v x) (value v g high) (value v g low) ≡ cond (v x) (value v f high) (value v f low)
      same v a b = cc

-- a forest into which a node was inserted is a forest
pub IsForest-inserted : (f : Forest) (ms : List Node) (n m : Node) (number : ℕ) →
    ms ≡ insert_key node_eq f.nodes n → slice_get ms number ≡ Some m → node_eq n m ≡ true →
    IsForest f → IsPlaced f (length f.nodes) n → length f.nodes < f.limit → IsForest (record { nodes = ms; limit = f.limit })
IsForest-inserted f ms n m number keys stored same is placed room =
    IsForest-interned f _ n number (IsInterned-inserted f ms n m number keys stored same) is placed room
