-- A graph with one node more.
use Rattle.std.proofs.Common.{◌≡◌, ◌≢◌, ℕ, ◌<◌, ◌≤◌, ◌^◌, zero, suc, Bool, true, false, true≢false, cond, ◌||◌, List, [], ◌∷◌, ◌++◌, Some, length, slice_get, refl, sym, ap, ◌∙◌, subst, arith, ◌⊎◌, inl, inr, length-append}
use Rattle.std.proofs.lemmas.List.{take-append-le, take_all}
use Rattle.std.proofs.lemmas.Option.{slice_get_within}
use Rattle.std.specs.List.{list_any}
use Rattle.indexmap.specs.IndexSet.{insert_key}
use Rattle.wb_word.specs.Table.{IsTable}
use Rattle.wb_term.specs.declared.nodes.Node.{Node}
use Rattle.wb_term.specs.Growth.{with_node, IsInterned}
use Rattle.wb_term.specs.Terms.{Terms, Tables, IsPlaced, IsGraph, first_of}
use Rattle.wb_term.proofs.Same.{node_eq, node_eq-same, node_eq-self}

pub slice_get-push_old : (ns : List Node) (m : Node) (k : ℕ) (n : Node) → slice_get ns k ≡ Some n → slice_get (ns ++ m ∷ []) k ≡ Some n
slice_get-push_old [] m k n h = cc
slice_get-push_old (x ∷ xs) m zero n h = h
slice_get-push_old (x ∷ xs) m (suc k) n h = slice_get-push_old xs m k n h

pub slice_get-append_left : (ns ms : List Node) (k : ℕ) → k < length ns → slice_get (ns ++ ms) k ≡ slice_get ns k
slice_get-append_left [] ms k h = absurd (omega arith)
slice_get-append_left (x ∷ xs) ms zero h = refl
slice_get-append_left (x ∷ xs) ms (suc k) h = slice_get-append_left xs ms k (omega arith)

pub slice_get-push_new : (ns : List Node) (m : Node) → slice_get (ns ++ m ∷ []) (length ns) ≡ Some m
slice_get-push_new [] m = refl
slice_get-push_new (x ∷ xs) m = slice_get-push_new xs m

-- an element of a list with one more is an old one or the new one
pub slice_get-push_cases : (ns : List Node) (m : Node) (k : ℕ) (n : Node) → slice_get (ns ++ m ∷ []) k ≡ Some n →
    (slice_get ns k ≡ Some n) ⊎ ((k ≡ length ns) × (m ≡ n))
slice_get-push_cases [] m zero n h = inr (refl, cc)
slice_get-push_cases [] m (suc k) n h = cc
slice_get-push_cases (x ∷ xs) m zero n h = inl h
slice_get-push_cases (x ∷ xs) m (suc k) n h =
    elim (slice_get-push_cases xs m k n h) [ inl e ↦ inl e | inr e ↦ inr (ap suc e.0, e.1) ]

-- an element that passes settles the test of a list
pub any_at : (p : Node → Bool) (ns : List Node) (k : ℕ) (n : Node) → slice_get ns k ≡ Some n → p n ≡ true → list_any p ns ≡ true
any_at p [] k n h e = cc
any_at p (x ∷ xs) zero n h e = let q : x ≡ n = cc in rw q (rw e refl)
any_at p (x ∷ xs) (suc k) n h e = by (p x) (any_at p xs k n h e) where
  by : (b : Bool) → list_any p xs ≡ true → (b || list_any p xs) ≡ true
  by true i = refl
  by false i = i

-- what `insert_full` leaves
pub IsInterned-inserted : (g : Terms) (ms : List Node) (n m : Node) (number : ℕ) →
    ms ≡ insert_key node_eq g.nodes n → slice_get ms number ≡ Some m → node_eq n m ≡ true →
    IsInterned g (record { nodes = ms; tables = g.tables }) n number
IsInterned-inserted g ms n m number keys stored same = by (list_any (node_eq n) g.nodes) refl where
  here : slice_get ms number ≡ Some n
  here = stored ∙ ap Some (sym (node_eq-same n m same))

  by : (b : Bool) → list_any (node_eq n) g.nodes ≡ b → IsInterned g (record { nodes = ms; tables = g.tables }) n number
  by true e = record {
    at = here;
    added = inl (ap (λ (ns : List Node). let t : Terms = record { nodes = ns; tables = g.tables } in t) (keys ∙ ap (λ (b : Bool). cond b g.nodes (g.nodes ++ n ∷ [])) e));
  }
  by false e =
      let pushed : ms ≡ g.nodes ++ n ∷ [] = keys ∙ ap (λ (b : Bool). cond b g.nodes (g.nodes ++ n ∷ [])) e in
      let nowhere : (k : ℕ) → slice_get g.nodes k ≢ Some n = λ k h. true≢false (sym (any_at (node_eq n) g.nodes k n h (node_eq-self n)) ∙ e) in
      let last : number ≡ length g.nodes =
      elim (slice_get-push_cases g.nodes n number n (subst (λ (ns : List Node). slice_get ns number ≡ Some n) pushed here))
      [ inl old ↦ absurd (nowhere number old) | inr new ↦ new.0 ] in
      record {
        at = here;
        added = inr (ap (λ (ns : List Node). let t : Terms = record { nodes = ns; tables = g.tables } in t) pushed, last, nowhere);
      }

first_of-push : (g : Terms) (n : Node) (k : ℕ) → k ≤ length g.nodes → first_of k (with_node g n) ≡ first_of k g
first_of-push g n k h = ap (λ (ns : List Node). let t : Terms = record { nodes = ns; tables = g.tables } in t) (take-append-le k g.nodes (n ∷ []) h)

first_of-all : (g : Terms) (k : ℕ) → k ≡ length g.nodes → first_of k g ≡ g
first_of-all g k h = ap (λ (ns : List Node). let t : Terms = record { nodes = ns; tables = g.tables } in t) (take_all k g.nodes (omega arith))

pub IsGraph-push : (g : Terms) (n : Node) → IsGraph g → IsPlaced g n → length g.nodes < 2 ^ 31 → ((k : ℕ) → slice_get g.nodes k ≢ Some n) → IsGraph (with_node g n)
IsGraph-push g n is placed room nowhere = record {
  placed = λ k m h. elim (slice_get-push_cases g.nodes n k m h) [
    | inl old ↦
        let within = slice_get_within g.nodes k m old in
        subst (λ (t : Terms). IsPlaced t m) (sym (first_of-push g n k (omega arith))) (is.placed k m old)
    | inr new ↦
        let whole : first_of k (with_node g n) ≡ g = first_of-push g n k (omega (arith, new.0)) ∙ first_of-all g k new.0 in
        subst (λ (t : Terms). IsPlaced t m) (sym whole) (subst (λ (x : Node). IsPlaced g x) new.1 placed)
  ];
  once = λ j k m at_j at_k. once_apart j k m (slice_get-push_cases g.nodes n j m at_j) (slice_get-push_cases g.nodes n k m at_k);
  fits = omega (arith, length-append g.nodes (n ∷ []));
  first = is.first;
  second = is.second;
} where
  once_apart : (j k : ℕ) (m : Node) →
      (slice_get g.nodes j ≡ Some m) ⊎ ((j ≡ length g.nodes) × (n ≡ m)) →
      (slice_get g.nodes k ≡ Some m) ⊎ ((k ≡ length g.nodes) × (n ≡ m)) → j ≡ k
  once_apart j k m (inl a) (inl b) = is.once j k m a b
  once_apart j k m (inl a) (inr b) = absurd (nowhere j (a ∙ ap Some (sym b.1)))
  once_apart j k m (inr a) (inl b) = absurd (nowhere k (b ∙ ap Some (sym a.1)))
  once_apart j k m (inr a) (inr b) = a.0 ∙ sym b.0

-- a graph whose node was given a number is a graph
pub IsGraph-interned : (g h : Terms) (n : Node) (number : ℕ) → IsInterned g h n number → IsGraph g → IsPlaced g n → length g.nodes < 2 ^ 31 → IsGraph h
IsGraph-interned g h n number interned is placed room =
    elim interned.added [
      | inl same ↦ subst IsGraph (sym same) is
      | inr new ↦ subst IsGraph (sym new.0) (IsGraph-push g n is placed room new.2)
    ]

-- a graph of no nodes over data tables is a graph
pub IsGraph-empty : (nodes : List Node) (tables : Tables) → nodes ≡ [] → IsTable 1024 16 tables.first →
    ((words : List ℕ) → tables.second ≡ Some words → IsTable 1024 16 words) → IsGraph (record { nodes = nodes; tables = tables })
IsGraph-empty nodes tables e first second =
    subst (λ (ns : List Node). let t : Terms = record { nodes = ns; tables = tables } in IsGraph t) (sym e) (record {
      placed = λ k n h. none k n h;
      once = λ j k n h i. none j n h;
      fits = omega arith;
      first = first;
      second = second;
    }) where
      none : {P : Type 0} (k : ℕ) (n : Node) → slice_get [] k ≡ Some n → P
      none k n h = cc
