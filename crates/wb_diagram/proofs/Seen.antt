-- Diagrams that were seen on the way over all under one.
use Rattle.std.proofs.Common.{◌≡◌, ◌≢◌, ℕ, ◌+◌, ◌<◌, ◌≤◌, zero, suc, Bool, true, false, true≢false, cond, ◌||◌, List, [], ◌∷◌, ◌++◌, Some, length, slice_get, get_or, eqb, refl, sym, ap, ◌∙◌, subst, arith, ◌⊎◌, inl, inr, length-append, rules, Result, Ok, Err}
use Rattle.std.proofs.lemmas.Grind.{common_steps}
use Rattle.std.proofs.lemmas.Option.{slice_get_within, slice_get-get_or}
use Rattle.std.specs.List.{list_any}
use Rattle.std.specs.Prelude.{OnOk}
use Rattle.indexmap.specs.IndexSet.{insert_key}
use Rattle.wb_diagram.specs.declared.nodes.Diagram.{Diagram}
use Rattle.wb_diagram.specs.declared.nodes.Node.TheVariants.{Leaf, Split}
use Rattle.wb_diagram.specs.contracts.nodes.DiagramPartialEq.TheImpl.{ghosts}
use Rattle.wb_diagram.specs.Forest.{Forest, IsSplit, HasDiagram}
use Rattle.wb_diagram.specs.Sizes.{IsUnder, Itself, Low, High, IsMember, AreUnder, IsAdded, Sees, IsSize}

abbrev pub diagram_eq : Diagram → Diagram → Bool
diagram_eq = ghosts.eq

eq-self : (d : Diagram) → diagram_eq d d ≡ true
eq-self _ = search rules

eq-same : (c d : Diagram) → diagram_eq c d ≡ true → c ≡ d
eq-same c d h = grind (arith, common_steps)

push_old : (ns : List Diagram) (m : Diagram) (k : ℕ) (n : Diagram) → slice_get ns k ≡ Some n → slice_get (ns ++ m ∷ []) k ≡ Some n
push_old [] m k n h = cc
push_old (x ∷ xs) m zero n h = h
push_old (x ∷ xs) m (suc k) n h = push_old xs m k n h

push_new : (ns : List Diagram) (m : Diagram) → slice_get (ns ++ m ∷ []) (length ns) ≡ Some m
push_new [] m = refl
push_new (x ∷ xs) m = push_new xs m

push_cases : (ns : List Diagram) (m : Diagram) (k : ℕ) (n : Diagram) → slice_get (ns ++ m ∷ []) k ≡ Some n →
    (slice_get ns k ≡ Some n) ⊎ ((k ≡ length ns) × (m ≡ n))
push_cases [] m zero n h = inr (refl, cc)
push_cases [] m (suc k) n h = cc
push_cases (x ∷ xs) m zero n h = inl h
push_cases (x ∷ xs) m (suc k) n h = elim (push_cases xs m k n h) [ inl e ↦ inl e | inr e ↦ inr (ap suc e.0, e.1) ]

any_at : (p : Diagram → Bool) (ns : List Diagram) (k : ℕ) (n : Diagram) → slice_get ns k ≡ Some n → p n ≡ true → list_any p ns ≡ true
any_at p [] k n h e = cc
any_at p (x ∷ xs) zero n h e = let q : x ≡ n = cc in rw q (rw e refl)
any_at p (x ∷ xs) (suc k) n h e = by (p x) (any_at p xs k n h e) where
  by : (b : Bool) → list_any p xs ≡ true → (b || list_any p xs) ≡ true
  by true i = refl
  by false i = i

AreUnder-push : (f : Forest) (d c : Diagram) (ks : List Diagram) → AreUnder f d ks → HasDiagram f c → IsUnder f d c → ((k : ℕ) → slice_get ks k ≢ Some c) → AreUnder f d (ks ++ c ∷ [])
AreUnder-push f d c ks a there under nowhere = record {
  distinct = λ j k e p q. apart j k e (push_cases ks c j e p) (push_cases ks c k e q);
  there = λ k e p. elim (push_cases ks c k e p) [ inl old ↦ a.there k e old | inr new ↦ subst (HasDiagram f) new.1 there ];
  under = λ k e p. elim (push_cases ks c k e p) [ inl old ↦ a.under k e old | inr new ↦ subst (IsUnder f d) new.1 under ];
} where
  apart : (j k : ℕ) (e : Diagram) → (slice_get ks j ≡ Some e) ⊎ ((j ≡ length ks) × (c ≡ e)) → (slice_get ks k ≡ Some e) ⊎ ((k ≡ length ks) × (c ≡ e)) → j ≡ k
  apart j k e (inl p) (inl q) = a.distinct j k e p q
  apart j k e (inl p) (inr q) = absurd (nowhere j (p ∙ ap Some (sym q.1)))
  apart j k e (inr p) (inl q) = absurd (nowhere k (q ∙ ap Some (sym p.1)))
  apart j k e (inr p) (inr q) = p.0 ∙ sym q.0

IsAdded-there : (ks : List Diagram) (c : Diagram) → IsMember c ks → IsAdded ks ks c
IsAdded-there ks c m = record { kept = λ k e h. h; member = m; longer = omega arith; under = λ f d a h u. a }

IsAdded-push : (ks : List Diagram) (c : Diagram) → ((k : ℕ) → slice_get ks k ≢ Some c) → IsAdded ks (ks ++ c ∷ []) c
IsAdded-push ks c nowhere = record {
  kept = λ k e h. push_old ks c k e h;
  member = (length ks, push_new ks c);
  longer = omega (arith, length-append ks (c ∷ []));
  under = λ f d a h u. AreUnder-push f d c ks a h u nowhere;
}

-- what `insert_full` leaves
pub IsAdded-inserted : (ks ms : List Diagram) (c e : Diagram) (k : ℕ) → ms ≡ insert_key diagram_eq ks c → slice_get ms k ≡ Some e → diagram_eq c e ≡ true → IsAdded ks ms c
IsAdded-inserted ks ms c e k keys stored same = by (list_any (diagram_eq c) ks) refl where
  by : (b : Bool) → list_any (diagram_eq c) ks ≡ b → IsAdded ks ms c
  by true q =
      let here : ms ≡ ks = keys ∙ ap (λ (b : Bool). cond b ks (ks ++ c ∷ [])) q in
      let at : slice_get ms k ≡ Some c = stored ∙ ap Some (sym (eq-same c e same)) in
      subst (λ (xs : List Diagram). IsAdded ks xs c) (sym here) (IsAdded-there ks c (k, subst (λ (xs : List Diagram). slice_get xs k ≡ Some c) here at))
  by false q =
      let pushed : ms ≡ ks ++ c ∷ [] = keys ∙ ap (λ (b : Bool). cond b ks (ks ++ c ∷ [])) q in
      subst (λ (xs : List Diagram). IsAdded ks xs c) (sym pushed)
      (IsAdded-push ks c (λ j h. true≢false (sym (any_at (diagram_eq c) ks j c h (eq-self c)) ∙ q)))

pub Sees-leaf : (f : Forest) (c : Diagram) (ks : List Diagram) (b : Bool) → slice_get f.nodes c.number ≡ Some (Leaf b) → Sees f c ks ks
Sees-leaf f c ks b leaf = record {
  kept = λ k e h. h;
  children = λ low high x node. let no : Some (Leaf b) ≡ Some (Split x low high) = sym leaf ∙ node in cc;
  longer = omega arith;
  under = λ d a u. a;
}

pub Sees-split : (f : Forest) (c low high : Diagram) (x : ℕ) (ks ls ms : List Diagram) → HasDiagram f c → slice_get f.nodes c.number ≡ Some (Split x low high) →
    IsSplit f c.number x low high → IsAdded ks ls low → IsAdded ls ms high → Sees f c ks ms
Sees-split f c low high x ks ls ms there node split a b = record {
  kept = λ k e h. b.kept k e (a.kept k e h);
  children = λ low2 high2 x2 node2.
      let q : Some (Split x low high) ≡ Some (Split x2 low2 high2) = sym node ∙ node2 in
      let ql : low ≡ low2 = cc in
      let qh : high ≡ high2 = cc in
      (subst (λ (e : Diagram). IsMember e ms) ql (a.member.0, b.kept a.member.0 low a.member.1), subst (λ (e : Diagram). IsMember e ms) qh b.member);
  longer = omega (arith, a.longer, b.longer);
  under = λ d are u.
      let l = split.low_below in
      let h = split.high_below in
      b.under f d (a.under f d are (omega (arith, l, there)) (Low c low high x u node)) (omega (arith, h, there)) (High c high low x u node);
}

-- the children of the first diagrams of a list are in it
pub record IsClosed (f : Forest) (ks : List Diagram) (at : ℕ) : Type 0 where
  pub children : (j : ℕ) (e low high : Diagram) (x : ℕ) → j < at → slice_get ks j ≡ Some e → slice_get f.nodes e.number ≡ Some (Split x low high) → IsMember low ks × IsMember high ks

pub IsClosed-none : (f : Forest) (ks : List Diagram) → IsClosed f ks 0
IsClosed-none f ks = record { children = λ j e low high x h at node. absurd (omega (arith, h)) }

pub IsClosed-more : (f : Forest) (ks ms : List Diagram) (at : ℕ) (c : Diagram) → IsClosed f ks at → slice_get ks at ≡ Some c → Sees f c ks ms → IsClosed f ms (at + 1)
IsClosed-more f ks ms at c closed here sees = record {
  children = λ j e low high x h is_e node. by j e low high x h is_e node (lt-or j h);
} where
  lt-or : (j : ℕ) → j < at + 1 → (j < at) ⊎ (j ≡ at)
  lt-or j h = pick (eqb j at) refl where
    pick : (b : Bool) → eqb j at ≡ b → (j < at) ⊎ (j ≡ at)
    pick true q = inr (grind arith)
    pick false q = let no : j ≢ at = grind arith in inl (omega (arith, no, h))

  in_old : (j : ℕ) (e : Diagram) → j ≤ at → slice_get ms j ≡ Some e → slice_get ks j ≡ Some e
  in_old j e h is_e =
      let w = slice_get_within ks at c here in
      let mine : slice_get ks j ≡ Some (get_or ks j c) = slice_get-get_or ks j c (omega (arith, h, w)) in
      mine ∙ sym (sees.kept j (get_or ks j c) mine) ∙ is_e

  by : (j : ℕ) (e low high : Diagram) (x : ℕ) → j < at + 1 → slice_get ms j ≡ Some e → slice_get f.nodes e.number ≡ Some (Split x low high) →
      (j < at) ⊎ (j ≡ at) → IsMember low ms × IsMember high ms
  by j e low high x h is_e node (inl below) =
      let both = closed.children j e low high x below (in_old j e (omega (arith, below)) is_e) node in
      ((both.0.0, sees.kept both.0.0 low both.0.1), (both.1.0, sees.kept both.1.0 high both.1.1))
  by j e low high x h is_e node (inr same) =
      let q : Some c ≡ Some e = sym (sees.kept at c here) ∙ subst (λ (i : ℕ). slice_get ms i ≡ Some e) same is_e in
      let is_c : e ≡ c = cc in
      sees.children low high x (subst (λ (y : Diagram). slice_get f.nodes y.number ≡ Some (Split x low high)) is_c node)

-- a closed list that has a diagram has all under it
pub closed-all : (f : Forest) (d : Diagram) (ks : List Diagram) (at : ℕ) → IsClosed f ks at → length ks ≤ at → IsMember d ks → (c : Diagram) → IsUnder f d c → IsMember c ks
closed-all f d ks at closed long start c (Itself _ same) = subst (λ (e : Diagram). IsMember e ks) (sym same) start
closed-all f d ks at closed long start c (Low e _ other x u node) =
    let m = closed-all f d ks at closed long start e u in
    let w = slice_get_within ks m.0 e m.1 in
    (closed.children m.0 e c other x (omega (arith, w, long)) m.1 node).0
closed-all f d ks at closed long start c (High e _ other x u node) =
    let m = closed-all f d ks at closed long start e u in
    let w = slice_get_within ks m.0 e m.1 in
    (closed.children m.0 e other c x (omega (arith, w, long)) m.1 node).1

pub AreUnder-start : (f : Forest) (d : Diagram) (ks ms : List Diagram) → ks ≡ [] → HasDiagram f d → IsAdded ks ms d → AreUnder f d ms
AreUnder-start f d ks ms none there added = added.under f d (subst (AreUnder f d) (sym none) empty) there (Itself d refl) where
  empty : AreUnder f d []
  empty = record { distinct = λ j k c p q. cc; there = λ k c p. cc; under = λ k c p. cc }

-- where nothing is left to look at, or the limit is reached
pub IsSize-end : (f : Forest) (d : Diagram) (limit at : ℕ) (ks : List Diagram) → AreUnder f d ks → IsMember d ks → IsClosed f ks at →
    at ≤ length ks → at ≤ limit → (length ks ≤ at) ⊎ (limit ≤ at) → IsSize f d limit at
IsSize-end f d limit at ks are start closed some within ended = record {
  members = ks;
  are = are;
  within = within;
  some = some;
  whole = λ short. by short ended;
} where
  by : at < limit → (length ks ≤ at) ⊎ (limit ≤ at) → (at ≡ length ks) × ((c : Diagram) → IsUnder f d c → IsMember c ks)
  by short (inl long) = (omega (arith, long, some), closed-all f d ks at closed long start)
  by short (inr full) = absurd (omega (arith, short, full))

pub OnOk-map : {A E : Type 0} (P Q : Type 0) → (P → Q) → (r : Result A E) → OnOk r P → OnOk r Q
OnOk-map P Q f (Ok x) p = f p
OnOk-map P Q f (Err e) p = p
