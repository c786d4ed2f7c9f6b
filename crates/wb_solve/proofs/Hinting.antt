-- Hints that the reasons on a trail give.
use Rattle.std.proofs.Common.{◌≡◌, ℕ, zero, suc, ◌+◌, ◌<◌, ◌≤◌, ◌⊎◌, inl, inr, Bool, true, false, not, if◌then◌else◌, eqb, List, [], ◌∷◌, ◌++◌, length, take, reverse, Option, Some, None, refl, sym, ◌∙◌, ap, subst, arith, eq-eqb}
use Rattle.std.specs.List.{slice_get}
use Rattle.std.proofs.lemmas.Bool.{eqb-true}
use Rattle.std.proofs.lemmas.List.{reverse-append}
use Rattle.std.proofs.lemmas.Option.{slice_get_within}
use Rattle.wb_gate.specs.declared.gates.Lit.{Lit}
use Rattle.wb_gate.specs.Circuit.{minus, variable}
use Rattle.wb_derive.specs.Partial.{Partial, nothing, assume, refute, IsFalse, IsFalsified, AreFalseBut, IsUnit}
use Rattle.wb_derive.specs.Lawful.{Refutes}
use Rattle.wb_solve.specs.declared.trail.Entry.{Entry}
use Rattle.wb_solve.specs.declared.trail.Reason.{Reason}
use Rattle.wb_solve.specs.declared.trail.Reason.TheVariants.{Assumed, Clause}
use Rattle.wb_solve.specs.Descent.{IsUnitAt, clause_of}
use Rattle.wb_solve.specs.Trails.{made, AreNew, IsJust, AreJust, assumed_by, assumed_in, Suits, HintsFrom, MarksAll, MarksMore, MarksClause, IsMarkedReason}
use Rattle.wb_solve.specs.Turns.{FalsifiedAt}
use Rattle.wb_solve.proofs.Partials.{assume_at}
use Rattle.wb_solve.proofs.Writing.{AllNot, refute_other}
use Rattle.wb_solve.proofs.Trailing.{made_more, assume_other}

abbrev In : ℕ → List ℕ → Type 0
In x [] = ⊥
In x (y ∷ ys) = (x ≡ y) ⊎ In x ys

split : (j k : ℕ) → (j < k) ⊎ (j ≡ k) ⊎ (k < j)
split j k = grind arith

pub entry_within : (es : List Entry) (j : ℕ) → j < length es → (e : Entry) × (slice_get es j ≡ Some e)
entry_within [] j h = absurd (omega arith)
entry_within (e ∷ es) zero h = (e, refl)
entry_within (e ∷ es) (suc j) h = entry_within es j (omega arith)

module _ (n : ℕ) (entries : List Entry) (new : AreNew n entries) where
  valued_at : (k : ℕ) (e : Entry) (more : ℕ) → slice_get entries k ≡ Some e → k + suc more ≤ length entries → made (take (k + suc more) entries) e.lit.var ≡ Some (not e.lit.neg)
  valued_at k e zero at h =
      let place : k + suc zero ≡ suc k = omega arith in
      ap (λ m. made (take m entries) e.lit.var) place ∙ ap (λ (p : Partial). p e.lit.var) (made_more entries k e at) ∙ assume_at (made (take k entries)) e.lit
  valued_at k e (suc more) at h = by (entry_within entries (k + suc more) (omega arith)) (valued_at k e more at (omega arith))
    where
      by : (d : Entry) × (slice_get entries (k + suc more) ≡ Some d) → made (take (k + suc more) entries) e.lit.var ≡ Some (not e.lit.neg) → made (take (k + suc (suc more)) entries) e.lit.var ≡ Some (not e.lit.neg)
      by found was =
          let d = found.0 in
          let p = made (take (k + suc more) entries) in
          let place : k + suc (suc more) ≡ suc (k + suc more) = omega arith in
          let other : e.lit.var ≡ d.lit.var → ⊥ = λ same. none p e.lit.var d.lit.var (not e.lit.neg) same was (new.was_open (k + suc more) d found.1) in
          ap (λ m. made (take m entries) e.lit.var) place ∙ ap (λ (q : Partial). q e.lit.var) (made_more entries (k + suc more) d found.1) ∙ assume_other p d.lit e.lit.var other ∙ was
        where
          none : (p : Partial) (x y : ℕ) (b : Bool) → x ≡ y → p x ≡ Some b → p y ≡ None → ⊥
          none p x y b same is gone = let e : None ≡ Some b = sym gone ∙ ap p (sym same) ∙ is in cc

  pub valued_later : (k j : ℕ) (e : Entry) → slice_get entries k ≡ Some e → k < j → j ≤ length entries → made (take j entries) e.lit.var ≡ Some (not e.lit.neg)
  valued_later k j e at h within = by (later k j h)
    where
      later : (k j : ℕ) → k < j → (more : ℕ) × (k + suc more ≡ j)
      later zero zero h = absurd (omega arith)
      later zero (suc j) h = (j, omega arith)
      later (suc k) zero h = absurd (omega arith)
      later (suc k) (suc j) h = let rest = later k j (omega arith) in (rest.0, omega (arith, rest.1))

      by : (more : ℕ) × (k + suc more ≡ j) → made (take j entries) e.lit.var ≡ Some (not e.lit.neg)
      by found = subst (λ m. made (take m entries) e.lit.var ≡ Some (not e.lit.neg)) found.1 (valued_at k e found.0 at (omega (arith, found.1)))

  -- two entries name two variables
  pub two_variables : (k j : ℕ) (e d : Entry) → slice_get entries k ≡ Some e → slice_get entries j ≡ Some d → k < j → d.lit.var ≡ e.lit.var → ⊥
  two_variables k j e d at also h same =
      let within = slice_get_within entries j d also in
      let is = valued_later k j e at h (omega arith) in
      let gone = new.was_open j d also in
      none (made (take j entries)) d.lit.var e.lit.var (not e.lit.neg) same gone is
    where
      none : (p : Partial) (x y : ℕ) (b : Bool) → x ≡ y → p x ≡ None → p y ≡ Some b → ⊥
      none p x y b same gone is = let e : None ≡ Some b = sym gone ∙ ap p same ∙ is in cc

  module _ (known : List (List Lit)) (marked : ℕ → Bool) where
    falsified_too : (p r : Partial) (clause : List Lit) → ((x : ℕ) (b : Bool) → marked x ≡ true → p x ≡ Some b → r x ≡ Some b) → MarksAll marked clause → IsFalsified p clause → IsFalsified r clause
    falsified_too p r [] had marks all = tt
    falsified_too p r (l ∷ ls) had marks all =
        (had l.var l.neg (marks l (inl refl)) all.0, falsified_too p r ls had (λ m o. marks m (inr o)) all.1)

    but_too : (l : Lit) (p r : Partial) (clause : List Lit) → ((x : ℕ) (b : Bool) → marked x ≡ true → p x ≡ Some b → r x ≡ Some b) → MarksAll marked clause → AreFalseBut l p clause → AreFalseBut l r clause
    but_too l p r [] had marks all = tt
    but_too l p r (m ∷ ms) had marks all = (by all.0, but_too l p r ms had (λ k o. marks k (inr o)) all.1)
      where
        by : (m ≡ l) ⊎ IsFalse p m → (m ≡ l) ⊎ IsFalse r m
        by (inl same) = inl same
        by (inr f) = inr (had m.var m.neg (marks m (inl refl)) f)

    take_all : (es : List Entry) → take (length es) es ≡ es
    take_all [] = refl
    take_all (e ∷ es) = ap (λ ds. e ∷ ds) (take_all es)

    -- the falsified clause alone
    pub hints_first : (number : ℕ) (clause : List Lit) → slice_get known number ≡ Some clause → IsFalsified (made entries) clause → MarksAll marked clause → HintsFrom known entries marked (length entries) (number ∷ [])
    hints_first number clause at f marks r suits =
        let p = made (take (length entries) entries) in
        let all : IsFalsified p clause = subst (λ es. IsFalsified (made es) clause) (sym (take_all entries)) f in
        (clause, at, inl (falsified_too p r clause suits.had marks all, refl))

    suits_next : (place : ℕ) (e : Entry) (r : Partial) → slice_get entries place ≡ Some e → r e.lit.var ≡ Some (not e.lit.neg) → Suits entries marked place r → Suits entries marked (suc place) r
    suits_next place e r at value suits = record {
      had = λ x b mark is. by x b mark (eqb x e.lit.var) refl (ap (λ (p : Partial). p x) (sym (made_more entries place e at)) ∙ is);
      assumed = λ k d h. suits.assumed k d (omega arith);
      still_open = λ k d number h. suits.still_open k d number (omega arith);
    }
      where
        by : (x : ℕ) (b : Bool) → marked x ≡ true → (t : Bool) → eqb x e.lit.var ≡ t → (if t then Some (not e.lit.neg) else made (take place entries) x) ≡ Some b → r x ≡ Some b
        by x b mark true same is = ap r (eqb-true x e.lit.var same) ∙ value ∙ is
        by x b mark false ne is = suits.had x b mark is

    suits_unmarked : (place : ℕ) (e : Entry) (r : Partial) → slice_get entries place ≡ Some e → marked e.lit.var ≡ false → Suits entries marked place r → Suits entries marked (suc place) r
    suits_unmarked place e r at out suits = record {
      had = λ x b mark is. by x b mark (eqb x e.lit.var) refl (ap (λ (p : Partial). p x) (sym (made_more entries place e at)) ∙ is);
      assumed = λ k d h. suits.assumed k d (omega arith);
      still_open = λ k d number h. suits.still_open k d number (omega arith);
    }
      where
        by : (x : ℕ) (b : Bool) → marked x ≡ true → (t : Bool) → eqb x e.lit.var ≡ t → (if t then Some (not e.lit.neg) else made (take place entries) x) ≡ Some b → r x ≡ Some b
        by x b mark true same is = let wrong : true ≡ false = sym mark ∙ ap marked (eqb-true x e.lit.var same) ∙ out in absurd (cc)
        by x b mark false ne is = suits.had x b mark is

    -- an entry that is passed over: an assumption, or one of a variable that isn't marked
    pub hints_assumed : (place : ℕ) (e : Entry) (hints : List ℕ) → slice_get entries place ≡ Some e → e.reason ≡ Assumed → HintsFrom known entries marked (suc place) hints → HintsFrom known entries marked place hints
    hints_assumed place e hints at is later r suits =
        later r (suits_next place e r at (suits.assumed place e (omega arith) at is) suits)

    pub hints_unmarked : (place : ℕ) (e : Entry) (hints : List ℕ) → slice_get entries place ≡ Some e → marked e.lit.var ≡ false → HintsFrom known entries marked (suc place) hints → HintsFrom known entries marked place hints
    hints_unmarked place e hints at out later r suits = later r (suits_unmarked place e r at out suits)

  -- an entry whose reason becomes a hint
  pub hints_more : (known : List (List Lit)) (old marked : ℕ → Bool) (place : ℕ) (e : Entry) (number : ℕ) (hints : List ℕ) → slice_get entries place ≡ Some e → e.reason ≡ Clause number → (unit : IsUnitAt known (made (take place entries)) number e.lit) → MarksMore old marked → MarksAll marked unit.0 → HintsFrom known entries old (suc place) hints → HintsFrom known entries marked place (number ∷ hints)
  hints_more known old marked place e number hints at is unit more marks later r suits =
      let l = e.lit in
      let p = made (take place entries) in
      let is_unit : IsUnit r unit.0 l = record {
        there = unit.2.there;
        still_open = suits.still_open place e number (omega arith) at is;
        others = but_too known marked l p r unit.0 suits.had marks unit.2.others;
      } in
      let other = λ (k : ℕ) (d : Entry) (h : suc place ≤ k) (also : slice_get entries k ≡ Some d). assume_other r l d.lit.var (two_variables place k e d at also (omega arith)) in
      let after : Suits entries old (suc place) (assume r l) = record {
        had = λ x b mark is. by x b mark (eqb x l.var) refl (ap (λ (q : Partial). q x) (sym (made_more entries place e at)) ∙ is);
        assumed = λ k d h also assumed. other k d h also ∙ suits.assumed k d (omega arith) also assumed;
        still_open = λ k d m h also reason. other k d h also ∙ suits.still_open k d m (omega arith) also reason;
      } in
      (unit.0, unit.1, inr (l, is_unit, later (assume r l) after))
    where
      by : (x : ℕ) (b : Bool) → old x ≡ true → (t : Bool) → eqb x e.lit.var ≡ t → (if t then Some (not e.lit.neg) else made (take place entries) x) ≡ Some b → assume r e.lit x ≡ Some b
      by x b mark true same is = ap (assume r e.lit) (eqb-true x e.lit.var same) ∙ assume_at r e.lit ∙ is
      by x b mark false ne is = rw ne (suits.had x b (more x mark) is)

  -- from the beginning the hints refute the assumptions
  pub hints_whole : (inputs : ℕ) (known : List (List Lit)) (marked : ℕ → Bool) (hints : List ℕ) → AreJust inputs known entries → HintsFrom known entries marked 0 hints → Refutes known hints (refute (clause_of (assumed_in entries)) nothing)
  hints_whole inputs known marked hints just from = from (refute (clause_of (assumed_in entries)) nothing) (record {
    had = λ x b mark is. absurd (nothing_is x b is);
    assumed = λ k e h at is. false_in (assumed_in entries) nothing e.lit.var (inr (there entries k e at is)) ∙ ap (λ (b : Bool). Some (not b)) (sym (negated k e at is (just.at k e at)));
    still_open = λ k e number h at is. refute_other (assumed_in entries) nothing e.lit.var (apart entries e.lit.var (λ j d also assumed. differ k e number j d at also is assumed (split k j)));
  })
    where
      nothing_is : (x : ℕ) (b : Bool) → nothing x ≡ Some b → ⊥
      nothing_is x b e = cc

      in_after : (xs ys : List ℕ) (x : ℕ) → In x ys → In x (xs ++ ys)
      in_after [] ys x i = i
      in_after (z ∷ xs) ys x i = inr (in_after xs ys x i)

      there : (es : List Entry) (k : ℕ) (e : Entry) → slice_get es k ≡ Some e → e.reason ≡ Assumed → In e.lit.var (assumed_in es)
      there [] k e at is = absurd (cc)
      there (d ∷ es) zero e at is =
          let same : d ≡ e = cc in
          let r : d.reason ≡ Assumed = ap (λ (f : Entry). f.reason) same ∙ is in
          rw r (inl (ap (λ (f : Entry). f.lit.var) (sym same)))
      there (d ∷ es) (suc k) e at is = in_after (assumed_by d.lit d.reason) (assumed_in es) e.lit.var (there es k e at is)

      false_in : (xs : List ℕ) (p : Partial) (x : ℕ) → (p x ≡ Some false) ⊎ In x xs → refute (clause_of xs) p x ≡ Some false
      false_in [] p x (inl e) = e
      false_in [] p x (inr i) = absurd i
      false_in (y ∷ ys) p x (inl e) = false_in ys (assume p (minus (variable y))) x (inl (by (eqb x y) refl))
        where
          by : (t : Bool) → eqb x y ≡ t → (if t then Some false else p x) ≡ Some false
          by true same = refl
          by false ne = e
      false_in (y ∷ ys) p x (inr (inl same)) = false_in ys (assume p (minus (variable y))) x (inl (rw (eq-eqb x y same) refl))
      false_in (y ∷ ys) p x (inr (inr i)) = false_in ys (assume p (minus (variable y))) x (inr i)

      negated : (k : ℕ) (e : Entry) → slice_get entries k ≡ Some e → e.reason ≡ Assumed → IsJust inputs known (made (take k entries)) e.lit e.reason → e.lit.neg ≡ true
      negated k e at is just_e = (subst (IsJust inputs known (made (take k entries)) e.lit) is just_e).1

      not_both : (e : Entry) (number : ℕ) → e.reason ≡ Clause number → e.reason ≡ Assumed → ⊥
      not_both e number is also = let wrong : Clause number ≡ Assumed = sym is ∙ also in cc

      differ : (k : ℕ) (e : Entry) (number j : ℕ) (d : Entry) → slice_get entries k ≡ Some e → slice_get entries j ≡ Some d → e.reason ≡ Clause number → d.reason ≡ Assumed → (k < j) ⊎ (k ≡ j) ⊎ (j < k) → e.lit.var ≡ d.lit.var → ⊥
      differ k e number j d at also is assumed (inl less) same = two_variables k j e d at also less (sym same)
      differ k e number j d at also is assumed (inr (inl here)) same =
          let one : e ≡ d = some_one (sym at ∙ ap (slice_get entries) here ∙ also) in
          not_both e number is (ap (λ (f : Entry). f.reason) one ∙ assumed)
        where
          some_one : Some e ≡ Some d → e ≡ d
          some_one s = cc
      differ k e number j d at also is assumed (inr (inr more)) same = two_variables j k d e also at more same

      apart : (es : List Entry) (x : ℕ) → ((j : ℕ) (d : Entry) → slice_get es j ≡ Some d → d.reason ≡ Assumed → x ≡ d.lit.var → ⊥) → AllNot x (assumed_in es)
      apart [] x all = tt
      apart (d ∷ es) x all = by d.reason refl (apart es x (λ j f at. all (suc j) f at))
        where
          other : d.reason ≡ Assumed → (t : Bool) → eqb x d.lit.var ≡ t → eqb x d.lit.var ≡ false
          other is true same = absurd (all 0 d refl is (eqb-true x d.lit.var same))
          other is false ne = ne

          by : (r : Reason) → d.reason ≡ r → AllNot x (assumed_in es) → AllNot x (assumed_by d.lit r ++ assumed_in es)
          by Assumed is rest = (other is (eqb x d.lit.var) refl, rest)
          by (Clause number) is rest = rest

abbrev OpenHere : ℕ → List (List Lit) → Partial → Lit → Reason → Type 0
OpenHere inputs known p l r = IsJust inputs known p l r → p l.var ≡ None

just_open : (inputs : ℕ) (known : List (List Lit)) (p : Partial) (l : Lit) (r : Reason) → OpenHere inputs known p l r
just_open inputs known p l Assumed is = is.0.still_open
just_open inputs known p l (Clause number) is = is.2.still_open

pub above : List Entry → ℕ
above [] = 0
above (e ∷ es) = suc e.lit.var + above es

within_above : (es : List Entry) (k : ℕ) (e : Entry) → slice_get es k ≡ Some e → e.lit.var < above es
unfolding above
within_above [] k e at = absurd (cc)
within_above (d ∷ es) zero e at =
    let same : d ≡ e = cc in
    let at : d.lit.var ≡ e.lit.var = ap (λ (f : Entry). f.lit.var) same in
    omega arith
within_above (d ∷ es) (suc k) e at = let rest = within_above es k e at in omega arith

-- justified entries are new
pub just_new : (inputs : ℕ) (known : List (List Lit)) (entries : List Entry) → AreJust inputs known entries → AreNew (above entries) entries
just_new inputs known entries just = record {
  was_open = λ k e at. just_open inputs known (made (take k entries)) e.lit e.reason (just.at k e at);
  below = within_above entries;
}

pub just_unit : (inputs : ℕ) (known : List (List Lit)) (entries : List Entry) (place : ℕ) (e : Entry) (number : ℕ) → AreJust inputs known entries → slice_get entries place ≡ Some e → e.reason ≡ Clause number → IsUnitAt known (made (take place entries)) number e.lit
just_unit inputs known entries place e number just at is = subst (IsJust inputs known (made (take place entries)) e.lit) is (just.at place e at)

pub none_reason : (marked : ℕ → Bool) (e : Entry) (found : Option ℕ) → ((number : ℕ) → found ≡ Some number → ⊥) → IsMarkedReason marked e found → (e.reason ≡ Assumed) ⊎ (marked e.lit.var ≡ false)
none_reason marked e (Some number) none is = absurd (none number refl)
none_reason marked e None none is = is

module _ (entries : List Entry) (known : List (List Lit)) where
  pub hints_begin : (inputs : ℕ) (marked : ℕ → Bool) (number place : ℕ) (hints : List ℕ) → AreJust inputs known entries → FalsifiedAt known (made entries) number → MarksClause marked known number → place ≡ length entries → hints ≡ number ∷ [] → HintsFrom known entries marked place (reverse hints)
  hints_begin inputs marked number place hints just at marks same is =
      let start = hints_first (above entries) entries (just_new inputs known entries just) known marked number at.0 at.1 at.2 (marks at.0 at.1) in
      subst (λ hs. HintsFrom known entries marked place (reverse hs)) (sym is)
      (subst (λ k. HintsFrom known entries marked k (number ∷ [])) (sym same) start)

  pub hints_taken : (inputs : ℕ) (old marked : ℕ → Bool) (place next : ℕ) (e : Entry) (number : ℕ) (before hints : List ℕ) → AreJust inputs known entries → slice_get entries place ≡ Some e → e.reason ≡ Clause number → IsUnitAt known (made (take place entries)) number e.lit → MarksMore old marked → MarksClause marked known number → suc place ≡ next → hints ≡ before ++ (number ∷ []) → HintsFrom known entries old next (reverse before) → HintsFrom known entries marked place (reverse hints)
  hints_taken inputs old marked place next e number before hints just at is unit more marks follows same later =
      let after : HintsFrom known entries old (suc place) (reverse before) = subst (λ k. HintsFrom known entries old k (reverse before)) (sym follows) later in
      let whole = hints_more (above entries) entries (just_new inputs known entries just) known old marked place e number (reverse before) at is unit more (marks unit.0 unit.1) after in
      subst (HintsFrom known entries marked place) (sym (ap reverse same ∙ reverse-append before (number ∷ []))) whole

  pub hints_passed : (inputs : ℕ) (marked : ℕ → Bool) (place next : ℕ) (e : Entry) (hints : List ℕ) → AreJust inputs known entries → slice_get entries place ≡ Some e → (e.reason ≡ Assumed) ⊎ (marked e.lit.var ≡ false) → suc place ≡ next → HintsFrom known entries marked next hints → HintsFrom known entries marked place hints
  hints_passed inputs marked place next e hints just at (inl is) follows later =
      hints_assumed (above entries) entries (just_new inputs known entries just) known marked place e hints at is (subst (λ k. HintsFrom known entries marked k hints) (sym follows) later)
  hints_passed inputs marked place next e hints just at (inr out) follows later =
      hints_unmarked (above entries) entries (just_new inputs known entries just) known marked place e hints at out (subst (λ k. HintsFrom known entries marked k hints) (sym follows) later)

  pub hints_end : (inputs : ℕ) (marked : ℕ → Bool) (place : ℕ) (before hints : List ℕ) → AreJust inputs known entries → place ≡ 0 → hints ≡ reverse before → HintsFrom known entries marked place (reverse before) → Refutes known hints (refute (clause_of (assumed_in entries)) nothing)
  hints_end inputs marked place before hints just same is from =
      let whole : HintsFrom known entries marked 0 hints = subst (HintsFrom known entries marked 0) (sym is) (subst (λ k. HintsFrom known entries marked k (reverse before)) same from) in
      hints_whole (above entries) entries (just_new inputs known entries just) inputs known marked hints just whole
