-- Descents end, and a trail leads through the one that its assumptions make.
use Rattle.std.proofs.Common.{◌≡◌, ℕ, zero, suc, ◌+◌, ◌<◌, ◌≤◌, ◌⊎◌, inl, inr, Bool, true, false, not, if◌then◌else◌, List, [], ◌∷◌, ◌++◌, length, take, Option, Some, None, refl, sym, ◌∙◌, ap, subst, arith}
use Rattle.std.specs.List.{slice_get}
use Rattle.std.proofs.lemmas.List.{append-nil}
use Rattle.wb_gate.specs.declared.gates.Lit.{Lit}
use Rattle.wb_gate.specs.Circuit.{minus, variable}
use Rattle.wb_derive.specs.Partial.{Partial, nothing, assume}
use Rattle.wb_solve.specs.declared.trail.Entry.{Entry}
use Rattle.wb_solve.specs.declared.trail.Reason.{Reason}
use Rattle.wb_solve.specs.declared.trail.Reason.TheVariants.{Assumed, Clause}
use Rattle.wb_solve.specs.Descent.{IsStable, AreValued, IsFirstOpen, Ended, Conflict, Values, clause_of, conflicts, propagates, assumes, gives, Descends, DescendsInSomeOrder, IsDescent, rests, goes_on}
use Rattle.wb_solve.specs.Course.{Standing, Falsified, UnitOf, Other, Found, FalsifiedFound, UnitFound, NoneFound, is_none, IsFound, noted, standing, IsStanding}
use Rattle.wb_solve.specs.Trails.{AllNamed, made, IsJust, AreJust, assumed_by, assumed_in, AreStable}
use Rattle.wb_solve.proofs.Partials.{assume_at}
use Rattle.wb_solve.proofs.Outcomes.{get_within}
use Rattle.wb_solve.proofs.Orders.{alike, one_end, some_order}
use Rattle.wb_solve.proofs.Standings.{standing_is}
use Rattle.wb_solve.proofs.Findings.{found_none, found_more, unit_within}
use Rattle.wb_solve.proofs.Turning.{stable_from, none_falsified}
use Rattle.wb_solve.proofs.Trailing.{take_more, made_more, assume_other}

-- how many variables below n have no value
open_count : ℕ → Partial → ℕ
open_count zero p = 0
open_count (suc n) p = (if is_none (p n) then 1 else 0) + open_count n p

count_same : (n : ℕ) (p : Partial) (l : Lit) → n ≤ l.var → open_count n (assume p l) ≡ open_count n p
unfolding open_count
count_same zero p l h = refl
count_same (suc n) p l h =
    let other : assume p l n ≡ p n = assume_other p l n (λ e. omega (arith, e)) in
    let rest = count_same n p l (omega arith) in
    ap (λ (o : Option Bool). (if is_none o then 1 else 0) + open_count n (assume p l)) other ∙ ap (λ m. (if is_none (p n) then 1 else 0) + m) rest

count_less : (n : ℕ) (p : Partial) (l : Lit) → l.var < n → p l.var ≡ None → open_count n (assume p l) < open_count n p
unfolding open_count
count_less zero p l h still = absurd (omega arith)
count_less (suc n) p l h still = by (λ before. count_less n p l before still) (split l.var n)
  where
    split : (x m : ℕ) → (x < m) ⊎ (m ≤ x)
    split x m = grind arith

    plus : (o q : Option Bool) (a b : ℕ) → o ≡ q → a < b → (if is_none o then 1 else 0) + a < (if is_none q then 1 else 0) + b
    plus o q a b e less = rw e (by_one (is_none q))
      where
        by_one : (t : Bool) → (if t then 1 else 0) + a < (if t then 1 else 0) + b
        by_one true = omega arith
        by_one false = omega arith

    ends : (o q : Option Bool) (b : Bool) (a c : ℕ) → o ≡ Some b → q ≡ None → a ≡ c → (if is_none o then 1 else 0) + a < (if is_none q then 1 else 0) + c
    ends o q b a c e f same = rw (e, f) (omega (arith, same))

    by : (l.var < n → open_count n (assume p l) < open_count n p) → (l.var < n) ⊎ (n ≤ l.var) → (if is_none (assume p l n) then 1 else 0) + open_count n (assume p l) < (if is_none (p n) then 1 else 0) + open_count n p
    by earlier (inl before) =
        plus (assume p l n) (p n) (open_count n (assume p l)) (open_count n p) (assume_other p l n (λ e. omega (arith, e, before))) (earlier before)
    by earlier (inr here) =
        let at : n ≡ l.var = omega arith in
        ends (assume p l n) (p n) (not l.neg) (open_count n (assume p l)) (open_count n p) (ap (assume p l) at ∙ assume_at p l) (ap p at ∙ still) (count_same n p l here)

first_open : (m : ℕ) (p : Partial) → ((x : ℕ) × IsFirstOpen m p x) ⊎ AreValued m p
first_open zero p = inr (λ x h. absurd (omega arith))
first_open (suc m) p = by (first_open m p)
  where
    last : AreValued m p → (o : Option Bool) → p m ≡ o → ((x : ℕ) × IsFirstOpen (suc m) p x) ⊎ AreValued (suc m) p
    last all None e = inl (m, record { below = omega arith; still_open = e; valued = all })
    last all (Some b) e = inr (λ x h. valued x (split x h))
      where
        split : (x : ℕ) → x < suc m → (x < m) ⊎ (x ≡ m)
        split x h = grind arith

        valued : (x : ℕ) → (x < m) ⊎ (x ≡ m) → (v : Bool) × (p x ≡ Some v)
        valued x (inl before) = all x before
        valued x (inr here) = (b, ap p here ∙ e)

    by : ((x : ℕ) × IsFirstOpen m p x) ⊎ AreValued m p → ((x : ℕ) × IsFirstOpen (suc m) p x) ⊎ AreValued (suc m) p
    by (inl found) =
        let less = found.1.below in
        inl (found.0, record { below = omega arith; still_open = found.1.still_open; valued = found.1.valued })
    by (inr all) = last all (p m) refl

module _ (inputs n : ℕ) (known : List (List Lit)) (named : AllNamed n known) (few : inputs ≤ n) where
  scan_to : (p : Partial) (k : ℕ) → k ≤ length known → (f : Found) × IsFound known p n k f
  scan_to p zero h = (NoneFound, found_none known p n)
  scan_to p (suc k) h = subst (λ m. (f : Found) × IsFound known p n m f) (omega arith) (by (scan_to p k (omega arith)) (get_within known k (omega arith)))
    where
      differ : (l : Lit) → UnitOf l ≡ Falsified → ⊥
      differ l e = cc

      other : Other ≡ Falsified → ⊥
      other e = cc

      with_standing : (before : (f : Found) × IsFound known p n k f) (at : (clause : List Lit) × (slice_get known k ≡ Some clause)) (s : Standing) → IsStanding p at.0 s → (f : Found) × IsFound known p n (k + 1) f
      with_standing before at Falsified is = (FalsifiedFound k, (at.0, at.1, is))
      with_standing before at (UnitOf l) is =
          (noted before.0 k (UnitOf l), found_more known p n k before.0 (UnitOf l) before.1 (at.0, at.1, is) (unit_within n p at.0 (UnitOf l) (named k at.0 at.1) is) (differ l))
      with_standing before at Other is =
          (noted before.0 k Other, found_more known p n k before.0 Other before.1 (at.0, at.1, is) tt other)

      by : (f : Found) × IsFound known p n k f → (clause : List Lit) × (slice_get known k ≡ Some clause) → (f : Found) × IsFound known p n (k + 1) f
      by before at = with_standing before at (standing p at.0) (standing_is p at.0)

  total_from : (fuel : ℕ) (p : Partial) (assumed : List ℕ) → open_count n p < fuel → (end : Ended) × Descends inputs known end p assumed
  total_from zero p assumed h = absurd (omega arith)
  total_from (suc fuel) p assumed h = by (total_from fuel) (scan_to p (length known) (omega arith))
    where
      with_open : ((q : Partial) (a : List ℕ) → open_count n q < fuel → (end : Ended) × Descends inputs known end q a) → IsStable known p → ((x : ℕ) × IsFirstOpen inputs p x) ⊎ AreValued inputs p → (end : Ended) × Descends inputs known end p assumed
      with_open later stable (inl found) =
          let below = found.1.below in
          let less = count_less n p (minus (variable found.0)) (omega arith) found.1.still_open in
          let rest = later (assume p (minus (variable found.0))) (assumed ++ (found.0 ∷ [])) (omega arith) in
          (rest.0, assumes p assumed found.0 stable found.1 rest.1)
      with_open later stable (inr all) = (Values p, gives p assumed stable all refl)

      by : ((q : Partial) (a : List ℕ) → open_count n q < fuel → (end : Ended) × Descends inputs known end q a) → (f : Found) × IsFound known p n (length known) f → (end : Ended) × Descends inputs known end p assumed
      by later (FalsifiedFound number, is) = (Conflict (clause_of assumed), conflicts p assumed (number, is.0, is.1, is.2) refl)
      by later (UnitFound number l, is) =
          let less = count_less n p l is.3 is.1.2.still_open in
          let rest = later (assume p l) assumed (omega arith) in
          (rest.0, propagates p assumed l (none_falsified known p is.0) (number, is.1, is.2) rest.1)
      by later (NoneFound, is) = with_open later (stable_from known p is.0 is.1) (first_open inputs p)

  -- from any values a descent ends
  pub total : (p : Partial) (assumed : List ℕ) → (end : Ended) × Descends inputs known end p assumed
  total p assumed = total_from (suc (open_count n p)) p assumed (omega arith)

  -- where the rest of a descent from the end of a trail ends so, its rest from each place of it does
  module _ (entries : List Entry) (just : AreJust inputs known entries) (stable : AreStable known entries) (end : Ended) (last : DescendsInSomeOrder inputs known end (made entries) (assumed_in entries)) where
    abbrev EndsSo : List Entry → Type 0
    EndsSo front = (other : Ended) → DescendsInSomeOrder inputs known other (made front) (assumed_in front) → end ≡ other

    assumed_push : (es : List Entry) (e : Entry) → assumed_in (es ++ (e ∷ [])) ≡ assumed_in es ++ assumed_by e.lit e.reason
    assumed_push [] e = append-nil (assumed_by e.lit e.reason)
    assumed_push (d ∷ es) e = ap (λ xs. assumed_by d.lit d.reason ++ xs) (assumed_push es e) ∙ sym (assoc (assumed_by d.lit d.reason) (assumed_in es) (assumed_by e.lit e.reason))
      where
        assoc : (xs ys zs : List ℕ) → (xs ++ ys) ++ zs ≡ xs ++ (ys ++ zs)
        assoc [] ys zs = refl
        assoc (x ∷ xs) ys zs = ap (λ ws. x ∷ ws) (assoc xs ys zs)

    minus_is : (l : Lit) → l.neg ≡ true → l ≡ minus (variable l.var)
    minus_is l e =
        let lit : Bool → Lit = λ b. record { var = l.var; neg = b } in
        ap lit e

    step_back : (k : ℕ) (e : Entry) (r : Reason) → slice_get entries k ≡ Some e → e.reason ≡ r → IsJust inputs known (made (take k entries)) e.lit r → EndsSo (take (suc k) entries) → EndsSo (take k entries)
    step_back k e (Clause number) at is_clause just_e later other descends =
        let p = made (take k entries) in
        let q = assume p e.lit in
        let assumed = assumed_in (take k entries) in
        let front = take_more entries k e at in
        let same_assumed : assumed_in (take (suc k) entries) ≡ assumed =
        ap assumed_in front ∙ assumed_push (take k entries) e ∙ ap (λ (r : Reason). assumed ++ assumed_by e.lit r) is_clause ∙ append-nil assumed in
        let rest = total q assumed in
        let rest_some = some_order inputs known rest.0 q assumed rest.1 in
        let at_next : DescendsInSomeOrder inputs known rest.0 (made (take (suc k) entries)) (assumed_in (take (suc k) entries)) =
        subst (λ v. DescendsInSomeOrder inputs known rest.0 v (assumed_in (take (suc k) entries))) (sym (made_more entries k e at))
        (subst (λ xs. DescendsInSomeOrder inputs known rest.0 q xs) (sym same_assumed) rest_some) in
        let here = later rest.0 at_next in
        here ∙ alike inputs known rest.0 other q assumed rest_some p p (goes_on p q e.lit (number, just_e) (rests q)) (rests p) descends
    step_back k e Assumed at is_assumed just_e later other descends =
        let p = made (take k entries) in
        let x = e.lit.var in
        let l = minus (variable x) in
        let assumed = assumed_in (take k entries) in
        let front = take_more entries k e at in
        let same_assumed : assumed_in (take (suc k) entries) ≡ assumed ++ (x ∷ []) =
        ap assumed_in front ∙ assumed_push (take k entries) e ∙ ap (λ (r : Reason). assumed ++ assumed_by e.lit r) is_assumed in
        let same_made : made (take (suc k) entries) ≡ assume p l = made_more entries k e at ∙ ap (assume p) (minus_is e.lit just_e.1) in
        let rest = total (assume p l) (assumed ++ (x ∷ [])) in
        let rest_some = some_order inputs known rest.0 (assume p l) (assumed ++ (x ∷ [])) rest.1 in
        let at_next : DescendsInSomeOrder inputs known rest.0 (made (take (suc k) entries)) (assumed_in (take (suc k) entries)) =
        subst (λ v. DescendsInSomeOrder inputs known rest.0 v (assumed_in (take (suc k) entries))) (sym same_made)
        (subst (λ xs. DescendsInSomeOrder inputs known rest.0 (assume p l) xs) (sym same_assumed) rest_some) in
        let here = later rest.0 at_next in
        let whole = assumes p assumed x (stable k e at is_assumed) just_e.0 rest_some in
        here ∙ one_end inputs known rest.0 other p assumed whole descends

    ends_from : (more k : ℕ) → k + more ≡ length entries → EndsSo (take k entries)
    ends_from zero k h =
        let all : take k entries ≡ entries = ap (λ m. take m entries) (omega arith) ∙ take_whole entries in
        λ other descends. one_end inputs known end other (made entries) (assumed_in entries) last (subst (λ es. DescendsInSomeOrder inputs known other (made es) (assumed_in es)) all descends)
      where
        take_whole : (es : List Entry) → take (length es) es ≡ es
        take_whole [] = refl
        take_whole (e ∷ es) = ap (λ ds. e ∷ ds) (take_whole es)
    ends_from (suc more) k h =
        let at = entry_within entries k (omega arith) in
        step_back k at.0 at.0.reason at.1 refl (just.at k at.0 at.1) (ends_from more (suc k) (omega arith))
      where
        entry_within : (es : List Entry) (j : ℕ) → j < length es → (e : Entry) × (slice_get es j ≡ Some e)
        entry_within [] j h = absurd (omega arith)
        entry_within (e ∷ es) zero h = (e, refl)
        entry_within (e ∷ es) (suc j) h = entry_within es j (omega arith)

    -- the whole descent ends so
    pub trail_descends : IsDescent inputs known end
    trail_descends =
        let whole = total nothing [] in
        let same = ends_from (length entries) 0 (omega arith) whole.0 (some_order inputs known whole.0 nothing [] whole.1) in
        subst (IsDescent inputs known) (sym same) whole.1
