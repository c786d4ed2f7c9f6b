-- Gates that are linked one after the other.
use Rattle.std.proofs.Common.{◌≡◌, ℕ, zero, suc, ◌+◌, ◌<◌, ◌≤◌, ◌⊎◌, inl, inr, Bool, true, false, eqb, List, [], ◌∷◌, ◌++◌, length, set, slice_index_or, Some, refl, sym, ◌∙◌, ap, subst, arith, length-append, eq-eqb}
use Rattle.std.specs.List.{slice_get}
use Rattle.std.proofs.lemmas.Bool.{eqb-true}
use Rattle.std.proofs.lemmas.List.{length-set}
use Rattle.std.proofs.lemmas.Option.{slice_get_within, slice_get-get_or}
use Rattle.wb_gate.specs.declared.gates.Gate.{Gate}
use Rattle.wb_gate.specs.Circuit.{Circuit, variables, variable}
use Rattle.wb_gate.specs.Clauses.{gate_clauses, clauses_before}
use Rattle.wb_solve.specs.declared.links.Operands.{Operands}
use Rattle.wb_solve.specs.declared.links.Link.{Link}
use Rattle.wb_solve.specs.declared.links.Links.{Links}
use Rattle.wb_solve.specs.Linking.{operands, Names, AreBelow, IsFree, IsLink, AreLinked, IsEnd}
use Rattle.wb_solve.proofs.Searching.{last_or_before}
use Rattle.wb_solve.proofs.Gates.{before_more}

pub put_same : {X : Type 0} (xs : List X) (i : ℕ) (x : X) → i < length xs → slice_get (set xs i x) i ≡ Some x
put_same [] i x h = absurd (omega arith)
put_same (y ∷ xs) zero x h = refl
put_same (y ∷ xs) (suc i) x h = put_same xs i x (omega arith)

pub put_other : {X : Type 0} (xs : List X) (i j : ℕ) (x : X) → (j ≡ i → ⊥) → slice_get (set xs i x) j ≡ slice_get xs j
put_other [] i j x ne = refl
put_other (y ∷ xs) zero zero x ne = absurd (ne refl)
put_other (y ∷ xs) zero (suc j) x ne = refl
put_other (y ∷ xs) (suc i) zero x ne = refl
put_other (y ∷ xs) (suc i) (suc j) x ne = put_other xs i j x (λ e. ne (ap suc e))

pub same_or_not : (a b : ℕ) → (a ≡ b) ⊎ (a ≡ b → ⊥)
same_or_not a b = by (eqb a b) refl
  where
    by : (t : Bool) → eqb a b ≡ t → (a ≡ b) ⊎ (a ≡ b → ⊥)
    by true e = inl (eqb-true a b e)
    by false e = inr (λ same. let f : eqb a b ≡ true = eq-eqb a b same in cc)

pub names_or_not : (x : ℕ) (o : Operands) → Names x o ⊎ (Names x o → ⊥)
names_or_not x o = by (same_or_not o.first.var x) (same_or_not o.second.var x) (same_or_not o.third.var x)
  where
    by : (o.first.var ≡ x) ⊎ (o.first.var ≡ x → ⊥) → (o.second.var ≡ x) ⊎ (o.second.var ≡ x → ⊥) → (o.third.var ≡ x) ⊎ (o.third.var ≡ x → ⊥) → Names x o ⊎ (Names x o → ⊥)
    by (inl one) two three = inl (inl one)
    by (inr one) (inl two) three = inl (inr (inl two))
    by (inr one) (inr two) (inl three) = inl (inr (inr three))
    by (inr one) (inr two) (inr three) = inr (λ names. none names)
      where
        none : Names x o → ⊥
        none (inl here) = one here
        none (inr (inl here)) = two here
        none (inr (inr here)) = three here

-- the variables of a gate get an end
module _ (old : List ℕ) (o : Operands) (end : ℕ) (below : AreBelow (length old) o) where
  abbrev one : List ℕ
  one = set old o.first.var end

  abbrev two : List ℕ
  two = set one o.second.var end

  keeps : (xs : List ℕ) (i x : ℕ) → slice_get xs x ≡ Some end → i < length xs → slice_get (set xs i end) x ≡ Some end
  keeps xs i x at h = by (same_or_not x i)
    where
      by : (x ≡ i) ⊎ (x ≡ i → ⊥) → slice_get (set xs i end) x ≡ Some end
      by (inl same) = ap (slice_get (set xs i end)) same ∙ put_same xs i end h
      by (inr apart) = put_other xs i x end apart ∙ at

  one_long : length one ≡ length old
  one_long = length-set old o.first.var end

  two_long : length two ≡ length old
  two_long = length-set one o.second.var end ∙ one_long

  second_in : o.second.var < length one
  second_in = subst (λ n. o.second.var < n) (sym one_long) below.1

  third_in : o.third.var < length two
  third_in = subst (λ n. o.third.var < n) (sym two_long) below.2

  named_end : (x : ℕ) → Names x o → x < length old → slice_get (set two o.third.var end) x ≡ Some end
  named_end x (inl here) h =
      keeps two o.third.var x (keeps one o.second.var x (subst (λ y. slice_get one y ≡ Some end) here (put_same old o.first.var end below.0)) second_in) third_in
  named_end x (inr (inl here)) h = keeps two o.third.var x (subst (λ y. slice_get two y ≡ Some end) here (put_same one o.second.var end second_in)) third_in
  named_end x (inr (inr here)) h = subst (λ y. slice_get (set two o.third.var end) y ≡ Some end) here (put_same two o.third.var end third_in)

  pub ends_put : IsEnd old (set two o.third.var end) o end
  ends_put = record {
    named = named_end;
    others = λ x apart. put_other two o.third.var x end (λ e. apart (inr (inr (sym e)))) ∙ put_other one o.second.var x end (λ e. apart (inr (inl (sym e)))) ∙ put_other old o.first.var x end (λ e. apart (inl (sym e)));
    same_length = length-set two o.third.var end ∙ two_long;
  }

module _ (c : Circuit) (number : ℕ) (gate : Gate) (old new : Links) (link : Link) (at : slice_get c.gates number ≡ Some gate) (is : AreLinked c number old) (is_link : IsLink c number (operands gate) link) (grown : new.gates.items ≡ old.gates.items ++ (link ∷ [])) (ends : IsEnd old.ends.items new.ends.items (operands gate) (number + 1)) (counted : new.clauses ≡ old.clauses + length (gate_clauses (variable (c.inputs + number)) gate)) where
  split : (k : ℕ) → k < number + 1 → (k < number) ⊎ (k ≡ number)
  split k h = grind arith

  one_gate : (k : ℕ) (other : Gate) → k ≡ number → slice_get c.gates k ≡ Some other → other ≡ gate
  one_gate k other same found = some_gate (sym found ∙ ap (slice_get c.gates) same ∙ at)
    where
      some_gate : Some other ≡ Some gate → other ≡ gate
      some_gate e = cc

  free_on : (x end : ℕ) → (Names x (operands gate) → ⊥) → IsFree c.gates x end number → IsFree c.gates x end (number + 1)
  free_on x end apart was = record {
    within = let h = was.within in omega arith;
    none = λ k other from to found names. by k other from found names (split k to);
  }
    where
      by : (k : ℕ) (other : Gate) → end ≤ k → slice_get c.gates k ≡ Some other → Names x (operands other) → (k < number) ⊎ (k ≡ number) → ⊥
      by k other from found names (inl less) = was.none k other from less found names
      by k other from found names (inr same) = apart (subst (λ g. Names x (operands g)) (one_gate k other same found) names)

  some_end : (a b : ℕ) → Some a ≡ Some b → a ≡ b
  some_end a b e = cc

  end_at : (x end : ℕ) → slice_get new.ends.items x ≡ Some end → IsFree c.gates x end (number + 1)
  end_at x end found = by (names_or_not x (operands gate))
    where
      within : x < length old.ends.items
      within = let h = slice_get_within new.ends.items x end found in let same = ends.same_length in omega (arith, h, same)

      by : Names x (operands gate) ⊎ (Names x (operands gate) → ⊥) → IsFree c.gates x end (number + 1)
      by (inl names) =
          let same : end ≡ number + 1 = some_end end (number + 1) (sym found ∙ ends.named x names within) in
          record { within = omega (arith, same); none = λ k other from to got called. absurd (omega (arith, same, from, to)) }
      by (inr apart) = free_on x end apart (is.ends x end (sym (ends.others x apart) ∙ found))

  link_at : (k : ℕ) (other : Gate) (l : Link) → slice_get c.gates k ≡ Some other → slice_get new.gates.items k ≡ Some l → IsLink c k (operands other) l
  link_at k other l found kept = by (last_or_before old.gates.items link k l (ap (λ ls. slice_get ls k) (sym grown) ∙ kept))
    where
      by : (slice_get old.gates.items k ≡ Some l) ⊎ ((k ≡ length old.gates.items) × (link ≡ l)) → IsLink c k (operands other) l
      by (inl before) = is.each k other l found before
      by (inr last) =
          let here : k ≡ number = last.0 ∙ is.gate_count in
          subst (λ g. IsLink c k (operands g) l) (sym (one_gate k other here found))
          (subst (λ n. IsLink c n (operands gate) l) (sym here) (subst (IsLink c number (operands gate)) last.1 is_link))

  pub linked_more : AreLinked c (number + 1) new
  linked_more =
      let longer = length-append old.gates.items (link ∷ []) in
      let same : length new.gates.items ≡ length (old.gates.items ++ (link ∷ [])) = ap length grown in
      let count = is.gate_count in
      let more = before_more c number gate at in
      let was = is.clause_count in
      let same_number : suc number ≡ number + 1 = omega arith in
      let next : clauses_before c (suc number) ≡ clauses_before c (number + 1) = ap (clauses_before c) same_number in
      record {
        variable_count = ends.same_length ∙ is.variable_count;
        gate_count = omega (arith, longer, same, count);
        clause_count = omega (arith, more, was, counted, next);
        ends = end_at;
        each = link_at;
      }

-- the gate of a number, and what is kept of it
pub gate_within : (gates : List Gate) (k : ℕ) → k < length gates → (gate : Gate) × (slice_get gates k ≡ Some gate)
gate_within [] k h = absurd (omega arith)
gate_within (gate ∷ gates) zero h = (gate, refl)
gate_within (gate ∷ gates) (suc k) h = gate_within gates k (omega arith)

pub kept_link : (c : Circuit) (links : Links) (number : ℕ) (link : Link) → AreLinked c (length c.gates) links → number < length c.gates → link ≡ slice_index_or links.gates.items number link → slice_get links.gates.items number ≡ Some link
kept_link c links number link is h found =
    slice_get-get_or links.gates.items number link (let count = is.gate_count in omega (arith, h, count)) ∙ ap (λ (l : Link). Some l) (sym found)

pub kept_end : (c : Circuit) (count : ℕ) (links : Links) (x end : ℕ) → AreLinked c count links → x < variables c → end ≡ slice_index_or links.ends.items x end → IsFree c.gates x end count
kept_end c count links x end is h found =
    is.ends x end (slice_get-get_or links.ends.items x end (let many = is.variable_count in omega (arith, h, many)) ∙ ap (λ (n : ℕ). Some n) (sym found))
