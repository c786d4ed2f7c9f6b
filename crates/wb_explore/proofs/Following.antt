-- What comes of an entry by one instruction.
use Rattle.std.proofs.Common.{◌≡◌, ◌≢◌, ℕ, ◌+◌, ◌<◌, ◌≤◌, Bool, true, false, not, ◌&&◌, Option, Some, [], ◌∷◌, ◌⊎◌, inl, inr, refl, sym, ap, subst, ◌∙◌, arith, if◌then◌else◌}
use Rattle.std.specs.Prelude.{Contains}
use Rattle.std.proofs.lemmas.Bool.{both_ways, cases_lt}
use Rattle.wb_rom.specs.declared.images.Image.{Image}
use Rattle.wb_term.specs.declared.nodes.BitId.{BitId}
use Rattle.wb_term.specs.Inputs.{Assignment, IsAssignment}
use Rattle.wb_term.specs.Terms.{Terms, HasBit}
use Rattle.wb_term.specs.Values.{bit_value}
use Rattle.wb_term.specs.Under.{HasOnly}
use Rattle.wb_term.specs.Growth.{Grown}
use Rattle.wb_machine.specs.State.{State, IsState}
use Rattle.wb_machine.specs.Next.{next}
use Rattle.wb_port.specs.declared.points.Point.{Point}
use Rattle.wb_port.specs.declared.points.Shown.{Shown}
use Rattle.wb_port.specs.NextPoint.{showing, point_stepped}
use Rattle.wb_port.specs.Monitor.{count_after}
use Rattle.wb_symstep.specs.declared.state.SymState.{SymState}
use Rattle.wb_symstep.specs.declared.stepped.Stepped.{Stepped}
use Rattle.wb_symstep.specs.declared.stepped.Stepped.TheVariants.{Fork}
use Rattle.wb_symstep.specs.Stepped.{chosen}
use Rattle.wb_symstep.specs.State.{StandsFor, IsSymState, StateHasOnly}
use Rattle.wb_symstep.specs.Laws.{GrowthKeepsStates}
use Rattle.wb_point.specs.Shows.{shows}
use Rattle.wb_explore.specs.declared.plan.Plan.{Plan}
use Rattle.wb_explore.specs.declared.entries.Entry.{Entry}
use Rattle.wb_explore.specs.Entries.{FollowsOn}
use Rattle.wb_explore.specs.Plans.{is_chosen}
use Rattle.wb_explore.specs.Pending.{entry_view, IsEntry, IsWitness, IsNext, ComesOf, AreArrivals, AreHeirs, StepsTo}
use Rattle.wb_explore.proofs.Lists.{listed_cases, listed_head, listed_tail, listed_none}

-- a count below the pace stays within it
count_within : (idle raised : Bool) (count k : ℕ) → count ≤ k → count ≢ k → count_after idle raised count ≤ k
count_within true raised count k most other = most
count_within false true count k most other = omega arith
count_within false false count k most other = by_cases (cases_lt count k)
  where
    by_cases : (count < k) ⊎ (k ≤ count) → count + 1 ≤ k
    by_cases (inl less) = omega arith
    by_cases (inr up) = absurd (other (let e : count ≡ k = omega arith in e))

pub not_equal : (m n : ℕ) → m < n → m ≢ n
not_equal m n less e = absurd (let l = less in omega arith)

both_true : (b c : Bool) → (b && c) ≡ true → (b ≡ true) × (c ≡ true)
both_true true c e = (refl, e)
both_true false c e = absurd (both_ways false refl e)

from_both : (b c : Bool) → b ≡ true → c ≡ true → (b && c) ≡ true
from_both true c p q = q
from_both false c p q = absurd (both_ways false refl p)

not_false : (b : Bool) → not b ≡ true → b ≡ false
not_false true e = absurd (both_ways false refl e)
not_false false e = refl

false_not : (b : Bool) → b ≢ true → not b ≡ true
false_not true n = absurd (n refl)
false_not false n = refl

-- an entry's point is at an address
pub entry_place : (g : Terms) (image : Image) (p : Plan) (e : Entry) → IsEntry g image p e → e.key.pc < 2048
entry_place g image p e x = subst (λ (n : ℕ). n < 2048) (ap (λ (q : Point). q.pc) x.shown) x.state.pc_in

-- in a graph that has grown, what comes of the entry's machines is the same
pub steps_to : (keeps : GrowthKeepsStates) (f h : Terms) (grown : Grown f h) (image : Image) (p : Plan) (e : Entry) (r : Stepped) → IsEntry f image p e
    → ((i : Assignment) → IsAssignment i → (m : State) → IsState m → StandsFor i f e.state m → StandsFor i h (chosen i h r) (next image m)) → StepsTo h image e r
steps_to keeps f h grown image p e r x stands i a m k t = stands i a m k ((keeps f h grown).stood i e.state m x.state t)

module _ (image : Image) (p : Plan) (e : Entry) where
  -- the entry that comes of another is one

  pub next_entry : (f h : Terms) → IsEntry f image p e → e.key.count ≢ p.pace → (s : SymState) (c : BitId) (w : Option Assignment) (n : Entry) → ComesOf h image p e s c w → IsNext image p e s c w n → IsEntry h image p n
  next_entry f h x busy s c w n of is =
      let allowed = is_chosen p.kinds p.power in
      record {
        state = subst (IsSymState h) (sym is.state) of.state;
        cond = subst (HasBit h) (sym is.cond) of.there;
        state_inputs = subst (StateHasOnly h allowed) (sym is.state) of.state_inputs;
        cond_inputs = subst (λ (b : BitId). HasOnly h allowed b.number) (sym is.cond) of.cond_inputs;
        shown = ap (λ (t : SymState). showing (shows t) n.key) is.state ∙ (ap (showing (shows s)) is.key ∙ sym is.key);
        side = ap (λ (q : Point). q.side) is.key ∙ x.side;
        kinds = ap (λ (q : Point). q.kinds) is.key ∙ x.kinds;
        count = subst (λ (m : ℕ). m ≤ p.pace) (sym (ap (λ (q : Point). q.count) is.key)) (count_within _ _ e.key.count p.pace x.count busy);
        rank = is.rank;
        witness = λ u q. subst (λ (b : BitId). IsWitness h p b u) (sym is.cond) (of.witness u (sym is.witness ∙ q));
      }

  pub next_follows : (h : Terms) → (s : SymState) (c : BitId) (w : Option Assignment) (n : Entry) → ComesOf h image p e s c w → IsNext image p e s c w n → FollowsOn (entry_view h) image e n
  next_follows h s c w n of is = record {
    holds = λ i a q. of.holds i a (true_c i q);
    stands = λ i a q m k t. subst (λ (r : SymState). StandsFor i h r (next image m)) (sym is.state) (of.stands i a (true_c i q) m k t);
    key = λ i a q m k t. is.key ∙ ap (λ (v : Shown). point_stepped image v e.key) (is.shows i h (next image m) (of.stands i a (true_c i q) m k t));
  }
    where
      true_c : (i : Assignment) → bit_value i h n.cond ≡ true → bit_value i h c ≡ true
      true_c i q = ap (λ (b : BitId). bit_value i h b) (sym is.cond) ∙ q

  -- one entry comes of another

  pub one_arrives : (f h : Terms) → IsEntry f image p e → e.key.count ≢ p.pace → (s : SymState) (n : Entry) → ComesOf h image p e s e.cond e.witness → IsNext image p e s e.cond e.witness n → AreArrivals h image p e (n ∷ [])
  one_arrives f h x busy s n of is = record {
    each = λ m c. subst (IsEntry h image p) (only m c) (next_entry f h x busy s e.cond e.witness n of is);
    follow = λ m c. subst (FollowsOn (entry_view h) image e) (only m c) (next_follows h s e.cond e.witness n of is);
    some = λ i a q. (n, listed_head n n [] refl, ap (λ (b : BitId). bit_value i h b) is.cond ∙ q);
  }
    where
      only : (m : Entry) → Contains (n ∷ []) m → n ≡ m
      only m c = elim (listed_cases n m [] c) [ inl q ↦ q | inr d ↦ absurd (listed_none m d) ]

  module _ (keeps : GrowthKeepsStates) (f h : Terms) (grown : Grown f h) (x : IsEntry f image p e) (busy : e.key.count ≢ p.pace) where
    back : (i : Assignment) (m : State) → StandsFor i h e.state m → StandsFor i f e.state m
    back i m t = (keeps f h grown).stood i e.state m x.state t

    cond_back : (i : Assignment) → bit_value i h e.cond ≡ bit_value i f e.cond
    cond_back i = grown.bit_values i e.cond x.cond

    witnessed : (c : BitId) (u : Assignment) → e.witness ≡ Some u → bit_value u h c ≡ true → IsWitness h p c u
    witnessed c u q r = let t = x.witness u q in record { assignment = t.assignment; normal = t.normal; reached = r }

    -- without a fork
    pub one_comes : (s : SymState) → IsSymState h s → StateHasOnly h (is_chosen p.kinds p.power) s
        → ((i : Assignment) → IsAssignment i → (m : State) → IsState m → StandsFor i f e.state m → StandsFor i h s (next image m))
        → ComesOf h image p e s e.cond e.witness
    one_comes s there only stands = record {
      state = there;
      there = grown.bits e.cond x.cond;
      state_inputs = only;
      cond_inputs = grown.bit_inputs (is_chosen p.kinds p.power) e.cond x.cond x.cond_inputs;
      holds = λ i a q. q;
      stands = λ i a q m k t. stands i a m k (back i m t);
      witness = λ u q. witnessed e.cond u q (cond_back u ∙ (x.witness u q).reached);
    }

    -- at a fork

    module _ (cond : BitId) (yes no : SymState) (stands : StepsTo f image e (Fork cond yes no)) (first second : BitId)
        (first_value : (i : Assignment) → IsAssignment i → bit_value i h first ≡ (bit_value i f e.cond && bit_value i f cond))
        (second_value : (i : Assignment) → IsAssignment i → bit_value i h second ≡ (bit_value i f e.cond && not (bit_value i f cond)))
        (heir other : Option Assignment) (heirs : AreHeirs h first e.witness heir other) where
      chosen_yes : (i : Assignment) (m : State) (b : Bool) → b ≡ true → StandsFor i f (if b then yes else no) (next image m) → StandsFor i f yes (next image m)
      chosen_yes i m true q t = t
      chosen_yes i m false q t = absurd (both_ways false refl q)

      chosen_no : (i : Assignment) (m : State) (b : Bool) → b ≡ false → StandsFor i f (if b then yes else no) (next image m) → StandsFor i f no (next image m)
      chosen_no i m true q t = absurd (both_ways true q refl)
      chosen_no i m false q t = t

      pub yes_comes : IsSymState f yes → StateHasOnly f (is_chosen p.kinds p.power) yes → HasBit h first → HasOnly h (is_chosen p.kinds p.power) first.number → ComesOf h image p e yes first heir
      yes_comes there only bit bit_only = record {
        state = (keeps f h grown).there yes there;
        there = bit;
        state_inputs = (keeps f h grown).only (is_chosen p.kinds p.power) yes there only;
        cond_inputs = bit_only;
        holds = λ i a q. cond_back i ∙ (parts i a q).0;
        stands = λ i a q m k t. (keeps f h grown).stands i yes (next image m) there (chosen_yes i m (bit_value i f cond) (parts i a q).1 (stands i a m k (back i m t)));
        witness = λ u q. let w = heirs.to_first u q in witnessed first u w.0 w.1;
      }
        where
          parts : (i : Assignment) → IsAssignment i → bit_value i h first ≡ true → (bit_value i f e.cond ≡ true) × (bit_value i f cond ≡ true)
          parts i a q = both_true (bit_value i f e.cond) (bit_value i f cond) (sym (first_value i a) ∙ q)

      pub no_comes : IsSymState f no → StateHasOnly f (is_chosen p.kinds p.power) no → HasBit h second → HasOnly h (is_chosen p.kinds p.power) second.number → ComesOf h image p e no second other
      no_comes there only bit bit_only = record {
        state = (keeps f h grown).there no there;
        there = bit;
        state_inputs = (keeps f h grown).only (is_chosen p.kinds p.power) no there only;
        cond_inputs = bit_only;
        holds = λ i a q. cond_back i ∙ (parts i a q).0;
        stands = λ i a q m k t. (keeps f h grown).stands i no (next image m) there (chosen_no i m (bit_value i f cond) (not_false (bit_value i f cond) (parts i a q).1) (stands i a m k (back i m t)));
        witness = λ u q. witness_of u (heirs.to_second u q);
      }
        where
          parts : (i : Assignment) → IsAssignment i → bit_value i h second ≡ true → (bit_value i f e.cond ≡ true) × (not (bit_value i f cond) ≡ true)
          parts i a q = both_true (bit_value i f e.cond) (not (bit_value i f cond)) (sym (second_value i a) ∙ q)

          witness_of : (u : Assignment) → (e.witness ≡ Some u) × (bit_value u h first ≢ true) → IsWitness h p second u
          witness_of u (q, n) =
              let t = x.witness u q in
              let c : bit_value u f cond ≢ true = λ r. n (first_value u t.assignment ∙ from_both (bit_value u f e.cond) (bit_value u f cond) t.reached r) in
              witnessed second u q (second_value u t.assignment ∙ from_both (bit_value u f e.cond) (not (bit_value u f cond)) t.reached (false_not (bit_value u f cond) c))

      pub two_arrive : (one two : Entry) → ComesOf h image p e yes first heir → ComesOf h image p e no second other → IsNext image p e yes first heir one → IsNext image p e no second other two → AreArrivals h image p e (one ∷ two ∷ [])
      two_arrive one two y n is_one is_two = record {
        each = λ m c. each m (listed_cases one m (two ∷ []) c);
        follow = λ m c. follow m (listed_cases one m (two ∷ []) c);
        some = λ i a q. some i a (sym (cond_back i) ∙ q) (bit_value i f cond) refl;
      }
        where
          last : (m : Entry) → Contains (two ∷ []) m → two ≡ m
          last m c = elim (listed_cases two m [] c) [ inl q ↦ q | inr d ↦ absurd (listed_none m d) ]

          each : (m : Entry) → (one ≡ m) ⊎ Contains (two ∷ []) m → IsEntry h image p m
          each m (inl q) = subst (IsEntry h image p) q (next_entry f h x busy yes first heir one y is_one)
          each m (inr c) = subst (IsEntry h image p) (last m c) (next_entry f h x busy no second other two n is_two)

          follow : (m : Entry) → (one ≡ m) ⊎ Contains (two ∷ []) m → FollowsOn (entry_view h) image e m
          follow m (inl q) = subst (FollowsOn (entry_view h) image e) q (next_follows h yes first heir one y is_one)
          follow m (inr c) = subst (FollowsOn (entry_view h) image e) (last m c) (next_follows h no second other two n is_two)

          some : (i : Assignment) → IsAssignment i → bit_value i f e.cond ≡ true → (b : Bool) → bit_value i f cond ≡ b → (m : Entry) × Contains (one ∷ two ∷ []) m × (bit_value i h m.cond ≡ true)
          some i a q true r = (one, listed_head one one (two ∷ []) refl, ap (λ (c : BitId). bit_value i h c) is_one.cond ∙ (first_value i a ∙ from_both (bit_value i f e.cond) (bit_value i f cond) q r))
          some i a q false r = (two, listed_tail one two (two ∷ []) (listed_head two two [] refl), ap (λ (c : BitId). bit_value i h c) is_two.cond ∙ (second_value i a ∙ from_both (bit_value i f e.cond) (not (bit_value i f cond)) q (ap not r)))
