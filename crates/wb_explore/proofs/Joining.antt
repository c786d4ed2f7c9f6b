-- Two entries of one point joined by the first one's condition.
use Rattle.std.proofs.Common.{◌≡◌, ◌≢◌, Bool, true, false, ◌||◌, Option, Some, None, [], ◌∷◌, refl, sym, ap, subst, ◌∙◌, if◌then◌else◌}
use Rattle.std.proofs.lemmas.Bool.{both_ways}
use Rattle.wb_rom.specs.declared.images.Image.{Image}
use Rattle.wb_term.specs.declared.nodes.BitId.{BitId}
use Rattle.wb_term.specs.Inputs.{Assignment, IsAssignment}
use Rattle.wb_term.specs.Terms.{Terms}
use Rattle.wb_term.specs.Values.{IsBit, bit_value}
use Rattle.wb_term.specs.Under.{HasOnly}
use Rattle.wb_term.specs.Growth.{Grown}
use Rattle.wb_term.specs.declared.nodes.Node.{Node}
use Rattle.wb_make.specs.Inputs.{BringsOnly}
use Rattle.wb_machine.specs.State.{State}
use Rattle.wb_port.specs.declared.points.Point.{Point}
use Rattle.wb_port.specs.declared.points.Shown.{Shown}
use Rattle.wb_port.specs.NextPoint.{showing}
use Rattle.wb_symstep.specs.declared.state.SymState.{SymState}
use Rattle.wb_symstep.specs.State.{StandsFor, IsSymState, StateHasOnly}
use Rattle.wb_symstep.specs.Laws.{GrowthKeepsStates}
use Rattle.wb_point.specs.Shows.{shows, SamePlace}
use Rattle.wb_point.specs.Merging.{Merges, side_by}
use Rattle.wb_explore.specs.declared.plan.Plan.{Plan}
use Rattle.wb_explore.specs.declared.entries.Entry.{Entry}
use Rattle.wb_explore.specs.Entries.{Joins}
use Rattle.wb_explore.specs.Plans.{is_chosen}
use Rattle.wb_explore.specs.Pending.{entry_view, IsEntry, IsWitness, either}

-- what a point shows
shown_by : Point → Shown
shown_by p = record { pc = p.pc; sp = p.sp; stack = p.stack; rqm = p.rqm; drs = p.drs }

shows_point : (s : SymState) (p : Point) → showing (shows s) p ≡ p → shows s ≡ shown_by p
unfolding shown_by
shows_point s p e = ap shown_by e

pub same_place : (g : Terms) (image : Image) (p : Plan) (e other : Entry) → IsEntry g image p e → IsEntry g image p other → other.key ≡ e.key → SamePlace e.state other.state
same_place g image p e other x y q =
    let a = shows_point e.state e.key x.shown in
    let b = shows_point other.state other.key y.shown in
    a ∙ (ap shown_by (sym q) ∙ sym b)

by_true : (b : Bool) (s t : SymState) → b ≡ true → (if b then s else t) ≡ s
by_true true s t e = refl
by_true false s t e = absurd (both_ways false refl e)

by_false : (b : Bool) (s t : SymState) → b ≢ true → (if b then s else t) ≡ t
by_false true s t n = absurd (n refl)
by_false false s t n = refl

or_first : (b c : Bool) → b ≡ true → (b || c) ≡ true
or_first true c e = refl
or_first false c e = absurd (both_ways false refl e)

or_second : (b c : Bool) → c ≡ true → (b || c) ≡ true
or_second true c e = refl
or_second false c e = e

module _ (keeps : GrowthKeepsStates) (image : Image) (p : Plan) (f g h : Terms) (merged : Grown f g) (grown : Grown g h) (e other : Entry) (x : IsEntry f image p e) (y : IsEntry f image p other) (same : other.key ≡ e.key) (s : SymState) (there : IsSymState g s) (place : shows s ≡ shows e.state) (merges : Merges f g e.cond e.state other.state s) (only : (allowed : Node → Bool) → HasOnly f allowed e.cond.number → StateHasOnly f allowed e.state → StateHasOnly f allowed other.state → StateHasOnly g allowed s) (c : BitId) (bit : IsBit h c (λ inputs. bit_value inputs g e.cond || bit_value inputs g other.cond)) (brings : BringsOnly g h (e.cond.number ∷ other.cond.number ∷ []) c.number) (w : Option Assignment) (chosen_witness : w ≡ either e.witness other.witness) where
  abbrev pub joined : Entry
  joined = record { key = e.key; rank = e.rank; state = s; cond = c; witness = w }

  -- a bit of the first graph in the last

  first_bit : (i : Assignment) → bit_value i h e.cond ≡ bit_value i f e.cond
  first_bit i = grown.bit_values i e.cond (merged.bits e.cond x.cond) ∙ merged.bit_values i e.cond x.cond

  value : (i : Assignment) → IsAssignment i → bit_value i h c ≡ (bit_value i f e.cond || bit_value i f other.cond)
  value i a =
      bit.value i a
      ∙ (ap (λ (b : Bool). b || bit_value i g other.cond) (merged.bit_values i e.cond x.cond)
      ∙ ap (λ (b : Bool). bit_value i f e.cond || b) (merged.bit_values i other.cond y.cond))

  second_bit : (i : Assignment) → bit_value i h other.cond ≡ bit_value i f other.cond
  second_bit i = grown.bit_values i other.cond (merged.bits other.cond y.cond) ∙ merged.bit_values i other.cond y.cond

  back : (i : Assignment) (t : SymState) (m : State) → IsSymState f t → StandsFor i h t m → StandsFor i f t m
  back i t m k n = (keeps f g merged).stood i t m k ((keeps g h grown).stood i t m ((keeps f g merged).there t k) n)

  pub joins : Joins (entry_view h) e other joined
  joins = record {
    same = sym same;
    key = refl;
    holds = λ i a. value i a ∙ (ap (λ (b : Bool). b || bit_value i f other.cond) (sym (first_bit i)) ∙ ap (λ (b : Bool). bit_value i h e.cond || b) (sym (second_bit i)));
    stands_one = λ i a q m n.
        let old : StandsFor i f e.state m = back i e.state m x.state n in
        let true_there : bit_value i f e.cond ≡ true = sym (first_bit i) ∙ q in
        let chosen : StandsFor i f (side_by i f e.cond e.state other.state) m = subst (λ (t : SymState). StandsFor i f t m) (sym (by_true (bit_value i f e.cond) e.state other.state true_there)) old in
        (keeps g h grown).stands i s m there ((merges i a m).1 chosen);
    stands_other = λ i a q m n.
        let old : StandsFor i f other.state m = back i other.state m y.state n in
        let false_there : bit_value i f e.cond ≢ true = λ r. q (first_bit i ∙ r) in
        let chosen : StandsFor i f (side_by i f e.cond e.state other.state) m = subst (λ (t : SymState). StandsFor i f t m) (sym (by_false (bit_value i f e.cond) e.state other.state false_there)) old in
        (keeps g h grown).stands i s m there ((merges i a m).1 chosen);
  }

  witnessed : (o n : Option Assignment) → ((w : Assignment) → o ≡ Some w → IsWitness f p e.cond w) → ((w : Assignment) → n ≡ Some w → IsWitness f p other.cond w)
      → (w : Assignment) → either o n ≡ Some w → IsWitness h p c w
  witnessed (Some u) n one two w q =
      let t = one w q in
      record { assignment = t.assignment; normal = t.normal; reached = value w t.assignment ∙ or_first (bit_value w f e.cond) (bit_value w f other.cond) t.reached }
  witnessed None n one two w q =
      let t = two w q in
      record { assignment = t.assignment; normal = t.normal; reached = value w t.assignment ∙ or_second (bit_value w f e.cond) (bit_value w f other.cond) t.reached }

  pub joined_entry : IsEntry h image p joined
  joined_entry =
      let allowed = is_chosen p.kinds p.power in
      record {
        state = (keeps g h grown).there s there;
        cond = bit.there;
        state_inputs = (keeps g h grown).only allowed s there (only allowed x.cond_inputs x.state_inputs y.state_inputs);
        cond_inputs = brings allowed (merged.bit_inputs allowed e.cond x.cond x.cond_inputs, (merged.bit_inputs allowed other.cond y.cond y.cond_inputs, tt));
        shown = ap (λ (t : Shown). showing t e.key) place ∙ x.shown;
        side = x.side;
        kinds = x.kinds;
        count = x.count;
        rank = x.rank;
        witness = λ u q. witnessed e.witness other.witness x.witness y.witness u (sym chosen_witness ∙ q);
      }
