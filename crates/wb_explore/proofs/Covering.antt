-- Steps of an exploration: entries join, go on and are dropped, and what is covered stays covered.
use Rattle.std.proofs.Common.{◌≡◌, ◌≢◌, ◌≤◌, Bool, true, false, ◌||◌, List, ◌⊎◌, inl, inr, refl, sym, ap, subst, ◌∙◌, arith}
use Rattle.std.specs.Prelude.{Contains}
use Rattle.std.proofs.lemmas.Bool.{both_ways}
use Rattle.wb_term.specs.Inputs.{Assignment, IsAssignment}
use Rattle.wb_machine.specs.Next.{next}
use Rattle.wb_port.specs.declared.chips.Chip.{Chip}
use Rattle.wb_port.specs.Monitor.{stepped}
use Rattle.wb_port.specs.Rank.{rank_of}
use Rattle.wb_port.specs.NextPoint.{shown_of, point_stepped}
use Rattle.wb_law.specs.declared.classes.Class.{Class}
use Rattle.wb_law.specs.declared.classes.Class.TheVariants as class
use Rattle.wb_law.specs.Classes.{class_at, rank_at, DoesNext}
use Rattle.wb_explore.specs.HeldLaws.{HeldLaws}
use Rattle.wb_explore.specs.Runs.{Runs, AreTalks, Comes, point_in}
use Rattle.wb_explore.specs.Entries.{View, IsAt, IsSound, AreSound, IsAtSome, IsAhead, Covered, Carries, Joins, FollowsOn, SaysPassing, IsLeast, IsOnly}
use Rattle.wb_explore.proofs.Ways.{ranged, Leads, one_chip, once, rank_grows, step_comes, leads_past, next_point}

module _ (laws : HeldLaws) (r : Runs) {E : Type 0} (v : View E) where
  -- of two entries joined

  first_or : (b c : Bool) → b ≡ true → (b || c) ≡ true
  first_or true c e = refl
  first_or false c e = absurd (both_ways false refl e)

  second_or : (b c : Bool) → c ≡ true → (b || c) ≡ true
  second_or true c e = refl
  second_or false c e = e

  or_second : (b c : Bool) → b ≡ false → (b || c) ≡ true → c ≡ true
  or_second true c e h = absurd (both_ways true e refl)
  or_second false c e h = h

  not_true : (b : Bool) → b ≡ false → b ≢ true
  not_true b e h = absurd (both_ways b e h)

  pub joined_at_one : (one other j : E) → Joins v one other j → (i : Assignment) → IsAssignment i → (c : Chip) → IsAt v r i one c → IsAt v r i j c
  joined_at_one one other j h i a c t = record {
    holds = h.holds i a ∙ first_or (v.holds one i) (v.holds other i) t.holds;
    stands = h.stands_one i a t.holds c.machine t.stands;
    key = t.key ∙ sym h.key;
  }

  pub joined_at_other : (one other j : E) → Joins v one other j → IsSound v r one → (i : Assignment) → IsAssignment i → (c : Chip) → Comes r i c → IsAt v r i other c → IsAt v r i j c
  joined_at_other one other j h s i a c come t = by_one (v.holds one i) refl
    where
      by_one : (b : Bool) → v.holds one i ≡ b → IsAt v r i j c
      by_one true e =
          let f = s i a e in
          let same : f.0 ≡ c = one_chip laws r i f.0 c f.1 come (f.2.key ∙ (h.same ∙ sym t.key)) in
          joined_at_one one other j h i a c (subst (IsAt v r i one) same f.2)
      by_one false e = record {
        holds = h.holds i a ∙ second_or (v.holds one i) (v.holds other i) t.holds;
        stands = h.stands_other i a (not_true (v.holds one i) e) c.machine t.stands;
        key = t.key ∙ (sym h.same ∙ sym h.key);
      }

  pub joined_sound : (one other j : E) → Joins v one other j → IsSound v r one → IsSound v r other → IsSound v r j
  joined_sound one other j h s t i a q = by_one (v.holds one i) refl
    where
      by_one : (b : Bool) → v.holds one i ≡ b → (c : Chip) × Comes r i c × IsAt v r i j c
      by_one true e = let f = s i a e in (f.0, f.1, joined_at_one one other j h i a f.0 f.2)
      by_one false e =
          let f = t i a (or_second (v.holds one i) (v.holds other i) e (sym (h.holds i a) ∙ q)) in
          (f.0, f.1, joined_at_other one other j h s i a f.0 f.1 f.2)

  -- of an entry and what comes of it

  pub class_of : (e : E) (x : Class) (i : Assignment) (d : Chip) → IsAt v r i e d → class_at r.image r.pace (v.key e) ≡ x → DoesNext r.image r.pace d x
  class_of e x i d t q = (laws.tells r.image r.pace r.side r.kinds d x).0 (ap (class_at r.image r.pace) t.key ∙ q)

  pub follows_at : AreTalks r → (e n : E) → FollowsOn v r.image e n → (i : Assignment) → IsAssignment i → (d : Chip) → Comes r i d → IsAt v r i e d → v.holds n i ≡ true → IsAt v r i n (stepped r.image d)
  unfolding stepped
  follows_at talks e n f i a d come t q = record {
    holds = q;
    stands = f.stands i a q d.machine (ranged laws r talks i a d come) t.stands;
    key =
        next_point laws r d
        ∙ (ap (point_stepped r.image (shown_of (next r.image d.machine))) t.key
        ∙ sym (f.key i a q d.machine (ranged laws r talks i a d come) t.stands));
  }

  pub follows_sound : AreTalks r → (e n : E) → class_at r.image r.pace (v.key e) ≡ class.GoesOn → FollowsOn v r.image e n → IsSound v r e → IsSound v r n
  follows_sound talks e n g f s i a q =
      let t = s i a (f.holds i a q) in (
        stepped r.image t.0,
        step_comes laws r i t.0 t.1 (class_of e class.GoesOn i t.0 t.2 g),
        follows_at talks e n f i a t.0 t.1 t.2 q,
      )

  -- of entries and what is covered

  pub covered_carried : (w : View E) (es fs : List E) (seen : Assignment → Chip → Type 0) → Carries r v es w fs → Covered v r es seen → Covered w r fs seen
  covered_carried w es fs seen carries covered i a c come =
      elim (covered i a c come) [ inl s ↦ inl s | inr h ↦ inr (record { at = h.at; comes = h.comes; some = carries i a h.at h.comes h.some; leads = h.leads }) ]

  -- an entry is passed: of each chip at it, all to which it leads is seen or ahead, and all other entries are carried on
  pub passed : (es rest fs : List E) (e : E) (w : View E) (seen seen' : Assignment → Chip → Type 0)
      → ((x : E) → Contains es x → (x ≡ e) ⊎ Contains rest x)
      → ((i : Assignment) → IsAssignment i → (c : Chip) → Comes r i c → seen i c → seen' i c)
      → Carries r v rest w fs
      → ((i : Assignment) → IsAssignment i → (d : Chip) → Comes r i d → IsAt v r i e d → (c : Chip) → Leads laws r d c → seen' i c ⊎ IsAhead w r fs i c)
      → Covered v r es seen → Covered w r fs seen'
  passed es rest fs e w seen seen' taken keeps carries here covered i a c come = elim (covered i a c come) [ inl s ↦ inl (keeps i a c come s) | inr h ↦ by_entry h ]
    where
      by_entry : IsAhead v r es i c → seen' i c ⊎ IsAhead w r fs i c
      by_entry h = elim (taken h.some.entry h.some.listed) [ inl same ↦ here i a h.at h.comes (subst (λ (x : E). IsAt v r i x h.at) same h.some.is_at) c h.leads | inr listed ↦ inr (on listed) ]
        where
          on : Contains rest h.some.entry → IsAhead w r fs i c
          on listed = record {
            at = h.at;
            comes = h.comes;
            some = carries i a h.at h.comes (record { entry = h.some.entry; listed = listed; is_at = h.some.is_at });
            leads = h.leads;
          }

  -- an entry that goes on is passed where it is seen, and some of what comes of it is at the next chip
  pub gone_on : (e : E) (w : View E) (fs : List E) (seen : Assignment → Chip → Type 0)
      → class_at r.image r.pace (v.key e) ≡ class.GoesOn
      → ((i : Assignment) → IsAssignment i → (d : Chip) → Comes r i d → IsAt v r i e d → seen i d)
      → ((i : Assignment) → IsAssignment i → (d : Chip) → Comes r i d → IsAt v r i e d → IsAtSome w r fs i (stepped r.image d))
      → (i : Assignment) → IsAssignment i → (d : Chip) → Comes r i d → IsAt v r i e d → (c : Chip) → Leads laws r d c → seen i c ⊎ IsAhead w r fs i c
  gone_on e w fs seen g noted arrives i a d come t c leads = elim (leads_past laws r d c leads) [ inl same ↦ inl (subst (seen i) same (noted i a d come t)) | inr on ↦ inr (ahead on) ]
    where
      ahead : Leads laws r (stepped r.image d) c → IsAhead w r fs i c
      ahead on = record {
        at = stepped r.image d;
        comes = step_comes laws r i d come (class_of e class.GoesOn i d t g);
        some = arrives i a d come t;
        leads = on;
      }

  -- the entry of least rank, whose point is no point seen: its condition says which held runs pass its point
  pub says : (es : List E) (e : E) (seen : Assignment → Chip → Type 0)
      → Covered v r es seen → AreSound v r es → Contains es e → IsLeast v r es e → IsOnly v es e
      → ((i : Assignment) → IsAssignment i → (c : Chip) → Comes r i c → point_in r c ≡ v.key e → seen i c → ⊥)
      → SaysPassing v r e
  says es e seen covered sound listed least only unseen i a = (forth, back)
    where
      forth : v.holds e i ≡ true → (c : Chip) × Comes r i c × (point_in r c ≡ v.key e)
      forth q = let f = sound e listed i a q in (f.0, f.1, f.2.key)

      back : ((c : Chip) × Comes r i c × (point_in r c ≡ v.key e)) → v.holds e i ≡ true
      back p = elim (covered i a p.0 p.1) [ inl s ↦ absurd (unseen i a p.0 p.1 p.2 s) | inr h ↦ by_front h ]
        where
          by_front : IsAhead v r es i p.0 → v.holds e i ≡ true
          by_front h =
              let f = h.some.entry in
              let up : rank_of r.image r.pace h.at ≤ rank_of r.image r.pace p.0 = rank_grows laws r i h.at p.0 h.comes h.leads in
              let low : rank_at r.image r.pace (v.key e) ≤ rank_at r.image r.pace (v.key f) = least f h.some.listed in
              let here : rank_of r.image r.pace p.0 ≡ rank_at r.image r.pace (v.key e) = ap (rank_at r.image r.pace) p.2 in
              let there : rank_of r.image r.pace h.at ≡ rank_at r.image r.pace (v.key f) = ap (rank_at r.image r.pace) h.some.is_at.key in
              let equal : rank_of r.image r.pace h.at ≡ rank_of r.image r.pace p.0 = omega arith in
              let same : h.at ≡ p.0 = once laws r i h.at p.0 h.comes p.1 equal in
              let keys : v.key f ≡ v.key e = sym h.some.is_at.key ∙ (ap (point_in r) same ∙ p.2) in
              let one : f ≡ e = only f h.some.listed keys in
              ap (λ (x : E). v.holds x i) (sym one) ∙ h.some.is_at.holds
