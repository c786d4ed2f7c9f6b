-- An entry is confirmed: inputs of it are found, and its point is noted.
use Rattle.std.proofs.Common.{◌≡◌, ◌≢◌, ℕ, ◌+◌, ◌≤◌, ◌==◌, true, false, Option, Some, None, List, ◌∷◌, ◌⊎◌, inl, inr, length, refl, sym, ap, subst, ◌∙◌, arith}
use Rattle.std.specs.Prelude.{Contains, All, is_some, slice_get}
use Rattle.std.proofs.lemmas.Bool.{both_ways}
use Rattle.wb_rom.specs.declared.images.Image.{Image}
use Rattle.wb_term.specs.Inputs.{Assignment, IsAssignment}
use Rattle.wb_term.specs.Terms.{Terms, IsGraph}
use Rattle.wb_term.specs.Values.{bit_value}
use Rattle.wb_term.specs.Under.{HasOnly}
use Rattle.wb_term.specs.declared.nodes.Node.{Node}
use Rattle.wb_term.specs.declared.nodes.Node.TheVariants.{Word, Bit}
use Rattle.wb_term.specs.declared.nodes.WordNode.TheVariants as word
use Rattle.wb_port.specs.declared.accesses.Kind.{Kind}
use Rattle.wb_port.specs.declared.accesses.Kind.TheVariants as kind
use Rattle.wb_port.specs.declared.accesses.Power.{Power}
use Rattle.wb_port.specs.declared.accesses.Power.TheVariants as power
use Rattle.wb_port.specs.declared.chips.Chip.{Chip}
use Rattle.wb_port.specs.declared.points.Point.{Point}
use Rattle.wb_port.specs.Talk.{Talk}
use Rattle.wb_law.specs.Classes.{rank_at}
use Rattle.wb_symstep.specs.Laws.{GrowthKeepsStates}
use Rattle.wb_point.specs.Laws.{DialoguesAreOfTheirKinds, NormalisedInputsKeepTheDialogue, NormalisedInputsGiveTheValues, is_used}
use Rattle.wb_point.specs.Laws as law
use Rattle.wb_point.specs.Dialogues.{normalised, inputs_of, dialogue_under}
use Rattle.wb_explore.specs.declared.plan.Plan.{Plan}
use Rattle.wb_explore.specs.declared.entries.Entry.{Entry}
use Rattle.wb_explore.specs.declared.layer.Request.{Request}
use Rattle.wb_explore.specs.declared.reached.ReachedPoint.{ReachedPoint}
use Rattle.wb_explore.specs.declared.faults.ExploreFault.{ExploreFault}
use Rattle.wb_explore.specs.HeldLaws.{HeldLaws}
use Rattle.wb_explore.specs.Runs.{Comes, point_in}
use Rattle.wb_explore.specs.Entries.{IsAt, IsSound, IsAtSome, Carries}
use Rattle.wb_explore.specs.Plans.{runs_of, is_chosen}
use Rattle.wb_explore.specs.Plans as plan
use Rattle.wb_explore.specs.Purses.{Holding, IsPurse, points_of}
use Rattle.wb_explore.specs.Seen.{IsSeen}
use Rattle.wb_explore.specs.Pending.{entry_view, IsEntry, IsWitness, IsPlaced, IsUnnoted, IsUnput, with_noted, newly}
use Rattle.wb_explore.specs.Walk.{AreFound, IsUp, IsConfirmedAs}
use Rattle.wb_explore.specs.Layers.{request_view, AddsPassed}
use Rattle.wb_explore.proofs.Lists.{listed_head, listed_tail, listed_cases}
use Rattle.wb_explore.proofs.Covering.{covered_carried}
use Rattle.wb_explore.proofs.Putting.{noted_keeps, noted_new, noted_cases, noted_length, noted_passes, one_if}
use Rattle.wb_explore.proofs.Refusals.{unput}
use Rattle.wb_explore.proofs.Up.{AreAlike, at_alike, sound_alike, covered_seen}

-- the inputs that dialogues choose are those that they use

same_write : (o : Option Kind) → plan.is_write o ≡ law.is_write o
same_write None = refl
same_write (Some kind.Read) = refl
same_write (Some kind.Write) = refl

same_any : (p : Power) → plan.is_any p ≡ law.is_any p
same_any power.Zero = refl
same_any power.Any = refl

chosen_used : (ks : List Kind) (p : Power) (n : Node) → is_chosen ks p n ≡ true → is_used ks p n ≡ true
chosen_used ks p (Word (word.Byte place)) q = sym (same_write (slice_get ks place)) ∙ q
chosen_used ks p (Word (word.Cell place)) q = sym (same_any p) ∙ q
chosen_used ks p (Word n) q = absurd (both_ways false refl q)
chosen_used ks p (Bit n) q = absurd (both_ways false refl q)

-- normalised inputs under which the bit is true

pub normal_witness : (keeps : NormalisedInputsKeepTheDialogue) (gives : NormalisedInputsGiveTheValues) (g : Terms) → IsGraph g → (image : Image) (p : Plan) → length p.kinds ≤ 16
    → (e : Entry) → IsEntry g image p e → (i : Assignment) → IsAssignment i → bit_value i g e.cond ≡ true → IsWitness g p e.cond (normalised p.kinds p.power i)
normal_witness keeps gives g graph image p few e x i a q =
    let n = keeps p.kinds p.power i few in
    let only : HasOnly g (is_used p.kinds p.power) e.cond.number = record { passes = λ j m u at inside. chosen_used p.kinds p.power m (x.cond_inputs.passes j m u at inside) } in
    record {
      assignment = n.assignment a;
      normal = ap inputs_of n.same;
      reached = ap (λ (v : ℕ). v == 1) (gives g graph p.kinds p.power i few e.cond.number only) ∙ q;
    }

-- the entry with the inputs

abbrev pub with_witness : Entry → Assignment → Entry
with_witness e w = record { key = e.key; rank = e.rank; state = e.state; cond = e.cond; witness = Some w }

pub alike_with : (e : Entry) (w : Assignment) → AreAlike e (with_witness e w)
alike_with e w = record { key = refl; rank = refl; state = refl; cond = refl }

some_one : (w u : Assignment) → Some w ≡ Some u → w ≡ u
some_one w u q = cc

pub entry_with : (g : Terms) (image : Image) (p : Plan) (e : Entry) (w : Assignment) → IsEntry g image p e → IsWitness g p e.cond w → IsEntry g image p (with_witness e w)
entry_with g image p e w x t = record {
  state = x.state;
  cond = x.cond;
  state_inputs = x.state_inputs;
  cond_inputs = x.cond_inputs;
  shown = x.shown;
  side = x.side;
  kinds = x.kinds;
  count = x.count;
  rank = x.rank;
  witness = λ u q. subst (IsWitness g p e.cond) (some_one w u q) t;
}

none_is : (o : Option Assignment) → is_some o ≡ false → o ≡ None
none_is None q = refl
none_is (Some w) q = absurd (both_ways true q refl)

newly_there : (o m : Option Assignment) → is_some m ≡ true → newly o m ≡ None
newly_there None (Some u) q = refl
newly_there (Some w) (Some u) q = refl
newly_there o None q = absurd (both_ways false refl q)

newly_found : (w : Assignment) (m : Option Assignment) → is_some m ≡ false → newly (Some w) m ≡ Some w
newly_found w None q = refl
newly_found w (Some u) q = absurd (both_ways true q refl)

-- newly confirmed
pub confirmed_new : (g : Terms) (image : Image) (p : Plan) (before after : Holding) (e : Entry) (w : Assignment) → IsEntry g image p e → IsWitness g p e.cond w → is_some e.witness ≡ false
    → after ≡ record before { reached = with_noted p e.key (Some w) before.reached } → IsConfirmedAs g image p before after e (with_witness e w)
confirmed_new g image p before after e w x t none noted = record {
  key = refl;
  rank = refl;
  state = refl;
  cond = refl;
  entry = entry_with g image p e w x t;
  found = refl;
  noted = noted ∙ ap (λ (o : Option Assignment). let h : Holding = record before { reached = with_noted p e.key o before.reached } in h) (sym (newly_found w e.witness none));
}

-- confirmed as it was
pub confirmed_old : (g : Terms) (image : Image) (p : Plan) (before : Holding) (e : Entry) → IsEntry g image p e → is_some e.witness ≡ true → IsConfirmedAs g image p before before e e
confirmed_old g image p before e x found = record {
  key = refl;
  rank = refl;
  state = refl;
  cond = refl;
  entry = x;
  found = found;
  noted = ap (λ (o : Option Assignment). let h : Holding = record before { reached = with_noted p e.key o before.reached } in h) (sym (newly_there e.witness e.witness found));
}

module _ (laws : HeldLaws) (kinds_law : DialoguesAreOfTheirKinds) (keeps : GrowthKeepsStates) (image : Image) (p : Plan) where
  noted_found : (key : Point) (o m : Option Assignment) (before : List ReachedPoint) → is_some o ≡ true → (is_some m ≡ true → Contains (points_of before) key) → Contains (points_of (with_noted p key (newly o m) before)) key
  noted_found key (Some w) None before q h = noted_new laws kinds_law keeps image p key (Some w) before refl
  noted_found key (Some w) (Some u) before q h = h refl
  noted_found key None m before q h = absurd (both_ways false refl q)

  pub confirmed_count : (key : Point) (o m : Option Assignment) (before : List ReachedPoint) → is_some o ≡ true → length (with_noted p key (newly o m) before) + one_if m ≡ length before + 1
  confirmed_count key (Some w) None before q = let l = noted_length laws kinds_law keeps image p key (Some w) before in omega arith
  confirmed_count key (Some w) (Some u) before q = refl
  confirmed_count key None m before q = absurd (both_ways false refl q)

  -- the confirmed entry is up
  pub confirmed_up : (g : Terms) (before after : Holding) (e n : Entry) (es : List Entry) (qs : List Request) (o : Option Talk) → IsUp g image p before.reached e es qs o → IsConfirmedAs g image p before after e n
      → IsUp g image p after.reached n es qs o
  confirmed_up g before after e n es qs o u c = subst (λ (h : Holding). IsUp g image p h.reached n es qs o) (sym c.noted) up
    where
      alike : AreAlike e n
      alike = record { key = c.key; rank = c.rank; state = c.state; cond = c.cond }

      stays : (x : Point) → Contains (points_of before.reached) x → Contains (points_of (with_noted p e.key (newly n.witness e.witness) before.reached)) x
      stays x d = noted_keeps laws kinds_law keeps image p e.key (newly n.witness e.witness) before.reached x d

      placed : (r : ReachedPoint) → r.point.side ≡ p.side → r.point.kinds ≡ p.kinds → Contains before.reached r ⊎ ((r.point ≡ e.key) × (is_some (newly n.witness e.witness) ≡ true)) → IsPlaced image p es n.rank r.point
      placed r side kinds (inl d) = subst (λ (k : ℕ). IsPlaced image p es k r.point) (sym c.rank) (u.ahead.placed r d side kinds)
      placed r side kinds (inr (q, new)) =
          let l = ap (rank_at image p.pace) q in
          let m = u.entry.rank in
          let k = c.rank in
          inr (omega arith, λ f d s. u.alone f d (s ∙ q))

      carries : Carries (runs_of image p) (entry_view g) (e ∷ es) (entry_view g) (n ∷ es)
      carries i a d come t = by_entry (listed_cases e t.entry es t.listed)
        where
          by_entry : (e ≡ t.entry) ⊎ Contains es t.entry → IsAtSome (entry_view g) (runs_of image p) (n ∷ es) i d
          by_entry (inl q) = record {
            entry = n;
            listed = listed_head n n es refl;
            is_at = at_alike laws image p g e n alike i d (subst (λ (x : Entry). IsAt (entry_view g) (runs_of image p) i x d) (sym q) t.is_at);
          }
          by_entry (inr m) = record { entry = t.entry; listed = listed_tail n t.entry es m; is_at = t.is_at }

      seen_more : (i : Assignment) → IsAssignment i → (d : Chip) → Comes (runs_of image p) i d
          → IsSeen (request_view p g) (runs_of image p) (points_of before.reached) qs (is_some o) i d
          → IsSeen (request_view p g) (runs_of image p) (points_of (with_noted p e.key (newly n.witness e.witness) before.reached)) qs (is_some o) i d
      seen_more i a d come s = record { point = stays (point_in (runs_of image p) d) s.point; request = s.request; overruns = s.overruns; breaches = s.breaches }

      up : IsUp g image p (with_noted p e.key (newly n.witness e.witness) before.reached) n es qs o
      up = record {
        pending = record { each = u.pending.each; apart = u.pending.apart; sound = u.pending.sound; known = λ f d q. stays f.key (u.pending.known f d q) };
        ahead = record {
          placed = λ r d side kinds. placed r side kinds (noted_cases laws kinds_law keeps image p e.key (newly n.witness e.witness) before.reached r d);
          ahead = λ f d. let l = u.ahead.ahead f d in let m = c.rank in omega arith;
        };
        entry = c.entry;
        sound = sound_alike laws image p g e n alike u.sound;
        alone = λ f d q. u.alone f d (q ∙ c.key);
        known = λ q. subst (Contains (points_of (with_noted p e.key (newly n.witness e.witness) before.reached))) (sym c.key) (noted_found e.key n.witness e.witness before.reached c.found u.known);
        unknown = λ q. absurd (both_ways (is_some n.witness) q c.found);
        requests = subst (λ (k : ℕ). AreFound g image p es k qs) (sym c.rank) u.requests;
        others = λ q d s. u.others q d (s ∙ c.key);
        covered = covered_seen laws image p g (n ∷ es) _ _ seen_more (covered_carried laws (runs_of image p) (entry_view g) (entry_view g) (e ∷ es) (n ∷ es) _ carries u.covered);
        right = u.right;
      }

  -- the inputs that were found, as a witness, and that the point is noted
  module _ (g : Terms) (e : Entry) (w : Assignment) (x : IsEntry g image p e) (s : IsSound (entry_view g) (runs_of image p) e) (t : IsWitness g p e.cond w) where
    pub found_passes : (before after : Holding) → after ≡ record before { reached = with_noted p e.key (Some w) before.reached } → AddsPassed image p before.reached after.reached
    found_passes before after noted =
        subst (λ (h : Holding). AddsPassed image p before.reached h.reached) (sym noted)
        (noted_passes laws kinds_law keeps image p g (with_witness e w) (Some w) before.reached (entry_with g image p e w x t) (sound_alike laws image p g e (with_witness e w) (alike_with e w) s) (λ u q. q))

    pub found_unput : (before : Holding) → IsPurse before → All (λ (r : ReachedPoint). r.point ≢ e.key) before.reached → (f : ExploreFault)
        → IsUnnoted before (record { point = e.key; dialogue = dialogue_under p.kinds w p.power }) f → IsUnput image p before f
    found_unput before purse fresh f u = unput laws kinds_law keeps image p g (with_witness e w) (entry_with g image p e w x t) (sound_alike laws image p g e (with_witness e w) (alike_with e w) s) (Some w) before purse (λ v q. q) (λ q. fresh) f u
