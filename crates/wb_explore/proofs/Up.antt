-- The entry that is up next: as it was taken, dropped or confirmed.
use Rattle.std.proofs.Common.{◌≡◌, ◌≢◌, ◌≤◌, true, false, Option, List, ◌∷◌, inl, inr, refl, sym, ap, subst, ◌∙◌, arith}
use Rattle.std.specs.Prelude.{Contains, All, is_some, slice_index_or}
use Rattle.std.proofs.lemmas.List.{get_or_default}
use Rattle.std.proofs.lemmas.Bool.{both_ways}
use Rattle.wb_rom.specs.declared.images.Image.{Image}
use Rattle.wb_term.specs.Inputs.{Assignment, IsAssignment}
use Rattle.wb_term.specs.Terms.{Terms}
use Rattle.wb_term.specs.Values.{bit_value}
use Rattle.wb_term.specs.declared.nodes.BitId.{BitId}
use Rattle.wb_port.specs.declared.chips.Chip.{Chip}
use Rattle.wb_port.specs.declared.points.Point.{Point}
use Rattle.wb_port.specs.Talk.{Talk}
use Rattle.wb_law.specs.Classes.{rank_at}
use Rattle.wb_symstep.specs.declared.state.SymState.{SymState}
use Rattle.wb_symstep.specs.State.{StandsFor}
use Rattle.wb_explore.specs.declared.plan.Plan.{Plan}
use Rattle.wb_explore.specs.declared.entries.Entry.{Entry}
use Rattle.wb_explore.specs.declared.layer.Request.{Request}
use Rattle.wb_explore.specs.declared.reached.ReachedPoint.{ReachedPoint}
use Rattle.wb_explore.specs.HeldLaws.{HeldLaws}
use Rattle.wb_explore.specs.Runs.{Comes, point_in}
use Rattle.wb_explore.specs.Entries.{IsAt, IsSound, Covered, Carries, SaysPassing, Taken}
use Rattle.wb_explore.specs.Plans.{runs_of}
use Rattle.wb_explore.specs.Purses.{points_of}
use Rattle.wb_explore.specs.Seen.{IsSeen}
use Rattle.wb_explore.specs.Pending.{entry_key, entry_view, ArePending, IsPlaced}
use Rattle.wb_explore.specs.Walk.{IsUnderWay, IsUp}
use Rattle.wb_explore.specs.Layers.{request_view}
use Rattle.wb_explore.proofs.Lists.{listed_head, listed_tail, listed_cases, point_listed, taken_itself, taken_back, taken_cases, apart_taken, apart_only}
use Rattle.wb_explore.proofs.Covering.{says, covered_carried}
use Rattle.wb_explore.proofs.Onward.{taken_ahead}

-- one entry has what another has, but for its inputs
pub record AreAlike (e n : Entry) : Type 0 where
  pub key : n.key ≡ e.key
  pub rank : n.rank ≡ e.rank
  pub state : n.state ≡ e.state
  pub cond : n.cond ≡ e.cond

module _ (laws : HeldLaws) (image : Image) (p : Plan) (g : Terms) where
  pub at_alike : (e n : Entry) → AreAlike e n → (i : Assignment) (c : Chip) → IsAt (entry_view g) (runs_of image p) i e c → IsAt (entry_view g) (runs_of image p) i n c
  at_alike e n same i c t = record {
    holds = ap (λ (b : BitId). bit_value i g b) same.cond ∙ t.holds;
    stands = subst (λ (s : SymState). StandsFor i g s c.machine) (sym same.state) t.stands;
    key = t.key ∙ sym same.key;
  }

  pub sound_alike : (e n : Entry) → AreAlike e n → IsSound (entry_view g) (runs_of image p) e → IsSound (entry_view g) (runs_of image p) n
  sound_alike e n same s i a q =
      let t = s i a (ap (λ (b : BitId). bit_value i g b) (sym same.cond) ∙ q) in
      (t.0, t.1, at_alike e n same i t.0 t.2)

  -- what was seen may be more
  pub covered_seen : (es : List Entry) (seen more : Assignment → Chip → Type 0) → ((i : Assignment) → IsAssignment i → (c : Chip) → Comes (runs_of image p) i c → seen i c → more i c)
      → Covered (entry_view g) (runs_of image p) es seen → Covered (entry_view g) (runs_of image p) es more
  covered_seen es seen more keeps covered i a c come = elim (covered i a c come) [ inl s ↦ inl (keeps i a c come s) | inr h ↦ inr h ]

  taken_pending : (reached : List ReachedPoint) (es rest : List Entry) (e : Entry) → ArePending g image p reached es → Taken es rest e → ArePending g image p reached rest
  taken_pending reached es rest e a taken = record {
    each = λ f c. a.each f (taken_back es rest e f taken c);
    apart = (apart_taken entry_key es rest e taken a.apart).0;
    sound = λ f c. a.sound f (taken_back es rest e f taken c);
    known = λ f c. a.known f (taken_back es rest e f taken c);
  }

  -- the entry that was taken is up
  pub taken_up : (reached : List ReachedPoint) (es rest : List Entry) (e : Entry) (qs : List Request) (o : Option Talk) → IsUnderWay g image p reached es qs o → Taken es rest e → All (λ (f : Entry). e.rank ≤ f.rank) es
      → IsUp g image p reached e rest qs o
  taken_up reached es rest e qs o u taken least = record {
    pending = taken_pending reached es rest e u.pending taken;
    ahead = taken_ahead image p g reached es rest u.bound e u.pending u.ahead taken least;
    entry = u.pending.each e here;
    sound = u.pending.sound e here;
    alone = λ f c q. (apart_taken entry_key es rest e taken u.pending.apart).1 f c (sym q);
    known = u.pending.known e here;
    unknown = unknown;
    requests = record {
      each = u.requests.each;
      sound = u.requests.sound;
      apart = u.requests.apart;
      behind = λ q c. let b = u.requests.behind q c in let up = u.ahead.ahead e here in let low = b.0 in (omega arith, λ f d. b.1 f (taken_back es rest e f taken d));
    };
    others = λ q c same. (u.requests.behind q c).1 e here (sym same);
    covered = covered_carried laws (runs_of image p) (entry_view g) (entry_view g) es (e ∷ rest) _ carries u.covered;
    right = u.right;
  }
    where
      here : Contains es e
      here = taken_itself es rest e taken

      carries : Carries (runs_of image p) (entry_view g) es (entry_view g) (e ∷ rest)
      carries i a c come t = record {
        entry = t.entry;
        listed = elim (taken_cases es rest e t.entry taken t.listed) [ inl q ↦ listed_head e t.entry rest (sym q) | inr d ↦ listed_tail e t.entry rest d ];
        is_at = t.is_at;
      }

      unknown : is_some e.witness ≡ false → (r : ReachedPoint) → Contains reached r → r.point ≢ e.key
      unknown none r c same =
          let x = u.pending.each e here in
          by_place (u.ahead.placed r c (ap (λ (y : Point). y.side) same ∙ x.side) (ap (λ (y : Point). y.kinds) same ∙ x.kinds))
        where
          by_place : IsPlaced image p es u.bound r.point → ⊥
          by_place (inl f) =
              let one : f.entry ≡ e = apart_only entry_key es f.entry e u.pending.apart f.listed here (f.same ∙ same) in
              both_ways (is_some e.witness) none (ap (λ (n : Entry). is_some n.witness) (sym one) ∙ f.found)
          by_place (inr b) = b.1 e here (sym same)

  -- an entry whose condition is never true is dropped
  pub dropped : (reached : List ReachedPoint) (e : Entry) (es : List Entry) (qs : List Request) (o : Option Talk) → IsUp g image p reached e es qs o
      → ((i : Assignment) → IsAssignment i → bit_value i g e.cond ≢ true) → IsUnderWay g image p reached es qs o
  dropped reached e es qs o u never = record {
    bound = e.rank;
    pending = u.pending;
    ahead = u.ahead;
    requests = u.requests;
    covered = covered_carried laws (runs_of image p) (entry_view g) (entry_view g) (e ∷ es) es _ carries u.covered;
    right = u.right;
  }
    where
      carries : Carries (runs_of image p) (entry_view g) (e ∷ es) (entry_view g) es
      carries i a c come t = elim (listed_cases e t.entry es t.listed) [ inl q ↦ absurd (never i a (ap (λ (n : Entry). bit_value i g n.cond) q ∙ t.is_at.holds)) | inr d ↦ record { entry = t.entry; listed = d; is_at = t.is_at } ]

  -- where no inputs are known, its condition says which held runs pass its point
  pub up_says : (reached : List ReachedPoint) (e : Entry) (es : List Entry) (qs : List Request) (o : Option Talk) → IsUp g image p reached e es qs o → is_some e.witness ≡ false → SaysPassing (entry_view g) (runs_of image p) e
  up_says reached e es qs o u none = says laws (runs_of image p) (entry_view g) (e ∷ es) e _ u.covered sound (listed_head e e es refl) least only unseen
    where
      sound : (f : Entry) → Contains (e ∷ es) f → IsSound (entry_view g) (runs_of image p) f
      sound f c = elim (listed_cases e f es c) [ inl q ↦ subst (IsSound (entry_view g) (runs_of image p)) q u.sound | inr d ↦ u.pending.sound f d ]

      later : (f : Entry) → Contains es f → rank_at image p.pace e.key ≤ rank_at image p.pace f.key
      later f d = let l = u.ahead.ahead f d in let m = u.entry.rank in let n = (u.pending.each f d).rank in omega arith

      least : (f : Entry) → Contains (e ∷ es) f → rank_at image p.pace e.key ≤ rank_at image p.pace f.key
      least f c = elim (listed_cases e f es c) [ inl q ↦ (let l = ap (λ (n : Entry). rank_at image p.pace n.key) q in omega arith) | inr d ↦ later f d ]

      only : (f : Entry) → Contains (e ∷ es) f → f.key ≡ e.key → f ≡ e
      only f c q = elim (listed_cases e f es c) [ inl r ↦ sym r | inr d ↦ absurd (u.alone f d q) ]

      unseen : (i : Assignment) → IsAssignment i → (c : Chip) → Comes (runs_of image p) i c → point_in (runs_of image p) c ≡ e.key
          → IsSeen (request_view p g) (runs_of image p) (points_of reached) qs (is_some o) i c → ⊥
      unseen i a c come q s = let r = point_listed reached (point_in (runs_of image p) c) s.point in u.unknown none r.0 r.1 (r.2 ∙ q)

  pub up_fresh : (reached : List ReachedPoint) (e : Entry) (es : List Entry) (qs : List Request) (o : Option Talk) → IsUp g image p reached e es qs o → is_some e.witness ≡ false → All (λ (r : ReachedPoint). r.point ≢ e.key) reached
  up_fresh reached e es qs o u none k d less = u.unknown none (slice_index_or reached k d) (k, less, get_or_default reached k (slice_index_or reached k d) d less)
