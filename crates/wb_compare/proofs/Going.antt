-- What stays as a comparison goes on, and what one more pair of layers settles.
use Rattle.std.proofs.Common.{◌≡◌, ◌+◌, ◌<◌, Option, Some, None, List, [], ◌∷◌, ◌++◌, ◌⊎◌, inl, inr, length, refl, sym, ap, subst, ◌∙◌, arith}
use Rattle.std.specs.Prelude.{Contains}
use Rattle.std.proofs.lemmas.List.{length-append, append-nil, append_assoc, map-append}
use Rattle.std.proofs.lemmas.List.Elements.{Contains-append_cases, Contains-append_left}
use Rattle.wb_word.specs.declared.numbers.Addr.{Addr}
use Rattle.wb_word.specs.declared.sides.Side.{Side}
use Rattle.wb_word.specs.declared.sides.Side.TheVariants as side
use Rattle.wb_rom.specs.declared.images.Image.{Image}
use Rattle.wb_term.specs.Terms.{Terms, Tables, table_of, table_words}
use Rattle.wb_term.specs.Growth.{Grown}
use Rattle.wb_term.specs.Inputs.{Assignment, IsAssignment}
use Rattle.wb_port.specs.declared.accesses.Kind.{Kind}
use Rattle.wb_port.specs.declared.points.Point.{Point}
use Rattle.wb_port.specs.Dialogue.{AllowsEach}
use Rattle.wb_port.specs.Points.{image_of}
use Rattle.wb_port.specs.Talk.{Talk, kinds}
use Rattle.wb_port.specs.Verdicts.{Breaks}
use Rattle.wb_law.specs.Points.{PassesWithin}
use Rattle.wb_port.specs.Schedule.{powered}
use Rattle.wb_point.specs.Dialogues.{dialogue_under}
use Rattle.wb_explore.specs.declared.plan.Plan.{Plan}
use Rattle.wb_explore.specs.declared.reached.ReachedPoint.{ReachedPoint}
use Rattle.wb_explore.specs.Laws.{LayersStay}
use Rattle.wb_explore.specs.Layers.{Requests, Knows, IsPassedBy}
use Rattle.wb_explore.specs.Purses.{points_of}
use Rattle.wb_compare.specs.declared.questions.Question.{Question}
use Rattle.wb_compare.specs.declared.pairs.Pair.{Pair}
use Rattle.wb_compare.specs.declared.working.Work.{Work}
use Rattle.wb_compare.specs.Laws.{RunLaws}
use Rattle.wb_compare.specs.Settled.{plan_of, IsFollowed, IsAlike, IsPaced}
use Rattle.wb_compare.specs.Working.{IsWork, HasSpare, IsLater, IsSideOf, IsPair, Follows, Settles, IsKept, kept_of, settled_by}
use Rattle.wb_compare.proofs.Growth.{◌▸◌, grown_same}
use Rattle.wb_compare.proofs.Lists.{snoc_view}

-- of points that are added at the end
known_more : (old new added : List ReachedPoint) → new ≡ old ++ added → (x : Point) → Contains (points_of old) x → Contains (points_of new) x
known_more old new added same x c =
    subst (λ (rs : List ReachedPoint). Contains (points_of rs) x) (sym same)
    (subst (λ (xs : List Point). Contains xs x) (sym (map-append (λ (r : ReachedPoint). r.point) old added))
    (Contains-append_left (points_of old) (points_of added) x c))

pub later_same : (w : Work) → IsLater w w
later_same w = record { grown = grown_same w.graph; added = []; reached = sym (append-nil w.purse.reached); kept = λ s d h. h }

pub later_on : (v w z : Work) → IsLater v w → IsLater w z → IsLater v z
later_on v w z l m = record {
  grown = l.grown ▸ m.grown;
  added = l.added ++ m.added;
  reached = m.reached ∙ ap (λ (rs : List ReachedPoint). rs ++ m.added) l.reached ∙ append_assoc v.purse.reached l.added m.added;
  kept = λ s d h. m.kept s d (l.kept s d h);
}

-- where only the graph grew
pub later_graph : (w : Work) (g : Terms) → Grown w.graph g → IsLater w (record w { graph = g })
later_graph w g grown = record { grown = grown; added = []; reached = sym (append-nil w.purse.reached); kept = kept }
  where
    kept : (s : Side) (d : Talk) → kept_of w s ≡ Some d → kept_of (record w { graph = g }) s ≡ Some d
    kept side.A d h = h
    kept side.B d h = h

module _ (a b : Image) (q : Question) where
  pub work_graph : (w : Work) (g : Terms) → Grown w.graph g → IsWork a b q w → IsWork a b q (record w { graph = g })
  work_graph w g grown h = record {
    words = λ t. subst (λ (ts : Tables). table_words ts (table_of ts t) ≡ (image_of a b t).drom) (sym grown.tables) (h.words t);
    budget = h.budget;
    reached = h.reached;
    kept = kept;
  }
    where
      kept : (t : Side) → IsKept (image_of a b t) q (kept_of (record w { graph = g }) t)
      kept side.A = h.kept side.A
      kept side.B = h.kept side.B

  module _ (layers : LayersStay) (old new : Work) (later : IsLater old new) where
    pub side_later : (s : Side) (ks : List Kind) (l : Requests) → IsSideOf a b q old s ks l → IsSideOf a b q new s ks l
    side_later s ks l h = record {
      plan = h.plan;
      layer = layers old.graph new.graph later.grown (image_of a b s) l h.layer;
      knows = λ front rest parts i v x passes. known_more old.purse.reached new.purse.reached later.added later.reached x (h.knows front rest parts i v x passes);
    }

    pub pair_later : (ks : List Kind) (p : Pair) → IsPair a b q old ks p → IsPair a b q new ks p
    pair_later ks p h = record { first = side_later side.A ks p.first h.first; second = side_later side.B ks p.second h.second; allowed = h.allowed }

    pub settled_later : (ks : List Kind) → settled_by a b q old ks → settled_by a b q new ks
    settled_later ks h = record {
      followed = λ s. record {
        breaches = (h.followed s).breaches;
        passed = λ i v x passes. known_more old.purse.reached new.purse.reached later.added later.reached x ((h.followed s).passed i v x passes);
      };
      paced = λ s none. h.paced s (before s none (kept_of old s) refl);
      alike = h.alike;
    }
      where
        before : (s : Side) → kept_of new s ≡ None → (o : Option Talk) → kept_of old s ≡ o → kept_of old s ≡ None
        before s none None e = e
        before s none (Some d) e = absurd (let k = later.kept s d e in cc)

  -- what the layer of a side tells of its dialogues
  pub side_followed : (w : Work) (s : Side) (ks : List Kind) (l : Requests) → IsSideOf a b q w s ks l → IsFollowed a b q s (points_of w.purse.reached) ks
  side_followed w s ks l h = record {
    breaches = subst (λ (p : Plan). (i : Assignment) → IsAssignment i → (at : Addr) → Breaks (image_of a b s) (dialogue_under p.kinds i p.power) p.pace at → ⊥) h.plan h.layer.breaches;
    passed = λ i v x passes. known ks [] (sym (append-nil ks)) i v x passes;
  }
    where
      known : Knows (image_of a b s) (plan_of q s ks) w.purse.reached
      known = subst (λ (p : Plan). Knows (image_of a b s) p w.purse.reached) h.plan h.knows

  -- the kinds of a point that is passed are those of its dialogue, or fewer
  pub kinds_passed : RunLaws → (s : Side) (ks : List Kind) (x : ReachedPoint) → IsPassedBy (image_of a b s) (plan_of q s ks) x → (x.point.kinds ≡ ks) ⊎ (length x.point.kinds < length ks)
  kinds_passed laws s ks x p = by_front (laws.passed_after (image_of a b s) s q.k x.dialogue x.point p.passes)
    where
      by_front : PassesWithin (image_of a b s) s q.k x.dialogue.accesses (powered x.dialogue.start) x.point → (x.point.kinds ≡ ks) ⊎ (length x.point.kinds < length ks)
      by_front f =
          let here : kinds f.front ≡ x.point.kinds = ap (λ (y : Point). y.kinds) f.passes.point in
          let all : ks ≡ kinds f.front ++ kinds f.rest = sym p.planned.kinds ∙ ap kinds f.parts ∙ (laws.joins f.front f.rest).kinds_join in
          elim (snoc_view (kinds f.rest)) [
            | inl e ↦ inl (sym here ∙ sym (append-nil (kinds f.front)) ∙ ap (λ (l : List Kind). kinds f.front ++ l) (sym e) ∙ sym all)
            | inr v ↦ inr (let n = ap length all in let m = ap length here in let o = ap length v.2 in let c = length-append (kinds f.front) (kinds f.rest) in let d = length-append v.0 (v.1 ∷ []) in grind arith)
          ]

  module _ (laws : RunLaws) (layers : LayersStay) (ks : List Kind) (allowed : AllowsEach q.shape ks) (old mid late : Work) (one other : Requests)
      (first : Follows a b q side.A ks old mid one) (second : Follows a b q side.B ks mid late other) where
    -- both sides were followed, and the replies are alike

    pub both_layers : IsPair a b q late ks (record { first = one; second = other })
    both_layers = record { first = side_later layers mid late second.later side.A ks one first.layer; second = second.layer; allowed = allowed }

    pub both_spare : HasSpare q old 0 → HasSpare q late (length one.requests + length other.requests)
    both_spare spare = subst (HasSpare q late) (omega arith) (second.spare (0 + length one.requests) (first.spare 0 spare))

    points_added : (x : ReachedPoint) → Contains late.purse.reached x → Contains old.purse.reached x ⊎ ((x.point.kinds ≡ ks) ⊎ (length x.point.kinds < length ks))
    points_added x c = elim (Contains-append_cases mid.purse.reached second.passed.added x (subst (λ (rs : List ReachedPoint). Contains rs x) second.passed.after c)) [
      | inl d ↦ elim (Contains-append_cases old.purse.reached first.passed.added x (subst (λ (rs : List ReachedPoint). Contains rs x) first.passed.after d))
          [ inl e ↦ inl e | inr e ↦ inr (kinds_passed laws side.A ks x (first.passed.passed x e)) ]
      | inr d ↦ inr (kinds_passed laws side.B ks x (second.passed.passed x d))
    ]

    module _ (g : Terms) (grown : Grown late.graph g) where
      end : Work
      end = record late { graph = g }

      end_later : IsLater late (record late { graph = g })
      end_later = later_graph late g grown

      pub settles : IsAlike a b q ks → HasSpare q (record late { graph = g }) 0 → Settles a b q ks old (record late { graph = g }) (record { first = one; second = other })
      settles alike spare = record {
        pair = pair_later layers late (record late { graph = g }) end_later ks (record { first = one; second = other }) both_layers;
        work = work_graph late g grown second.work;
        later = later_on old mid (record late { graph = g }) first.later (later_on mid late (record late { graph = g }) second.later end_later);
        settled = record { followed = followed; paced = paced; alike = alike };
        points = points_added;
        spare = spare;
      }
        where
          followed : (s : Side) → IsFollowed a b q s (points_of late.purse.reached) ks
          followed side.A = side_followed late side.A ks one both_layers.first
          followed side.B = side_followed late side.B ks other both_layers.second

          first_none : late.first_overrun ≡ None → (o : Option Talk) → mid.first_overrun ≡ o → mid.first_overrun ≡ None
          first_none none None e = e
          first_none none (Some d) e = absurd (let k : late.first_overrun ≡ Some d = second.later.kept side.A d e in cc)

          paced : (s : Side) → kept_of (record late { graph = g }) s ≡ None → IsPaced a b q s ks
          paced side.A none = first.paced (first_none none mid.first_overrun refl)
          paced side.B none = second.paced none
