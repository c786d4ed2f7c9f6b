-- Where no request follows some dialogues, one transfer more changes nothing.
use Rattle.std.proofs.Common.{◌≡◌, ℕ, ◌+◌, ◌≤◌, true, Option, List, [], ◌∷◌, ◌++◌, inl, inr, length, refl, sym, ap, subst, ◌∙◌, arith}
use Rattle.std.specs.Prelude.{Contains}
use Rattle.std.proofs.lemmas.List.{length-append, append-nil}
use Rattle.wb_word.specs.declared.sides.Side.{Side}
use Rattle.wb_word.specs.declared.sides.Side.TheVariants as side
use Rattle.wb_rom.specs.declared.images.Image.{Image}
use Rattle.wb_term.specs.Inputs.{Assignment, IsAssignment}
use Rattle.wb_port.specs.declared.accesses.Access.{Access}
use Rattle.wb_port.specs.declared.accesses.Kind.{Kind}
use Rattle.wb_port.specs.declared.chips.Chip.{Chip}
use Rattle.wb_port.specs.declared.points.Point.{Point}
use Rattle.wb_port.specs.declared.runs.Run.{Run}
use Rattle.wb_port.specs.declared.runs.Run.TheVariants.{Overrun, Breach}
use Rattle.wb_port.specs.Schedule.{powered}
use Rattle.wb_port.specs.Talk.{Talk}
use Rattle.wb_port.specs.Dialogue.{AllowsEach}
use Rattle.wb_port.specs.Points.{Passes, image_of}
use Rattle.wb_port.specs.Run.{EndsAs}
use Rattle.wb_law.specs.Course.{Given, IsStop, StopsBefore}
use Rattle.wb_law.specs.Points.{PassesAfter, PassesWithin}
use Rattle.wb_point.specs.Dialogues.{dialogue_under, accesses_under, access_under, start_under}
use Rattle.wb_compare.specs.declared.questions.Question.{Question}
use Rattle.wb_compare.specs.Laws.{RunLaws}
use Rattle.wb_compare.specs.Settled.{IsFollowed, IsSettled, IsSilent, IsPaced}
use Rattle.wb_compare.proofs.Lists.{snoc_view, allowed_front}

-- some kinds and those after them, of which these are the first accesses
pub record IsCut (i : Assignment) (place : ℕ) (ks : List Kind) (front rest : List Access) : Type 0 where
  pub before : List Kind
  pub behind : List Kind
  pub parts : ks ≡ before ++ behind
  pub first : front ≡ accesses_under i place before
  pub last : rest ≡ accesses_under i (place + length before) behind

pub cut : (i : Assignment) (place : ℕ) (ks : List Kind) (front rest : List Access) → accesses_under i place ks ≡ front ++ rest → IsCut i place ks front rest
cut i place ks [] rest e = record { before = []; behind = ks; parts = refl; first = refl; last = sym e ∙ ap (λ (n : ℕ). accesses_under i n ks) (omega arith) }
cut i place [] (x ∷ front) rest e = absurd (cc)
cut i place (k ∷ ks) (x ∷ front) rest e =
    let t : accesses_under i (place + 1) ks ≡ front ++ rest = cc in
    let h : access_under i place k ≡ x = cc in
    let c = cut i (place + 1) ks front rest t in
    let n : place + 1 + length c.before ≡ place + length (k ∷ c.before) = omega arith in
    record {
      before = k ∷ c.before;
      behind = c.behind;
      parts = ap (λ (l : List Kind). k ∷ l) c.parts;
      first = ap (λ (y : Access). y ∷ front) (sym h) ∙ ap (λ (l : List Access). access_under i place k ∷ l) c.first;
      last = c.last ∙ ap (λ (m : ℕ). accesses_under i m c.behind) n;
    }

module _ (laws : RunLaws) (a b : Image) (q : Question) (s : Side) (ks : List Kind) (k : Kind) (silent : IsSilent a b q s ks) where
  -- the last access isn't given

  never_given : (i : Assignment) → IsAssignment i → (d : Chip)
      → Given (image_of a b s) q.k (accesses_under i 0 (ks ++ k ∷ [])) (powered (start_under i q.power)) d → ⊥
  never_given i v d given =
      let g = subst (λ (xs : List Access). Given (image_of a b s) q.k xs (powered (start_under i q.power)) d) (laws.at_end ks k i) given in
      let t = (laws.last_given (image_of a b s) q.k (accesses_under i 0 ks) (access_under i (length ks) k) (powered (start_under i q.power)) d).0 g in
      silent i v t.0 t.1

  pub silent_next : IsSilent a b q s (ks ++ k ∷ [])
  silent_next i v c asks = never_given i v asks.after asks.given

  -- a held run stops where it stopped without it

  stops_shorter : (i : Assignment) → IsAssignment i → (end : Run) → IsStop end
      → EndsAs (image_of a b s) q.k true (dialogue_under (ks ++ k ∷ []) i q.power) end
      → EndsAs (image_of a b s) q.k true (dialogue_under ks i q.power) end
  stops_shorter i v end stop ends =
      elim ((laws.stop_where (image_of a b s) q.k (start_under i q.power) (accesses_under i 0 (ks ++ k ∷ [])) end stop).0 ends) [
        | inl before ↦ laws.stop_shorter (image_of a b s) q.k (start_under i q.power) (accesses_under i 0 ks) (access_under i (length ks) k) end
            (subst (λ (xs : List Access). StopsBefore (image_of a b s) q.k xs (powered (start_under i q.power)) end) (laws.at_end ks k i) before)
        | inr after ↦ absurd (never_given i v after.after after.given)
      ]

  -- its points are those of shorter dialogues

  module _ (points : List Point) (shorter : (ls : List Kind) → AllowsEach q.shape ls → length ls ≤ length ks → IsFollowed a b q s points ls) (allowed : AllowsEach q.shape (ks ++ k ∷ [])) where
    passed_next : (i : Assignment) → IsAssignment i → (x : Point) → Passes (image_of a b s) s q.k (dialogue_under (ks ++ k ∷ []) i q.power) x → Contains points x
    passed_next i v x passes = by_rest (laws.passed_after (image_of a b s) s q.k (dialogue_under (ks ++ k ∷ []) i q.power) x passes)
      where
        by_rest : PassesWithin (image_of a b s) s q.k (accesses_under i 0 (ks ++ k ∷ [])) (powered (start_under i q.power)) x → Contains points x
        by_rest p = by_cut (cut i 0 (ks ++ k ∷ []) p.front p.rest p.parts)
          where
            passes_front : (c : IsCut i 0 (ks ++ k ∷ []) p.front p.rest) → Passes (image_of a b s) s q.k (dialogue_under c.before i q.power) x
            passes_front c =
                let t = laws.of_kinds c.before i q.power in
                let after = subst (λ (xs : List Access). PassesAfter (image_of a b s) s q.k xs (powered (start_under i q.power)) x) c.first p.passes in
                (laws.passed_last (image_of a b s) s q.k (dialogue_under c.before i q.power) x t.transfers (sym (ap (λ (y : Point). y.kinds) after.point))).1 after

            by_cut : IsCut i 0 (ks ++ k ∷ []) p.front p.rest → Contains points x
            by_cut c = elim (snoc_view c.behind) [ inl e ↦ absurd (whole e) | inr h ↦ part h.0 h.1 h.2 ]
              where
                whole : c.behind ≡ [] → ⊥
                whole e =
                    let same : ks ++ k ∷ [] ≡ c.before = c.parts ∙ ap (λ (l : List Kind). c.before ++ l) e ∙ append-nil c.before in
                    never_given i v p.passes.after
                    (subst (λ (xs : List Access). Given (image_of a b s) q.k xs (powered (start_under i q.power)) p.passes.after)
                    (c.first ∙ ap (λ (l : List Kind). accesses_under i 0 l) (sym same)) p.passes.given)

                part : (front : List Kind) (last : Kind) → c.behind ≡ front ++ last ∷ [] → Contains points x
                part front last e =
                    let few : length c.before ≤ length ks =
                    let n = ap length c.parts in
                    let m = ap length e in
                    let u = length-append ks (k ∷ []) in
                    let v = length-append c.before c.behind in
                    let w = length-append front (last ∷ []) in
                    grind arith in
                    let ok = allowed_front q.shape c.before c.behind (subst (AllowsEach q.shape) c.parts allowed) in
                    (shorter c.before ok few).passed i v x (passes_front c)

    pub followed_next : IsFollowed a b q s points (ks ++ k ∷ [])
    followed_next = record {
      breaches = λ i v at ends. (shorter_itself).breaches i v at (stops_shorter i v (Breach at) tt ends);
      passed = passed_next;
    }
      where
        shorter_itself : IsFollowed a b q s points ks
        shorter_itself = shorter ks (allowed_front q.shape ks (k ∷ []) allowed) (omega arith)

  pub paced_next : IsPaced a b q s ks → IsPaced a b q s (ks ++ k ∷ [])
  paced_next paced i v ends = paced i v (stops_shorter i v Overrun tt ends)

-- where neither side has a request, the dialogues with one transfer more are settled
pub settled_next : (laws : RunLaws) (a b : Image) (q : Question) (points : List Point) (kept : Side → Option Talk) (ks : List Kind) (k : Kind)
    → ((s : Side) → IsSilent a b q s ks)
    → ((ls : List Kind) → AllowsEach q.shape ls → length ls ≤ length ks → IsSettled a b q points kept ls)
    → AllowsEach q.shape (ks ++ k ∷ []) → IsSettled a b q points kept (ks ++ k ∷ [])
settled_next laws a b q points kept ks k silent shorter allowed = record {
  followed = λ s. followed_next laws a b q s ks k (silent s) points (λ ls ok few. (shorter ls ok few).followed s) allowed;
  paced = λ s none. paced_next laws a b q s ks k (silent s) ((shorter ks (allowed_front q.shape ks (k ∷ []) allowed) (omega arith)).paced s none);
  alike = λ i v c d first second x listed. absurd (silent_next laws a b q side.A ks k (silent side.A) i v c first);
}
