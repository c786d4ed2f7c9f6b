-- Where the answers to one more access differ, the dialogue with it shows a difference.
use Rattle.std.proofs.Common.{◌≡◌, ℕ, ◌<◌, ◌≤◌, true, false, Option, Some, List, [], ◌∷◌, ◌++◌, ◌⊎◌, inl, inr, length, refl, sym, ap, subst, ◌∙◌, arith}
use Rattle.std.specs.Prelude.{Contains}
use Rattle.std.specs.Option.{option_to_list}
use Rattle.std.proofs.lemmas.List.{length-append, append-nil}
use Rattle.wb_rom.specs.declared.images.Image.{Image}
use Rattle.wb_term.specs.Inputs.{Assignment, IsAssignment}
use Rattle.wb_machine.specs.State.{State}
use Rattle.wb_port.specs.declared.accesses.Access.{Access}
use Rattle.wb_port.specs.declared.accesses.Access.TheVariants as access
use Rattle.wb_port.specs.declared.accesses.Kind.{Kind}
use Rattle.wb_port.specs.declared.accesses.Kind.TheVariants as kind
use Rattle.wb_port.specs.declared.runs.Run.TheVariants.{Answered}
use Rattle.wb_port.specs.Talk.{dialogue, transfers_of}
use Rattle.wb_port.specs.Dialogue.{AllowsEach}
use Rattle.wb_port.specs.Port.{access_reply}
use Rattle.wb_port.specs.Run.{EndsAs}
use Rattle.wb_port.specs.Verdicts.{Asks}
use Rattle.wb_law.specs.Requests.{EndsByReply}
use Rattle.wb_point.specs.Dialogues.{dialogue_under, accesses_under, access_under, start_under}
use Rattle.wb_point.specs.Holds.{AnswersDiffer, followed_by}
use Rattle.wb_replies.specs.Differences.{asked_for}
use Rattle.wb_compare.specs.declared.questions.Question.{Question}
use Rattle.wb_compare.specs.declared.verdicts.Verdict.TheVariants as verdict
use Rattle.wb_compare.specs.Questions.{IsQuestion, FitsQuestion}
use Rattle.wb_compare.specs.Verdicts.{IsVerdict}
use Rattle.wb_compare.specs.Laws.{RunLaws}
use Rattle.wb_compare.specs.Settled.{AreAlikeBelow, wants_read}
use Rattle.wb_compare.proofs.Lists.{snoc_same, push_append, next_allowed, allowed_next, allowed_front, read_asked, asked_cases}
use Rattle.wb_compare.proofs.Talks.{fits_under}

module _ (laws : RunLaws) (a b : Image) (q : Question) (asks : IsQuestion q) (m : ℕ) (below : AreAlikeBelow a b q m) (i : Assignment) (v : IsAssignment i) where
  -- the replies of both images to the dialogue of these kinds are the same
  abbrev SameAfter : List Kind → Type 0
  SameAfter ks =
      (x y : List ℕ) → EndsAs a q.k false (dialogue_under ks i q.power) (Answered x)
      → EndsAs b q.k false (dialogue_under ks i q.power) (Answered y) → x ≡ y

  same_first : SameAfter []
  same_first x y first second =
      let p : Answered x ≡ Answered [] = (laws.course a q.k false (dialogue_under [] i q.power) (Answered x)).0 first in
      let r : Answered y ≡ Answered [] = (laws.course b q.k false (dialogue_under [] i q.power) (Answered y)).0 second in
      cc

  same_next : (ks : List Kind) (k : Kind) → AllowsEach q.shape (ks ++ k ∷ []) → length ks < m → SameAfter ks → SameAfter (ks ++ k ∷ [])
  same_next ks k allowed less same x y first second =
      joined
      ((laws.last_reply a q.k (start_under i q.power) (accesses_under i 0 ks) (access_under i (length ks) k) x).0 (at_last a x first))
      ((laws.last_reply b q.k (start_under i q.power) (accesses_under i 0 ks) (access_under i (length ks) k) y).0 (at_last b y second))
    where
      at_last : (image : Image) (z : List ℕ) → EndsAs image q.k false (dialogue_under (ks ++ k ∷ []) i q.power) (Answered z)
          → EndsAs image q.k false (dialogue (start_under i q.power) (accesses_under i 0 ks ++ access_under i (length ks) k ∷ [])) (Answered z)
      at_last image z ends = subst (λ (xs : List Access). EndsAs image q.k false (dialogue (start_under i q.power) xs) (Answered z)) (laws.at_end ks k i) ends

      reply : (kind' : Kind) → AllowsEach q.shape (ks ++ kind' ∷ []) → (f : EndsByReply a q.k (start_under i q.power) (accesses_under i 0 ks) (access_under i (length ks) k) x)
          (g : EndsByReply b q.k (start_under i q.power) (accesses_under i 0 ks) (access_under i (length ks) k) y)
          → access_reply (access_under i (length ks) kind') f.asking.machine ≡ access_reply (access_under i (length ks) kind') g.asking.machine
      reply kind.Read ok f g =
          below ks (allowed_front q.shape ks (kind.Read ∷ []) ok) less i v f.asking g.asking f.asks g.asks access.Read
          (read_asked (wants_read q ks) (next_allowed q.shape ks kind.Read ok))
      reply kind.Write ok f g = refl

      joined : EndsByReply a q.k (start_under i q.power) (accesses_under i 0 ks) (access_under i (length ks) k) x
          → EndsByReply b q.k (start_under i q.power) (accesses_under i 0 ks) (access_under i (length ks) k) y → x ≡ y
      joined f g =
          let e = same f.earlier g.earlier f.answered g.answered in
          let r = ap option_to_list (reply k allowed f g) in
          let s = f.sum in
          let t = g.sum in
          cc

  same_along : (done rest : List Kind) → AllowsEach q.shape (done ++ rest) → length (done ++ rest) ≤ m → SameAfter done → SameAfter (done ++ rest)
  same_along done [] allowed few same = subst SameAfter (sym (append-nil done)) same
  same_along done (k ∷ rest) allowed few same =
      let e = push_append done rest k in
      let n = length-append done (k ∷ rest) in
      let ok : AllowsEach q.shape ((done ++ k ∷ []) ++ rest) = subst (AllowsEach q.shape) (sym e) allowed in
      let less : length done < m = omega arith in
      subst SameAfter e
      (same_along (done ++ k ∷ []) rest ok (let f = ap length e in omega arith)
      (same_next done k (allowed_front q.shape (done ++ k ∷ []) rest ok) less same))

  pub same_replies : (ks : List Kind) → AllowsEach q.shape ks → length ks ≤ m → SameAfter ks
  same_replies ks allowed few = same_along [] ks allowed few same_first

  -- the earlier replies of a dialogue whose last access asks for a byte

  last_asked : (x : Access) (n : State) → Asks x → (r : ℕ) × (access_reply x n ≡ Some r)
  last_asked access.Status n h = (_, refl)
  last_asked access.Read n h = (_, refl)
  last_asked (access.Write byte) n h = absurd h

  earlier : (image : Image) (ks : List Kind) (x : Access) (said : List ℕ) (r : ℕ) → Asks x
      → EndsAs image q.k false (followed_by (dialogue_under ks i q.power) x) (Answered (said ++ r ∷ []))
      → EndsAs image q.k false (dialogue_under ks i q.power) (Answered said)
  earlier image ks x said r h ends = by_reply ((laws.last_reply image q.k (start_under i q.power) (accesses_under i 0 ks) x (said ++ r ∷ [])).0 ends)
    where
      by_reply : EndsByReply image q.k (start_under i q.power) (accesses_under i 0 ks) x (said ++ r ∷ []) → EndsAs image q.k false (dialogue_under ks i q.power) (Answered said)
      by_reply e =
          let l = last_asked x e.asking.machine h in
          let p : said ++ r ∷ [] ≡ e.earlier ++ l.0 ∷ [] = e.sum ∙ ap (λ (o : Option ℕ). e.earlier ++ option_to_list o) l.1 in
          let s = snoc_same said e.earlier r l.0 p in
          subst (λ (xs : List ℕ). EndsAs image q.k false (dialogue_under ks i q.power) (Answered xs)) (sym s.0) e.answered

  -- the dialogue fits with the access at its end

  fits_status : (ks : List Kind) → AllowsEach q.shape ks → FitsQuestion q (followed_by (dialogue_under ks i q.power) access.Status)
  fits_status ks allowed =
      (laws.always_fit q.n q.shape q.power (start_under i q.power) (accesses_under i 0 ks ++ access.Status ∷ [])).1
      (subst (λ (xs : List Access). FitsQuestion q (dialogue (start_under i q.power) xs)) (sym same) (fits_under laws q asks ks allowed i v))
    where
      same : transfers_of (accesses_under i 0 ks ++ access.Status ∷ []) ≡ accesses_under i 0 ks
      same =
          (laws.joins (accesses_under i 0 ks) (access.Status ∷ [])).transfers_join
          ∙ append-nil (transfers_of (accesses_under i 0 ks))
          ∙ (laws.left (accesses_under i 0 ks)).same (laws.of_kinds ks i q.power).transfers

  fits_read : (ks : List Kind) → AllowsEach q.shape ks → wants_read q ks ≡ true → FitsQuestion q (followed_by (dialogue_under ks i q.power) access.Read)
  fits_read ks allowed want =
      subst (λ (xs : List Access). FitsQuestion q (dialogue (start_under i q.power) xs)) (laws.at_end ks kind.Read i)
      (fits_under laws q asks (ks ++ kind.Read ∷ []) (allowed_next q.shape ks kind.Read allowed want) i v)

  fits_asked : (ks : List Kind) (x : Access) → AllowsEach q.shape ks → (x ≡ access.Status) ⊎ ((x ≡ access.Read) × (wants_read q ks ≡ true)) → FitsQuestion q (followed_by (dialogue_under ks i q.power) x)
  fits_asked ks x allowed (inl e) = subst (λ (y : Access). FitsQuestion q (followed_by (dialogue_under ks i q.power) y)) (sym e) (fits_status ks allowed)
  fits_asked ks x allowed (inr h) = subst (λ (y : Access). FitsQuestion q (followed_by (dialogue_under ks i q.power) y)) (sym h.0) (fits_read ks allowed h.1)

  pub different : (ks : List Kind) (x : Access) → AllowsEach q.shape ks → length ks ≤ m → Contains (asked_for (wants_read q ks)) x
      → AnswersDiffer a b q.k (dialogue_under ks i q.power) x → IsVerdict a b q (verdict.Different (followed_by (dialogue_under ks i q.power) x))
  different ks x allowed few listed h = (
    fits_asked ks x allowed (asked_cases (wants_read q ks) x listed),
    record { front = accesses_under i 0 ks; last = x; parts = refl; transfers = (laws.of_kinds ks i q.power).transfers },
    record {
      front = accesses_under i 0 ks;
      last = x;
      ends_by = refl;
      asks = h.asks;
      earlier = h.first_said;
      first_reply = h.first_reply;
      second_reply = h.second_reply;
      first = h.first;
      second = subst (λ (xs : List ℕ). EndsAs b q.k false (followed_by (dialogue_under ks i q.power) x) (Answered (xs ++ h.second_reply ∷ []))) (sym same) h.second;
      differ = h.differ;
    },
  )
    where
      same : h.first_said ≡ h.second_said
      same = same_replies ks allowed few h.first_said h.second_said (earlier a ks x h.first_said h.first_reply h.asks h.first) (earlier b ks x h.second_said h.second_reply h.asks h.second)
