-- Two circuits are told apart where the replies differ, and that is what the question asks.
use Rattle.std.proofs.Common.{◌≡◌, ◌≢◌, ℕ, ◌==◌, Bool, true, false, cond, Option, Some, None, List, [], ◌∷◌, ◌++◌, ◌⊎◌, inl, inr, refl, sym, ap, subst, ◌∙◌}
use Rattle.std.specs.Prelude.{Contains}
use Rattle.std.specs.Option.{option_to_list}
use Rattle.std.proofs.lemmas.Bool.{eqb-true, eqb-false}
use Rattle.std.proofs.lemmas.List.Elements.{All-nil, Contains-push, Contains-push_cases, Contains-append_left}
use Rattle.wb_rom.specs.declared.images.Image.{Image}
use Rattle.wb_term.specs.Inputs.{Assignment, IsAssignment}
use Rattle.wb_term.specs.Terms.{Terms}
use Rattle.wb_term.specs.Values.{word_value, bit_value}
use Rattle.wb_port.specs.declared.accesses.Access.{Access}
use Rattle.wb_port.specs.declared.accesses.Access.TheVariants as access
use Rattle.wb_port.specs.declared.accesses.Kind.{Kind}
use Rattle.wb_port.specs.declared.accesses.Power.{Power}
use Rattle.wb_port.specs.declared.chips.Chip.{Chip}
use Rattle.wb_port.specs.declared.runs.Run.TheVariants.{Answered}
use Rattle.wb_port.specs.Port.{access_reply}
use Rattle.wb_port.specs.Schedule.{powered}
use Rattle.wb_port.specs.Run.{EndsAs}
use Rattle.wb_port.specs.Verdicts.{Asks as IsAsking}
use Rattle.wb_port.specs.Talk.{Talk, dialogue}
use Rattle.wb_law.specs.Course.{AsksAfter}
use Rattle.wb_law.specs.Requests.{EndsByReply, LastReplyIsGivenAtARequest}
use Rattle.wb_law.specs.Runs.{AnsweredRunsAreGiven}
use Rattle.wb_point.specs.Dialogues.{dialogue_under}
use Rattle.wb_point.specs.Holds.{IsPassed, HasValue, IsToldApart, AnswersDiffer, HoldsUnder}
use Rattle.wb_explore.specs.declared.plan.Plan.{Plan}
use Rattle.wb_explore.specs.Runs.{Asks}
use Rattle.wb_explore.specs.Plans.{runs_of}
use Rattle.wb_replies.specs.declared.circuit.ReplyCircuit.{ReplyCircuit}
use Rattle.wb_replies.specs.Circuits.{TellsReplies}
use Rattle.wb_replies.specs.Differences.{AreToldApart, RepliesDiffer, ArePaired, access_between, asked_for, question_of_replies}
use Rattle.wb_replies.specs.Laws.{DifferencesAreOfReplies, IsShown, DifferencesAreShown, DifferencesSayQuestions}
use Rattle.wb_replies.proofs.Lists.{listed_none, same_last}

value_in : Option ℕ → ℕ
value_in None = 0
value_in (Some n) = n

same_some : (n m : ℕ) → Some n ≡ Some m → n ≡ m
unfolding value_in
same_some n m e = ap value_in e

-- the accesses that are asked for

status_asked : (w : Bool) → Contains (asked_for w) access.Status
status_asked false = Contains-push [] access.Status
status_asked true = Contains-append_left (access.Status ∷ []) (access.Read ∷ []) access.Status (Contains-push [] access.Status)

read_asked : (w : Bool) → w ≡ true → Contains (asked_for w) access.Read
read_asked false e = absurd (cc)
read_asked true e = Contains-push (access.Status ∷ []) access.Read

asked_cases : (w : Bool) (x : Access) → Contains (asked_for w) x → (access.Status ≡ x) ⊎ ((w ≡ true) × (access.Read ≡ x))
asked_cases false x h = elim (Contains-push_cases [] access.Status x h) [ inl a ↦ absurd (listed_none x a) | inr b ↦ inl b ]
asked_cases true x h = elim (Contains-push_cases (access.Status ∷ []) access.Read x h) [ inl a ↦ inl (first a) | inr b ↦ inr (refl, b) ]
  where
    first : Contains (access.Status ∷ []) x → access.Status ≡ x
    first a = elim (Contains-push_cases [] access.Status x a) [ inl n ↦ absurd (listed_none x n) | inr b ↦ b ]

-- Circuits are told apart where replies at the first requests differ.
module _ (g : Terms) (a b : Image) (p q : Plan) (x y : ReplyCircuit) (w : Bool) (of_a : TellsReplies g a p x) (of_b : TellsReplies g b q y) (i : Assignment) (ok : IsAssignment i) where
  pub replies_differ : AreToldApart i g x y w → RepliesDiffer a b p q i w
  replies_differ t = elim t.differ [ inl n ↦ by_status n | inr n ↦ by_read n.0 n.1 ]
    where
      one : (d : Chip) × Asks (runs_of a p) i d
      one = (of_a.present i ok).0 t.first

      other : (d : Chip) × Asks (runs_of b q) i d
      other = (of_b.present i ok).0 t.second

      by_status : word_value i g x.status ≢ word_value i g y.status → RepliesDiffer a b p q i w
      by_status n = record {
        first = one.0;
        first_asks = one.1;
        second = other.0;
        second_asks = other.1;
        by = access.Status;
        asked = status_asked w;
        differ = λ e. n (same_some (word_value i g x.status) (word_value i g y.status) (sym (of_a.status i ok one.0 one.1) ∙ e ∙ of_b.status i ok other.0 other.1));
      }

      by_read : w ≡ true → word_value i g x.read ≢ word_value i g y.read → RepliesDiffer a b p q i w
      by_read wanted n = record {
        first = one.0;
        first_asks = one.1;
        second = other.0;
        second_asks = other.1;
        by = access.Read;
        asked = read_asked w wanted;
        differ = λ e. n (same_some (word_value i g x.read) (word_value i g y.read) (sym (of_a.read i ok one.0 one.1) ∙ e ∙ of_b.read i ok other.0 other.1));
      }

  pub told_apart : RepliesDiffer a b p q i w → AreToldApart i g x y w
  told_apart r = record {
    first = (of_a.present i ok).1 (r.first, r.first_asks);
    second = (of_b.present i ok).1 (r.second, r.second_asks);
    differ = by_access (asked_cases w r.by r.asked);
  }
    where
      by_access : (access.Status ≡ r.by) ⊎ ((w ≡ true) × (access.Read ≡ r.by)) → (word_value i g x.status ≢ word_value i g y.status) ⊎ ((w ≡ true) × (word_value i g x.read ≢ word_value i g y.read))
      by_access (inl e) = inl (λ same. r.differ (
          ap (λ (u : Access). access_reply u r.first.machine) (sym e) ∙ of_a.status i ok r.first r.first_asks ∙ ap (λ (n : ℕ). Some n) same
          ∙ sym (of_b.status i ok r.second r.second_asks) ∙ ap (λ (u : Access). access_reply u r.second.machine) e))
      by_access (inr (wanted, e)) = inr (
        wanted,
        λ same. r.differ (
            ap (λ (u : Access). access_reply u r.first.machine) (sym e) ∙ of_a.read i ok r.first r.first_asks ∙ ap (λ (n : ℕ). Some n) same
            ∙ sym (of_b.read i ok r.second r.second_asks) ∙ ap (λ (u : Access). access_reply u r.second.machine) e),
      )

pub differences_are_of_replies : DifferencesAreOfReplies
differences_are_of_replies g a b p q x y w of_a of_b i ok = (replies_differ g a b p q x y w of_a of_b i ok, told_apart g a b p q x y w of_a of_b i ok)

-- A reply at the first request is the last one of a run with one access more, and the other way round.

reply_answers : AnsweredRunsAreGiven → LastReplyIsGivenAtARequest → (image : Image) (k : ℕ) (start : List ℕ) (front : List Access) (x : Access) (c : Chip) (v : ℕ)
    → AsksAfter image k front (powered start) c → access_reply x c.machine ≡ Some v
    → (said : List ℕ) × EndsAs image k false (dialogue start (front ++ x ∷ [])) (Answered (said ++ v ∷ []))
reply_answers given last image k start front x c v asks e =
    let r = (given image k start front).1 (asks.after, asks.given) in (
      r.0,
      (last image k start front x (r.0 ++ v ∷ [])).1 (record {
        earlier = r.0;
        answered = r.1;
        asking = c;
        asks = asks;
        sum = ap (λ (o : Option ℕ). r.0 ++ option_to_list o) (sym e);
      }),
    )

-- the chip at which a run's last reply was given
record Replied (image : Image) (k : ℕ) (start : List ℕ) (front : List Access) (x : Access) (v : ℕ) : Type 0 where
  chip : Chip
  asks : AsksAfter image k front (powered start) chip
  reply : access_reply x chip.machine ≡ Some v

answers_reply : LastReplyIsGivenAtARequest → (image : Image) (k : ℕ) (start : List ℕ) (front : List Access) (x : Access) (said : List ℕ) (v : ℕ)
    → (access.Status ≡ x) ⊎ (access.Read ≡ x) → EndsAs image k false (dialogue start (front ++ x ∷ [])) (Answered (said ++ v ∷ [])) → Replied image k start front x v
answers_reply last image k start front x said v which ends =
    let r = (last image k start front x (said ++ v ∷ [])).0 ends in
    record { chip = r.asking; asks = r.asks; reply = given x which r }
  where
    given : (u : Access) → (access.Status ≡ u) ⊎ (access.Read ≡ u) → (r : EndsByReply image k start front u (said ++ v ∷ [])) → access_reply u r.asking.machine ≡ Some v
    given access.Status h r = ap (λ (n : ℕ). Some n) (sym (same_last said r.earlier v _ r.sum))
    given access.Read h r = ap (λ (n : ℕ). Some n) (sym (same_last said r.earlier v _ r.sum))
    given (access.Write byte) (inl e) r = absurd (cc)
    given (access.Write byte) (inr e) r = absurd (cc)

-- a first request after the dialogue of these kinds
abbrev asks_of : Image → List Kind → ℕ → Power → Assignment → Chip → Type 0
asks_of image ks k power i d = AsksAfter image k (dialogue_under ks i power).accesses (powered (dialogue_under ks i power).start) d

paired_asks : (image : Image) (p q : Plan) (i : Assignment) (d : Chip) → ArePaired p q → asks_of image p.kinds p.pace p.power i d → asks_of image q.kinds q.pace q.power i d
paired_asks image p q i d h x =
    subst (λ (w : Power). asks_of image q.kinds q.pace w i d) h.power
    (subst (λ (k : ℕ). asks_of image q.kinds k p.power i d) h.pace
    (subst (λ (ks : List Kind). asks_of image ks p.pace p.power i d) h.kinds x))

unpaired_asks : (image : Image) (p q : Plan) (i : Assignment) (d : Chip) → ArePaired p q → asks_of image q.kinds q.pace q.power i d → asks_of image p.kinds p.pace p.power i d
unpaired_asks image p q i d h x = paired_asks image q p i d (record { kinds = sym h.kinds; pace = sym h.pace; power = sym h.power }) x

-- the answers to one of the accesses that are asked for differ

some_apart : (a b : Image) (k : ℕ) (d : Talk) (w : Bool) → (u : Access) → Contains (asked_for w) u → AnswersDiffer a b k d u → IsToldApart a b k d (asked_for w)
some_apart a b k d false u h x = (u, h, x)
some_apart a b k d true u h x = (u, h, x)

apart_by : (a b : Image) (k : ℕ) (d : Talk) (w : Bool) → IsToldApart a b k d (asked_for w) → (u : Access) × Contains (asked_for w) u × AnswersDiffer a b k d u
apart_by a b k d false h = h
apart_by a b k d true h = h

module _ (given : AnsweredRunsAreGiven) (last : LastReplyIsGivenAtARequest) (g : Terms) (a b : Image) (p q : Plan) (x y : ReplyCircuit) (w : Bool) (paired : ArePaired p q) (of_a : TellsReplies g a p x) (of_b : TellsReplies g b q y) (i : Assignment) (ok : IsAssignment i) where
  among : AreToldApart i g x y w → Contains (asked_for w) (access_between i g x y)
  among t = by_test (word_value i g x.status == word_value i g y.status) refl
    where
      by_test : (e : Bool) → (word_value i g x.status == word_value i g y.status) ≡ e → Contains (asked_for w) (cond e access.Read access.Status)
      by_test false n = status_asked w
      by_test true s = read_asked w (elim t.differ [ inl n ↦ absurd (n (eqb-true _ _ s)) | inr n ↦ n.0 ])

  -- by their replies at the first requests
  by_replies : (u : Access) (v z : ℕ) → IsAsking u → ((d : Chip) → Asks (runs_of a p) i d → access_reply u d.machine ≡ Some v) → ((d : Chip) → Asks (runs_of b q) i d → access_reply u d.machine ≡ Some z)
      → bit_value i g x.present ≡ true → bit_value i g y.present ≡ true → v ≢ z → AnswersDiffer a b p.pace (dialogue_under p.kinds i p.power) u
  by_replies u v z asking first second here there n =
      let one = (of_a.present i ok).0 here in
      let other = (of_b.present i ok).0 there in
      let d = dialogue_under p.kinds i p.power in
      let r = reply_answers given last a p.pace d.start d.accesses u one.0 v one.1 (first one.0 one.1) in
      let s = reply_answers given last b p.pace d.start d.accesses u other.0 z (unpaired_asks b p q i other.0 paired other.1) (second other.0 other.1) in
      record {
        asks = asking;
        first_said = r.0;
        first_reply = v;
        second_said = s.0;
        second_reply = z;
        first = r.1;
        second = s.1;
        differ = n;
      }

  answers : AreToldApart i g x y w → AnswersDiffer a b p.pace (dialogue_under p.kinds i p.power) (access_between i g x y)
  answers t = by_test (word_value i g x.status == word_value i g y.status) refl
    where
      by_test : (e : Bool) → (word_value i g x.status == word_value i g y.status) ≡ e → AnswersDiffer a b p.pace (dialogue_under p.kinds i p.power) (cond e access.Read access.Status)
      by_test false n = by_replies access.Status (word_value i g x.status) (word_value i g y.status) tt (of_a.status i ok) (of_b.status i ok) t.first t.second (eqb-false _ _ n)
      by_test true s = by_replies access.Read (word_value i g x.read) (word_value i g y.read) tt (of_a.read i ok) (of_b.read i ok) t.first t.second (elim t.differ [ inl n ↦ absurd (n (eqb-true _ _ s)) | inr n ↦ n.1 ])

  holds : AreToldApart i g x y w → HoldsUnder a b p.pace p.power (question_of_replies p.kinds w) i
  holds t = record {
    marks = All-nil (IsPassed a b p.pace (dialogue_under p.kinds i p.power));
    fixed = All-nil (HasValue i);
    last = some_apart a b p.pace (dialogue_under p.kinds i p.power) w (access_between i g x y) (among t) (answers t);
  }

  held : HoldsUnder a b p.pace p.power (question_of_replies p.kinds w) i → AreToldApart i g x y w
  held h = by_answers (apart_by a b p.pace (dialogue_under p.kinds i p.power) w h.last)
    where
      by_answers : ((u : Access) × Contains (asked_for w) u × AnswersDiffer a b p.pace (dialogue_under p.kinds i p.power) u) → AreToldApart i g x y w
      by_answers (u, listed, r) =
          let d = dialogue_under p.kinds i p.power in
          let which : (access.Status ≡ u) ⊎ (access.Read ≡ u) = elim (asked_cases w u listed) [ inl e ↦ inl e | inr e ↦ inr e.1 ] in
          let one = answers_reply last a p.pace d.start d.accesses u r.first_said r.first_reply which r.first in
          let other = answers_reply last b p.pace d.start d.accesses u r.second_said r.second_reply which r.second in
          told_apart g a b p q x y w of_a of_b i ok (record {
            first = one.chip;
            first_asks = one.asks;
            second = other.chip;
            second_asks = paired_asks b p q i other.chip paired other.asks;
            by = u;
            asked = listed;
            differ = λ e. r.differ (same_some r.first_reply r.second_reply (sym one.reply ∙ e ∙ other.reply));
          })

  pub shown : IsShown g a b p x y w i
  shown = record { asked = (holds, held); among = among; answers = answers }

pub differences_are_shown : AnsweredRunsAreGiven → LastReplyIsGivenAtARequest → DifferencesAreShown
differences_are_shown given last g a b p q x y w paired of_a of_b i ok = shown given last g a b p q x y w paired of_a of_b i ok

-- what a bit, or none, says of the question

pub differences_say_questions : DifferencesAreShown → DifferencesSayQuestions
differences_say_questions shows old new a b p q x y w None paired of_a of_b never = λ i ok h. never i ok ((shows old a b p q x y w paired of_a of_b i ok).asked.1 h)
differences_say_questions shows old new a b p q x y w (Some bit) paired of_a of_b says = λ i ok.
    let s = (shows old a b p q x y w paired of_a of_b i ok).asked in
    (λ e. s.0 ((says.1 i ok).0 e), λ h. (says.1 i ok).1 (s.1 h))
