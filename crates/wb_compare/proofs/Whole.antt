-- Where every dialogue is settled, the images are equal.
use Rattle.std.proofs.Common.{◌≡◌, ℕ, ◌≤◌, true, Some, None, List, [], ◌∷◌, ◌++◌, length, refl, sym, ap, subst, arith}
use Rattle.std.specs.Prelude.{Contains, All}
use Rattle.std.proofs.lemmas.List.{length-map}
use Rattle.wb_word.specs.declared.sides.Side.{Side}
use Rattle.wb_word.specs.declared.sides.Side.TheVariants as side
use Rattle.wb_rom.specs.declared.images.Image.{Image}
use Rattle.wb_port.specs.declared.accesses.Access.{Access}
use Rattle.wb_port.specs.declared.accesses.Access.TheVariants as access
use Rattle.wb_port.specs.declared.accesses.Kind.TheVariants as kind
use Rattle.wb_port.specs.declared.chips.Chip.{Chip}
use Rattle.wb_port.specs.declared.points.Point.{Point}
use Rattle.wb_port.specs.declared.runs.Run.TheVariants.{Overrun, Breach}
use Rattle.wb_port.specs.Schedule.{powered}
use Rattle.wb_port.specs.Talk.{Talk, dialogue, kinds, IsTransfer, transfers_of}
use Rattle.wb_port.specs.Dialogue.{AllowsEach}
use Rattle.wb_port.specs.Port.{access_reply}
use Rattle.wb_port.specs.Points.{Passes, image_of, IsReached, ReachedAtMost}
use Rattle.wb_port.specs.Verdicts.{Breaks, Overruns}
use Rattle.wb_law.specs.Course.{AsksAfter}
use Rattle.wb_law.specs.Schedules.{RequestsAlike, RepliesAlike}
use Rattle.wb_port.specs.Alike.{NeverBreaches}
use Rattle.wb_point.specs.Dialogues.{inputs_of}
use Rattle.wb_explore.specs.declared.budget.Budget.{Budget}
use Rattle.wb_explore.specs.declared.reached.ReachedPoint.{ReachedPoint}
use Rattle.wb_explore.specs.Purses.{points_of, IsPurse}
use Rattle.wb_explore.specs.Runs.{Asks}
use Rattle.wb_replies.specs.Differences.{asked_for}
use Rattle.wb_compare.specs.declared.questions.Question.{Question}
use Rattle.wb_compare.specs.declared.working.Work.{Work}
use Rattle.wb_compare.specs.Questions.{IsQuestion, FitsQuestion}
use Rattle.wb_compare.specs.Verdicts.{NeverOverruns, AreEqual, IsVerdict}
use Rattle.wb_compare.specs.declared.verdicts.Pace.TheVariants as pace
use Rattle.wb_compare.specs.declared.verdicts.Verdict.TheVariants as verdict
use Rattle.wb_compare.specs.Laws.{RunLaws}
use Rattle.wb_compare.specs.Settled.{runs_on, wants_read}
use Rattle.wb_compare.specs.Working.{IsWhole, kept_of, IsKept, settled_by}
use Rattle.wb_compare.proofs.Lists.{next_allowed, status_asked, read_asked}
use Rattle.wb_compare.proofs.Talks.{inputs_assign, plain_of}

module _ (laws : RunLaws) (a b : Image) (q : Question) (asks : IsQuestion q) (w : Work) (whole : IsWhole a b q w) where
  -- a dialogue that fits, without its status reads

  plain_talk : Talk → Talk
  plain_talk d = dialogue d.start (transfers_of d.accesses)

  plain_fits : (d : Talk) → FitsQuestion q d → FitsQuestion q (dialogue d.start (transfers_of d.accesses))
  plain_fits d fits = (laws.always_fit q.n q.shape q.power d.start d.accesses).0 fits

  settled_of : (d : Talk) → FitsQuestion q d → settled_by a b q w (kinds d.accesses)
  settled_of d fits = whole.settled (kinds d.accesses) fits.shaped fits.short

  -- no held run breaches or, where no overrun is kept, overruns

  pub never_breaks : (s : Side) → NeverBreaches (image_of a b s) q.n q.k q.shape q.power
  never_breaks s d at fits ends =
      let t : Talk = dialogue d.start (transfers_of d.accesses) in
      let f = plain_fits d fits in
      let only = (laws.left d.accesses).left in
      let stops = (laws.stop_status (image_of a b s) q.k d.start d.accesses (Breach at) tt).0 ends in
      ((settled_of t f).followed s).breaches (inputs_of t) (inputs_assign t f.start_in f.bytes_in) at
      (subst (λ (u : Talk). Breaks (image_of a b s) u q.k at) (sym (plain_of laws q asks t f only)) stops)

  pub never_overruns : (s : Side) → kept_of w s ≡ None → NeverOverruns (image_of a b s) q
  never_overruns s none d fits ends =
      let t : Talk = dialogue d.start (transfers_of d.accesses) in
      let f = plain_fits d fits in
      let only = (laws.left d.accesses).left in
      let stops = (laws.stop_status (image_of a b s) q.k d.start d.accesses Overrun tt).0 ends in
      (settled_of t f).paced s none (inputs_of t) (inputs_assign t f.start_in f.bytes_in)
      (subst (λ (u : Talk). Overruns (image_of a b s) u q.k) (sym (plain_of laws q asks t f only)) stops)

  -- both images answer alike at each request

  asked_there : (s : Side) (front : List Access) (start : List ℕ) (c : Chip) → FitsQuestion q (dialogue start front) → All IsTransfer front
      → AsksAfter (image_of a b s) q.k front (powered start) c → Asks (runs_on a b q s (kinds front)) (inputs_of (dialogue start front)) c
  asked_there s front start c fits only h = subst (λ (u : Talk). AsksAfter (image_of a b s) q.k u.accesses (powered u.start) c) (sym (plain_of laws q asks (dialogue start front) fits only)) h

  read_wanted : (front : List Access) (start : List ℕ) → FitsQuestion q (dialogue start (front ++ access.Read ∷ [])) → wants_read q (kinds front) ≡ true
  read_wanted front start fits = next_allowed q.shape (kinds front) kind.Read (subst (AllowsEach q.shape) (laws.joins front (access.Read ∷ [])).kinds_join fits.shaped)

  pub requests_alike : RequestsAlike a b q.n q.k q.shape q.power
  requests_alike start front x c d only fits first second = by_access x fits
    where
      front_fits : (y : Access) → FitsQuestion q (dialogue start (front ++ y ∷ [])) → FitsQuestion q (dialogue start front)
      front_fits y f = laws.fronts q.n q.shape q.power start front (y ∷ []) f

      alike : (y : Access) → FitsQuestion q (dialogue start front) → Contains (asked_for (wants_read q (kinds front))) y → access_reply y c.machine ≡ access_reply y d.machine
      alike y f listed =
          (settled_of (dialogue start front) f).alike (inputs_of (dialogue start front)) (inputs_assign (dialogue start front) f.start_in f.bytes_in) c d
          (asked_there side.A front start c f only first) (asked_there side.B front start d f only second) y listed

      by_access : (y : Access) → FitsQuestion q (dialogue start (front ++ y ∷ [])) → access_reply y c.machine ≡ access_reply y d.machine
      by_access access.Status f = alike access.Status (front_fits access.Status f) (status_asked (wants_read q (kinds front)))
      by_access access.Read f = alike access.Read (front_fits access.Read f) (read_asked (wants_read q (kinds front)) (read_wanted front start f))
      by_access (access.Write byte) f = refl

  pub replies_alike : RepliesAlike a b q.n q.k q.shape q.power
  replies_alike = laws.requests_decide a b q.n q.k q.shape q.power requests_alike

  -- the points that are reached are in the purse

  pub points_known : (x : Point) → IsReached a b q.n q.k q.shape q.power x → Contains (points_of w.purse.reached) x
  points_known x r =
      let t = r.dialogue in
      ((settled_of t r.fits).followed x.side).passed (inputs_of t) (inputs_assign t r.fits.start_in r.fits.bytes_in) x
      (subst (λ (u : Talk). Passes (image_of a b x.side) x.side q.k u x) (sym (plain_of laws q asks t r.fits r.transfers)) r.passes)

  pub few_points : IsPurse w.purse → ReachedAtMost a b q.n q.k q.shape q.power q.budget.points
  few_points purse = laws.reached a b q.n q.k q.shape q.power (points_of w.purse.reached) q.budget.points points_known few
    where
      few : length (points_of w.purse.reached) ≤ q.budget.points
      few =
          let e = length-map w.purse.reached (λ (r : ReachedPoint). r.point) in
          let h = purse.within in
          let s : w.purse.budget.points ≡ q.budget.points = ap (λ (u : Budget). u.points) whole.work.budget in
          omega arith

  pub equal : IsPurse w.purse → AreEqual a b q
  equal purse = record {
    alike = laws.replies_decide a b q.n q.k q.shape q.power (never_breaks side.A) (never_breaks side.B) replies_alike;
    replies = replies_alike;
    first_unbroken = never_breaks side.A;
    second_unbroken = never_breaks side.B;
    first_faithful = laws.faithful a q.n q.k q.shape q.power (never_breaks side.A);
    second_faithful = laws.faithful b q.n q.k q.shape q.power (never_breaks side.B);
    points = few_points purse;
  }

  -- the verdict, by the overruns that are kept

  pub first_overruns : (d : Talk) → IsPurse w.purse → w.first_overrun ≡ Some d → IsVerdict a b q (verdict.Equal (pace.Overrun side.A d))
  first_overruns d purse kept =
      let k = subst (IsKept a q) kept (whole.work.kept side.A) in
      (equal purse, (k.0, k.1, tt))

  pub second_overruns : (d : Talk) → IsPurse w.purse → w.first_overrun ≡ None → w.second_overrun ≡ Some d → IsVerdict a b q (verdict.Equal (pace.Overrun side.B d))
  second_overruns d purse none kept =
      let k = subst (IsKept b q) kept (whole.work.kept side.B) in
      (equal purse, (k.0, k.1, never_overruns side.A none))

  pub none_overruns : IsPurse w.purse → w.first_overrun ≡ None → w.second_overrun ≡ None → IsVerdict a b q (verdict.Equal pace.Kept)
  none_overruns purse first second = (equal purse, (never_overruns side.A first, never_overruns side.B second))
