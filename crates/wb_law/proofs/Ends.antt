-- How runs end, of whole dialogues.
use Rattle.std.proofs.Common.{ℕ, true, false, List, [], ◌∷◌, ◌++◌, ◌⊎◌, sym, subst}
use mathlib.Core.Logic.◌⊎◌.{inl, inr}
use Rattle.wb_port.specs.Talk.{transfers_of}
use Rattle.wb_port.specs.declared.accesses.Access.{Access}
use Rattle.wb_port.specs.declared.accesses.Event.TheVariants as event
use Rattle.wb_port.specs.declared.chips.Chip.{Chip}
use Rattle.wb_port.specs.Schedule.{powered, applied}
use Rattle.wb_port.specs.Run.{beginning}
use Rattle.wb_law.specs.Course.{Ran, StopsAs, StopsBefore, StopsAfter, Given}
use Rattle.wb_law.specs.Runs.{RunsHaveOneEnd, RunsFollowTheirCourse, HeldRunsStopBeforeOrAfter, LongerRunsStopBefore, ShorterRunsStopToo, StatusReadsStopNothing}
use Rattle.wb_law.specs.Requests.{RequestsAreOne, GivenChipsAreOne, LastAccessIsGivenAtARequest}
use Rattle.wb_law.proofs.Course.{ran_if_ends, ends_if_ran, one_end}
use Rattle.wb_law.proofs.Stops.{asks_one, given_one, given_longer, given_shorter, stops_any, strip_to, strip_from, stops_from_ran, ran_from_before, ran_from_after, before_shorter, before_longer}

pub one_end_of : RunsHaveOneEnd
one_end_of image k held d x y h i = one_end image k held (beginning d) x y h i

pub course : RunsFollowTheirCourse
course image k held d end = (
  λ h. ran_if_ends image k held d.accesses (powered d.start) [] [] end h,
  λ h. ends_if_ran image k held d.accesses (powered d.start) [] [] end h,
)

pub one_request : RequestsAreOne
one_request image k accesses c d e h i = asks_one image k accesses c d e h i

pub one_given : GivenChipsAreOne
one_given image k accesses c d e h i = given_one image k accesses c d e h i

pub last_given : LastAccessIsGivenAtARequest
last_given image k front x c d = (
  λ h. given_shorter image k front x c d h,
  λ h. subst (Given image k (front ++ x ∷ []) c) h.2 (given_longer image k front x c h.0 h.1),
)

pub held_stops : HeldRunsStopBeforeOrAfter
held_stops image k start accesses end stop = (
  λ h. stops_from_ran image k accesses (powered start) [] end stop (ran_if_ends image k true accesses (powered start) [] [] end h),
  λ h. ends_if_ran image k true accesses (powered start) [] [] end (go_by h),
)
  where
    go_by : StopsBefore image k accesses (powered start) end ⊎ StopsAfter image k accesses (powered start) end → Ran image k true accesses (powered start) [] end
    go_by (inl t) = ran_from_before image k accesses (powered start) [] end t
    go_by (inr t) = ran_from_after image k accesses (powered start) [] end t

pub longer_stops : LongerRunsStopBefore
longer_stops image k front x c end = (before_shorter image k front x c end, before_longer image k front x c end)

pub shorter_stops : ShorterRunsStopToo
shorter_stops image k start front x end h =
    ends_if_ran image k true front (powered start) [] [] end (go_by front (powered start) (before_shorter image k front x (powered start) end h))
  where
    late : (l : List Access) (c b : Chip) (s : List ℕ) → Given image k l c b → StopsAs image k false b end → Ran image k true l c s end
    late [] c b s g t = stops_any image k [] c s end (subst (λ (y : Chip). StopsAs image k false y end) (sym g) t)
    late (a ∷ l) c b s g t = inl (g.0, g.1, late l (applied image (event.Host a) g.0) b _ g.2 t)

    go_by : (l : List Access) (c : Chip) → StopsBefore image k l c end ⊎ ((b : Chip) × Given image k l c b × StopsAs image k false b end) → Ran image k true l c [] end
    go_by l c (inl t) = ran_from_before image k l c [] end t
    go_by l c (inr t) = late l c t.0 [] t.1 t.2

pub stripped_stops : StatusReadsStopNothing
stripped_stops image k start accesses end stop = (
  λ h.
      ends_if_ran image k true (transfers_of accesses) (powered start) [] [] end
      (strip_to image k accesses (powered start) [] end stop (ran_if_ends image k true accesses (powered start) [] [] end h) []),
  λ h.
      ends_if_ran image k true accesses (powered start) [] [] end
      (strip_from image k accesses (powered start) [] end stop (ran_if_ends image k true (transfers_of accesses) (powered start) [] [] end h) []),
)
