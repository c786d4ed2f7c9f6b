-- What the exploration takes from the laws on held runs.
use Rattle.wb_law.specs.Strides.{StridesAddUp, RestingChipsStay, StoppedChipsStay, OtherStridesAreInstructions, StridesBeginWithAnInstruction, StridesAreOneWalk, RanksNeverFall, EqualRanksAreOneChip}
use Rattle.wb_law.specs.Points.{HeldChipsStayInPace, RanksRise, LastPointsArePassedAfterAll, PointsArePassedAfterAccesses, PointsGoOn}
use Rattle.wb_law.specs.Requests.{RequestsAreOne, GivenChipsAreOne, LastAccessIsGivenAtARequest, FirstRequestsAreFresh, FreshRequestsAreFirst, RequestsAreOnTheWay}
use Rattle.wb_law.specs.Runs.{HeldRunsStopBeforeOrAfter, ShorterRunsStopToo}
use Rattle.wb_law.specs.Classes.{PointsTellWhatComes}
use Rattle.wb_law.specs.Ranges.{StridingChipsStayInRange}

-- the laws on held runs that the proofs here stand on
pub record HeldLaws : Type 0 where
  pub add_up : StridesAddUp
  pub resting_stay : RestingChipsStay
  pub stopped_stay : StoppedChipsStay
  pub others_step : OtherStridesAreInstructions
  pub begin_so : StridesBeginWithAnInstruction
  pub one_walk : StridesAreOneWalk
  pub never_fall : RanksNeverFall
  pub equal_ranks : EqualRanksAreOneChip
  pub in_pace : HeldChipsStayInPace
  pub ranks_rise : RanksRise
  pub passed_last : LastPointsArePassedAfterAll
  pub passed_after : PointsArePassedAfterAccesses
  pub points_go_on : PointsGoOn
  pub one_request : RequestsAreOne
  pub one_given : GivenChipsAreOne
  pub last_given : LastAccessIsGivenAtARequest
  pub first_fresh : FirstRequestsAreFresh
  pub fresh_first : FreshRequestsAreFirst
  pub on_the_way : RequestsAreOnTheWay
  pub stop_where : HeldRunsStopBeforeOrAfter
  pub stop_shorter : ShorterRunsStopToo
  pub tells : PointsTellWhatComes
  pub in_range : StridingChipsStayInRange
