-- What a comparison takes from the laws on runs and dialogues.
use Rattle.wb_law.specs.FitLaws.{FrontsFit, StatusReadsAlwaysFit, TransfersAreLeft, TransfersJoinInOrder}
use Rattle.wb_law.specs.Runs.{RunsFollowTheirCourse, HeldRunsStopBeforeOrAfter, ShorterRunsStopToo, StatusReadsStopNothing}
use Rattle.wb_law.specs.Requests.{FirstRequestsAreFresh, LastAccessIsGivenAtARequest, LastReplyIsGivenAtARequest, RequestsAreOnTheWay}
use Rattle.wb_law.specs.Points.{PointsArePassedAfterAccesses, LastPointsArePassedAfterAll}
use Rattle.wb_law.specs.Schedules.{ObedientSchedulesAreFaithful, RepliesDecide, RequestsDecide}
use Rattle.wb_law.specs.Reached.{ListsBoundReachedPoints}
use Rattle.wb_point.specs.Laws.{TalksComeBack, DialoguesAreOfTheirKinds, DialoguesGrowAtTheEnd}

-- the laws that the proofs here stand on
pub record RunLaws : Type 0 where
  pub fronts : FrontsFit
  pub always_fit : StatusReadsAlwaysFit
  pub left : TransfersAreLeft
  pub joins : TransfersJoinInOrder
  pub course : RunsFollowTheirCourse
  pub stop_where : HeldRunsStopBeforeOrAfter
  pub stop_shorter : ShorterRunsStopToo
  pub stop_status : StatusReadsStopNothing
  pub last_given : LastAccessIsGivenAtARequest
  pub last_reply : LastReplyIsGivenAtARequest
  pub on_the_way : RequestsAreOnTheWay
  pub first_fresh : FirstRequestsAreFresh
  pub passed_after : PointsArePassedAfterAccesses
  pub passed_last : LastPointsArePassedAfterAll
  pub faithful : ObedientSchedulesAreFaithful
  pub replies_decide : RepliesDecide
  pub requests_decide : RequestsDecide
  pub reached : ListsBoundReachedPoints
  pub come_back : TalksComeBack
  pub of_kinds : DialoguesAreOfTheirKinds
  pub at_end : DialoguesGrowAtTheEnd
