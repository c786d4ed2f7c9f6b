-- What the laws on runs and schedules take from the port: laws of `wb_port` on single instructions and accesses.
use Rattle.wb_port.specs.Facts.{CalmWordsCommute, CalmWordsKeepThePort, OnlyRaisingWordsRequest, RaisingWordsRequest, RaisingWordsTouch, PollsRaiseNothing, PollsFollowPolls, GatesAreNear, PlacesComeNearer, TestsAreGates, LoopsHaveOneGate, IdleInstructionsMoveAlone, AccessesRaiseNothing}

-- the laws on single steps that the proofs here stand on
pub record PortFacts : Type 0 where
  pub calm_commutes : CalmWordsCommute
  pub calm_keeps : CalmWordsKeepThePort
  pub only_raised : OnlyRaisingWordsRequest
  pub raised_stands : RaisingWordsRequest
  pub raising_touches : RaisingWordsTouch
  pub poll_raises_nothing : PollsRaiseNothing
  pub poll_follows : PollsFollowPolls
  pub gate_near : GatesAreNear
  pub comes_nearer : PlacesComeNearer
  pub test_at_gate : TestsAreGates
  pub one_gate : LoopsHaveOneGate
  pub idle_moves : IdleInstructionsMoveAlone
  pub access_raises_nothing : AccessesRaiseNothing
