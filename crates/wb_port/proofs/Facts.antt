-- Facts on single instructions and single accesses.
use Rattle.std.proofs.Common.{refl, sym, ◌∙◌}
use Rattle.wb_port.specs.declared.accesses.Access.TheVariants as access
use Rattle.wb_port.specs.Port.{after_read, after_write, drc, drs}
use Rattle.wb_port.specs.Wait.{word_of}
use Rattle.wb_port.specs.Facts.{CalmWordsCommute, CalmWordsKeepThePort, OnlyRaisingWordsRequest, RaisingWordsRequest, RaisingWordsTouch, PollsRaiseNothing, PollsFollowPolls, GatesAreNear, PlacesComeNearer, TestsAreGates, GatesAreTests, LoopsHaveOneGate, IdleInstructionsMoveAlone, StatusReadsChangeNothing, AccessesRaiseNothing}
use Rattle.wb_port.proofs.CalmAccess.{access_down}
use Rattle.wb_port.proofs.CalmIdle.{idle_stepped}
use Rattle.wb_port.proofs.CalmNext.{calm_next, calm_next_dr, calm_next_sr}
use Rattle.wb_port.proofs.Circles.{follow_poll, poll_plain, nearer}
use Rattle.wb_port.proofs.Circles.{gate_near as gate_below}
use Rattle.wb_port.proofs.LoopsGate.{gate_here, gate_turned, gates_test}
use Rattle.wb_port.proofs.Single.{next_keeps, next_raises, plain_calm}
use Rattle.wb_port.proofs.Single.{raising_touches as word_touches}

pub calm_commutes : CalmWordsCommute
unfolding after_read after_write drc drs
calm_commutes image access.Status m calm = refl
calm_commutes image access.Read m calm =
    rw (calm_next image _ _ m calm) (simp (calm_next_dr image m calm, calm_next_sr image m calm))
calm_commutes image (access.Write byte) m calm =
    rw (calm_next image _ _ m calm) (simp (calm_next_dr image m calm, calm_next_sr image m calm))

pub calm_keeps : CalmWordsKeepThePort
calm_keeps image m calm = record { dr = calm_next_dr image m calm; sr = calm_next_sr image m calm }

pub only_raised : OnlyRaisingWordsRequest
only_raised image m quiet stands = sym (next_keeps image m quiet) ∙ stands

pub raised_stands : RaisingWordsRequest
raised_stands image m raises = next_raises image m raises

pub raising_touches : RaisingWordsTouch
raising_touches word raises = word_touches word raises

pub poll_raises_nothing : PollsRaiseNothing
poll_raises_nothing image at poll = plain_calm (word_of image at) (poll_plain image at poll)

pub poll_follows : PollsFollowPolls
poll_follows image at poll = follow_poll image at poll

pub gate_near : GatesAreNear
gate_near image at poll = gate_below image at poll

pub comes_nearer : PlacesComeNearer
comes_nearer image at poll other = nearer image at poll other

pub test_at_gate : TestsAreGates
test_at_gate image at test = gate_here image at test

pub one_gate : LoopsHaveOneGate
one_gate image at poll = gate_turned image at poll

pub idle_moves : IdleInstructionsMoveAlone
idle_moves image c idle = idle_stepped image c idle

pub status_changes_nothing : StatusReadsChangeNothing
status_changes_nothing image c = refl

pub access_raises_nothing : AccessesRaiseNothing
access_raises_nothing a m stands = access_down a m stands

pub gates_are_tests : GatesAreTests
gates_are_tests image at poll = gates_test image at poll
