-- The laws on loops, schedules and runs.
use Rattle.std.proofs.Common.{◌≡◌, ℕ, suc, ◌+◌, ◌*◌, ◌-◌, ◌≤◌, refl, ap, arith}
use Rattle.wb_rom.specs.declared.images.Image.{Image}
use Rattle.wb_port.specs.Wait.{follow_times}
use Rattle.wb_port.specs.Schedule.{powered}
use Rattle.wb_port.specs.Talk.{Talk, transfers}
use Rattle.wb_port.specs.Run.{beginning}
use Rattle.wb_port.specs.Endings.{LoopsArePolls, PollsBeginLoops, LoopsAreOne, ComesToAnEnd, RunsComeToAnEnd}
use Rattle.wb_port.proofs.Circles.{loop_of, is_loop_of, loop_poll, poll_loop}
use Rattle.wb_port.proofs.Gates.{one_loop}
use Rattle.wb_port.proofs.SharedLoops.{moved_loop}
use Rattle.wb_port.proofs.Measure.{budget, open_of, linger-most}
use Rattle.wb_port.proofs.Ends.{IsEnding, rest_of, ending, one_end}
use Rattle.wb_port.proofs.Playing.{begins, power_off}

pub loops_are_polls : LoopsArePolls
loops_are_polls image at m j l =
    let k = moved_loop image m j at (loop_of image at m l.some l.most l.loops) in
    (record { some = k.some; most = k.most; loops = is_loop_of image (follow_times image j at) m k }, loop_poll image (follow_times image j at) m k)

pub polls_begin_loops : PollsBeginLoops
polls_begin_loops image at h =
    let l = poll_loop image at h in
    (l.0, record { some = l.1.some; most = l.1.most; loops = is_loop_of image at l.0 l.1 })

pub loops_are_one : LoopsAreOne
loops_are_one image at m n l k =
    one_loop image at m n (loop_of image at m l.some l.most l.loops) (loop_of image at n k.some k.most k.loops)

first-budget : (image : Image) (k : ℕ) (d : Talk) → budget image k (beginning d) ≤ (k + 7) * (transfers d.accesses + 2)
unfolding budget
first-budget image k d =
    sum _ _ _ (ap open_of (power_off d.start)) (linger-most image (powered d.start))
  where
    sum : (t o l : ℕ) → o ≡ 1 → l ≤ 7 → (k + 7) * (t + o) + (k - 0) + l ≤ (k + 7) * (t + 2)
    sum t o l e most = rw e (omega arith)

pub runs_come_to_an_end : RunsComeToAnEnd
runs_come_to_an_end image k held d = of_ending (ending image k held (suc (rest_of image k (beginning d))) (beginning d) (begins image k held d (beginning d) refl).fit (omega arith))
  where
    of_ending : IsEnding image k held (beginning d) → ComesToAnEnd image k held d
    of_ending e =
        record {
          end = e.end;
          count = e.last;
          ends = e.ends;
          few = let f = e.few in let b = first-budget image k d in omega arith;
          one = λ other h. one_end image k held e.last h.0 (beginning d) e.end other e.ends h.1;
        }
