-- The point of a chip tells what the chip does next.
use Rattle.std.proofs.Common.{◌≡◌, ℕ, Bool, true, false, ◌==◌, cond, Some, None, List, refl, subst}
use Rattle.wb_word.specs.declared.sides.Side.{Side}
use Rattle.wb_rom.specs.declared.images.Image.{Image}
use Rattle.wb_port.specs.declared.accesses.Kind.{Kind}
use Rattle.wb_word.specs.Encoding.{addr_at}
use Rattle.wb_port.specs.declared.chips.Chip.{Chip}
use Rattle.wb_port.specs.declared.runs.Run.TheVariants as run
use Rattle.wb_port.specs.Monitor.{place, is_breach}
use Rattle.wb_port.specs.Run.{is_waiting}
use Rattle.wb_port.specs.Points.{point_at}
use Rattle.wb_law.specs.declared.classes.Class.{Class}
use Rattle.wb_law.specs.declared.classes.Class.TheVariants as class
use Rattle.wb_law.specs.Course.{stop_of}
use Rattle.wb_law.specs.Classes.{class_at, DoesNext, PointsTellWhatComes}

module _ (image : Image) (k : ℕ) (c : Chip) where
  overruns : (c.monitor.count == k) ≡ true → stop_of image k c ≡ Some run.Overrun
  unfolding stop_of
  overruns n = simp n

  breaks : (c.monitor.count == k) ≡ false → is_breach image c ≡ true → stop_of image k c ≡ Some (run.Breach (addr_at (place c)))
  unfolding stop_of
  breaks n b = simp (n, b)

  goes_on : (c.monitor.count == k) ≡ false → is_breach image c ≡ false → stop_of image k c ≡ None
  unfolding stop_of
  goes_on n b = simp (n, b)

  -- what the observer sees first is what comes
  does : (w n b : Bool) → is_waiting image c ≡ w → (c.monitor.count == k) ≡ n → is_breach image c ≡ b → DoesNext image k c (cond w class.Rests (cond n class.Overruns (cond b class.Breaches class.GoesOn)))
  does true n b e f g = e
  does false true b e f g = (e, overruns f)
  does false false true e f g = (e, breaks f g)
  does false false false e f g = (e, goes_on f g)

  pub told : (s : Side) (ks : List Kind) → DoesNext image k c (class_at image k (point_at s ks c))
  unfolding class_at is_breach
  told s ks = does (is_waiting image c) (c.monitor.count == k) (is_breach image c) refl refl refl

  -- it does one thing next
  does_one : (x y : Class) → DoesNext image k c x → DoesNext image k c y → x ≡ y
  does_one class.Rests class.Rests h g = refl
  does_one class.Rests class.Overruns h g = cc
  does_one class.Rests class.Breaches h g = cc
  does_one class.Rests class.GoesOn h g = cc
  does_one class.Overruns class.Rests h g = cc
  does_one class.Overruns class.Overruns h g = refl
  does_one class.Overruns class.Breaches h g = cc
  does_one class.Overruns class.GoesOn h g = cc
  does_one class.Breaches class.Rests h g = cc
  does_one class.Breaches class.Overruns h g = cc
  does_one class.Breaches class.Breaches h g = refl
  does_one class.Breaches class.GoesOn h g = cc
  does_one class.GoesOn class.Rests h g = cc
  does_one class.GoesOn class.Overruns h g = cc
  does_one class.GoesOn class.Breaches h g = cc
  does_one class.GoesOn class.GoesOn h g = refl

pub points_tell_what_comes : PointsTellWhatComes
points_tell_what_comes image k s ks c x = (
  λ e. subst (DoesNext image k c) e (told image k c s ks),
  λ h. does_one image k c (class_at image k (point_at s ks c)) x (told image k c s ks) h,
)
