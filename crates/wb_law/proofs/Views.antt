-- What a turn of a run is, with what led to it.
use Rattle.std.proofs.Common.{◌≡◌, ◌≢◌, ℕ, Bool, true, false, ◌==◌, cond, List, [], ◌∷◌, refl}
use Rattle.std.proofs.lemmas.Bool.{eqb-false, and_left}
use Rattle.wb_word.specs.Encoding.{addr_at}
use Rattle.wb_rom.specs.declared.images.Image.{Image}
use Rattle.wb_port.specs.declared.accesses.Access.{Access}
use Rattle.wb_port.specs.declared.runs.Run.{Run}
use Rattle.wb_port.specs.declared.runs.Run.TheVariants.{Answered, Overrun, Breach}
use Rattle.wb_port.specs.Port.{rqm}
use Rattle.wb_port.specs.Monitor.{place, is_breach, stepped}
use Rattle.wb_port.specs.Run.{Moment, Turn, Gives, Steps, Ends, give, go, is_waiting, turn, turn_at}

-- what a turn is, with what led to it
pub data View (image : Image) (k : ℕ) (held : Bool) (m : Moment) : Turn → Type 0 where
  gives : (a : Access) (rest : List Access) → m.left ≡ a ∷ rest → rqm m.chip.machine ≡ true → View image k held m (Gives a (give image a rest m))
  steps : m.chip.monitor.count ≢ k → is_breach image m.chip ≡ false → is_waiting image m.chip ≡ false → View image k held m (Steps (record m { chip = stepped image m.chip }))
  ends : (e : Run) → View image k held m (Ends e)

view-go : (image : Image) (k : ℕ) (held : Bool) (m : Moment) → is_waiting image m.chip ≡ false → View image k held m (go image k m)
unfolding go
view-go image k held m busy = by_count (m.chip.monitor.count == k) refl
  where
    by_breach : (b : Bool) → m.chip.monitor.count ≢ k → is_breach image m.chip ≡ b → View image k held m (cond b (Ends (Breach (addr_at (place m.chip)))) (Steps (record m { chip = stepped image m.chip })))
    by_breach true other e = ends _
    by_breach false other e = steps other e busy

    by_count : (b : Bool) → (m.chip.monitor.count == k) ≡ b → View image k held m (cond b (Ends Overrun) (cond (is_breach image m.chip) (Ends (Breach (addr_at (place m.chip)))) (Steps (record m { chip = stepped image m.chip }))))
    by_count true e = ends _
    by_count false e = by_breach (is_breach image m.chip) (eqb-false _ _ e) refl

pub view : (image : Image) (k : ℕ) (held : Bool) (m : Moment) → View image k held m (turn image k held m)
unfolding turn
view image k held m = by_left m.left refl
  where
    by_request : (a : Access) (rest : List Access) (r : Bool) → m.left ≡ a ∷ rest → rqm m.chip.machine ≡ r → View image k held m (cond r (Gives a (give image a rest m)) (go image k m))
    by_request a rest true left on = gives a rest left on
    by_request a rest false left off = view-go image k held m (and_left _ _ off)

    by_wait : (w : Bool) → is_waiting image m.chip ≡ w → View image k held m (cond w (Ends (Answered m.said)) (go image k m))
    by_wait true e = ends _
    by_wait false e = view-go image k held m e

    by_mode : (h : Bool) → View image k held m (turn_at image k h [] m)
    by_mode false = ends _
    by_mode true = by_wait (is_waiting image m.chip) refl

    by_left : (left : List Access) → m.left ≡ left → View image k held m (turn_at image k held left m)
    by_left [] e = by_mode held
    by_left (a ∷ rest) e = by_request a rest (rqm m.chip.machine) e refl
