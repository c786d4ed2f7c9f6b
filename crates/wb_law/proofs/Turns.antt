-- Runs turn by turn: what a turn does, by the chip and the accesses that are left.
use Rattle.std.proofs.Common.{◌≡◌, ℕ, zero, suc, Bool, true, false, ◌==◌, List, [], ◌∷◌, refl, sym, ap, subst, ◌∙◌}
use Rattle.wb_word.specs.Encoding.{addr_at}
use Rattle.wb_rom.specs.declared.images.Image.{Image}
use Rattle.wb_port.specs.declared.accesses.Access.{Access}
use Rattle.wb_port.specs.declared.chips.Chip.{Chip}
use Rattle.wb_port.specs.declared.runs.Run.{Run}
use Rattle.wb_port.specs.declared.runs.Run.TheVariants.{Answered, Overrun, Breach}
use Rattle.wb_port.specs.Port.{rqm}
use Rattle.wb_port.specs.Monitor.{place, is_breach, stepped}
use Rattle.wb_port.specs.Run.{Moment, Turn, Gives, Steps, Ends, give, go, is_waiting, turn, goes_on, turns, EndsFrom}

-- a moment by its parts
abbrev pub moment : Chip → List Access → List Access → List ℕ → Moment
moment c l g s = record { chip = c; given = g; left = l; said = s }

module _ (image : Image) (k : ℕ) where
  pub gives : (held : Bool) (c : Chip) (a : Access) (l g : List Access) (s : List ℕ) → rqm c.machine ≡ true → turn image k held (moment c (a ∷ l) g s) ≡ Gives a (give image a l (moment c (a ∷ l) g s))
  unfolding turn
  gives held c a l g s e = simp e

  pub works : (held : Bool) (c : Chip) (a : Access) (l g : List Access) (s : List ℕ) → rqm c.machine ≡ false → turn image k held (moment c (a ∷ l) g s) ≡ go image k (moment c (a ∷ l) g s)
  unfolding turn
  works held c a l g s e = simp e

  pub works_on : (c : Chip) (g : List Access) (s : List ℕ) → is_waiting image c ≡ false → turn image k true (moment c [] g s) ≡ go image k (moment c [] g s)
  unfolding turn
  works_on c g s e = simp e

  pub waits : (c : Chip) (g : List Access) (s : List ℕ) → is_waiting image c ≡ true → turn image k true (moment c [] g s) ≡ Ends (Answered s)
  unfolding turn
  waits c g s e = simp e

  pub answers : (c : Chip) (g : List Access) (s : List ℕ) → turn image k false (moment c [] g s) ≡ Ends (Answered s)
  unfolding turn
  answers c g s = refl

  pub overruns : (m : Moment) → (m.chip.monitor.count == k) ≡ true → go image k m ≡ Ends Overrun
  unfolding go
  overruns m e = simp e

  pub breaks : (m : Moment) → (m.chip.monitor.count == k) ≡ false → is_breach image m.chip ≡ true → go image k m ≡ Ends (Breach (addr_at (place m.chip)))
  unfolding go
  breaks m e b = simp (e, b)

  pub executes : (m : Moment) → (m.chip.monitor.count == k) ≡ false → is_breach image m.chip ≡ false → go image k m ≡ Steps (record m { chip = stepped image m.chip })
  unfolding go
  executes m e b = simp (e, b)

  pub now : (held : Bool) (m : Moment) (end : Run) → turn image k held m ≡ Ends end → EndsFrom image k held m end
  now held m end e = (zero, e)

  pub later : (held : Bool) (m : Moment) (t : Turn) (end : Run) → turn image k held m ≡ t → EndsFrom image k held (goes_on t m) end → EndsFrom image k held m end
  later held m t end e h = (suc h.0, subst (λ u. turn image k held (turns image k held h.0 (goes_on u m)) ≡ Ends end) (sym e) h.1)

  -- a run that has ended stays
  pub stays : (held : Bool) (m : Moment) (end : Run) → turn image k held m ≡ Ends end → (j : ℕ) → turns image k held j m ≡ m
  stays held m end e zero = refl
  stays held m end e (suc j) = ap (λ t. turns image k held j (goes_on t m)) e ∙ stays held m end e j

  pub sooner : (held : Bool) (m n : Moment) (end : Run) → turn image k held m ≡ Steps n → EndsFrom image k held m end → EndsFrom image k held n end
  sooner held m n end e h = go_by h.0 h.1
    where
      go_by : (j : ℕ) → turn image k held (turns image k held j m) ≡ Ends end → EndsFrom image k held n end
      go_by zero q = cc
      go_by (suc j) q = (j, subst (λ u. turn image k held (turns image k held j (goes_on u m)) ≡ Ends end) e q)
