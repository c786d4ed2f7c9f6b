-- What a turn is, by what the chip and the accesses that are left are.
use Rattle.std.proofs.Common.{◌≡◌, ◌≢◌, ℕ, ◌+◌, ◌-◌, ◌^◌, ◌<◌, ◌≤◌, min, Bool, true, false, List, [], ◌∷◌, ◌++◌, length, take, drop, refl, sym, ◌∙◌, ap, subst, arith, add-one, Some, inl, inr}
use Rattle.std.specs.Prelude.{slice_get}
use Rattle.std.specs.Option.{option_to_list}
use Rattle.std.proofs.lemmas.Bool.{eq-eqb, ne_eqb, true≢false, false≢true}
use Rattle.std.proofs.lemmas.Option.{get_or_from_slice_get, slice_get_within, slice_get_cases}
use Rattle.std.proofs.lemmas.List.{take_more, drop_all}
use Rattle.std.proofs.Math.Seq.{drop-cons}
use Rattle.wb_word.specs.declared.numbers.Addr.{Addr}
use Rattle.wb_word.specs.Encoding.{addr_at}
use Rattle.wb_rom.specs.declared.images.Image.{Image}
use Rattle.wb_port.specs.declared.accesses.Access.{Access}
use Rattle.wb_port.specs.declared.chips.Chip.{Chip}
use Rattle.wb_port.specs.declared.runs.Run.TheVariants.{Answered, Overrun, Breach}
use Rattle.wb_port.specs.declared.replays.Progress.{Progress}
use Rattle.wb_port.specs.Port.{rqm, accessed, access_reply}
use Rattle.wb_port.specs.Monitor.{place, is_breach, is_idle, observed, stepped, capped, count_after}
use Rattle.wb_port.specs.Wait.{raises_request, word_of}
use Rattle.wb_port.specs.Run.{Moment, Turn, Gives, Steps, Ends, give, go, is_waiting, turn}
use Rattle.wb_port.specs.Talk.{Talk}
use Rattle.wb_port.specs.Replay.{moment_of, IsTurned}
use Rattle.wb_port.specs.declared.replays.Turned.{Turned}
use Rattle.wb_port.proofs.Steady.{addr_is}

pub go_overruns : (image : Image) (k : ℕ) (m : Moment) → m.chip.monitor.count ≡ k → go image k m ≡ Ends Overrun
unfolding go
go_overruns image k m e = rw (eq-eqb _ _ e) refl

pub go_breaks : (image : Image) (k : ℕ) (m : Moment) (at : Addr) → m.chip.monitor.count ≢ k → is_breach image m.chip ≡ true → at.value ≡ place m.chip → go image k m ≡ Ends (Breach at)
unfolding go
go_breaks image k m at ne b e =
    rw (ne_eqb _ _ ne, b) (ap (λ (a : Addr). Ends (Breach a)) (ap addr_at (sym e) ∙ addr_is at))

pub go_steps : (image : Image) (k : ℕ) (m : Moment) → m.chip.monitor.count ≢ k → is_breach image m.chip ≡ false → go image k m ≡ Steps (record m { chip = stepped image m.chip })
unfolding go
go_steps image k m ne b = rw (ne_eqb _ _ ne, b) refl

-- the count rises by one at most
pub count_most : (idle raised : Bool) (count : ℕ) → count_after idle raised count ≤ count + 1
count_most true raised count = omega arith
count_most false true count = omega arith
count_most false false count = omega arith

pub stepped_count : (image : Image) (c : Chip) → (stepped image c).monitor.count ≤ c.monitor.count + 1
unfolding stepped observed
stepped_count image c = count_most (is_idle image c) (raises_request (word_of image (place c))) c.monitor.count

-- a small count is not capped
pub capped_is : (c : Chip) → c.monitor.count ≤ 65536 → capped c ≡ c
capped_is c small =
    let e : min c.monitor.count (2 ^ 64 - 1) ≡ c.monitor.count = omega arith in
    ap (λ (n : ℕ). record c { monitor = record c.monitor { count = n } }) e

pub turn_gives : (image : Image) (k : ℕ) (held : Bool) (m : Moment) (a : Access) (rest : List Access) → m.left ≡ a ∷ rest → rqm m.chip.machine ≡ true → turn image k held m ≡ Gives a (give image a rest m)
unfolding turn
turn_gives image k held m a rest left r = rw (left, r) refl

pub turn_goes : (image : Image) (k : ℕ) (held : Bool) (m : Moment) (a : Access) (rest : List Access) → m.left ≡ a ∷ rest → rqm m.chip.machine ≡ false → turn image k held m ≡ go image k m
unfolding turn
turn_goes image k held m a rest left r = rw (left, r) refl

pub turn_answers : (image : Image) (k : ℕ) (m : Moment) → m.left ≡ [] → turn image k false m ≡ Ends (Answered m.said)
unfolding turn
turn_answers image k m left = rw left refl

pub turn_waits : (image : Image) (k : ℕ) (m : Moment) → m.left ≡ [] → is_waiting image m.chip ≡ true → turn image k true m ≡ Ends (Answered m.said)
unfolding turn
turn_waits image k m left w = rw (left, w) refl

pub turn_holds : (image : Image) (k : ℕ) (m : Moment) → m.left ≡ [] → is_waiting image m.chip ≡ false → turn image k true m ≡ go image k m
unfolding turn
turn_holds image k m left w = rw (left, w) refl

-- the next access of a list, after the first i
pub next_left : (xs : List Access) (i : ℕ) (x : Access) → slice_get xs i ≡ Some x → drop i xs ≡ x ∷ drop (i + 1) xs
next_left xs i x e =
    let less : i < length xs = slice_get_within xs i x e in
    drop-cons xs i x less ∙ rw (get_or_from_slice_get xs i x x e, add-one) refl

pub next_given : (xs : List Access) (i : ℕ) (x : Access) → slice_get xs i ≡ Some x → take (i + 1) xs ≡ take i xs ++ x ∷ []
next_given xs i x e =
    let less : i < length xs = slice_get_within xs i x e in
    take_more xs i x less ∙ rw (get_or_from_slice_get xs i x x e) refl

pub none_left : (xs : List Access) (i : ℕ) → length xs ≤ i → drop i xs ≡ []
none_left xs i most = drop_all i xs most

built : Chip → List Access → List Access → List ℕ → Moment
built c g l s = record { chip = c; given = g; left = l; said = s }

built_same : (c c' : Chip) (g g' l l' : List Access) (s s' : List ℕ) → c ≡ c' → g ≡ g' → l ≡ l' → s ≡ s' → built c g l s ≡ built c' g' l' s'
built_same c c' g g' l l' s s' ce ge le se = cc

-- one access more was given
pub gave : (image : Image) (k : ℕ) (held : Bool) (d : Talk) (old new : Progress) (a : Access) → slice_get d.accesses old.given ≡ Some a → rqm old.chip.machine ≡ true → new.chip ≡ record old.chip { machine = accessed a old.chip.machine } → new.given ≡ old.given + 1 → new.said.items ≡ old.said.items ++ option_to_list (access_reply a old.chip.machine) → turn image k held (moment_of d old) ≡ Gives a (moment_of d new)
unfolding built
gave image k held d old new a at r chip count said =
    turn_gives image k held (moment_of d old) a (drop (old.given + 1) d.accesses) (next_left d.accesses old.given a at) r
    ∙ ap (Gives a)
    (built_same _ _ _ _ _ _ _ _ (sym chip)
    (sym (ap (λ (i : ℕ). take i d.accesses) count ∙ next_given d.accesses old.given a at))
    (sym (ap (λ (i : ℕ). drop i d.accesses) count))
    (sym said))

some_left : (xs : List Access) (i : ℕ) → i < length xs → (x : Access) × (slice_get xs i ≡ Some x)
some_left xs i less =
    elim (slice_get_cases xs i).1 [ inl h ↦ (h.0, h.2) | inr h ↦ let most : length xs ≤ i = h.0 in absurd (omega arith) ]

-- a turn of the moment so far, by what is left and what the chip does
same_turn : (t : Turned) (a b : Turn) (old new : Moment) → a ≡ b → IsTurned t b old new → IsTurned t a old new
same_turn t a b old new e h = subst (λ (x : Turn). IsTurned t x old new) (sym e) h

pub goes_left : (image : Image) (k : ℕ) (held : Bool) (d : Talk) (old : Progress) (t : Turned) (new : Moment) → old.given < length d.accesses → rqm old.chip.machine ≡ false → IsTurned t (go image k (moment_of d old)) (moment_of d old) new → IsTurned t (turn image k held (moment_of d old)) (moment_of d old) new
goes_left image k held d old t new less r h =
    let x = some_left d.accesses old.given less in
    same_turn t _ _ _ _ (turn_goes image k held (moment_of d old) x.0 (drop (old.given + 1) d.accesses) (next_left d.accesses old.given x.0 x.1) r) h

pub goes_held : (image : Image) (k : ℕ) (held : Bool) (d : Talk) (old : Progress) (t : Turned) (new : Moment) → length d.accesses ≤ old.given → held ≡ true → is_waiting image old.chip ≡ false → IsTurned t (go image k (moment_of d old)) (moment_of d old) new → IsTurned t (turn image k held (moment_of d old)) (moment_of d old) new
goes_held image k true d old t new most e w h =
    same_turn t _ _ _ _ (turn_holds image k (moment_of d old) (none_left d.accesses old.given most) w) h
goes_held image k false d old t new most e w h = absurd (false≢true e)

pub ends_plain : (image : Image) (k : ℕ) (held : Bool) (d : Talk) (old : Progress) → length d.accesses ≤ old.given → held ≡ false → turn image k held (moment_of d old) ≡ Ends (Answered old.said.items)
ends_plain image k false d old most e = turn_answers image k (moment_of d old) (none_left d.accesses old.given most)
ends_plain image k true d old most e = absurd (true≢false e)

pub ends_held : (image : Image) (k : ℕ) (held : Bool) (d : Talk) (old : Progress) → length d.accesses ≤ old.given → held ≡ true → is_waiting image old.chip ≡ true → turn image k held (moment_of d old) ≡ Ends (Answered old.said.items)
ends_held image k true d old most e w = turn_waits image k (moment_of d old) (none_left d.accesses old.given most) w
ends_held image k false d old most e w = absurd (false≢true e)
