-- What the loops of a run keep, and what each step of a run adds.
use Rattle.std.proofs.Common.{◌≡◌, ℕ, zero, suc, ◌+◌, ◌<◌, ◌≤◌, false, Some, List, [], ◌∷◌, ◌++◌, length, take, drop, refl, ap, sym, ◌∙◌, subst, arith, add-one, length-append}
use Rattle.std.proofs.lemmas.List.{append-nil}
use Rattle.std.proofs.Math.Seq.{take-suc, drop-cons}
use Rattle.std.proofs.lemmas.Grind.{flat_map-append}
use Rattle.std.proofs.lemmas.Option.{slice_get_within, get_or_from_slice_get}
use Rattle.std.specs.List.{flat_map, slice_get}
use Rattle.wb_rom.specs.declared.images.Image.{Image}
use Rattle.wb_machine.specs.State.{State, reset}
use Rattle.wb_machine.specs.Next.{next}
use Rattle.wb_port.specs.declared.accesses.Event.{Event}
use Rattle.wb_port.specs.declared.chips.Chip.{Chip}
use Rattle.wb_port.specs.Port.{rqm}
use Rattle.wb_port.specs.Monitor.{stepped}
use Rattle.wb_port.specs.Schedule.{after, applied}
use Rattle.wb_script.specs.declared.items.Item.{Item}
use Rattle.wb_script.specs.declared.items.Item.TheVariants as item
use Rattle.wb_session.specs.declared.transcripts.Line.{Line}
use Rattle.wb_session.specs.declared.transcripts.Line.TheVariants as line
use Rattle.wb_session.specs.declared.transcripts.Ended.{Ended}
use Rattle.wb_session.specs.declared.course.Stop.{Stop}
use Rattle.wb_session.specs.declared.course.Stop.TheVariants.{Early, Silent}
use Rattle.wb_session.specs.Course.{executed, Comes, StaysSilent, Answered, Stopped, IsStop, stop_events, ended_at}
use Rattle.wb_session.specs.Transcript.{steps, events_of, schedule, fresh, requests_after, IsAnswer, AreAnswers, IsEnd, silent_steps, events_made, IsTranscript}

-- no request came so far
pub record IsWaiting (image : Image) (most : ℕ) (m m' : State) (count : ℕ) : Type 0 where
  pub within : count ≤ most
  pub after : m' ≡ executed image count m
  pub silent : (fewer : ℕ) → fewer < count → rqm (executed image fewer m) ≡ false

-- the items before this place are answered, and there is room for the lines of the others
pub record IsPlaying (image : Image) (items : List Item) (lines : List Line) (len room : ℕ) (m : State) (place number : ℕ) : Type 0 where
  pub counted : number ≡ place
  pub len_is : len ≡ place
  pub lines_are : length lines ≡ place
  pub has_room : length items ≤ room
  pub answers : AreAnswers image fresh items lines
  pub machine : m ≡ (after image (schedule lines) fresh).machine

-- the schedule of one list after another
pub after-append : (image : Image) (s t : List Event) (chip : Chip) → after image (s ++ t) chip ≡ after image t (after image s chip)
after-append image [] t chip = refl
after-append image (e ∷ s) t chip = after-append image s t (applied image e chip)

stepped-machine : (image : Image) (chip : Chip) → (stepped image chip).machine ≡ next image chip.machine
unfolding stepped
stepped-machine image chip = refl

executed-next : (image : Image) (count : ℕ) (m : State) → executed image count (next image m) ≡ next image (executed image count m)
executed-next image zero m = refl
executed-next image (suc count) m = ap (next image) (executed-next image count m)

-- the monitor of a chip takes no part in what its machine does
pub after-steps : (image : Image) (count : ℕ) (chip : Chip) → (after image (steps count) chip).machine ≡ executed image count chip.machine
after-steps image zero chip = refl
after-steps image (suc count) chip =
    after-steps image count (stepped image chip)
    ∙ (ap (executed image count) (stepped-machine image chip) ∙ executed-next image count chip.machine)

pub requests-steps : (image : Image) (chip : Chip) (count : ℕ) → requests_after image chip count ≡ rqm (executed image count chip.machine)
requests-steps image chip count = ap rqm (after-steps image count chip)

-- a wait, a count of instructions
pub waited : (image : Image) (chip : Chip) (most : ℕ) (m m' : State) (count : ℕ) → chip.machine ≡ m → Comes image most m m' count → Answered image chip (item.Wait most) m' (line.Waited count)
waited image chip most m m' count e h =
    record {
      answer = (
        h.within,
        rw (requests-steps image chip count, e, ← h.after) h.stands,
        λ fewer below. rw (requests-steps image chip fewer, e) (h.first fewer below),
      );
      machine = rw (after-steps image count chip, e) h.after;
    }

pub silent : (image : Image) (chip : Chip) (most : ℕ) (m m' : State) → chip.machine ≡ m → StaysSilent image most m m' → Stopped image chip (item.Wait most) m' Silent
silent image chip most m m' e h =
    record {
      cause = λ count within. rw (requests-steps image chip count, e) (h.silent count within);
      machine = rw (after-steps image most chip, e) h.after;
    }

pub stepped_on : (image : Image) (chip : Chip) (count : ℕ) (m m' : State) → chip.machine ≡ m → m' ≡ executed image count m → Answered image chip (item.Step count) m' (line.Stepped count)
stepped_on image chip count m m' e h = record { answer = refl; machine = rw (after-steps image count chip, e) h }

-- an element that is there
pub take_one_more : {X : Type 0} (xs : List X) (i : ℕ) (x : X) → slice_get xs i ≡ Some x → take (i + 1) xs ≡ take i xs ++ x ∷ []
take_one_more xs i x h =
    let within : i < length xs = slice_get_within xs i x h in
    let read = get_or_from_slice_get xs i x x h in
    rw (add-one, take-suc xs i x within, read) refl

pub drop_at : {X : Type 0} (xs : List X) (i : ℕ) (x : X) → slice_get xs i ≡ Some x → drop i xs ≡ x ∷ drop (suc i) xs
drop_at xs i x h =
    let within : i < length xs = slice_get_within xs i x h in
    let read = get_or_from_slice_get xs i x x h in
    rw (drop-cons xs i x within, read) refl

pub flat_map_taken : {X A : Type 0} (f : X → List A) (xs : List X) (i : ℕ) (x : X) → slice_get xs i ≡ Some x → flat_map f (take (i + 1) xs) ≡ flat_map f (take i xs) ++ f x
flat_map_taken f xs i x h =
    rw (take_one_more xs i x h, flat_map-append f (take i xs) (x ∷ [])) (ap (λ ys. flat_map f (take i xs) ++ ys) (append-nil (f x)))

pub schedule-push : (lines : List Line) (line : Line) → schedule (lines ++ line ∷ []) ≡ schedule lines ++ events_of line
schedule-push lines line =
    flat_map-append events_of lines (line ∷ []) ∙ ap (λ ys. schedule lines ++ ys) (append-nil (events_of line))

-- one more answer
pub AreAnswers-push : (image : Image) (chip : Chip) (items : List Item) (lines : List Line) (item : Item) (line : Line) → AreAnswers image chip items lines → slice_get items (length lines) ≡ Some item → IsAnswer image (after image (schedule lines) chip) item line → AreAnswers image chip items (lines ++ line ∷ [])
AreAnswers-push image chip [] [] item line h found answer = absurd (cc)
AreAnswers-push image chip (x ∷ items) [] item line h found answer =
    let same : x ≡ item = cc in
    (subst (λ (i : Item). IsAnswer image chip i line) (sym same) answer, tt)
AreAnswers-push image chip [] (l ∷ lines) item line h found answer = absurd h
AreAnswers-push image chip (x ∷ items) (l ∷ lines) item line h found answer =
    let apart = after-append image (events_of l) (schedule lines) chip in (
      h.0,
      AreAnswers-push image (after image (events_of l) chip) items lines item line h.1 found
          (subst (λ (c : Chip). IsAnswer image c item line) apart answer),
    )

-- the end at an item
pub end_by : (image : Image) (chip : Chip) (answered : ℕ) (item : Item) (rest : List Item) (stop : Stop) (number : ℕ) → number ≡ answered + 1 → IsStop image chip item stop → IsEnd image chip answered (item ∷ rest) (ended_at stop number)
end_by image chip answered item.Read rest Early number e h = (e, h)
end_by image chip answered (item.Write byte) rest Early number e h = (e, h)
end_by image chip answered (item.Wait most) rest Silent number e h = (e, h)
end_by image chip answered _ rest _ number e h = absurd h

pub end_at : (image : Image) (chip : Chip) (answered : ℕ) (items : List Item) (item : Item) (stop : Stop) (number : ℕ) → slice_get items answered ≡ Some item → number ≡ answered + 1 → IsStop image chip item stop → IsEnd image chip answered (drop answered items) (ended_at stop number)
end_at image chip answered items item stop number found e h = rw (drop_at items answered item found) (end_by image chip answered item (drop (suc answered) items) stop number e h)

silent_steps_by : (item : Item) (rest : List Item) (stop : Stop) (number : ℕ) → silent_steps (item ∷ rest) (ended_at stop number) ≡ stop_events item stop
silent_steps_by (item.Wait most) rest Silent number = refl
silent_steps_by (item.Wait most) rest Early number = refl
silent_steps_by _ rest Early number = refl
silent_steps_by _ rest Silent number = refl

pub silent_steps_at : (answered : ℕ) (items : List Item) (item : Item) (stop : Stop) (number : ℕ) → slice_get items answered ≡ Some item → silent_steps (drop answered items) (ended_at stop number) ≡ stop_events item stop
silent_steps_at answered items item stop number found = rw (drop_at items answered item found) (silent_steps_by item (drop (suc answered) items) stop number)

pub playing-answered : (image : Image) (items : List Item) (lines : List Line) (len room : ℕ) (m : State) (place number : ℕ) (item : Item) (line : Line) (len' room' : ℕ) (m' : State) → IsPlaying image items lines len room m place number → slice_get items place ≡ Some item → ((chip : Chip) → chip.machine ≡ m → Answered image chip item m' line) → len' ≡ len + 1 → room ≤ room' → IsPlaying image items (lines ++ line ∷ []) len' room' m' (place + 1) (number + 1)
playing-answered image items lines len room m place number item line len' room' m' h found answered longer wider =
    let one = answered (after image (schedule lines) fresh) (sym h.machine) in
    let found' : slice_get items (length lines) ≡ Some item = rw h.lines_are found in
    record {
      counted = ap (λ n. n + 1) h.counted;
      len_is = longer ∙ ap (λ n. n + 1) h.len_is;
      lines_are = rw (length-append lines (line ∷ [])) (ap (λ n. n + 1) h.lines_are);
      has_room = omega (arith, h.has_room);
      answers = AreAnswers-push image fresh items lines item line h.answers found' one.answer;
      machine = rw (schedule-push lines line, after-append image (schedule lines) (events_of line) fresh) one.machine;
    }

-- a run begins
fresh-machine : fresh.machine ≡ reset
unfolding fresh reset
fresh-machine = refl

pub playing-begins : (image : Image) (items : List Item) (lines : List Line) (len room : ℕ) (m : State) → lines ≡ [] → len ≡ 0 → length items ≤ room → m ≡ reset → IsPlaying image items lines len room m 0 0
playing-begins image items lines len room m none len_none enough begun =
    rw none (record {
      counted = refl;
      len_is = len_none;
      lines_are = refl;
      has_room = enough;
      answers = tt;
      machine = begun ∙ sym fresh-machine;
    })

-- an item ends the run
pub playing-stopped : (image : Image) (items : List Item) (lines : List Line) (len room : ℕ) (m : State) (place number : ℕ) (item : Item) (stop : Stop) (m' : State) → IsPlaying image items lines len room m place number → slice_get items place ≡ Some item → ((chip : Chip) → chip.machine ≡ m → Stopped image chip item m' stop) → (lines' : List Line) (end : Ended) → lines' ≡ lines → end ≡ ended_at stop (number + 1) → IsTranscript image items (record { lines = lines'; ended = end }) × (m' ≡ (after image (events_made items (record { lines = lines'; ended = end })) fresh).machine)
playing-stopped image items lines len room m place number item stop m' h found stopped lines' end same ended =
    let one = stopped (after image (schedule lines) fresh) (sym h.machine) in
    let found' : slice_get items (length lines) ≡ Some item = rw h.lines_are found in
    let counted : number + 1 ≡ length lines + 1 = omega arith in
    rw (same, ended) (
      record {
        answers = h.answers;
        end = end_at image (after image (schedule lines) fresh) (length lines) items item stop (number + 1) found' counted one.cause;
      },
      rw (silent_steps_at (length lines) items item stop (number + 1) found', after-append image (schedule lines) (stop_events item stop) fresh) one.machine,
    )
