-- Each list of items has exactly one transcript on an image.
use Rattle.std.proofs.Common.{◌≡◌, ℕ, zero, suc, ◌+◌, ◌<◌, ◌≤◌, Bool, true, false, ◌⊎◌, inl, inr, List, [], ◌∷◌, length, drop, refl, ap, sym, ◌∙◌, subst, arith, zero-add, below_more}
use Rattle.wb_rom.specs.declared.images.Image.{Image}
use Rattle.wb_port.specs.declared.chips.Chip.{Chip}
use Rattle.wb_port.specs.Port.{rqm, status_byte, byte_read}
use Rattle.wb_port.specs.Schedule.{after}
use Rattle.wb_script.specs.declared.items.Item.{Item}
use Rattle.wb_script.specs.declared.items.Item.TheVariants as item
use Rattle.wb_session.specs.declared.transcripts.Line.{Line}
use Rattle.wb_session.specs.declared.transcripts.Line.TheVariants as line
use Rattle.wb_session.specs.declared.transcripts.Ended.{Ended}
use Rattle.wb_session.specs.declared.transcripts.Ended.TheVariants as ended
use Rattle.wb_session.specs.declared.transcripts.Transcript.{Transcript}
use Rattle.wb_session.specs.declared.course.Stop.{Stop}
use Rattle.wb_session.specs.declared.course.Stop.TheVariants.{Early, Silent}
use Rattle.wb_session.specs.Course.{IsStop, ended_at}
use Rattle.wb_session.specs.Transcript.{events_of, schedule, fresh, requests_after, IsAnswer, AreAnswers, IsEnd, IsTranscript}
use Rattle.wb_session.proofs.Runs.{after-append, end_by}

-- a test holds first at one place alone
same_first : (p : ℕ → Bool) (n k : ℕ) → p n ≡ true → ((j : ℕ) → j < n → p j ≡ false) → p k ≡ true → ((j : ℕ) → j < k → p j ≡ false) → n ≡ k
same_first p n k here before here' before' =
    elim (ordered n k) [
      | inl below ↦ absurd (let e = before' n below in cc)
      | inr others ↦ elim others [ inl same ↦ same | inr above ↦ absurd (let e = before k above in cc) ]
    ]
  where
    ordered : (n k : ℕ) → (n < k) ⊎ ((n ≡ k) ⊎ (k < n))
    ordered zero zero = inr (inl refl)
    ordered zero (suc k) = inl (omega arith)
    ordered (suc n) zero = inr (inr (omega arith))
    ordered (suc n) (suc k) =
        elim (ordered n k) [
          | inl below ↦ inl (omega arith)
          | inr others ↦ elim others [ inl same ↦ inr (inl (ap suc same)) | inr above ↦ inr (inr (omega arith)) ]
        ]

same_answer : (image : Image) (chip : Chip) (item : Item) (line line' : Line) → IsAnswer image chip item line → IsAnswer image chip item line' → line ≡ line'
same_answer image chip (item.Wait most) (line.Waited n) (line.Waited k) a b = ap line.Waited (same_first (requests_after image chip) n k a.1 a.2 b.1 b.2)
same_answer image chip (item.Wait most) (line.Waited n) _ a b = absurd b
same_answer image chip (item.Wait most) _ _ a b = absurd a
same_answer image chip (item.Step count) (line.Stepped n) (line.Stepped k) a b = ap line.Stepped (a ∙ sym b)
same_answer image chip (item.Step count) (line.Stepped n) _ a b = absurd b
same_answer image chip (item.Step count) _ _ a b = absurd a
same_answer image chip item.Status (line.Status n) (line.Status k) a b = cc
same_answer image chip item.Status (line.Status n) _ a b = absurd b
same_answer image chip item.Status _ _ a b = absurd a
same_answer image chip item.Read (line.Read n) (line.Read k) a b = cc
same_answer image chip item.Read (line.Read n) _ a b = absurd b
same_answer image chip item.Read _ _ a b = absurd a
same_answer image chip (item.Write byte) (line.Wrote n) (line.Wrote k) a b = ap line.Wrote (a.1 ∙ sym b.1)
same_answer image chip (item.Write byte) (line.Wrote n) _ a b = absurd b
same_answer image chip (item.Write byte) _ _ a b = absurd a

-- an item that ends a run has no answer
no_answer : (image : Image) (chip : Chip) (answered : ℕ) (item : Item) (rest : List Item) (end : Ended) (line : Line) → IsEnd image chip answered (item ∷ rest) end → IsAnswer image chip item line → ⊥
no_answer image chip answered item.Read rest (ended.Early number) (line.Read byte) h a = let e = h.1 in let f = a.0 in cc
no_answer image chip answered item.Read rest (ended.Early number) _ h a = a
no_answer image chip answered item.Read rest _ _ h a = h
no_answer image chip answered (item.Write byte) rest (ended.Early number) (line.Wrote written) h a = let e = h.1 in let f = a.0 in cc
no_answer image chip answered (item.Write byte) rest (ended.Early number) _ h a = a
no_answer image chip answered (item.Write byte) rest _ _ h a = h
no_answer image chip answered (item.Wait most) rest (ended.Silent number) (line.Waited count) h a = let e = h.1 count a.0 in let f = a.1 in cc
no_answer image chip answered (item.Wait most) rest (ended.Silent number) _ h a = a
no_answer image chip answered (item.Wait most) rest _ _ h a = h
no_answer image chip answered _ rest _ _ h a = h

same_end : (image : Image) (chip : Chip) (answered : ℕ) (items : List Item) (end end' : Ended) → IsEnd image chip answered items end → IsEnd image chip answered items end' → end ≡ end'
same_end image chip answered [] ended.Done ended.Done h k = refl
same_end image chip answered [] ended.Done _ h k = absurd k
same_end image chip answered [] _ _ h k = absurd h
same_end image chip answered (item.Read ∷ rest) (ended.Early n) (ended.Early m) h k = ap ended.Early (h.0 ∙ sym k.0)
same_end image chip answered (item.Read ∷ rest) (ended.Early n) _ h k = absurd k
same_end image chip answered (item.Read ∷ rest) _ _ h k = absurd h
same_end image chip answered (item.Write byte ∷ rest) (ended.Early n) (ended.Early m) h k = ap ended.Early (h.0 ∙ sym k.0)
same_end image chip answered (item.Write byte ∷ rest) (ended.Early n) _ h k = absurd k
same_end image chip answered (item.Write byte ∷ rest) _ _ h k = absurd h
same_end image chip answered (item.Wait most ∷ rest) (ended.Silent n) (ended.Silent m) h k = ap ended.Silent (h.0 ∙ sym k.0)
same_end image chip answered (item.Wait most ∷ rest) (ended.Silent n) _ h k = absurd k
same_end image chip answered (item.Wait most ∷ rest) _ _ h k = absurd h
same_end image chip answered (_ ∷ rest) _ _ h k = absurd h

-- lines and an end that fit the items from some place on
record Fits (image : Image) (chip : Chip) (answered : ℕ) (items : List Item) (lines : List Line) (end : Ended) : Type 0 where
  answers : AreAnswers image chip items lines
  ends : IsEnd image (after image (schedule lines) chip) (answered + length lines) (drop (length lines) items) end

-- the rest of what fits
fits_rest : (image : Image) (chip : Chip) (answered : ℕ) (item : Item) (items : List Item) (line : Line) (lines : List Line) (end : Ended) → Fits image chip answered (item ∷ items) (line ∷ lines) end → Fits image (after image (events_of line) chip) (answered + 1) items lines end
fits_rest image chip answered item items line lines end h =
    let apart = after-append image (events_of line) (schedule lines) chip in
    let count : answered + suc (length lines) ≡ answered + 1 + length lines = omega arith in
    record {
      answers = h.answers.1;
      ends =
          subst (λ (n : ℕ). IsEnd image (after image (schedule lines) (after image (events_of line) chip)) n (drop (length lines) items) end) count
          (subst (λ (c : Chip). IsEnd image c (answered + suc (length lines)) (drop (length lines) items) end) apart h.ends);
    }

-- what fits before is answered
fits_more : (image : Image) (chip : Chip) (answered : ℕ) (item : Item) (items : List Item) (line : Line) (lines : List Line) (end : Ended) → IsAnswer image chip item line → Fits image (after image (events_of line) chip) (answered + 1) items lines end → Fits image chip answered (item ∷ items) (line ∷ lines) end
fits_more image chip answered item items line lines end a h =
    let apart = after-append image (events_of line) (schedule lines) chip in
    let count : answered + 1 + length lines ≡ answered + suc (length lines) = omega arith in
    record {
      answers = (a, h.answers);
      ends =
          subst (λ (c : Chip). IsEnd image c (answered + suc (length lines)) (drop (length lines) items) end) (sym apart)
          (subst (λ (n : ℕ). IsEnd image (after image (schedule lines) (after image (events_of line) chip)) n (drop (length lines) items) end) count h.ends);
    }

same_lines : (image : Image) (chip : Chip) (answered : ℕ) (items : List Item) (lines lines' : List Line) (end end' : Ended) → Fits image chip answered items lines end → Fits image chip answered items lines' end' → lines ≡ lines'
same_lines image chip answered items [] [] end end' h k = refl
same_lines image chip answered [] (l ∷ lines) lines' end end' h k = absurd h.answers
same_lines image chip answered [] [] (l ∷ lines') end end' h k = absurd k.answers
same_lines image chip answered (i ∷ items) [] (l ∷ lines') end end' h k = absurd (no_answer image chip (answered + 0) i items end l h.ends k.answers.0)
same_lines image chip answered (i ∷ items) (l ∷ lines) [] end end' h k = absurd (no_answer image chip (answered + 0) i items end' l k.ends h.answers.0)
same_lines image chip answered (i ∷ items) (l ∷ lines) (l' ∷ lines') end end' h k =
    let one : l' ≡ l = same_answer image chip i l' l k.answers.0 h.answers.0 in
    let rest : lines ≡ lines' =
    same_lines image (after image (events_of l) chip) (answered + 1) items lines lines' end end'
    (fits_rest image chip answered i items l lines end h)
    (subst (λ (x : Line). Fits image (after image (events_of x) chip) (answered + 1) items lines' end') one (fits_rest image chip answered i items l' lines' end' k)) in
    cc

fits : (image : Image) (items : List Item) (t : Transcript) → IsTranscript image items t → Fits image fresh 0 items t.lines t.ended
fits image items t h =
    record {
      answers = h.answers;
      ends = subst (λ (n : ℕ). IsEnd image (after image (schedule t.lines) fresh) n (drop (length t.lines) items) t.ended) (sym (zero-add (length t.lines))) h.end;
    }

pub one_alone : (image : Image) (items : List Item) (t t' : Transcript) → IsTranscript image items t → IsTranscript image items t' → t ≡ t'
one_alone image items t t' h k =
    let lines : t.lines ≡ t'.lines = same_lines image fresh 0 items t.lines t'.lines t.ended t'.ended (fits image items t h) (fits image items t' k) in
    let moved : IsEnd image (after image (schedule t.lines) fresh) (length t.lines) (drop (length t.lines) items) t'.ended =
    subst (λ (ls : List Line). IsEnd image (after image (schedule ls) fresh) (length ls) (drop (length ls) items) t'.ended) (sym lines) k.end in
    let ended : t.ended ≡ t'.ended = same_end image (after image (schedule t.lines) fresh) (length t.lines) (drop (length t.lines) items) t.ended t'.ended h.end moved in
    built t.lines t'.lines t.ended t'.ended lines ended
  where
    built : (lines lines' : List Line) (end end' : Ended) → lines ≡ lines' → end ≡ end' → ◌≡◌ {A = Transcript} (record { lines = lines; ended = end }) (record { lines = lines'; ended = end' })
    built lines lines' end end' e f = cc

-- the least number up to a bound where a test holds, or none there
least : (p : ℕ → Bool) (most : ℕ) → ((count : ℕ) × (count ≤ most) × (p count ≡ true) × ((fewer : ℕ) → fewer < count → p fewer ≡ false)) ⊎ ((count : ℕ) → count ≤ most → p count ≡ false)
least p zero = at_zero (p 0) refl
  where
    at_zero : (b : Bool) → p 0 ≡ b → ((count : ℕ) × (count ≤ 0) × (p count ≡ true) × ((fewer : ℕ) → fewer < count → p fewer ≡ false)) ⊎ ((count : ℕ) → count ≤ 0 → p count ≡ false)
    at_zero true e = inl (0, omega arith, e, λ fewer below. absurd (omega arith))
    at_zero false e = inr (λ count within. let z : count ≡ 0 = omega arith in rw z e)
least p (suc most) =
    elim (least p most) [
      | inl found ↦ inl (found.0, omega (arith, found.1), found.2, found.3)
      | inr none ↦ at_next (p (suc most)) refl none
    ]
  where
    at_next : (b : Bool) → p (suc most) ≡ b → ((count : ℕ) → count ≤ most → p count ≡ false) → ((count : ℕ) × (count ≤ suc most) × (p count ≡ true) × ((fewer : ℕ) → fewer < count → p fewer ≡ false)) ⊎ ((count : ℕ) → count ≤ suc most → p count ≡ false)
    at_next true e none = inl (suc most, omega arith, e, λ fewer below. none fewer (omega arith))
    at_next false e none =
        inr (λ count within. below_more (λ k. p k ≡ false) (suc most) (λ k below. none k (omega arith)) e count (omega arith))

-- each item is answered, or ends the run
first : (image : Image) (chip : Chip) (item : Item) → ((line : Line) × IsAnswer image chip item line) ⊎ ((stop : Stop) × IsStop image chip item stop)
first image chip (item.Wait most) =
    elim (least (requests_after image chip) most) [ inl found ↦ inl (line.Waited found.0, (found.1, found.2, found.3)) | inr none ↦ inr (Silent, none) ]
first image chip (item.Step count) = inl (line.Stepped count, refl)
first image chip item.Status = inl (line.Status (status_byte chip.machine), refl)
first image chip item.Read = by_request (rqm chip.machine) refl
  where
    by_request : (b : Bool) → rqm chip.machine ≡ b → ((line : Line) × IsAnswer image chip item.Read line) ⊎ ((stop : Stop) × IsStop image chip item.Read stop)
    by_request true e = inl (line.Read (byte_read chip.machine), (e, refl))
    by_request false e = inr (Early, e)
first image chip (item.Write byte) = by_request (rqm chip.machine) refl
  where
    by_request : (b : Bool) → rqm chip.machine ≡ b → ((line : Line) × IsAnswer image chip (item.Write byte) line) ⊎ ((stop : Stop) × IsStop image chip (item.Write byte) stop)
    by_request true e = inl (line.Wrote byte, (e, refl))
    by_request false e = inr (Early, e)

-- some lines and an end fit
some_fit : (image : Image) (items : List Item) (chip : Chip) (answered : ℕ) → (lines : List Line) × (end : Ended) × Fits image chip answered items lines end
some_fit image [] chip answered = ([], ended.Done, record { answers = tt; ends = tt })
some_fit image (i ∷ items) chip answered =
    elim (first image chip i) [
      | inl one ↦ more one.0 one.1 (some_fit image items (after image (events_of one.0) chip) (answered + 1))
      | inr stop ↦ ([], ended_at stop.0 (answered + 1), record { answers = tt; ends = end_by image chip (answered + 0) i items stop.0 (answered + 1) (omega arith) stop.1 })
    ]
  where
    more : (line : Line) → IsAnswer image chip i line → ((lines : List Line) × (end : Ended) × Fits image (after image (events_of line) chip) (answered + 1) items lines end) → (lines : List Line) × (end : Ended) × Fits image chip answered (i ∷ items) lines end
    more line a rest = (line ∷ rest.0, rest.1, fits_more image chip answered i items line rest.0 rest.1 a rest.2)

pub some_one : (image : Image) (items : List Item) → (t : Transcript) × IsTranscript image items t
some_one image items = of_fit (some_fit image items fresh 0)
  where
    of_fit : ((lines : List Line) × (end : Ended) × Fits image fresh 0 items lines end) → (t : Transcript) × IsTranscript image items t
    of_fit r = (
      record { lines = r.0; ended = r.1 },
      record {
        answers = r.2.answers;
        end = subst (λ (n : ℕ). IsEnd image (after image (schedule r.0) fresh) n (drop (length r.0) items) r.1) (zero-add (length r.0)) r.2.ends;
      },
    )
