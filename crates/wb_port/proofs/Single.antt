-- Facts on single steps of the machine: who raises a request, and where a chip goes from a plain word.
use Rattle.std.proofs.Common.{◌≡◌, ℕ, ◌+◌, ◌*◌, ◌/◌, ◌%◌, ◌<◌, ◌⊎◌, inl, inr, Bool, true, false, ◌||◌, ◌==◌, refl, sym, ◌∙◌, ap, subst, arith}
use Rattle.std.proofs.lemmas.Bool.{eqb-true, or_parts, or_cases, or_left, or_right, true≢false, false≢true, cases_Bool}
use Rattle.wb_word.specs.Encoding.{instr_of}
use Rattle.wb_word.specs.declared.codes.Src.{Src}
use Rattle.wb_word.specs.declared.codes.Src.TheVariants as src
use Rattle.wb_word.specs.declared.codes.Dst.{Dst}
use Rattle.wb_word.specs.declared.codes.Dst.TheVariants as dst
use Rattle.wb_word.specs.declared.conditions.Cond.TheVariants as cond
use Rattle.wb_word.specs.declared.words.Instr.{Instr}
use Rattle.wb_word.specs.declared.words.Instr.TheVariants.{Op, Rt, Jp, Ld}
use Rattle.wb_rom.specs.declared.images.Image.{Image}
use Rattle.wb_machine.specs.State.{State}
use Rattle.wb_machine.specs.Next.{next, next_by, regs_after, instr_at, raised_by, carried, raised, merged, moved_sr, sr_after, pc_after, taken}
use Rattle.wb_port.specs.Port.{rqm}
use Rattle.wb_port.specs.Wait.{src_touches, dst_touches, src_raises, dst_raises, instr_touches, instr_raises, instr_tests, instr_is_plain_jump, instr_follow, touches, raises_request, is_test, is_plain, follow, word_of}

-- PC and the status register after an instruction
next-pc : (image : Image) (s : State) → (next image s).regs.pc ≡ pc_after (instr_at image s) s
unfolding next next_by regs_after
next-pc image s = refl

next-sr : (image : Image) (s : State) → (next image s).regs.sr ≡ sr_after (instr_at image s) image s
unfolding next next_by regs_after
next-sr image s = refl

-- bit 15 of a status register
abbrev pub top : ℕ → Bool
top sr = sr / 32768 % 2 == 1

pub whole-part : (a r : ℕ) → r < 32768 → (a * 32768 + r) / 32768 ≡ a
whole-part a r less = omega arith

-- a move without a request keeps bit 15
merged-top : (bus sr : ℕ) → top (merged bus sr) ≡ top sr
merged-top bus sr =
    let e : merged bus sr / 32768 ≡ sr / 32768 =
    ap (λ (x : ℕ). x / 32768) (regroup _ _ _ _ _ _) ∙ whole-part (sr / 32768) _ (small (bus / 8192 % 4) (sr / 4096 % 2) (bus / 128 % 32) (sr / 4 % 32) (bus % 4) (omega arith) (omega arith) (omega arith) (omega arith) (omega arith)) in
    ap (λ (q : ℕ). q % 2 == 1) e
  where
    regroup : (a b c d e f : ℕ) → a + b + c + d + e + f ≡ a + (b + c + d + e + f)
    regroup a b c d e f = omega arith

    small : (b c d e f : ℕ) → b < 4 → c < 2 → d < 32 → e < 32 → f < 4 → b * 8192 + c * 4096 + d * 128 + e * 4 + f < 32768
    small b c d e f bl cl dl el fl = omega arith

raised-top : (sr : ℕ) → top (raised sr) ≡ true
raised-top sr =
    let e : raised sr / 32768 ≡ 1 = omega arith in
    ap (λ (q : ℕ). q % 2 == 1) e

moved-keeps : (d : Dst) (bus sr : ℕ) → dst_raises d ≡ false → top (moved_sr d bus sr) ≡ top sr
moved-keeps dst.Dr bus sr h = absurd (true≢false h)
moved-keeps dst.Sr bus sr h = merged-top bus sr
moved-keeps _ bus sr h = refl

moved-raises : (d : Dst) (bus sr : ℕ) → dst_raises d ≡ true → top (moved_sr d bus sr) ≡ true
moved-raises dst.Dr bus sr h = raised-top sr
moved-raises _ bus sr h = absurd (false≢true h)

asked-keeps : (x : Src) (sr : ℕ) → src_raises x ≡ false → raised_by x sr ≡ sr
asked-keeps src.Dr sr h = absurd (true≢false h)
asked-keeps _ sr h = refl

asked-raises : (x : Src) (sr : ℕ) → src_raises x ≡ true → top (raised_by x sr) ≡ true
asked-raises src.Dr sr h = raised-top sr
asked-raises _ sr h = absurd (false≢true h)

-- what has bit 15 keeps it, whatever is moved
moved-stays : (d : Dst) (bus sr : ℕ) → top sr ≡ true → top (moved_sr d bus sr) ≡ true
moved-stays d bus sr h =
    elim (cases_Bool (dst_raises d)) [ inl r ↦ moved-raises d bus sr r | inr k ↦ moved-keeps d bus sr k ∙ h ]

op-keeps : (x : Src) (d : Dst) (bus sr : ℕ) → (src_raises x || dst_raises d) ≡ false → top (moved_sr d bus (raised_by x sr)) ≡ top sr
op-keeps x d bus sr h =
    let p = or_parts _ _ h in
    moved-keeps d bus (raised_by x sr) p.1 ∙ ap top (asked-keeps x sr p.0)

op-raises : (x : Src) (d : Dst) (bus sr : ℕ) → (src_raises x || dst_raises d) ≡ true → top (moved_sr d bus (raised_by x sr)) ≡ true
op-raises x d bus sr h =
    elim (or_cases _ _ h) [
      | inl s ↦ moved-stays d bus (raised_by x sr) (asked-raises x sr s)
      | inr r ↦ moved-raises d bus (raised_by x sr) r
    ]

instr-keeps : (i : Instr) (image : Image) (s : State) → instr_raises i ≡ false → top (sr_after i image s) ≡ top s.regs.sr
unfolding sr_after
instr-keeps (Op o) image s h = op-keeps o.src o.dst (carried (Op o) image s) s.regs.sr h
instr-keeps (Rt o) image s h = op-keeps o.src o.dst (carried (Rt o) image s) s.regs.sr h
instr-keeps (Jp c na spare) image s h = refl
instr-keeps (Ld value spare d) image s h = moved-keeps d (carried (Ld value spare d) image s) s.regs.sr h

instr-raises : (i : Instr) (image : Image) (s : State) → instr_raises i ≡ true → top (sr_after i image s) ≡ true
unfolding sr_after
instr-raises (Op o) image s h = op-raises o.src o.dst (carried (Op o) image s) s.regs.sr h
instr-raises (Rt o) image s h = op-raises o.src o.dst (carried (Rt o) image s) s.regs.sr h
instr-raises (Jp c na spare) image s h = absurd (false≢true h)
instr-raises (Ld value spare d) image s h = moved-raises d (carried (Ld value spare d) image s) s.regs.sr h

-- a word that doesn't raise a request leaves RQM, and one that does sets it
pub next_keeps : (image : Image) (s : State) → raises_request (word_of image s.regs.pc) ≡ false → rqm (next image s) ≡ rqm s
unfolding raises_request rqm
next_keeps image s h = ap top (next-sr image s) ∙ instr-keeps (instr_at image s) image s h

pub next_raises : (image : Image) (s : State) → raises_request (word_of image s.regs.pc) ≡ true → rqm (next image s) ≡ true
unfolding raises_request rqm
next_raises image s h = ap top (next-sr image s) ∙ instr-raises (instr_at image s) image s h

-- a word that raises a request touches
src-raises : (x : Src) → src_raises x ≡ true → src_touches x ≡ true
src-raises src.Dr h = refl
src-raises _ h = absurd (false≢true h)

dst-raises : (d : Dst) → dst_raises d ≡ true → dst_touches d ≡ true
dst-raises dst.Dr h = refl
dst-raises _ h = absurd (false≢true h)

op-touches : (x : Src) (d : Dst) → (src_raises x || dst_raises d) ≡ true → (src_touches x || dst_touches d) ≡ true
op-touches x d h = elim (or_cases _ _ h) [ inl s ↦ or_left _ _ (src-raises x s) | inr r ↦ or_right _ _ (dst-raises d r) ]

instr-touches : (i : Instr) → instr_raises i ≡ true → instr_touches i ≡ true
instr-touches (Op o) h = op-touches o.src o.dst h
instr-touches (Rt o) h = op-touches o.src o.dst h
instr-touches (Jp c na spare) h = absurd (false≢true h)
instr-touches (Ld value spare d) h = dst-raises d h

pub raising_touches : (word : ℕ) → raises_request word ≡ true → touches word ≡ true
unfolding raises_request touches
raising_touches word h = instr-touches (instr_of word) h

-- a plain word doesn't raise a request
jump-calm : (i : Instr) → instr_is_plain_jump i ≡ true → instr_raises i ≡ false
jump-calm (Jp c na spare) h = refl
jump-calm (Op o) h = absurd (false≢true h)
jump-calm (Rt o) h = absurd (false≢true h)
jump-calm (Ld value spare d) h = absurd (false≢true h)

nothing-calm : instr_raises (instr_of 0) ≡ false
unfolding instr_of
nothing-calm = refl

pub plain_calm : (word : ℕ) → is_plain word ≡ true → raises_request word ≡ false
unfolding is_plain raises_request
plain_calm word h =
    elim (or_cases _ _ h) [
      | inl z ↦ ap (λ (w : ℕ). instr_raises (instr_of w)) (eqb-true _ _ z) ∙ nothing-calm
      | inr j ↦ jump-calm (instr_of word) j
    ]

-- from a plain word that is no test, or whose test finds RQM, the chip follows
pc-follows : (i : Instr) (s : State) → instr_is_plain_jump i ≡ true → (instr_tests i ≡ false) ⊎ (rqm s ≡ true) → pc_after i s ≡ instr_follow i s.regs.pc
unfolding pc_after taken rqm
pc-follows (Jp cond.Jmp na spare) s h g = refl
pc-follows (Jp cond.Jrqm na spare) s h (inl e) = absurd (true≢false e)
pc-follows (Jp cond.Jrqm na spare) s h (inr r) = rw r refl
pc-follows (Jp cond.Jnrqm na spare) s h (inl e) = absurd (true≢false e)
pc-follows (Jp cond.Jnrqm na spare) s h (inr r) = rw r refl
pc-follows (Jp _ na spare) s h g = absurd (false≢true h)
pc-follows (Op o) s h g = absurd (false≢true h)
pc-follows (Rt o) s h g = absurd (false≢true h)
pc-follows (Ld value spare d) s h g = absurd (false≢true h)

nothing-follows : (w : ℕ) (s : State) → w ≡ 0 → pc_after (instr_of w) s ≡ instr_follow (instr_of w) s.regs.pc
unfolding instr_of pc_after
nothing-follows w s e = subst (λ (v : ℕ). pc_after (instr_of v) s ≡ instr_follow (instr_of v) s.regs.pc) (sym e) refl

pub next_follows : (image : Image) (s : State) → is_plain (word_of image s.regs.pc) ≡ true → (is_test (word_of image s.regs.pc) ≡ false) ⊎ (rqm s ≡ true) → (next image s).regs.pc ≡ follow image s.regs.pc
unfolding is_plain is_test follow
next_follows image s h g =
    next-pc image s
    ∙ elim (or_cases _ _ h) [
      | inl z ↦ nothing-follows _ s (eqb-true _ _ z)
      | inr j ↦ pc-follows (instr_at image s) s j g
    ]
