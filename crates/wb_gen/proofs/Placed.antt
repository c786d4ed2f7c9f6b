-- A word that computes and moves does the same wherever it stands, and in each image with the same data.
use Rattle.std.proofs.Common.{◌≡◌, ℕ, ◌+◌, ◌*◌, ◌/◌, ◌%◌, false, List, refl, sym, ap, ◌∙◌, arith}
use Rattle.std.specs.Prelude.{slice_index}
use Rattle.std.specs.Int.Bits.{xor_zero_r}
use Rattle.wb_word.specs.Encoding.{instr_of}
use Rattle.wb_word.specs.declared.codes.Acc.{Acc}
use Rattle.wb_word.specs.declared.codes.Acc.TheVariants as acc
use Rattle.wb_word.specs.declared.codes.P.{P}
use Rattle.wb_word.specs.declared.codes.P.TheVariants as p
use Rattle.wb_word.specs.declared.codes.Src.{Src}
use Rattle.wb_word.specs.declared.codes.Src.TheVariants as src
use Rattle.wb_word.specs.declared.words.OpWord.{OpWord}
use Rattle.wb_word.specs.declared.words.Instr.TheVariants.{Op}
use Rattle.wb_rom.specs.declared.images.Image.{Image}
use Rattle.wb_machine.specs.State.{State}
use Rattle.wb_machine.specs.State.{rqm as is_request}
use Rattle.wb_machine.specs.Next.{bus_of, carried, operand, other, accumulator, flags_of, computed, computed_flags, worked, worked_flags, dp_stepped, taken, following, pc_after, sp_after, rp_after, dp_after, a_after, b_after, tr_after, trb_after, k_after, l_after, dr_after, sr_after, so_after, flags_a_after, flags_b_after, ram_after, stack_after, regs_after, next_by, next}
use Rattle.wb_port.specs.Facts.{placed}
use Rattle.wb_port.specs.Wait.{word_of}
use Rattle.wb_gen.proofs.Words.{next_is}

bus_placed : (x : Src) (pc : ℕ) (a b : Image) (s : State) → b.drom ≡ a.drom → bus_of x b (placed pc s) ≡ bus_of x a s
unfolding bus_of
bus_placed src.Ro pc a b s e = ap (λ (d : List ℕ). slice_index d s.regs.rp) e
bus_placed _ pc a b s e = refl

operand_placed : (x : P) (bus pc : ℕ) (s : State) → operand x bus (placed pc s) ≡ operand x bus s
unfolding operand
operand_placed p.Ram bus pc s = refl
operand_placed _ bus pc s = refl

accumulator_placed : (x : Acc) (pc : ℕ) (s : State) → accumulator x (placed pc s).regs ≡ accumulator x s.regs
accumulator_placed acc.A pc s = refl
accumulator_placed acc.B pc s = refl

flags_placed : (x : Acc) (pc : ℕ) (s : State) → flags_of x (placed pc s).regs ≡ flags_of x s.regs
flags_placed acc.A pc s = refl
flags_placed acc.B pc s = refl

computed_placed : (o : OpWord) (bus pc : ℕ) (s : State) → computed o bus (placed pc s) ≡ computed o bus s
unfolding computed
computed_placed o bus pc s = simp (operand_placed o.p bus pc s, accumulator_placed o.acc pc s, flags_placed (other o.acc) pc s)

computed_flags_placed : (o : OpWord) (bus pc : ℕ) (s : State) → computed_flags o bus (placed pc s) ≡ computed_flags o bus s
unfolding computed_flags
computed_flags_placed o bus pc s =
    simp (operand_placed o.p bus pc s, accumulator_placed o.acc pc s, flags_placed (other o.acc) pc s, flags_placed o.acc pc s)

worked_placed : (x : Acc) (o : OpWord) (pc : ℕ) (a b : Image) (s : State) → b.drom ≡ a.drom → worked x (Op o) b (placed pc s) ≡ worked x (Op o) a s
unfolding worked
worked_placed x o pc a b s e = simp (bus_placed o.src pc a b s e, accumulator_placed x pc s, computed_placed)

worked_flags_placed : (x : Acc) (o : OpWord) (pc : ℕ) (a b : Image) (s : State) → b.drom ≡ a.drom → worked_flags x (Op o) b (placed pc s) ≡ worked_flags x (Op o) a s
unfolding worked_flags
worked_flags_placed x o pc a b s e = simp (bus_placed o.src pc a b s e, flags_placed x pc s, computed_flags_placed)

op_placed : (o : OpWord) (pc : ℕ) (a b : Image) (s : State) → b.drom ≡ a.drom → next_by (Op o) b (placed pc s) ≡ placed (following pc) (next_by (Op o) a s)
unfolding next_by regs_after carried pc_after sp_after rp_after dp_after a_after b_after tr_after trb_after k_after l_after dr_after sr_after so_after flags_a_after flags_b_after ram_after stack_after
op_placed o pc a b s e =
    let bus = bus_placed o.src pc a b s e in
    let wa = worked_placed acc.A o pc a b s e in
    let wb = worked_placed acc.B o pc a b s e in
    let fa = worked_flags_placed acc.A o pc a b s e in
    let fb = worked_flags_placed acc.B o pc a b s e in
    simp (bus, wa, wb, fa, fb, e)

-- two machines that differ in the address of their next word alone
abbrev pub AreAlike : State → State → Type 0
AreAlike s t = (pc : ℕ) × (t ≡ placed pc s)

pub equal_alike : (s t : State) → s ≡ t → AreAlike s t
equal_alike s t e = (s.regs.pc, sym e)

-- the same word on both sides
pub op_alike : (o : OpWord) (a b : Image) (s t : State) → b.drom ≡ a.drom
    → instr_of (word_of a s.regs.pc) ≡ Op o → instr_of (word_of b t.regs.pc) ≡ Op o
    → AreAlike s t → AreAlike (next a s) (next b t)
op_alike o a b s t e f g h = (
  following h.0,
  next_is b t (Op o) g
      ∙ (ap (next_by (Op o) b) h.1
      ∙ (op_placed o h.0 a b s e
      ∙ ap (placed (following h.0)) (sym (next_is a s (Op o) f)))),
)

-- a word that does nothing
nothing_places : (image : Image) (s : State) → next_by (instr_of 0) image s ≡ placed (following s.regs.pc) s
unfolding instr_of next_by regs_after carried pc_after sp_after rp_after dp_after dp_stepped a_after b_after tr_after trb_after k_after l_after dr_after sr_after so_after flags_a_after flags_b_after ram_after stack_after worked worked_flags computed computed_flags
nothing_places image s =
    let x = xor_zero_r (s.regs.dp / 16) in
    let d : s.regs.dp / 16 * 16 + s.regs.dp % 16 ≡ s.regs.dp = omega arith in
    simp (x, d)

pub nothing_alike : (b : Image) (s t : State) → word_of b t.regs.pc ≡ 0 → AreAlike s t → AreAlike s (next b t)
nothing_alike b s t w h = (
  following t.regs.pc,
  next_is b t (instr_of 0) (ap instr_of w) ∙ (nothing_places b t ∙ ap (placed (following t.regs.pc)) h.1),
)

-- the jump back, and the jump that isn't taken
turning_places : (image : Image) (s : State) → next_by (instr_of 0xA00004) image s ≡ placed 1 s
unfolding instr_of next_by regs_after carried taken pc_after sp_after rp_after dp_after a_after b_after tr_after trb_after k_after l_after dr_after sr_after so_after flags_a_after flags_b_after ram_after stack_after worked worked_flags
turning_places image s = refl

leaving_places : (image : Image) (s : State) → is_request s.regs ≡ false → next_by (instr_of 0x97C008) image s ≡ placed (following s.regs.pc) s
unfolding instr_of next_by regs_after carried taken pc_after sp_after rp_after dp_after a_after b_after tr_after trb_after k_after l_after dr_after sr_after so_after flags_a_after flags_b_after ram_after stack_after worked worked_flags
leaving_places image s quiet = simp quiet

pub turning_alike : (a b : Image) (s t : State) → word_of a s.regs.pc ≡ 0xA00004 → word_of b t.regs.pc ≡ 0xA00004 → AreAlike s t → AreAlike (next a s) (next b t)
turning_alike a b s t v w h = (
  1,
  next_is b t (instr_of 0xA00004) (ap instr_of w)
      ∙ (turning_places b t
      ∙ (ap (placed 1) h.1
      ∙ ap (placed 1) (sym (next_is a s (instr_of 0xA00004) (ap instr_of v) ∙ turning_places a s)))),
)

pub leaving_alike : (a b : Image) (s t : State) → is_request s.regs ≡ false → is_request t.regs ≡ false
    → word_of a s.regs.pc ≡ 0x97C008 → word_of b t.regs.pc ≡ 0x97C008 → AreAlike s t → AreAlike (next a s) (next b t)
leaving_alike a b s t q r v w h =
    let at = following t.regs.pc in (
      at,
      next_is b t (instr_of 0x97C008) (ap instr_of w)
          ∙ (leaving_places b t r
          ∙ (ap (placed at) h.1
          ∙ ap (placed at) (sym (next_is a s (instr_of 0x97C008) (ap instr_of v) ∙ leaving_places a s q)))),
    )

-- the word that sets the status register
setting_places : (a b : Image) (pc : ℕ) (s : State) → next_by (instr_of 0xC10007) b (placed pc s) ≡ placed (following pc) (next_by (instr_of 0xC10007) a s)
unfolding instr_of next_by regs_after carried pc_after sp_after rp_after dp_after a_after b_after tr_after trb_after k_after l_after dr_after sr_after so_after flags_a_after flags_b_after ram_after stack_after worked worked_flags
setting_places a b pc s = refl

pub setting_alike : (a b : Image) (s t : State) → word_of a s.regs.pc ≡ 0xC10007 → word_of b t.regs.pc ≡ 0xC10007 → AreAlike s t → AreAlike (next a s) (next b t)
setting_alike a b s t v w h = (
  following h.0,
  next_is b t (instr_of 0xC10007) (ap instr_of w)
      ∙ (ap (next_by (instr_of 0xC10007) b) h.1
      ∙ (setting_places a b h.0 s
      ∙ ap (placed (following h.0)) (sym (next_is a s (instr_of 0xC10007) (ap instr_of v))))),
)

-- at the same address they are equal
pub alike_equal : (s t : State) (at : ℕ) → s.regs.pc ≡ at → t.regs.pc ≡ at → AreAlike s t → s ≡ t
alike_equal s t at e f h =
    let g : h.0 ≡ s.regs.pc = sym (ap (λ (x : State). x.regs.pc) h.1) ∙ (f ∙ sym e) in
    sym (h.1 ∙ ap (λ (x : ℕ). placed x s) g)
