-- Where an instruction is idle, it changes the address of the next instruction alone.
use Rattle.std.proofs.Common.{◌≡◌, ℕ, ◌+◌, ◌*◌, ◌/◌, ◌%◌, Bool, true, false, not, ◌&&◌, ◌||◌, refl, sym, subst, arith, ◌⊎◌, inl, inr, Option, Some, None}
use Rattle.std.specs.Prelude.{◌==◌}
use Rattle.std.specs.Int.Bits.{bit_xor, xor_zero_r}
use Rattle.std.proofs.lemmas.Bool.{and_parts, or_cases, eqb-true, not_from_true, and_right}
use Rattle.wb_word.specs.Encoding.{instr_of}
use Rattle.wb_word.specs.declared.conditions.Cond.{Cond}
use Rattle.wb_word.specs.declared.conditions.Cond.TheVariants as cond
use Rattle.wb_word.specs.declared.numbers.Addr.{Addr}
use Rattle.wb_word.specs.declared.numbers.Spare.{Spare}
use Rattle.wb_word.specs.declared.words.Instr.{Instr}
use Rattle.wb_word.specs.declared.words.Instr.TheVariants.{Jp}
use Rattle.wb_rom.specs.declared.images.Image.{Image}
use Rattle.wb_machine.specs.State.{State}
use Rattle.wb_machine.specs.Next.{carried, computed, computed_flags, bus_of, operand, worked, worked_flags, pc_after, sp_after, rp_after, dp_after, a_after, b_after, tr_after, trb_after, k_after, l_after, dr_after, sr_after, so_after, flags_a_after, flags_b_after, ram_after, stack_after, regs_after, next_by, next, taken, dp_stepped}
use Rattle.wb_port.specs.declared.chips.Chip.{Chip}
use Rattle.wb_port.specs.Port.{rqm}
use Rattle.wb_port.specs.Wait.{instr_is_plain_jump, instr_tests, instr_follow, raises_request, is_test, is_plain, is_poll, word_of, follow}
use Rattle.wb_port.specs.Monitor.{place, word_at, is_idle, is_breach, is_leaving, first_breach, observed, stepped}
use Rattle.wb_port.specs.Facts.{placed, moved_to}
use Rattle.wb_port.proofs.Circles.{poll_plain}
use Rattle.wb_port.proofs.Single.{plain_calm}

-- the word 0 does nothing: it leaves DP, both of its halves
dp_left : (dp : ℕ) → bit_xor (dp / 16) 0 * 16 + dp % 16 ≡ dp
dp_left dp = omega (arith, xor_zero_r (dp / 16))

nothing_by : (image : Image) (m : State) → next_by (instr_of 0) image m ≡ placed (instr_follow (instr_of 0) m.regs.pc) m
unfolding instr_of carried computed computed_flags bus_of operand worked worked_flags pc_after sp_after rp_after dp_after a_after b_after tr_after trb_after k_after l_after dr_after sr_after so_after flags_a_after flags_b_after ram_after stack_after regs_after next_by dp_stepped
nothing_by image m = simp (dp_left m.regs.dp)

-- a jump that is taken always or on RQM, where RQM isn't looked at or is 1
jump_by : (c : Cond) (na : Addr) (spare : Spare) (image : Image) (m : State)
    → instr_is_plain_jump (Jp c na spare) ≡ true → not (instr_tests (Jp c na spare)) || rqm m ≡ true
    → next_by (Jp c na spare) image m ≡ placed (instr_follow (Jp c na spare) m.regs.pc) m
unfolding carried worked worked_flags pc_after sp_after rp_after dp_after a_after b_after tr_after trb_after k_after l_after dr_after sr_after so_after flags_a_after flags_b_after ram_after stack_after regs_after next_by taken rqm
jump_by cond.Jmp na spare image m plain stands = refl
jump_by cond.Jrqm na spare image m plain stands = simp stands
jump_by cond.Jnrqm na spare image m plain stands = simp stands
jump_by _ na spare image m plain stands = cc

instr_by : (i : Instr) (image : Image) (m : State)
    → instr_is_plain_jump i ≡ true → not (instr_tests i) || rqm m ≡ true
    → next_by i image m ≡ placed (instr_follow i m.regs.pc) m
instr_by (Jp c na spare) image m plain stands = jump_by c na spare image m plain stands
instr_by _ image m plain stands = cc

-- a word that a wait loop may have goes to the next place of the loop, while RQM is 1
pub plain_next : (image : Image) (m : State)
    → is_plain (word_of image m.regs.pc) ≡ true → not (is_test (word_of image m.regs.pc)) || rqm m ≡ true
    → next image m ≡ placed (follow image m.regs.pc) m
unfolding next follow is_plain is_test
plain_next image m plain stands = by (or_cases _ _ plain)
  where
    by : (word_of image m.regs.pc == 0 ≡ true) ⊎ (instr_is_plain_jump (instr_of (word_of image m.regs.pc)) ≡ true)
        → next_by (instr_of (word_of image m.regs.pc)) image m
        ≡ placed (instr_follow (instr_of (word_of image m.regs.pc)) m.regs.pc) m
    by (inl zero_word) =
        subst (λ w. next_by (instr_of w) image m ≡ placed (instr_follow (instr_of w) m.regs.pc) m)
        (sym (eqb-true _ 0 zero_word)) (nothing_by image m)
    by (inr jump) = instr_by (instr_of (word_of image m.regs.pc)) image m jump stands

breach_left : (b : Option Addr) (at : ℕ) → first_breach b false at ≡ b
breach_left None at = refl
breach_left (Some a) at = refl

-- the parts of an idle instruction
record Idle (image : Image) (c : Chip) : Type 0 where
  asked : c.monitor.asked ≡ true
  poll : is_poll image (place c) ≡ true
  waits : not (is_test (word_at image c)) || rqm c.machine ≡ true

idle_parts : (image : Image) (c : Chip) → is_idle image c ≡ true → Idle image c
unfolding is_idle
idle_parts image c idle =
    let h = and_parts _ _ idle in
    let k = and_parts _ _ h.0 in
    record { asked = k.0; poll = k.1; waits = h.1 }

leaves_by : (t r : Bool) → not t || r ≡ true → t && not r ≡ false
leaves_by true true h = refl
leaves_by true false h = sym h
leaves_by false r h = refl

not_leaving : (image : Image) (c : Chip) → Idle image c → is_leaving image c ≡ false
unfolding is_leaving
not_leaving image c i =
    simp i.poll (leaves_by (is_test (word_at image c)) (rqm c.machine) i.waits)

not_breach : (image : Image) (c : Chip) → Idle image c → is_breach image c ≡ false
unfolding is_breach
not_breach image c i = and_right _ _ (not_from_true _ i.poll)

idle_quiet : (image : Image) (c : Chip) → Idle image c → raises_request (word_at image c) ≡ false
idle_quiet image c i = plain_calm (word_at image c) (poll_plain image (place c) i.poll)

asked_left : (a : Bool) → (a && true) ≡ a
asked_left true = refl
asked_left false = refl

idle_observed : (image : Image) (c : Chip) → is_idle image c ≡ true → observed image c ≡ c.monitor
unfolding observed
idle_observed image c idle =
    let i = idle_parts image c idle in
    simp (idle, idle_quiet image c i, not_leaving image c i, not_breach image c i, breach_left c.monitor.breach (place c), asked_left c.monitor.asked)

pub idle_stepped : (image : Image) (c : Chip)
    → is_idle image c ≡ true → stepped image c ≡ moved_to (follow image (place c)) c
unfolding stepped
idle_stepped image c idle =
    let i = idle_parts image c idle in
    simp (idle_observed image c idle, plain_next image c.machine (poll_plain image (place c) i.poll) i.waits)
