-- `next` register by register, the bits of SR that a move writes, and the ranges that `next` keeps.
use Rattle.std.specs.Prelude.{◌≡◌, ℕ, ◌<◌, ◌/◌, ◌%◌, ◌^◌, Bool, ◌==◌, if◌then◌else◌, List, [], ◌∷◌}
use Rattle.std.specs.List.{list_any}
use Rattle.wb_word.specs.declared.codes.Dst.TheVariants as dst
use Rattle.wb_rom.specs.declared.images.Image.{Image}
use Rattle.wb_machine.specs.State.{State, IsState, IsStart, power}
use Rattle.wb_machine.specs.Next.{instr_at, next, target, carried, raised_in, pc_after, sp_after, rp_after, dp_after, a_after, b_after, tr_after, trb_after, k_after, l_after, dr_after, sr_after, so_after, flags_a_after, flags_b_after, stack_after, ram_after}

-- each part of the state after an instruction is its own definition, of the instruction and the state before it
pub record GoesOn (image : Image) (s : State) : Type 0 where
  pub pc : (next image s).regs.pc ≡ pc_after (instr_at image s) s
  pub sp : (next image s).regs.sp ≡ sp_after (instr_at image s) s
  pub rp : (next image s).regs.rp ≡ rp_after (instr_at image s) image s
  pub dp : (next image s).regs.dp ≡ dp_after (instr_at image s) image s
  pub a : (next image s).regs.a ≡ a_after (instr_at image s) image s
  pub b : (next image s).regs.b ≡ b_after (instr_at image s) image s
  pub tr : (next image s).regs.tr ≡ tr_after (instr_at image s) image s
  pub trb : (next image s).regs.trb ≡ trb_after (instr_at image s) image s
  pub k : (next image s).regs.k ≡ k_after (instr_at image s) image s
  pub l : (next image s).regs.l ≡ l_after (instr_at image s) image s
  pub dr : (next image s).regs.dr ≡ dr_after (instr_at image s) image s
  pub sr : (next image s).regs.sr ≡ sr_after (instr_at image s) image s
  pub so : (next image s).regs.so ≡ so_after (instr_at image s) image s
  pub flags_a : (next image s).regs.flags_a ≡ flags_a_after (instr_at image s) image s
  pub flags_b : (next image s).regs.flags_b ≡ flags_b_after (instr_at image s) image s
  pub stack : (next image s).stack ≡ stack_after (instr_at image s) s
  pub ram : (next image s).ram ≡ ram_after (instr_at image s) image s

-- the bits of SR that a move writes; the others are RQM, DRS and those that have no name
abbrev pub written_bits : List ℕ
written_bits = 14 ∷ 13 ∷ 11 ∷ 10 ∷ 9 ∷ 8 ∷ 7 ∷ 1 ∷ 0 ∷ []

abbrev pub is_written : ℕ → Bool
is_written bit = list_any (λ written. bit == written) written_bits

-- a bit of a number, the lowest being bit 0
abbrev pub bit_of : ℕ → ℕ → ℕ
bit_of n bit = n / 2 ^ bit % 2

-- A move to SR writes those of its 16 bits that a move writes, and keeps the others as the source left them.
abbrev pub MovesToSrGoByBits : Type 0
MovesToSrGoByBits =
    (image : Image) (s : State) (bit : ℕ) → target (instr_at image s) ≡ dst.Sr → bit < 16
    → bit_of (next image s).regs.sr bit
    ≡ bit_of (if is_written bit then carried (instr_at image s) image s else raised_in (instr_at image s) s.regs.sr) bit

-- Each part of the state goes on by its own definition.
abbrev pub PartsGoOnAlone : Type 0
PartsGoOnAlone = (image : Image) (s : State) → GoesOn image s

-- An instruction keeps the ranges of all parts.
abbrev pub RangesAreKept : Type 0
RangesAreKept = (image : Image) (s : State) → IsState s → IsState (next image s)

-- A chip at power-up is in its ranges, whose RAM holds words.
abbrev pub StartsAreInRange : Type 0
StartsAreInRange = (cells : List ℕ) → IsStart cells → IsState (power cells)
