-- What the chip holds, within which ranges, and how it stands at power-up.
use Rattle.std.specs.Prelude.{◌≡◌, ℕ, ◌^◌, ◌<◌, Bool, false, ◌/◌, ◌%◌, ◌==◌, List, length, replicate, slice_index, All}
use Rattle.wb_alu.specs.declared.flags.Flags.{Flags}
use Rattle.wb_machine.specs.declared.registers.Regs.{Regs}

-- the registers, the four words of the return stack, the 256 words of the data RAM
pub record State : Type 0 where
  pub regs : Regs
  pub stack : List ℕ
  pub ram : List ℕ

pub record IsRegs (r : Regs) : Type 0 where
  pub pc_in : r.pc < 2048
  pub sp_in : r.sp < 4
  pub rp_in : r.rp < 1024
  pub dp_in : r.dp < 256
  pub a_in : r.a < 2 ^ 16
  pub b_in : r.b < 2 ^ 16
  pub tr_in : r.tr < 2 ^ 16
  pub trb_in : r.trb < 2 ^ 16
  pub k_in : r.k < 2 ^ 16
  pub l_in : r.l < 2 ^ 16
  pub dr_in : r.dr < 2 ^ 16
  pub sr_in : r.sr < 2 ^ 16
  pub so_in : r.so < 2 ^ 16

pub record IsState (s : State) : Type 0 where
  pub regs_in : IsRegs s.regs
  pub stack_length : length s.stack ≡ 4
  pub stack_in : (k : ℕ) → k < 4 → slice_index s.stack k < 2048
  pub ram_length : length s.ram ≡ 256
  pub ram_in : (k : ℕ) → k < 256 → slice_index s.ram k < 2 ^ 16

-- a content of the data RAM: 256 words of 16 bits
pub record IsStart (cells : List ℕ) : Type 0 where
  pub len : length cells ≡ 256
  pub words : All (λ word. word < 65536) cells

-- bit 15 of SR: a request of the chip stands
abbrev pub rqm : Regs → Bool
rqm r = r.sr / 32768 % 2 == 1

abbrev pub no_flags : Flags
no_flags = record { c = false; z = false; s0 = false; s1 = false; ov0 = false; ov1 = false }

-- every register and flag is 0 but RP, which is 3FF
abbrev pub first_regs : Regs
first_regs = record {
  pc = 0;
  sp = 0;
  rp = 1023;
  dp = 0;
  a = 0;
  b = 0;
  tr = 0;
  trb = 0;
  k = 0;
  l = 0;
  dr = 0;
  sr = 0;
  so = 0;
  flags_a = no_flags;
  flags_b = no_flags;
}

-- the chip at power-up, whose RAM holds `cells`
unfoldable pub power : List ℕ → State
power cells = record { regs = first_regs; stack = replicate 4 0; ram = cells }

-- the chip at power-up with a RAM of zeros
unfoldable pub reset : State
reset = power (replicate 256 0)
