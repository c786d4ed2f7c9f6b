-- Which machines a symbolic state stands for, and what of a graph it holds.
use Rattle.std.specs.Prelude.{◌≡◌, ℕ, ◌+◌, ◌*◌, ◌/◌, ◌%◌, ◌<◌, Bool, length, slice_index}
use Rattle.wb_term.specs.declared.nodes.Node.{Node}
use Rattle.wb_term.specs.Nodes.{Each}
use Rattle.wb_term.specs.Numbers.{bit}
use Rattle.wb_term.specs.Inputs.{Assignment}
use Rattle.wb_term.specs.Terms.{Terms, HasWord}
use Rattle.wb_term.specs.Values.{word_value}
use Rattle.wb_term.specs.Under.{HasOnly}
use Rattle.wb_fold.specs.Flags.{flags_value, flag_numbers, HasFlags}
use Rattle.wb_fold.specs.Ram.{word_in, HasWords, WordsHaveOnly}
use Rattle.wb_machine.specs.State.{State}
use Rattle.wb_symstep.specs.declared.state.SymState.{SymState}

-- a status register: RQM in bit 15, DRS in bit 12, and all other bits those of a word
abbrev pub status : Bool → Bool → ℕ → ℕ
status rqm drs word = bit rqm * 32768 + word / 8192 % 4 * 8192 + bit drs * 4096 + word % 4096

-- Under these inputs the state stands for the machine: each concrete part equals its register, and the value
-- of each term its register, its flags or its RAM cell. Of SR, bits 15 and 12 are RQM and DRS.
pub record StandsFor (inputs : Assignment) (g : Terms) (s : SymState) (m : State) : Type 0 where
  pub pc : s.pc ≡ m.regs.pc
  pub sp : s.sp ≡ m.regs.sp
  pub stack : s.stack ≡ m.stack
  pub rp : word_value inputs g s.rp ≡ m.regs.rp
  pub dp : word_value inputs g s.dp ≡ m.regs.dp
  pub a : word_value inputs g s.a ≡ m.regs.a
  pub b : word_value inputs g s.b ≡ m.regs.b
  pub tr : word_value inputs g s.tr ≡ m.regs.tr
  pub trb : word_value inputs g s.trb ≡ m.regs.trb
  pub k : word_value inputs g s.k ≡ m.regs.k
  pub l : word_value inputs g s.l ≡ m.regs.l
  pub dr : word_value inputs g s.dr ≡ m.regs.dr
  pub sr : status s.rqm s.drs (word_value inputs g s.sr) ≡ m.regs.sr
  pub so : word_value inputs g s.so ≡ m.regs.so
  pub flags_a : flags_value inputs g s.flags_a ≡ m.regs.flags_a
  pub flags_b : flags_value inputs g s.flags_b ≡ m.regs.flags_b
  pub ram : (k : ℕ) → k < 256 → word_value inputs g (word_in s.ram k) ≡ slice_index m.ram k

-- Every term of the state is in the graph, and the concrete parts are in the ranges of a machine.
pub record IsSymState (g : Terms) (s : SymState) : Type 0 where
  pub pc_in : s.pc < 2048
  pub sp_in : s.sp < 4
  pub stack_length : length s.stack ≡ 4
  pub stack_in : (k : ℕ) → k < 4 → slice_index s.stack k < 2048
  pub rp : HasWord g s.rp
  pub dp : HasWord g s.dp
  pub a : HasWord g s.a
  pub b : HasWord g s.b
  pub tr : HasWord g s.tr
  pub trb : HasWord g s.trb
  pub k : HasWord g s.k
  pub l : HasWord g s.l
  pub dr : HasWord g s.dr
  pub sr : HasWord g s.sr
  pub so : HasWord g s.so
  pub flags_a : HasFlags g s.flags_a
  pub flags_b : HasFlags g s.flags_b
  pub ram_length : length s.ram ≡ 256
  pub ram : HasWords g s.ram

-- only such input nodes stand under the terms of the state
pub record StateHasOnly (g : Terms) (allowed : Node → Bool) (s : SymState) : Type 0 where
  pub rp : HasOnly g allowed s.rp.number
  pub dp : HasOnly g allowed s.dp.number
  pub a : HasOnly g allowed s.a.number
  pub b : HasOnly g allowed s.b.number
  pub tr : HasOnly g allowed s.tr.number
  pub trb : HasOnly g allowed s.trb.number
  pub k : HasOnly g allowed s.k.number
  pub l : HasOnly g allowed s.l.number
  pub dr : HasOnly g allowed s.dr.number
  pub sr : HasOnly g allowed s.sr.number
  pub so : HasOnly g allowed s.so.number
  pub flags_a : Each (HasOnly g allowed) (flag_numbers s.flags_a)
  pub flags_b : Each (HasOnly g allowed) (flag_numbers s.flags_b)
  pub ram : WordsHaveOnly g allowed s.ram
