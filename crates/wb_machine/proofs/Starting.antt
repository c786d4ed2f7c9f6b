-- A chip at power-up is in its ranges.
use Rattle.std.proofs.Common.{ℕ, ◌<◌, replicate, arith, lit<}
use Rattle.std.specs.Prelude.{slice_index}
use Rattle.std.proofs.lemmas.List.{length-replicate}
use Rattle.std.proofs.lemmas.List.Elements.{All-replicate}
use Rattle.wb_machine.specs.State.{IsRegs, first_regs, power}
use Rattle.wb_machine.specs.Parts.{StartsAreInRange}

first_in : IsRegs first_regs
first_in = record {
  pc_in = lit< tt;
  sp_in = lit< tt;
  rp_in = lit< tt;
  dp_in = lit< tt;
  a_in = lit< tt;
  b_in = lit< tt;
  tr_in = lit< tt;
  trb_in = lit< tt;
  k_in = lit< tt;
  l_in = lit< tt;
  dr_in = lit< tt;
  sr_in = lit< tt;
  so_in = lit< tt;
}

zeros_in : (k : ℕ) → k < 4 → slice_index (replicate 4 0) k < 2048
zeros_in k h =
    All-replicate {X = ℕ} (λ word. word < 2048) 4 0 (lit< tt) k _ (let l = length-replicate {A = ℕ} 4 0 in omega arith)

pub powers_in_range : StartsAreInRange
unfolding power
powers_in_range cells h = record {
  regs_in = first_in;
  stack_length = length-replicate {A = ℕ} 4 0;
  stack_in = zeros_in;
  ram_length = h.len;
  ram_in = λ k less. h.words k _ (let l = h.len in omega arith);
}
