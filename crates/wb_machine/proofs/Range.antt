-- One instruction of any image keeps the ranges of the state.
use Rattle.std.proofs.Common.{◌≡◌, ℕ, zero, suc, ◌+◌, ◌/◌, ◌%◌, ◌^◌, ◌<◌, Bool, true, false, List, length, arith, lit<, if◌then◌else◌}
use Rattle.std.specs.Prelude.{ℤ, pos, negsuc, unsigned_abs, slice_index, slice_set, bit_xor}
use Rattle.std.specs.Int.{int_rem_euclid}
use Rattle.std.proofs.lemmas.Nat.{mod_below, or_lt, xor_lt}
use Rattle.std.specs.Int.Bits.{and_lt}
use Rattle.std.proofs.lemmas.Grind.{common_steps}
use Rattle.wb_word.specs.declared.codes.Acc.{Acc}
use Rattle.wb_word.specs.declared.codes.Acc.TheVariants as acc
use Rattle.wb_word.specs.declared.codes.Alu.{Alu}
use Rattle.wb_word.specs.declared.codes.Alu.TheVariants as alu
use Rattle.wb_word.specs.declared.codes.Dpl.{Dpl}
use Rattle.wb_word.specs.declared.codes.Dpl.TheVariants as dpl
use Rattle.wb_word.specs.declared.codes.Dst.{Dst}
use Rattle.wb_word.specs.declared.codes.Dst.TheVariants as dst
use Rattle.wb_word.specs.declared.codes.P.{P}
use Rattle.wb_word.specs.declared.codes.P.TheVariants as p
use Rattle.wb_word.specs.declared.codes.Src.{Src}
use Rattle.wb_word.specs.declared.codes.Src.TheVariants as src
use Rattle.wb_word.specs.declared.conditions.Cond.{Cond}
use Rattle.wb_word.specs.declared.conditions.Cond.TheVariants as cond
use Rattle.wb_word.specs.declared.words.OpWord.{OpWord}
use Rattle.wb_word.specs.declared.words.Instr.{Instr}
use Rattle.wb_word.specs.declared.words.Instr.TheVariants.{Op, Rt, Jp, Ld}
use Rattle.wb_word.specs.Encoding.{instr_of, of_kind}
use Rattle.wb_alu.specs.Operation.{alu_result}
use Rattle.wb_rom.specs.declared.images.Image.{Image}
use Rattle.wb_machine.specs.State.{State, IsState, IsRegs}
use Rattle.wb_machine.specs.Next.{accumulator, carried, target, bus_of, product, operand, computed, worked_on, worked, moved_a, moved_b, moved_tr, moved_trb, moved_so, moved_k, moved_l, moved_ram, far_address, raised, merged, raised_by, raised_in, moved_dr, moved_sr, low_stepped, dp_stepped, rp_stepped, dp_pointed, rp_pointed, moved_dp, moved_rp, taken, following, sp_down, sp_called, stack_called, pc_after, sp_after, rp_after, dp_after, a_after, b_after, tr_after, trb_after, k_after, l_after, dr_after, sr_after, so_after, ram_after, stack_after, regs_after, next_by, next, instr_at}

-- an instruction whose value has 16 bits, as each that stands in a word
unfoldable pub IsNarrow : Instr → Type 0
IsNarrow (Ld value spare d) = value < 2 ^ 16
IsNarrow _ = Unit {0}

of_kind_narrow : (kind n : ℕ) → IsNarrow (of_kind kind n)
unfolding IsNarrow
of_kind_narrow zero n = tt
of_kind_narrow (suc zero) n = tt
of_kind_narrow (suc (suc zero)) n = tt
of_kind_narrow (suc (suc (suc k))) n = mod_below (n / 2 ^ 6) (2 ^ 16) (lit< tt)

pub instr_of-narrow : (n : ℕ) → IsNarrow (instr_of n)
unfolding instr_of
instr_of-narrow n = of_kind_narrow (n / 2 ^ 22) n

-- The bus and the operand.
sign_lt : (b : Bool) → (if b then 0x7FFF else 0x8000) < 2 ^ 16
sign_lt true = lit< tt
sign_lt false = lit< tt

pub bus_of-lt : (x : Src) (image : Image) (s : State) → IsState s → bus_of x image s < 2 ^ 16
unfolding bus_of
bus_of-lt src.Trb image s ok = ok.regs_in.trb_in
bus_of-lt src.A image s ok = ok.regs_in.a_in
bus_of-lt src.B image s ok = ok.regs_in.b_in
bus_of-lt src.Tr image s ok = ok.regs_in.tr_in
bus_of-lt src.Dp image s ok = let h : s.regs.dp < 256 = ok.regs_in.dp_in in omega arith
bus_of-lt src.Rp image s ok = let h : s.regs.rp < 1024 = ok.regs_in.rp_in in omega arith
bus_of-lt src.Ro image s ok = image.drom_table.each s.regs.rp ok.regs_in.rp_in
bus_of-lt src.Sgn image s ok = sign_lt s.regs.flags_a.s1
bus_of-lt src.Dr image s ok = ok.regs_in.dr_in
bus_of-lt src.Drnf image s ok = ok.regs_in.dr_in
bus_of-lt src.Sr image s ok = ok.regs_in.sr_in
bus_of-lt src.Sim image s ok = lit< tt
bus_of-lt src.Sil image s ok = lit< tt
bus_of-lt src.K image s ok = ok.regs_in.k_in
bus_of-lt src.L image s ok = ok.regs_in.l_in
bus_of-lt src.Mem image s ok = ok.ram_in s.regs.dp ok.regs_in.dp_in

carried_narrow : (i : Instr) (image : Image) (s : State) → IsNarrow i → IsState s → carried i image s < 2 ^ 16
unfolding carried IsNarrow
carried_narrow (Op o) image s n ok = bus_of-lt o.src image s ok
carried_narrow (Rt o) image s n ok = bus_of-lt o.src image s ok
carried_narrow (Jp c na spare) image s n ok = lit< tt
carried_narrow (Ld value spare d) image s n ok = n

remainder_lt : (z : ℤ) → unsigned_abs (int_rem_euclid z (pos (2 ^ 32))) < 2 ^ 32
remainder_lt (pos a) = mod_below a (2 ^ 32) (lit< tt)
remainder_lt (negsuc a) = omega arith

pub product-lt : (k l : ℕ) → product k l < 2 ^ 32
unfolding product
product-lt k l = remainder_lt _

pub operand-lt : (x : P) (bus : ℕ) (s : State) → bus < 2 ^ 16 → IsState s → operand x bus s < 2 ^ 16
unfolding operand
operand-lt p.Ram bus s h ok = ok.ram_in s.regs.dp ok.regs_in.dp_in
operand-lt p.Idb bus s h ok = h
operand-lt p.M bus s h ok = let m : product s.regs.k s.regs.l < 2 ^ 32 = product-lt _ _ in omega arith
operand-lt p.N bus s h ok = mod_below _ 65536 (lit< tt)

-- The ALU.
pub alu_result-lt : (x : Alu) (q p : ℕ) (c : Bool) → q < 2 ^ 16 → p < 2 ^ 16 → alu_result x q p c < 2 ^ 16
alu_result-lt alu.Nop q p c hq hp = hq
alu_result-lt alu.Or q p c hq hp = or_lt 16 q p hq hp
alu_result-lt alu.And q p c hq hp = and_lt 16 q p hq hp
alu_result-lt alu.Xor q p c hq hp = xor_lt 16 q p hq hp
alu_result-lt alu.Sub q p c hq hp = mod_below _ 65536 (lit< tt)
alu_result-lt alu.Add q p c hq hp = mod_below _ 65536 (lit< tt)
alu_result-lt alu.Sbb q p c hq hp = mod_below _ 65536 (lit< tt)
alu_result-lt alu.Adc q p c hq hp = mod_below _ 65536 (lit< tt)
alu_result-lt alu.Dec q p c hq hp = mod_below _ 65536 (lit< tt)
alu_result-lt alu.Inc q p c hq hp = mod_below _ 65536 (lit< tt)
alu_result-lt alu.Cmp q p c hq hp = omega arith
alu_result-lt alu.Shr1 q p c hq hp = omega arith
alu_result-lt alu.Shl1 q p c hq hp = mod_below _ 65536 (lit< tt)
alu_result-lt alu.Shl2 q p c hq hp = mod_below _ 65536 (lit< tt)
alu_result-lt alu.Shl4 q p c hq hp = mod_below _ 65536 (lit< tt)
alu_result-lt alu.Xchg q p c hq hp = omega arith

accumulator_lt : (x : Acc) (s : State) → IsState s → accumulator x s.regs < 2 ^ 16
accumulator_lt acc.A s ok = ok.regs_in.a_in
accumulator_lt acc.B s ok = ok.regs_in.b_in

pub computed-lt : (o : OpWord) (image : Image) (s : State) → IsState s → computed o (bus_of o.src image s) s < 2 ^ 16
unfolding computed
computed-lt o image s ok =
    alu_result-lt o.alu _ _ _ (accumulator_lt o.acc s ok) (operand-lt o.p _ s (bus_of-lt o.src image s ok) ok)

worked_on_lt : (x y : Acc) (work old : ℕ) → work < 2 ^ 16 → old < 2 ^ 16 → worked_on x y work old < 2 ^ 16
worked_on_lt acc.A acc.A work old hw ho = hw
worked_on_lt acc.A acc.B work old hw ho = ho
worked_on_lt acc.B acc.A work old hw ho = ho
worked_on_lt acc.B acc.B work old hw ho = hw

worked_lt : (x : Acc) (i : Instr) (image : Image) (s : State) → IsState s → worked x i image s < 2 ^ 16
unfolding worked
worked_lt x (Op o) image s ok = worked_on_lt x o.acc _ _ (computed-lt o image s ok) (accumulator_lt x s ok)
worked_lt x (Rt o) image s ok = worked_on_lt x o.acc _ _ (computed-lt o image s ok) (accumulator_lt x s ok)
worked_lt x (Jp c na spare) image s ok = accumulator_lt x s ok
worked_lt x (Ld value spare d) image s ok = accumulator_lt x s ok

-- The moves.
moved_a_lt : (d : Dst) (bus a : ℕ) → bus < 2 ^ 16 → a < 2 ^ 16 → moved_a d bus a < 2 ^ 16
moved_a_lt dst.A bus a hb h = hb
moved_a_lt _ bus a hb h = h

moved_b_lt : (d : Dst) (bus b : ℕ) → bus < 2 ^ 16 → b < 2 ^ 16 → moved_b d bus b < 2 ^ 16
moved_b_lt dst.B bus b hb h = hb
moved_b_lt _ bus b hb h = h

moved_tr_lt : (d : Dst) (bus tr : ℕ) → bus < 2 ^ 16 → tr < 2 ^ 16 → moved_tr d bus tr < 2 ^ 16
moved_tr_lt dst.Tr bus tr hb h = hb
moved_tr_lt _ bus tr hb h = h

moved_trb_lt : (d : Dst) (bus trb : ℕ) → bus < 2 ^ 16 → trb < 2 ^ 16 → moved_trb d bus trb < 2 ^ 16
moved_trb_lt dst.Trb bus trb hb h = hb
moved_trb_lt _ bus trb hb h = h

moved_so_lt : (d : Dst) (bus so : ℕ) → bus < 2 ^ 16 → so < 2 ^ 16 → moved_so d bus so < 2 ^ 16
moved_so_lt dst.Sol bus so hb h = hb
moved_so_lt dst.Som bus so hb h = hb
moved_so_lt _ bus so hb h = h

moved_dr_lt : (d : Dst) (bus dr : ℕ) → bus < 2 ^ 16 → dr < 2 ^ 16 → moved_dr d bus dr < 2 ^ 16
moved_dr_lt dst.Dr bus dr hb h = hb
moved_dr_lt _ bus dr hb h = h

-- the far address stays within the RAM
far_lt : (dp : ℕ) → dp < 256 → far_address dp < 256
far_lt dp h = or_lt 8 dp 64 h (lit< tt)

moved_k_lt : (d : Dst) (bus : ℕ) (s : State) → bus < 2 ^ 16 → IsState s → moved_k d bus s.ram s.regs.dp s.regs.k < 2 ^ 16
moved_k_lt dst.K bus s hb ok = hb
moved_k_lt dst.Klr bus s hb ok = hb
moved_k_lt dst.Klm bus s hb ok = ok.ram_in (far_address s.regs.dp) (far_lt _ ok.regs_in.dp_in)
moved_k_lt _ bus s hb ok = ok.regs_in.k_in

moved_l_lt : (d : Dst) (bus : ℕ) (image : Image) (s : State) → bus < 2 ^ 16 → IsState s
    → moved_l d bus image.drom s.regs.rp s.regs.l < 2 ^ 16
moved_l_lt dst.L bus image s hb ok = hb
moved_l_lt dst.Klr bus image s hb ok = image.drom_table.each s.regs.rp ok.regs_in.rp_in
moved_l_lt dst.Klm bus image s hb ok = hb
moved_l_lt _ bus image s hb ok = ok.regs_in.l_in

raised_lt : (sr : ℕ) → raised sr < 2 ^ 16
raised_lt sr = omega arith

raised_by_lt : (x : Src) (sr : ℕ) → sr < 2 ^ 16 → raised_by x sr < 2 ^ 16
raised_by_lt src.Dr sr h = raised_lt sr
raised_by_lt _ sr h = h

raised_in_lt : (i : Instr) (sr : ℕ) → sr < 2 ^ 16 → raised_in i sr < 2 ^ 16
raised_in_lt (Op o) sr h = raised_by_lt o.src sr h
raised_in_lt (Rt o) sr h = raised_by_lt o.src sr h
raised_in_lt (Jp c na spare) sr h = h
raised_in_lt (Ld value spare d) sr h = h

merged_lt : (bus sr : ℕ) → sr < 2 ^ 16 → merged bus sr < 2 ^ 16
merged_lt bus sr h = omega arith

moved_sr_lt : (d : Dst) (bus sr : ℕ) → sr < 2 ^ 16 → moved_sr d bus sr < 2 ^ 16
moved_sr_lt dst.Dr bus sr h = raised_lt sr
moved_sr_lt dst.Sr bus sr h = merged_lt bus sr h
moved_sr_lt _ bus sr h = h

-- The pointers.
low_stepped_lt : (x : Dpl) (low : ℕ) → low < 16 → low_stepped x low < 16
low_stepped_lt dpl.DpNop low h = h
low_stepped_lt dpl.DpInc low h = mod_below _ 16 (lit< tt)
low_stepped_lt dpl.DpDec low h = mod_below _ 16 (lit< tt)
low_stepped_lt dpl.DpClr low h = lit< tt

dp_stepped_lt : (x : Dpl) (high dp : ℕ) → high < 16 → dp < 256 → dp_stepped x high dp < 256
unfolding dp_stepped
dp_stepped_lt x high dp hh hd =
    let low : low_stepped x (dp % 16) < 16 = low_stepped_lt x (dp % 16) (mod_below dp 16 (lit< tt)) in
    let up : bit_xor (dp / 16) high < 16 = xor_lt 4 (dp / 16) high (omega arith) hh in
    omega arith

dp_pointed_lt : (i : Instr) (dp : ℕ) → dp < 256 → dp_pointed i dp < 256
dp_pointed_lt (Op o) dp h = dp_stepped_lt o.dpl o.dphm.value dp o.dphm.in_range h
dp_pointed_lt (Rt o) dp h = dp_stepped_lt o.dpl o.dphm.value dp o.dphm.in_range h
dp_pointed_lt (Jp c na spare) dp h = h
dp_pointed_lt (Ld value spare d) dp h = h

moved_dp_lt : (d : Dst) (bus dp : ℕ) → dp < 256 → moved_dp d bus dp < 256
moved_dp_lt dst.Dp bus dp h = mod_below bus 256 (lit< tt)
moved_dp_lt _ bus dp h = h

rp_stepped_lt : (change : Bool) (rp : ℕ) → rp < 1024 → rp_stepped change rp < 1024
rp_stepped_lt true rp h = mod_below _ 1024 (lit< tt)
rp_stepped_lt false rp h = h

rp_pointed_lt : (i : Instr) (rp : ℕ) → rp < 1024 → rp_pointed i rp < 1024
rp_pointed_lt (Op o) rp h = rp_stepped_lt o.rpdec rp h
rp_pointed_lt (Rt o) rp h = rp_stepped_lt o.rpdec rp h
rp_pointed_lt (Jp c na spare) rp h = h
rp_pointed_lt (Ld value spare d) rp h = h

moved_rp_lt : (d : Dst) (bus rp : ℕ) → rp < 1024 → moved_rp d bus rp < 1024
moved_rp_lt dst.Rp bus rp h = mod_below bus 1024 (lit< tt)
moved_rp_lt _ bus rp h = h

-- The flow.
choice_lt : (b : Bool) (m n : ℕ) → m < 2048 → n < 2048 → (if b then m else n) < 2048
choice_lt true m n hm hn = hm
choice_lt false m n hm hn = hn

following_lt : (pc : ℕ) → following pc < 2048
following_lt pc = mod_below (pc + 1) 2048 (lit< tt)

pc_after_lt : (i : Instr) (s : State) → IsState s → pc_after i s < 2048
unfolding pc_after
pc_after_lt (Op o) s ok = following_lt s.regs.pc
pc_after_lt (Rt o) s ok = ok.stack_in (sp_down s.regs.sp) (mod_below _ 4 (lit< tt))
pc_after_lt (Jp c na spare) s ok = choice_lt (taken c s.regs) na.value _ na.in_range (following_lt s.regs.pc)
pc_after_lt (Ld value spare d) s ok = following_lt s.regs.pc

sp_called_lt : (c : Cond) (sp : ℕ) → sp < 4 → sp_called c sp < 4
sp_called_lt cond.Call sp h = mod_below _ 4 (lit< tt)
sp_called_lt _ sp h = h

sp_after_lt : (i : Instr) (s : State) → IsState s → sp_after i s < 4
unfolding sp_after
sp_after_lt (Op o) s ok = ok.regs_in.sp_in
sp_after_lt (Rt o) s ok = mod_below _ 4 (lit< tt)
sp_after_lt (Jp c na spare) s ok = sp_called_lt c s.regs.sp ok.regs_in.sp_in
sp_after_lt (Ld value spare d) s ok = ok.regs_in.sp_in

-- The lists: `n` numbers below `bound` stay so where one of them is replaced by another.
pub record IsFilled (n bound : ℕ) (xs : List ℕ) : Type 0 where
  pub len : length xs ≡ n
  pub each : (k : ℕ) → k < n → slice_index xs k < bound

slice_set_filled : (n bound : ℕ) (xs : List ℕ) (at x : ℕ) → IsFilled n bound xs → x < bound → IsFilled n bound (slice_set xs at x)
slice_set_filled n bound xs at x h hx = record {
  len = grind (arith, common_steps, h.len);
  each = λ k hk. let e : slice_index xs k < bound = h.each k hk in grind (arith, common_steps, e, h.len);
}

stack_filled : (s : State) → IsState s → IsFilled 4 2048 s.stack
stack_filled s ok = record { len = ok.stack_length; each = ok.stack_in }

ram_filled : (s : State) → IsState s → IsFilled 256 (2 ^ 16) s.ram
ram_filled s ok = record { len = ok.ram_length; each = ok.ram_in }

stack_called_filled : (c : Cond) (s : State) → IsState s → IsFilled 4 2048 (stack_called c s)
stack_called_filled cond.Call s ok = slice_set_filled 4 2048 s.stack _ _ (stack_filled s ok) (following_lt s.regs.pc)
stack_called_filled _ s ok = stack_filled s ok

stack_after_filled : (i : Instr) (s : State) → IsState s → IsFilled 4 2048 (stack_after i s)
unfolding stack_after
stack_after_filled (Op o) s ok = stack_filled s ok
stack_after_filled (Rt o) s ok = stack_filled s ok
stack_after_filled (Jp c na spare) s ok = stack_called_filled c s ok
stack_after_filled (Ld value spare d) s ok = stack_filled s ok

moved_ram_filled : (d : Dst) (bus : ℕ) (s : State) → bus < 2 ^ 16 → IsState s → IsFilled 256 (2 ^ 16) (moved_ram d bus s.regs.dp s.ram)
moved_ram_filled dst.Mem bus s hb ok = slice_set_filled 256 (2 ^ 16) s.ram s.regs.dp bus (ram_filled s ok) hb
moved_ram_filled _ bus s hb ok = ram_filled s ok

-- All of them.
regs_in_range : (i : Instr) (image : Image) (s : State) → IsNarrow i → IsState s → IsRegs (regs_after i image s)
unfolding regs_after rp_after dp_after a_after b_after tr_after trb_after k_after l_after dr_after sr_after so_after
regs_in_range i image s n ok =
    let bus : carried i image s < 2 ^ 16 = carried_narrow i image s n ok in
    record {
      pc_in = pc_after_lt i s ok;
      sp_in = sp_after_lt i s ok;
      rp_in = moved_rp_lt (target i) _ _ (rp_pointed_lt i s.regs.rp ok.regs_in.rp_in);
      dp_in = moved_dp_lt (target i) _ _ (dp_pointed_lt i s.regs.dp ok.regs_in.dp_in);
      a_in = moved_a_lt (target i) _ _ bus (worked_lt acc.A i image s ok);
      b_in = moved_b_lt (target i) _ _ bus (worked_lt acc.B i image s ok);
      tr_in = moved_tr_lt (target i) _ _ bus ok.regs_in.tr_in;
      trb_in = moved_trb_lt (target i) _ _ bus ok.regs_in.trb_in;
      k_in = moved_k_lt (target i) _ s bus ok;
      l_in = moved_l_lt (target i) _ image s bus ok;
      dr_in = moved_dr_lt (target i) _ _ bus ok.regs_in.dr_in;
      sr_in = moved_sr_lt (target i) _ _ (raised_in_lt i s.regs.sr ok.regs_in.sr_in);
      so_in = moved_so_lt (target i) _ _ bus ok.regs_in.so_in;
    }

pub next_by-in_range : (i : Instr) (image : Image) (s : State) → IsNarrow i → IsState s → IsState (next_by i image s)
unfolding next_by ram_after
next_by-in_range i image s n ok =
    let ram : IsFilled 256 (2 ^ 16) (moved_ram (target i) (carried i image s) s.regs.dp s.ram)
    = moved_ram_filled (target i) _ s (carried_narrow i image s n ok) ok in
    let stack : IsFilled 4 2048 (stack_after i s) = stack_after_filled i s ok in
    record {
      regs_in = regs_in_range i image s n ok;
      stack_length = stack.len;
      stack_in = stack.each;
      ram_length = ram.len;
      ram_in = ram.each;
    }

pub next-in_range : (image : Image) (s : State) → IsState s → IsState (next image s)
unfolding next
next-in_range image s ok = next_by-in_range (instr_at image s) image s (instr_of-narrow _) ok
