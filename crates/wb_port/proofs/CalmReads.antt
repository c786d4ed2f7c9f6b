-- What an instruction reads is the same whatever DR and the status register hold, where it doesn't touch the port.
use Rattle.std.proofs.Common.{◌≡◌, ℕ, false, refl}
use Rattle.std.proofs.lemmas.Bool.{or_parts}
use Rattle.wb_word.specs.declared.codes.Acc.{Acc}
use Rattle.wb_word.specs.declared.codes.Acc.TheVariants as acc
use Rattle.wb_word.specs.declared.codes.P.{P}
use Rattle.wb_word.specs.declared.codes.P.TheVariants as p
use Rattle.wb_word.specs.declared.codes.Src.{Src}
use Rattle.wb_word.specs.declared.codes.Src.TheVariants as src
use Rattle.wb_word.specs.declared.conditions.Cond.{Cond}
use Rattle.wb_word.specs.declared.conditions.Cond.TheVariants as cond
use Rattle.wb_word.specs.declared.words.OpWord.{OpWord}
use Rattle.wb_word.specs.declared.words.Instr.{Instr}
use Rattle.wb_word.specs.declared.words.Instr.TheVariants.{Op, Rt, Jp, Ld}
use Rattle.wb_rom.specs.declared.images.Image.{Image}
use Rattle.wb_machine.specs.State.{State}
use Rattle.wb_machine.specs.Next.{accumulator, flags_of, other, carried, bus_of, operand, computed, computed_flags, worked, worked_flags, worked_on, taken}
use Rattle.wb_port.specs.Port.{ported}
use Rattle.wb_port.specs.Wait.{src_touches, cond_tests, instr_touches}

pub bus_calm : (x : Src) (dr sr : ℕ) (image : Image) (m : State)
    → src_touches x ≡ false → bus_of x image (ported dr sr m) ≡ bus_of x image m
unfolding bus_of
bus_calm src.Dr dr sr image m calm = cc
bus_calm src.Drnf dr sr image m calm = cc
bus_calm src.Sr dr sr image m calm = cc
bus_calm _ dr sr image m calm = refl

pub carried_calm : (i : Instr) (dr sr : ℕ) (image : Image) (m : State)
    → instr_touches i ≡ false → carried i image (ported dr sr m) ≡ carried i image m
unfolding carried
carried_calm (Op o) dr sr image m calm = bus_calm o.src dr sr image m (or_parts _ _ calm).0
carried_calm (Rt o) dr sr image m calm = bus_calm o.src dr sr image m (or_parts _ _ calm).0
carried_calm (Jp c na spare) dr sr image m calm = refl
carried_calm (Ld value spare d) dr sr image m calm = refl

pub operand_calm : (p : P) (bus dr sr : ℕ) (m : State) → operand p bus (ported dr sr m) ≡ operand p bus m
unfolding operand
operand_calm p.Ram bus dr sr m = refl
operand_calm _ bus dr sr m = refl

accumulator_calm : (x : Acc) (dr sr : ℕ) (m : State) → accumulator x (ported dr sr m).regs ≡ accumulator x m.regs
accumulator_calm acc.A dr sr m = refl
accumulator_calm acc.B dr sr m = refl

flags_calm : (x : Acc) (dr sr : ℕ) (m : State) → flags_of x (ported dr sr m).regs ≡ flags_of x m.regs
flags_calm acc.A dr sr m = refl
flags_calm acc.B dr sr m = refl

pub computed_calm : (o : OpWord) (bus dr sr : ℕ) (m : State) → computed o bus (ported dr sr m) ≡ computed o bus m
unfolding computed
computed_calm o bus dr sr m =
    simp (operand_calm o.p bus dr sr m, accumulator_calm o.acc dr sr m, flags_calm (other o.acc) dr sr m)

pub computed_flags_calm : (o : OpWord) (bus dr sr : ℕ) (m : State)
    → computed_flags o bus (ported dr sr m) ≡ computed_flags o bus m
unfolding computed_flags
computed_flags_calm o bus dr sr m =
    simp (operand_calm o.p bus dr sr m, accumulator_calm o.acc dr sr m, flags_calm (other o.acc) dr sr m, flags_calm o.acc dr sr m)

worked_op : (x : Acc) (o : OpWord) (dr sr : ℕ) (image : Image) (m : State)
    → src_touches o.src ≡ false
    → worked_on x o.acc (computed o (bus_of o.src image (ported dr sr m)) (ported dr sr m)) (accumulator x (ported dr sr m).regs)
    ≡ worked_on x o.acc (computed o (bus_of o.src image m) m) (accumulator x m.regs)
worked_op x o dr sr image m calm =
    let b = bus_calm o.src dr sr image m calm in
    let a = accumulator_calm x dr sr m in
    simp (b, a, computed_calm)

flags_op : (x : Acc) (o : OpWord) (dr sr : ℕ) (image : Image) (m : State)
    → src_touches o.src ≡ false
    → worked_on x o.acc (computed_flags o (bus_of o.src image (ported dr sr m)) (ported dr sr m)) (flags_of x (ported dr sr m).regs)
    ≡ worked_on x o.acc (computed_flags o (bus_of o.src image m) m) (flags_of x m.regs)
flags_op x o dr sr image m calm =
    let b = bus_calm o.src dr sr image m calm in
    let a = flags_calm x dr sr m in
    simp (b, a, computed_flags_calm)

pub worked_calm : (x : Acc) (i : Instr) (dr sr : ℕ) (image : Image) (m : State)
    → instr_touches i ≡ false → worked x i image (ported dr sr m) ≡ worked x i image m
unfolding worked
worked_calm x (Op o) dr sr image m calm = worked_op x o dr sr image m (or_parts _ _ calm).0
worked_calm x (Rt o) dr sr image m calm = worked_op x o dr sr image m (or_parts _ _ calm).0
worked_calm x (Jp c na spare) dr sr image m calm = accumulator_calm x dr sr m
worked_calm x (Ld value spare d) dr sr image m calm = accumulator_calm x dr sr m

pub worked_flags_calm : (x : Acc) (i : Instr) (dr sr : ℕ) (image : Image) (m : State)
    → instr_touches i ≡ false → worked_flags x i image (ported dr sr m) ≡ worked_flags x i image m
unfolding worked_flags
worked_flags_calm x (Op o) dr sr image m calm = flags_op x o dr sr image m (or_parts _ _ calm).0
worked_flags_calm x (Rt o) dr sr image m calm = flags_op x o dr sr image m (or_parts _ _ calm).0
worked_flags_calm x (Jp c na spare) dr sr image m calm = flags_calm x dr sr m
worked_flags_calm x (Ld value spare d) dr sr image m calm = flags_calm x dr sr m

pub taken_calm : (c : Cond) (dr sr : ℕ) (m : State)
    → cond_tests c ≡ false → taken c (ported dr sr m).regs ≡ taken c m.regs
unfolding taken
taken_calm cond.Jrqm dr sr m calm = cc
taken_calm cond.Jnrqm dr sr m calm = cc
taken_calm _ dr sr m calm = refl
