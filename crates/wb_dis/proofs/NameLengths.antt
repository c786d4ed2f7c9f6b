-- The names of the source language are short.
use Rattle.std.proofs.Common.{◌≤◌, [], length, unwrap_or, lit≤}
use Rattle.wb_word.specs.declared.codes.P.{P}
use Rattle.wb_word.specs.declared.codes.P.TheVariants as p
use Rattle.wb_word.specs.declared.codes.Alu.{Alu}
use Rattle.wb_word.specs.declared.codes.Alu.TheVariants as alu
use Rattle.wb_word.specs.declared.codes.Acc.{Acc}
use Rattle.wb_word.specs.declared.codes.Acc.TheVariants as acc
use Rattle.wb_word.specs.declared.codes.Dpl.{Dpl}
use Rattle.wb_word.specs.declared.codes.Dpl.TheVariants as dpl
use Rattle.wb_word.specs.declared.codes.Src.{Src}
use Rattle.wb_word.specs.declared.codes.Src.TheVariants as src
use Rattle.wb_word.specs.declared.codes.Dst.{Dst}
use Rattle.wb_word.specs.declared.codes.Dst.TheVariants as dst
use Rattle.wb_word.specs.declared.conditions.Cond.{Cond}
use Rattle.wb_word.specs.declared.conditions.Cond.TheVariants as cond
use Rattle.wb_word.specs.Names.{p_name, alu_name, acc_name, dpl_name, src_name, dst_name, cond_name}

pub p_name-short : (x : P) → length (p_name x) ≤ 3
p_name-short p.Ram = lit≤ tt
p_name-short p.Idb = lit≤ tt
p_name-short p.M = lit≤ tt
p_name-short p.N = lit≤ tt

pub alu_name-short : (x : Alu) → length (alu_name x) ≤ 4
alu_name-short alu.Nop = lit≤ tt
alu_name-short alu.Or = lit≤ tt
alu_name-short alu.And = lit≤ tt
alu_name-short alu.Xor = lit≤ tt
alu_name-short alu.Sub = lit≤ tt
alu_name-short alu.Add = lit≤ tt
alu_name-short alu.Sbb = lit≤ tt
alu_name-short alu.Adc = lit≤ tt
alu_name-short alu.Dec = lit≤ tt
alu_name-short alu.Inc = lit≤ tt
alu_name-short alu.Cmp = lit≤ tt
alu_name-short alu.Shr1 = lit≤ tt
alu_name-short alu.Shl1 = lit≤ tt
alu_name-short alu.Shl2 = lit≤ tt
alu_name-short alu.Shl4 = lit≤ tt
alu_name-short alu.Xchg = lit≤ tt

pub acc_name-short : (x : Acc) → length (acc_name x) ≤ 1
acc_name-short acc.A = lit≤ tt
acc_name-short acc.B = lit≤ tt

pub dpl_name-short : (x : Dpl) → length (dpl_name x) ≤ 5
dpl_name-short dpl.DpNop = lit≤ tt
dpl_name-short dpl.DpInc = lit≤ tt
dpl_name-short dpl.DpDec = lit≤ tt
dpl_name-short dpl.DpClr = lit≤ tt

pub src_name-short : (x : Src) → length (src_name x) ≤ 4
src_name-short src.Trb = lit≤ tt
src_name-short src.A = lit≤ tt
src_name-short src.B = lit≤ tt
src_name-short src.Tr = lit≤ tt
src_name-short src.Dp = lit≤ tt
src_name-short src.Rp = lit≤ tt
src_name-short src.Ro = lit≤ tt
src_name-short src.Sgn = lit≤ tt
src_name-short src.Dr = lit≤ tt
src_name-short src.Drnf = lit≤ tt
src_name-short src.Sr = lit≤ tt
src_name-short src.Sim = lit≤ tt
src_name-short src.Sil = lit≤ tt
src_name-short src.K = lit≤ tt
src_name-short src.L = lit≤ tt
src_name-short src.Mem = lit≤ tt

pub dst_name-short : (x : Dst) → length (dst_name x) ≤ 3
dst_name-short dst.Non = lit≤ tt
dst_name-short dst.A = lit≤ tt
dst_name-short dst.B = lit≤ tt
dst_name-short dst.Tr = lit≤ tt
dst_name-short dst.Dp = lit≤ tt
dst_name-short dst.Rp = lit≤ tt
dst_name-short dst.Dr = lit≤ tt
dst_name-short dst.Sr = lit≤ tt
dst_name-short dst.Sol = lit≤ tt
dst_name-short dst.Som = lit≤ tt
dst_name-short dst.K = lit≤ tt
dst_name-short dst.Klr = lit≤ tt
dst_name-short dst.Klm = lit≤ tt
dst_name-short dst.L = lit≤ tt
dst_name-short dst.Trb = lit≤ tt
dst_name-short dst.Mem = lit≤ tt

-- without a name it is short too
pub cond_name-short : (x : Cond) → length (unwrap_or (cond_name x) []) ≤ 6
cond_name-short cond.Jnca = lit≤ tt
cond_name-short cond.Jca = lit≤ tt
cond_name-short cond.Jncb = lit≤ tt
cond_name-short cond.Jcb = lit≤ tt
cond_name-short cond.Jnza = lit≤ tt
cond_name-short cond.Jza = lit≤ tt
cond_name-short cond.Jnzb = lit≤ tt
cond_name-short cond.Jzb = lit≤ tt
cond_name-short cond.Jnova0 = lit≤ tt
cond_name-short cond.Jova0 = lit≤ tt
cond_name-short cond.Jnovb0 = lit≤ tt
cond_name-short cond.Jovb0 = lit≤ tt
cond_name-short cond.Jnova1 = lit≤ tt
cond_name-short cond.Jova1 = lit≤ tt
cond_name-short cond.Jnovb1 = lit≤ tt
cond_name-short cond.Jovb1 = lit≤ tt
cond_name-short cond.Jnsa0 = lit≤ tt
cond_name-short cond.Jsa0 = lit≤ tt
cond_name-short cond.Jnsb0 = lit≤ tt
cond_name-short cond.Jsb0 = lit≤ tt
cond_name-short cond.Jnsa1 = lit≤ tt
cond_name-short cond.Jsa1 = lit≤ tt
cond_name-short cond.Jnsb1 = lit≤ tt
cond_name-short cond.Jsb1 = lit≤ tt
cond_name-short cond.Jdpl0 = lit≤ tt
cond_name-short cond.Jdpln0 = lit≤ tt
cond_name-short cond.Jdplf = lit≤ tt
cond_name-short cond.Jdplnf = lit≤ tt
cond_name-short cond.Jnsiak = lit≤ tt
cond_name-short cond.Jsiak = lit≤ tt
cond_name-short cond.Jnsoak = lit≤ tt
cond_name-short cond.Jsoak = lit≤ tt
cond_name-short cond.Jnrqm = lit≤ tt
cond_name-short cond.Jrqm = lit≤ tt
cond_name-short cond.Jmp = lit≤ tt
cond_name-short cond.Call = lit≤ tt
cond_name-short (cond.Other other) = lit≤ tt

pub ruleset short_names = (p_name-short, alu_name-short, acc_name-short, dpl_name-short, src_name-short, dst_name-short, cond_name-short)
