-- The names of the source language.
use Rattle.std.specs.Prelude.{ℕ, List, codes, Option, Some, None}
use Rattle.wb_word.specs.declared.codes.P.{P}
use Rattle.wb_word.specs.declared.codes.P.TheVariants as p
use Rattle.wb_word.specs.declared.codes.Alu.{Alu}
use Rattle.wb_word.specs.declared.codes.Alu.TheVariants as alu
use Rattle.wb_word.specs.declared.codes.Acc.{Acc}
use Rattle.wb_word.specs.declared.codes.Acc.TheVariants as acc
use Rattle.wb_word.specs.declared.codes.Dpl.{Dpl}
use Rattle.wb_word.specs.declared.codes.Dpl.TheVariants as dpl
use Rattle.wb_word.specs.declared.codes.Src.{Src}
use Rattle.wb_word.specs.declared.codes.Src.TheVariants as src
use Rattle.wb_word.specs.declared.codes.Dst.{Dst}
use Rattle.wb_word.specs.declared.codes.Dst.TheVariants as dst
use Rattle.wb_word.specs.declared.conditions.Cond.{Cond}
use Rattle.wb_word.specs.declared.conditions.Cond.TheVariants as cond

abbrev pub p_name : P → List ℕ
p_name p.Ram = codes "ram"
p_name p.Idb = codes "idb"
p_name p.M = codes "m"
p_name p.N = codes "n"

abbrev pub alu_name : Alu → List ℕ
alu_name alu.Nop = codes "nop"
alu_name alu.Or = codes "or"
alu_name alu.And = codes "and"
alu_name alu.Xor = codes "xor"
alu_name alu.Sub = codes "sub"
alu_name alu.Add = codes "add"
alu_name alu.Sbb = codes "sbb"
alu_name alu.Adc = codes "adc"
alu_name alu.Dec = codes "dec"
alu_name alu.Inc = codes "inc"
alu_name alu.Cmp = codes "cmp"
alu_name alu.Shr1 = codes "shr1"
alu_name alu.Shl1 = codes "shl1"
alu_name alu.Shl2 = codes "shl2"
alu_name alu.Shl4 = codes "shl4"
alu_name alu.Xchg = codes "xchg"

abbrev pub acc_name : Acc → List ℕ
acc_name acc.A = codes "a"
acc_name acc.B = codes "b"

abbrev pub dpl_name : Dpl → List ℕ
dpl_name dpl.DpNop = codes "dpnop"
dpl_name dpl.DpInc = codes "dpinc"
dpl_name dpl.DpDec = codes "dpdec"
dpl_name dpl.DpClr = codes "dpclr"

abbrev pub src_name : Src → List ℕ
src_name src.Trb = codes "trb"
src_name src.A = codes "a"
src_name src.B = codes "b"
src_name src.Tr = codes "tr"
src_name src.Dp = codes "dp"
src_name src.Rp = codes "rp"
src_name src.Ro = codes "ro"
src_name src.Sgn = codes "sgn"
src_name src.Dr = codes "dr"
src_name src.Drnf = codes "drnf"
src_name src.Sr = codes "sr"
src_name src.Sim = codes "sim"
src_name src.Sil = codes "sil"
src_name src.K = codes "k"
src_name src.L = codes "l"
src_name src.Mem = codes "mem"

abbrev pub dst_name : Dst → List ℕ
dst_name dst.Non = codes "non"
dst_name dst.A = codes "a"
dst_name dst.B = codes "b"
dst_name dst.Tr = codes "tr"
dst_name dst.Dp = codes "dp"
dst_name dst.Rp = codes "rp"
dst_name dst.Dr = codes "dr"
dst_name dst.Sr = codes "sr"
dst_name dst.Sol = codes "sol"
dst_name dst.Som = codes "som"
dst_name dst.K = codes "k"
dst_name dst.Klr = codes "klr"
dst_name dst.Klm = codes "klm"
dst_name dst.L = codes "l"
dst_name dst.Trb = codes "trb"
dst_name dst.Mem = codes "mem"

abbrev pub cond_name : Cond → Option (List ℕ)
cond_name cond.Jnca = Some (codes "jnca")
cond_name cond.Jca = Some (codes "jca")
cond_name cond.Jncb = Some (codes "jncb")
cond_name cond.Jcb = Some (codes "jcb")
cond_name cond.Jnza = Some (codes "jnza")
cond_name cond.Jza = Some (codes "jza")
cond_name cond.Jnzb = Some (codes "jnzb")
cond_name cond.Jzb = Some (codes "jzb")
cond_name cond.Jnova0 = Some (codes "jnova0")
cond_name cond.Jova0 = Some (codes "jova0")
cond_name cond.Jnovb0 = Some (codes "jnovb0")
cond_name cond.Jovb0 = Some (codes "jovb0")
cond_name cond.Jnova1 = Some (codes "jnova1")
cond_name cond.Jova1 = Some (codes "jova1")
cond_name cond.Jnovb1 = Some (codes "jnovb1")
cond_name cond.Jovb1 = Some (codes "jovb1")
cond_name cond.Jnsa0 = Some (codes "jnsa0")
cond_name cond.Jsa0 = Some (codes "jsa0")
cond_name cond.Jnsb0 = Some (codes "jnsb0")
cond_name cond.Jsb0 = Some (codes "jsb0")
cond_name cond.Jnsa1 = Some (codes "jnsa1")
cond_name cond.Jsa1 = Some (codes "jsa1")
cond_name cond.Jnsb1 = Some (codes "jnsb1")
cond_name cond.Jsb1 = Some (codes "jsb1")
cond_name cond.Jdpl0 = Some (codes "jdpl0")
cond_name cond.Jdpln0 = Some (codes "jdpln0")
cond_name cond.Jdplf = Some (codes "jdplf")
cond_name cond.Jdplnf = Some (codes "jdplnf")
cond_name cond.Jnsiak = Some (codes "jnsiak")
cond_name cond.Jsiak = Some (codes "jsiak")
cond_name cond.Jnsoak = Some (codes "jnsoak")
cond_name cond.Jsoak = Some (codes "jsoak")
cond_name cond.Jnrqm = Some (codes "jnrqm")
cond_name cond.Jrqm = Some (codes "jrqm")
cond_name cond.Jmp = Some (codes "jmp")
cond_name cond.Call = Some (codes "call")
cond_name (cond.Other other) = None
