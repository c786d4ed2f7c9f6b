-- The codes of the fields. Each list holds the variants in the order of their codes, from 0 upwards.
use Rattle.std.specs.Prelude.{ℕ, List, [], ◌∷◌, get_or}
use Rattle.wb_word.specs.declared.codes.P.{P}
use Rattle.wb_word.specs.declared.codes.P.TheVariants as p
use Rattle.wb_word.specs.declared.codes.Alu.{Alu}
use Rattle.wb_word.specs.declared.codes.Alu.TheVariants as alu
use Rattle.wb_word.specs.declared.codes.Acc.{Acc}
use Rattle.wb_word.specs.declared.codes.Acc.TheVariants as acc
use Rattle.wb_word.specs.declared.codes.Dpl.{Dpl}
use Rattle.wb_word.specs.declared.codes.Dpl.TheVariants as dpl
use Rattle.wb_word.specs.declared.codes.Src.{Src}
use Rattle.wb_word.specs.declared.codes.Src.TheVariants as src
use Rattle.wb_word.specs.declared.codes.Dst.{Dst}
use Rattle.wb_word.specs.declared.codes.Dst.TheVariants as dst

abbrev pub p_code : P → ℕ
p_code p.Ram = 0
p_code p.Idb = 1
p_code p.M = 2
p_code p.N = 3

-- the operands in the order of their codes
abbrev pub p_list : List P
p_list =
    p.Ram ∷ p.Idb ∷ p.M ∷ p.N ∷ []

abbrev pub p_at : ℕ → P
p_at code = get_or p_list code p.Ram

abbrev pub alu_code : Alu → ℕ
alu_code alu.Nop = 0
alu_code alu.Or = 1
alu_code alu.And = 2
alu_code alu.Xor = 3
alu_code alu.Sub = 4
alu_code alu.Add = 5
alu_code alu.Sbb = 6
alu_code alu.Adc = 7
alu_code alu.Dec = 8
alu_code alu.Inc = 9
alu_code alu.Cmp = 10
alu_code alu.Shr1 = 11
alu_code alu.Shl1 = 12
alu_code alu.Shl2 = 13
alu_code alu.Shl4 = 14
alu_code alu.Xchg = 15

-- the operations in the order of their codes
abbrev pub alu_list : List Alu
alu_list =
    alu.Nop ∷ alu.Or ∷ alu.And ∷ alu.Xor ∷ alu.Sub ∷ alu.Add ∷ alu.Sbb ∷ alu.Adc ∷ alu.Dec ∷ alu.Inc
    ∷ alu.Cmp ∷ alu.Shr1 ∷ alu.Shl1 ∷ alu.Shl2 ∷ alu.Shl4 ∷ alu.Xchg ∷ []

abbrev pub alu_at : ℕ → Alu
alu_at code = get_or alu_list code alu.Nop

abbrev pub acc_code : Acc → ℕ
acc_code acc.A = 0
acc_code acc.B = 1

-- the accumulators in the order of their codes
abbrev pub acc_list : List Acc
acc_list =
    acc.A ∷ acc.B ∷ []

abbrev pub acc_at : ℕ → Acc
acc_at code = get_or acc_list code acc.A

abbrev pub dpl_code : Dpl → ℕ
dpl_code dpl.DpNop = 0
dpl_code dpl.DpInc = 1
dpl_code dpl.DpDec = 2
dpl_code dpl.DpClr = 3

-- the steps of DP in the order of their codes
abbrev pub dpl_list : List Dpl
dpl_list =
    dpl.DpNop ∷ dpl.DpInc ∷ dpl.DpDec ∷ dpl.DpClr ∷ []

abbrev pub dpl_at : ℕ → Dpl
dpl_at code = get_or dpl_list code dpl.DpNop

abbrev pub src_code : Src → ℕ
src_code src.Trb = 0
src_code src.A = 1
src_code src.B = 2
src_code src.Tr = 3
src_code src.Dp = 4
src_code src.Rp = 5
src_code src.Ro = 6
src_code src.Sgn = 7
src_code src.Dr = 8
src_code src.Drnf = 9
src_code src.Sr = 10
src_code src.Sim = 11
src_code src.Sil = 12
src_code src.K = 13
src_code src.L = 14
src_code src.Mem = 15

-- the sources in the order of their codes
abbrev pub src_list : List Src
src_list =
    src.Trb ∷ src.A ∷ src.B ∷ src.Tr ∷ src.Dp ∷ src.Rp ∷ src.Ro ∷ src.Sgn ∷ src.Dr ∷ src.Drnf ∷
    src.Sr ∷ src.Sim ∷ src.Sil ∷ src.K ∷ src.L ∷ src.Mem ∷ []

abbrev pub src_at : ℕ → Src
src_at code = get_or src_list code src.Trb

abbrev pub dst_code : Dst → ℕ
dst_code dst.Non = 0
dst_code dst.A = 1
dst_code dst.B = 2
dst_code dst.Tr = 3
dst_code dst.Dp = 4
dst_code dst.Rp = 5
dst_code dst.Dr = 6
dst_code dst.Sr = 7
dst_code dst.Sol = 8
dst_code dst.Som = 9
dst_code dst.K = 10
dst_code dst.Klr = 11
dst_code dst.Klm = 12
dst_code dst.L = 13
dst_code dst.Trb = 14
dst_code dst.Mem = 15

-- the destinations in the order of their codes
abbrev pub dst_list : List Dst
dst_list =
    dst.Non ∷ dst.A ∷ dst.B ∷ dst.Tr ∷ dst.Dp ∷ dst.Rp ∷ dst.Dr ∷ dst.Sr ∷ dst.Sol ∷ dst.Som ∷ dst.K
    ∷ dst.Klr ∷ dst.Klm ∷ dst.L ∷ dst.Trb ∷ dst.Mem ∷ []

abbrev pub dst_at : ℕ → Dst
dst_at code = get_or dst_list code dst.Non
