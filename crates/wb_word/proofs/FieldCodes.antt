-- Codes and variants of each field go both ways.
use Rattle.std.proofs.Common.{◌≡◌, ℕ, zero, suc, ◌<◌, refl, arith, lit<}
use Rattle.wb_word.specs.Codes.{p_code, p_at, alu_code, alu_at, acc_code, acc_at, dpl_code, dpl_at, src_code, src_at, dst_code, dst_at}
use Rattle.wb_word.specs.declared.codes.P.{P}
use Rattle.wb_word.specs.declared.codes.P.TheVariants as p
use Rattle.wb_word.specs.declared.codes.Alu.{Alu}
use Rattle.wb_word.specs.declared.codes.Alu.TheVariants as alu
use Rattle.wb_word.specs.declared.codes.Acc.{Acc}
use Rattle.wb_word.specs.declared.codes.Acc.TheVariants as acc
use Rattle.wb_word.specs.declared.codes.Dpl.{Dpl}
use Rattle.wb_word.specs.declared.codes.Dpl.TheVariants as dpl
use Rattle.wb_word.specs.declared.codes.Src.{Src}
use Rattle.wb_word.specs.declared.codes.Src.TheVariants as src
use Rattle.wb_word.specs.declared.codes.Dst.{Dst}
use Rattle.wb_word.specs.declared.codes.Dst.TheVariants as dst

pub p_code_lt : (x : P) → p_code x < 4
p_code_lt p.Ram = lit< tt
p_code_lt _ = lit< tt

pub p_at-code : (x : P) → p_at (p_code x) ≡ x
p_at-code p.Ram = refl
p_at-code _ = refl

pub p_code-at : (n : ℕ) → n < 4 → p_code (p_at n) ≡ n
p_code-at zero below = refl
p_code-at (suc zero) below = refl
p_code-at (suc (suc zero)) below = refl
p_code-at (suc (suc (suc zero))) below = refl
p_code-at (suc (suc (suc (suc n)))) below = absurd (omega arith)

pub alu_code_lt : (x : Alu) → alu_code x < 16
alu_code_lt alu.Nop = lit< tt
alu_code_lt _ = lit< tt

pub alu_at-code : (x : Alu) → alu_at (alu_code x) ≡ x
alu_at-code alu.Nop = refl
alu_at-code _ = refl

pub alu_code-at : (n : ℕ) → n < 16 → alu_code (alu_at n) ≡ n
alu_code-at zero below = refl
alu_code-at (suc zero) below = refl
alu_code-at (suc (suc zero)) below = refl
alu_code-at (suc (suc (suc zero))) below = refl
alu_code-at (suc (suc (suc (suc zero)))) below = refl
alu_code-at (suc (suc (suc (suc (suc zero))))) below = refl
alu_code-at (suc (suc (suc (suc (suc (suc zero)))))) below = refl
alu_code-at (suc (suc (suc (suc (suc (suc (suc zero))))))) below = refl
alu_code-at (suc (suc (suc (suc (suc (suc (suc (suc zero)))))))) below = refl
alu_code-at (suc (suc (suc (suc (suc (suc (suc (suc (suc zero))))))))) below = refl
alu_code-at (suc (suc (suc (suc (suc (suc (suc (suc (suc (suc zero)))))))))) below = refl
alu_code-at (suc (suc (suc (suc (suc (suc (suc (suc (suc (suc (suc zero))))))))))) below = refl
alu_code-at (suc (suc (suc (suc (suc (suc (suc (suc (suc (suc (suc (suc zero)))))))))))) below = refl
alu_code-at (suc (suc (suc (suc (suc (suc (suc (suc (suc (suc (suc (suc (suc zero))))))))))))) below = refl
alu_code-at (suc (suc (suc (suc (suc (suc (suc (suc (suc (suc (suc (suc (suc (suc zero)))))))))))))) below = refl
alu_code-at (suc (suc (suc (suc (suc (suc (suc (suc (suc (suc (suc (suc (suc (suc (suc zero))))))))))))))) below = refl
alu_code-at (suc (suc (suc (suc (suc (suc (suc (suc (suc (suc (suc (suc (suc (suc (suc (suc n)))))))))))))))) below = absurd (omega arith)

pub acc_code_lt : (x : Acc) → acc_code x < 2
acc_code_lt acc.A = lit< tt
acc_code_lt _ = lit< tt

pub acc_at-code : (x : Acc) → acc_at (acc_code x) ≡ x
acc_at-code acc.A = refl
acc_at-code _ = refl

pub acc_code-at : (n : ℕ) → n < 2 → acc_code (acc_at n) ≡ n
acc_code-at zero below = refl
acc_code-at (suc zero) below = refl
acc_code-at (suc (suc n)) below = absurd (omega arith)

pub dpl_code_lt : (x : Dpl) → dpl_code x < 4
dpl_code_lt dpl.DpNop = lit< tt
dpl_code_lt _ = lit< tt

pub dpl_at-code : (x : Dpl) → dpl_at (dpl_code x) ≡ x
dpl_at-code dpl.DpNop = refl
dpl_at-code _ = refl

pub dpl_code-at : (n : ℕ) → n < 4 → dpl_code (dpl_at n) ≡ n
dpl_code-at zero below = refl
dpl_code-at (suc zero) below = refl
dpl_code-at (suc (suc zero)) below = refl
dpl_code-at (suc (suc (suc zero))) below = refl
dpl_code-at (suc (suc (suc (suc n)))) below = absurd (omega arith)

pub src_code_lt : (x : Src) → src_code x < 16
src_code_lt src.Trb = lit< tt
src_code_lt _ = lit< tt

pub src_at-code : (x : Src) → src_at (src_code x) ≡ x
src_at-code src.Trb = refl
src_at-code _ = refl

pub src_code-at : (n : ℕ) → n < 16 → src_code (src_at n) ≡ n
src_code-at zero below = refl
src_code-at (suc zero) below = refl
src_code-at (suc (suc zero)) below = refl
src_code-at (suc (suc (suc zero))) below = refl
src_code-at (suc (suc (suc (suc zero)))) below = refl
src_code-at (suc (suc (suc (suc (suc zero))))) below = refl
src_code-at (suc (suc (suc (suc (suc (suc zero)))))) below = refl
src_code-at (suc (suc (suc (suc (suc (suc (suc zero))))))) below = refl
src_code-at (suc (suc (suc (suc (suc (suc (suc (suc zero)))))))) below = refl
src_code-at (suc (suc (suc (suc (suc (suc (suc (suc (suc zero))))))))) below = refl
src_code-at (suc (suc (suc (suc (suc (suc (suc (suc (suc (suc zero)))))))))) below = refl
src_code-at (suc (suc (suc (suc (suc (suc (suc (suc (suc (suc (suc zero))))))))))) below = refl
src_code-at (suc (suc (suc (suc (suc (suc (suc (suc (suc (suc (suc (suc zero)))))))))))) below = refl
src_code-at (suc (suc (suc (suc (suc (suc (suc (suc (suc (suc (suc (suc (suc zero))))))))))))) below = refl
src_code-at (suc (suc (suc (suc (suc (suc (suc (suc (suc (suc (suc (suc (suc (suc zero)))))))))))))) below = refl
src_code-at (suc (suc (suc (suc (suc (suc (suc (suc (suc (suc (suc (suc (suc (suc (suc zero))))))))))))))) below = refl
src_code-at (suc (suc (suc (suc (suc (suc (suc (suc (suc (suc (suc (suc (suc (suc (suc (suc n)))))))))))))))) below = absurd (omega arith)

pub dst_code_lt : (x : Dst) → dst_code x < 16
dst_code_lt dst.Non = lit< tt
dst_code_lt _ = lit< tt

pub dst_at-code : (x : Dst) → dst_at (dst_code x) ≡ x
dst_at-code dst.Non = refl
dst_at-code _ = refl

pub dst_code-at : (n : ℕ) → n < 16 → dst_code (dst_at n) ≡ n
dst_code-at zero below = refl
dst_code-at (suc zero) below = refl
dst_code-at (suc (suc zero)) below = refl
dst_code-at (suc (suc (suc zero))) below = refl
dst_code-at (suc (suc (suc (suc zero)))) below = refl
dst_code-at (suc (suc (suc (suc (suc zero))))) below = refl
dst_code-at (suc (suc (suc (suc (suc (suc zero)))))) below = refl
dst_code-at (suc (suc (suc (suc (suc (suc (suc zero))))))) below = refl
dst_code-at (suc (suc (suc (suc (suc (suc (suc (suc zero)))))))) below = refl
dst_code-at (suc (suc (suc (suc (suc (suc (suc (suc (suc zero))))))))) below = refl
dst_code-at (suc (suc (suc (suc (suc (suc (suc (suc (suc (suc zero)))))))))) below = refl
dst_code-at (suc (suc (suc (suc (suc (suc (suc (suc (suc (suc (suc zero))))))))))) below = refl
dst_code-at (suc (suc (suc (suc (suc (suc (suc (suc (suc (suc (suc (suc zero)))))))))))) below = refl
dst_code-at (suc (suc (suc (suc (suc (suc (suc (suc (suc (suc (suc (suc (suc zero))))))))))))) below = refl
dst_code-at (suc (suc (suc (suc (suc (suc (suc (suc (suc (suc (suc (suc (suc (suc zero)))))))))))))) below = refl
dst_code-at (suc (suc (suc (suc (suc (suc (suc (suc (suc (suc (suc (suc (suc (suc (suc zero))))))))))))))) below = refl
dst_code-at (suc (suc (suc (suc (suc (suc (suc (suc (suc (suc (suc (suc (suc (suc (suc (suc n)))))))))))))))) below = absurd (omega arith)
