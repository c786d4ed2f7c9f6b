-- A move to SR bit by bit.
use Rattle.std.proofs.Common.{◌≡◌, ℕ, zero, suc, ◌<◌, ap, ◌∙◌, arith, if◌then◌else◌}
use Rattle.wb_word.specs.declared.codes.Dst.{Dst}
use Rattle.wb_word.specs.declared.codes.Dst.TheVariants as dst
use Rattle.wb_rom.specs.declared.images.Image.{Image}
use Rattle.wb_machine.specs.State.{State}
use Rattle.wb_machine.specs.Next.{target, carried, merged, moved_sr, raised_in, sr_after, instr_at, next}
use Rattle.wb_machine.specs.Parts.{bit_of, is_written}
use Rattle.wb_machine.proofs.ByRegister.{next-sr}

merged_bit : (bus sr bit : ℕ) → bit < 16 → bit_of (merged bus sr) bit ≡ bit_of (if is_written bit then bus else sr) bit
merged_bit bus sr zero h = omega arith
merged_bit bus sr (suc zero) h = omega arith
merged_bit bus sr (suc (suc zero)) h = omega arith
merged_bit bus sr (suc (suc (suc zero))) h = omega arith
merged_bit bus sr (suc (suc (suc (suc zero)))) h = omega arith
merged_bit bus sr (suc (suc (suc (suc (suc zero))))) h = omega arith
merged_bit bus sr (suc (suc (suc (suc (suc (suc zero)))))) h = omega arith
merged_bit bus sr (suc (suc (suc (suc (suc (suc (suc zero))))))) h = omega arith
merged_bit bus sr (suc (suc (suc (suc (suc (suc (suc (suc zero)))))))) h = omega arith
merged_bit bus sr (suc (suc (suc (suc (suc (suc (suc (suc (suc zero))))))))) h = omega arith
merged_bit bus sr (suc (suc (suc (suc (suc (suc (suc (suc (suc (suc zero)))))))))) h = omega arith
merged_bit bus sr (suc (suc (suc (suc (suc (suc (suc (suc (suc (suc (suc zero))))))))))) h = omega arith
merged_bit bus sr (suc (suc (suc (suc (suc (suc (suc (suc (suc (suc (suc (suc zero)))))))))))) h = omega arith
merged_bit bus sr (suc (suc (suc (suc (suc (suc (suc (suc (suc (suc (suc (suc (suc zero))))))))))))) h = omega arith
merged_bit bus sr (suc (suc (suc (suc (suc (suc (suc (suc (suc (suc (suc (suc (suc (suc zero)))))))))))))) h = omega arith
merged_bit bus sr (suc (suc (suc (suc (suc (suc (suc (suc (suc (suc (suc (suc (suc (suc (suc zero))))))))))))))) h = omega arith
merged_bit bus sr (suc (suc (suc (suc (suc (suc (suc (suc (suc (suc (suc (suc (suc (suc (suc (suc more)))))))))))))))) h = absurd (omega (arith, h))

sr_merged : (d : Dst) (bus sr : ℕ) → d ≡ dst.Sr → moved_sr d bus sr ≡ merged bus sr
sr_merged d bus sr e = ap (λ x. moved_sr x bus sr) e

pub sr_by_bits : (image : Image) (s : State) (bit : ℕ) → target (instr_at image s) ≡ dst.Sr → bit < 16
    → bit_of (next image s).regs.sr bit
    ≡ bit_of (if is_written bit then carried (instr_at image s) image s else raised_in (instr_at image s) s.regs.sr) bit
unfolding sr_after
sr_by_bits image s bit e h =
    ap (λ n. bit_of n bit) (next-sr image s ∙ sr_merged (target (instr_at image s)) _ _ e)
    ∙ merged_bit _ _ bit h
