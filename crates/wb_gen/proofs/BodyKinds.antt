-- The body of each number has 64 words of the kind that bodies have.
use Rattle.std.proofs.Common.{◌≡◌, ℕ, zero, suc, ◌+◌, ◌*◌, ◌/◌, ◌%◌, ◌^◌, ◌<◌, false, get_or, refl, sym, ap, subst, ◌∙◌, arith, lit<}
use Rattle.std.specs.Prelude.{All}
use Rattle.std.specs.List.{range_with_len}
use Rattle.std.proofs.lemmas.Nat.{mod_below}
use Rattle.std.proofs.lemmas.List.Elements.{All-map, Contains-get_or}
use Rattle.wb_word.specs.Codes.{alu_code, acc_code, src_code, dst_code, alu_at, acc_at}
use Rattle.wb_word.specs.Encoding.{number, nibble_at, instr_of}
use Rattle.wb_word.specs.declared.codes.Dpl.TheVariants as dpl
use Rattle.wb_word.specs.declared.codes.Dst.{Dst}
use Rattle.wb_word.specs.declared.codes.Dst.TheVariants as dst
use Rattle.wb_word.specs.declared.codes.P.TheVariants as p
use Rattle.wb_word.specs.declared.codes.Src.{Src}
use Rattle.wb_word.specs.declared.codes.Src.TheVariants as src
use Rattle.wb_word.specs.declared.words.OpWord.{OpWord}
use Rattle.wb_word.specs.declared.words.Instr.{Instr}
use Rattle.wb_word.specs.declared.words.Instr.TheVariants.{Op}
use Rattle.wb_gen.specs.Demo.{body_sources, body_targets, word_of_bits, body_word, body_of, IsBodyWord}
use Rattle.wb_gen.specs.Laws.{NumbersHaveBodies}
use Rattle.wb_gen.proofs.BodyWords.{body_length}

-- each code of an operation, an accumulator names one
alu_named : (n : ℕ) → n < 16 → alu_code (alu_at n) ≡ n
alu_named zero less = refl
alu_named (suc zero) less = refl
alu_named (suc (suc zero)) less = refl
alu_named (suc (suc (suc zero))) less = refl
alu_named (suc (suc (suc (suc zero)))) less = refl
alu_named (suc (suc (suc (suc (suc zero))))) less = refl
alu_named (suc (suc (suc (suc (suc (suc zero)))))) less = refl
alu_named (suc (suc (suc (suc (suc (suc (suc zero))))))) less = refl
alu_named (suc (suc (suc (suc (suc (suc (suc (suc zero)))))))) less = refl
alu_named (suc (suc (suc (suc (suc (suc (suc (suc (suc zero))))))))) less = refl
alu_named (suc (suc (suc (suc (suc (suc (suc (suc (suc (suc zero)))))))))) less = refl
alu_named (suc (suc (suc (suc (suc (suc (suc (suc (suc (suc (suc zero))))))))))) less = refl
alu_named (suc (suc (suc (suc (suc (suc (suc (suc (suc (suc (suc (suc zero)))))))))))) less = refl
alu_named (suc (suc (suc (suc (suc (suc (suc (suc (suc (suc (suc (suc (suc zero))))))))))))) less = refl
alu_named (suc (suc (suc (suc (suc (suc (suc (suc (suc (suc (suc (suc (suc (suc zero)))))))))))))) less = refl
alu_named (suc (suc (suc (suc (suc (suc (suc (suc (suc (suc (suc (suc (suc (suc (suc zero))))))))))))))) less = refl
alu_named (suc (suc (suc (suc (suc (suc (suc (suc (suc (suc (suc (suc (suc (suc (suc (suc n)))))))))))))))) less = absurd (omega arith)

acc_named : (n : ℕ) → n < 2 → acc_code (acc_at n) ≡ n
acc_named zero less = refl
acc_named (suc zero) less = refl
acc_named (suc (suc n)) less = absurd (omega arith)

src_below : (x : Src) → src_code x < 16
src_below src.Trb = lit< tt
src_below _ = lit< tt

dst_below : (x : Dst) → dst_code x < 16
dst_below dst.Non = lit< tt
dst_below _ = lit< tt

-- the instruction of drawn bits
op_of : ℕ → OpWord
op_of d =
    record {
      p = p.Idb;
      alu = alu_at (d % 16);
      acc = acc_at (d / 2 ^ 4 % 2);
      dpl = dpl.DpNop;
      dphm = nibble_at 0;
      rpdec = false;
      src = get_or body_sources (d / 2 ^ 5 % 8) src.A;
      dst = get_or body_targets (d / 2 ^ 8 % 8) dst.Non;
    }

with_zeros : (a c s t : ℕ) → 1 * 2 ^ 20 + a * 2 ^ 16 + c * 2 ^ 15 + s * 2 ^ 4 + t ≡ 1 * 2 ^ 20 + a * 2 ^ 16 + c * 2 ^ 15 + 0 * 2 ^ 13 + 0 * 2 ^ 9 + 0 * 2 ^ 8 + s * 2 ^ 4 + t
with_zeros a c s t = omega arith

in_words : (a c s t : ℕ) → a < 16 → c < 2 → s < 16 → t < 16 → 1 * 2 ^ 20 + a * 2 ^ 16 + c * 2 ^ 15 + s * 2 ^ 4 + t < 2 ^ 24
in_words a c s t la lc ls lt = omega arith

word_is : (d : ℕ) → word_of_bits d ≡ number (Op (op_of d))
unfolding word_of_bits op_of
word_is d =
    let s = src_code (get_or body_sources (d / 2 ^ 5 % 8) src.A) in
    let t = dst_code (get_or body_targets (d / 2 ^ 8 % 8) dst.Non) in
    let a = alu_named (d % 16) (mod_below d 16 (lit< tt)) in
    let c = acc_named (d / 2 ^ 4 % 2) (mod_below (d / 2 ^ 4) 2 (lit< tt)) in
    with_zeros (d % 16) (d / 2 ^ 4 % 2) s t
    ∙ (ap (λ (x : ℕ). 1 * 2 ^ 20 + x * 2 ^ 16 + d / 2 ^ 4 % 2 * 2 ^ 15 + 0 * 2 ^ 13 + 0 * 2 ^ 9 + 0 * 2 ^ 8 + s * 2 ^ 4 + t) (sym a)
    ∙ ap (λ (x : ℕ). 1 * 2 ^ 20 + alu_code (alu_at (d % 16)) * 2 ^ 16 + x * 2 ^ 15 + 0 * 2 ^ 13 + 0 * 2 ^ 9 + 0 * 2 ^ 8 + s * 2 ^ 4 + t) (sym c))

word_below : (d : ℕ) → word_of_bits d < 2 ^ 24
unfolding word_of_bits
word_below d =
    in_words (d % 16) (d / 2 ^ 4 % 2) _ _ (mod_below d 16 (lit< tt)) (mod_below (d / 2 ^ 4) 2 (lit< tt))
    (src_below (get_or body_sources (d / 2 ^ 5 % 8) src.A)) (dst_below (get_or body_targets (d / 2 ^ 8 % 8) dst.Non))

module _ (coded : (i : Instr) → number i < 2 ^ 24 → instr_of (number i) ≡ i) where
  drawn_word : (d : ℕ) → IsBodyWord (word_of_bits d)
  unfolding op_of
  drawn_word d =
      record {
        op = op_of d;
        decoded =
            ap instr_of (word_is d)
            ∙ coded (Op (op_of d)) (subst (λ (n : ℕ). n < 2 ^ 24) (word_is d) (word_below d));
        operand = refl;
        low = refl;
        high = refl;
        rpdec = refl;
        source = Contains-get_or body_sources (d / 2 ^ 5 % 8) src.A (mod_below (d / 2 ^ 5) 8 (lit< tt));
        goal = Contains-get_or body_targets (d / 2 ^ 8 % 8) dst.Non (mod_below (d / 2 ^ 8) 8 (lit< tt));
      }

  words_of : (number : ℕ) → All IsBodyWord (body_of number)
  unfolding body_of
  words_of number = All-map IsBodyWord (body_word number) (range_with_len 1 64) (λ k x less. drawn_word _)

  pub numbers_have_bodies : NumbersHaveBodies
  numbers_have_bodies number = record { len = body_length number; words = words_of number }
