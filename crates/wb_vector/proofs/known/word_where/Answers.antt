use Rattle.std.proofs.Common.{◌≡◌, ℕ, Bool, true, subst, ◌∙◌, arith}
use Rattle.wb_diagram.specs.Forest.{Forest}
use Rattle.wb_diagram.specs.Values.{value}
use Rattle.wb_vector.specs.Vectors.{diagram_at}
use Rattle.wb_vector.proofs.Words.{taken_more}
use Rattle.wb_vector.proofs.known.word_where.Goals as goal

pub loop-at-preserved : goal.loop-at-preserved
loop-at-preserved c =
    let within = c.loop-at-test.true in
    let full = c.told-x in
    let told = subst
    (λ (f : Forest). (v : ℕ → Bool) → value v f c.args.condition ≡ true → value v f (diagram_at c.args.x.now c.loop-at.at) ≡ c.in_ok-bit.bit)
    c.loop-at.invariant.same c.in_ok-bit.ensures.some in
    record {
      same = c.in_ok-bit.ensures.same ∙ c.loop-at.invariant.same;
      small = c.with_bit-word.ensures.small;
      value = λ v h. taken_more v c.args.diagrams.now c.args.x.now c.loop-at.at c.loop-at.word c.with_bit-word.result c.in_ok-bit.bit (omega (arith, within, full))
          (c.loop-at.invariant.value v h) (told v h) c.with_bit-word.ensures.value;
    }
