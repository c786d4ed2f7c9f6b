use Rattle.std.proofs.Common.{◌+◌, ◌-◌, ◌*◌, ◌%◌, ◌^◌, true, false, refl, ◌∙◌, arith, rules}
use Rattle.std.proofs.lemmas.Result.{IfOk-weaker}
use Rattle.wb_vector.proofs.Looks.{halved_bits, looked_known, looked_chosen}
use Rattle.wb_vector.proofs.Words.{there_kept}
use Rattle.wb_vector.proofs.lookups.+look_from.Goals as goal

pub look_from-requires : goal.look_from-requires
look_from-requires t c =
    let some = c.if-bits-eq0.false in
    let halved = halved_bits c.args.bits (omega (arith, some)) in
    let power = halved.power in let positive = halved.some in let within = c.requires.within in let few = c.requires.few in (
      search rules,
      (c.requires.words, (omega (arith, few), (omega (arith, power, positive, within), c.requires.there))),
    )

pub look_from-requires-in-Some-false : goal.look_from-requires-in-Some-false
look_from-requires-in-Some-false t c =
    let some = c.if-bits-eq0.false in
    let halved = halved_bits c.args.bits (omega (arith, some)) in
    let power = halved.power in let positive = halved.some in let within = c.requires.within in let few = c.requires.few in (
      search rules,
      (c.requires.words, (omega (arith, few), (omega (arith, power, positive, within), c.requires.there))),
    )

pub look_from-requires-in-None : goal.look_from-requires-in-None
look_from-requires-in-None t c =
    let some = c.if-bits-eq0.false in
    let halved = halved_bits c.args.bits (omega (arith, some)) in
    let power = halved.power in let positive = halved.some in let within = c.requires.within in let few = c.requires.few in (
      search rules,
      (c.requires.words, (omega (arith, few), (omega (arith, power, positive, within), c.requires.there))),
    )

pub look_from-requires-in-None-2 : goal.look_from-requires-in-None-2
look_from-requires-in-None-2 t c =
    let some = c.if-bits-eq0.false in
    let halved = halved_bits c.args.bits (omega (arith, some)) in
    let power = halved.power in let positive = halved.some in let within = c.requires.within in let few = c.requires.few in (
      search rules,
      (
        c.requires.words,
        (
          omega (arith, few),
          (
            omega (arith, power, positive, within),
            there_kept c.args.diagrams.now c.look_from-in-None.new.diagrams c.args.x.now c.in_ok-high-in-None.ensures.grown c.requires.there,
          ),
        ),
      ),
    )

pub returns-in-Some-true-clause-means : goal.returns-in-Some-true-clause-means
returns-in-Some-true-clause-means t c =
    let some = c.if-bits-eq0.false in
    let halved = halved_bits c.args.bits (omega (arith, some)) in
    let power = halved.power in let positive = halved.some in let within = c.requires.within in let few = c.requires.few in
    IfOk-weaker c.look_from.result _ _
    (λ w is. looked_known c.args.diagrams.now c.look_from.new.diagrams c.args.x.now w c.args.words.now c.args.bits (c.args.bits - 1) c.args.first
    (c.args.first + 2 ^ (c.args.bits - 1)) (c.args.first + 1 * 2 ^ (c.args.bits - 1) % 18446744073709551616) true (omega (arith, few, some)) halved refl
    (λ v. c.in-Some-true.ensures.some v ∙ c.in-Some-true.field-0-test) (omega (arith, power, positive, within)) is)
    c.look_from.ensures.means

pub returns-in-Some-false-clause-means : goal.returns-in-Some-false-clause-means
returns-in-Some-false-clause-means t c =
    let some = c.if-bits-eq0.false in
    let halved = halved_bits c.args.bits (omega (arith, some)) in
    let few = c.requires.few in
    IfOk-weaker c.look_from-in-Some-false.result _ _
    (λ w is. looked_known c.args.diagrams.now c.look_from-in-Some-false.new.diagrams c.args.x.now w c.args.words.now c.args.bits (c.args.bits - 1) c.args.first
    (c.args.first + 2 ^ (c.args.bits - 1)) c.args.first false (omega (arith, few, some)) halved refl
    (λ v. c.in-Some-false.ensures.some v ∙ c.in-Some-false.field-0-test) refl is)
    c.look_from-in-Some-false.ensures.means

pub returns-in_ok-low-in-None-clause-means : goal.returns-in_ok-low-in-None-clause-means
returns-in_ok-low-in-None-clause-means t c =
    let some = c.if-bits-eq0.false in
    let halved = halved_bits c.args.bits (omega (arith, some)) in
    let power = halved.power in let positive = halved.some in let within = c.requires.within in let few = c.requires.few in
    IfOk-weaker c.choose_word.result _ _
    (λ w is. looked_chosen c.args.diagrams.now c.look_from-in-None.new.diagrams c.look_from-in-None-2.new.diagrams c.choose_word.new.diagrams c.args.x.now
    c.in_ok-high-in-None.high c.in_ok-low-in-None.low w c.args.words.now c.args.bits (c.args.bits - 1) c.args.first
    (c.args.first + 1 * 2 ^ (c.args.bits - 1) % 18446744073709551616) (omega (arith, few, some)) halved (omega (arith, power, positive, within))
    c.requires.there c.in_ok-high-in-None.ensures.grown c.in_ok-low-in-None.ensures.grown
    c.in_ok-high-in-None.ensures.means c.in_ok-low-in-None.ensures.means is)
    c.choose_word.ensures.means
