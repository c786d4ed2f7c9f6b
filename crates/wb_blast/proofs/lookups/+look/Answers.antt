use Rattle.std.proofs.Common.{◌+◌, ◌-◌, ◌*◌, ◌%◌, ◌^◌, true, false, refl, ap, ◌∙◌, arith, rules}
use Rattle.wb_term.specs.Terms.{table_words}
use Rattle.wb_equal.specs.Entries.{entry_value}
use Rattle.wb_blast.specs.Words.{number}
use Rattle.wb_blast.proofs.Looks.{halved_bits, looked_none, looked_known, looked_chosen, looked_extends}
use Rattle.wb_blast.proofs.lookups.+look.Goals as goal

pub returns-then-bits-eq0-clause-means : goal.returns-then-bits-eq0-clause-means
returns-then-bits-eq0-clause-means t c = record {
  there = c.constant_word.ensures.there _;
  value = λ v o. looked_none v c.args.x.now (table_words c.args.graph.now.tables c.args.table) c.args.bits c.args.first (number v c.constant_word.result) c.if-bits-eq0.true
      (c.constant_word.ensures.value v ∙ c.table_at.ensures.value);
}

pub look-requires : goal.look-requires
look-requires t c =
    let some = c.if-bits-eq0.false in
    let halved = halved_bits c.args.bits (omega (arith, some)) in
    let power = halved.power in let positive = halved.some in let within = c.requires.within in let few = c.requires.few in let room = c.requires.room in (
      search rules,
      (c.requires.kept, (omega (arith, few), (omega (arith, power, positive, within), (c.requires.there, omega (arith, power, positive, room))))),
    )

pub look-requires-in-F : goal.look-requires-in-F
look-requires-in-F t c =
    let some = c.if-bits-eq0.false in
    let halved = halved_bits c.args.bits (omega (arith, some)) in
    let power = halved.power in let positive = halved.some in let within = c.requires.within in let few = c.requires.few in let room = c.requires.room in (
      search rules,
      (c.requires.kept, (omega (arith, few), (omega (arith, power, positive, within), (c.requires.there, omega (arith, power, positive, room))))),
    )

pub look-requires-in_default : goal.look-requires-in_default
look-requires-in_default t c =
    let some = c.if-bits-eq0.false in
    let halved = halved_bits c.args.bits (omega (arith, some)) in
    let power = halved.power in let positive = halved.some in let within = c.requires.within in let few = c.requires.few in let room = c.requires.room in (
      search rules,
      (c.requires.kept, (omega (arith, few), (omega (arith, power, positive, within), (c.requires.there, omega (arith, power, positive, room))))),
    )

pub combine_words-requires-clause-room : goal.combine_words-requires-clause-room
combine_words-requires-clause-room t c =
    let some = c.if-bits-eq0.false in
    let halved = halved_bits c.args.bits (omega (arith, some)) in
    let power = halved.power in let positive = halved.some in let within = c.requires.within in let few = c.requires.few in let room = c.requires.room in
    let one = c.in_ok-high-in_default.ensures.extends in
    let two = c.in_ok-low-in_default.ensures.extends in
    let most = one.most in let more = two.most in let same = one.same_limit in let still = two.same_limit in
    omega (arith, power, positive, room, most, more, same, still)

pub returns-in_ok-high-in-T-clause-means : goal.returns-in_ok-high-in-T-clause-means
returns-in_ok-high-in-T-clause-means t c =
    let some = c.if-bits-eq0.false in
    let halved = halved_bits c.args.bits (omega (arith, some)) in
    let power = halved.power in let positive = halved.some in let within = c.requires.within in let few = c.requires.few in let room = c.requires.room in
    looked_known c.look.new.formula c.args.x.now c.in_ok-high-in-T.high (table_words c.args.graph.now.tables c.args.table) c.args.bits (c.args.bits - 1) c.args.first
    (c.args.first + 1 * 2 ^ (c.args.bits - 1) % 65536) (c.args.first + 1 * 2 ^ (c.args.bits - 1) % 65536) true (omega (arith, few, some)) halved (omega (arith, power, positive, within))
    (λ v. ap (entry_value v) c.in-T.is) refl c.in_ok-high-in-T.ensures.means

pub returns-in_ok-low-in-F-clause-means : goal.returns-in_ok-low-in-F-clause-means
returns-in_ok-low-in-F-clause-means t c =
    let some = c.if-bits-eq0.false in
    let halved = halved_bits c.args.bits (omega (arith, some)) in
    let power = halved.power in let positive = halved.some in let within = c.requires.within in let few = c.requires.few in let room = c.requires.room in
    looked_known c.look-in-F.new.formula c.args.x.now c.in_ok-low-in-F.low (table_words c.args.graph.now.tables c.args.table) c.args.bits (c.args.bits - 1) c.args.first
    (c.args.first + 1 * 2 ^ (c.args.bits - 1) % 65536) c.args.first false (omega (arith, few, some)) halved (omega (arith, power, positive, within))
    (λ v. ap (entry_value v) c.in-F.is) refl c.in_ok-low-in-F.ensures.means

pub returns-in_ok-word-in_default-clause-means : goal.returns-in_ok-word-in_default-clause-means
returns-in_ok-word-in_default-clause-means t c =
    let some = c.if-bits-eq0.false in
    let halved = halved_bits c.args.bits (omega (arith, some)) in
    let power = halved.power in let positive = halved.some in let within = c.requires.within in let few = c.requires.few in let room = c.requires.room in
    looked_chosen c.args.formula.now c.look-in_default.new.formula c.look-in_default-2.new.formula c.combine_words.new.formula c.args.x.now
    c.in_ok-high-in_default.high c.in_ok-low-in_default.low c.in_ok-word-in_default.word (table_words c.args.graph.now.tables c.args.table) c.args.bits (c.args.bits - 1) c.args.first
    (c.args.first + 1 * 2 ^ (c.args.bits - 1) % 65536) 16 (16 * (2 ^ (c.args.bits - 1) - 1)) (omega (arith, few, some)) halved (omega (arith, power, positive, within))
    c.in_ok-low-in_default.ensures.extends c.in_ok-word-in_default.ensures.extends c.in_ok-high-in_default.ensures.means c.in_ok-low-in_default.ensures.means
    c.in_ok-word-in_default.ensures.means

pub returns-in_ok-word-in_default-clause-extends : goal.returns-in_ok-word-in_default-clause-extends
returns-in_ok-word-in_default-clause-extends t c =
    let some = c.if-bits-eq0.false in
    let halved = halved_bits c.args.bits (omega (arith, some)) in
    let power = halved.power in let positive = halved.some in let within = c.requires.within in let few = c.requires.few in let room = c.requires.room in
    looked_extends c.args.formula.now c.look-in_default.new.formula c.look-in_default-2.new.formula c.combine_words.new.formula c.args.bits (c.args.bits - 1) halved
    c.in_ok-high-in_default.ensures.extends c.in_ok-low-in_default.ensures.extends c.in_ok-word-in_default.ensures.extends
