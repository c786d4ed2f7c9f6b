use Rattle.std.proofs.Common.{length, sym, subst, arith, rules}
use Rattle.std.proofs.lemmas.Nat.{pow_pos}
use Rattle.wb_fold.specs.Ram.{HasWords, AreAddressBits}
use Rattle.wb_fold.proofs.Growth.{◌▸◌}
use Rattle.wb_fold.proofs.RamLaws.{HasWords-take, HasWords-drop, HasWords-kept, AreAddressBits-kept, OnOk-map, power-opened}
use Rattle.wb_fold.proofs.StoreLaws.{Appends-halves, store-adds_none, store-adds_one, store-adds_two}
use Rattle.wb_fold.proofs.store.+store.Goals as goal

pub returns-in_err-low-clause-adds : goal.returns-in_err-low-clause-adds
returns-in_err-low-clause-adds t c =
    let double = power-opened c.args.bits.now c.in-Some.top.now c.in-Some.rest.now c.in-Some.ensures.cases.0 in
    store-adds_none c.args.graph.now c.halves.new.graph _ _ double (pow_pos (length c.in-Some.rest.now)) c.halves.ensures.adds

pub store-requires : goal.store-requires
store-requires t c =
    let split = c.in-Some.ensures.cases in
    let double = power-opened c.args.bits.now c.in-Some.top.now c.in-Some.rest.now split.0 in
    let positive = pow_pos (length c.in-Some.rest.now) in
    let are = subst (AreAddressBits c.args.graph.now) split.0 c.requires.bits in
    let grown = c.halves.ensures.grown in (
      search rules,
      (
        omega (arith, double, c.split_at.ensures.front_len, c.requires.len),
        (
          subst (HasWords c.halves.new.graph) (sym c.split_at.ensures.front)
              (HasWords-kept c.args.graph.now c.halves.new.graph grown _ (HasWords-take c.args.graph.now c.args.words.now _ c.requires.words)),
          (
            AreAddressBits-kept c.args.graph.now c.halves.new.graph grown c.in-Some.rest.now are.1,
            (
              c.in_ok-low.ensures.low.there,
              (
                grown.words c.args.value c.requires.value,
                omega (arith, double, positive, c.halves.ensures.adds.longer_by, c.requires.room),
              ),
            ),
          ),
        ),
      ),
    )

pub returns-in_err-store-clause-adds : goal.returns-in_err-store-clause-adds
returns-in_err-store-clause-adds t c =
    let double = power-opened c.args.bits.now c.in-Some.top.now c.in-Some.rest.now c.in-Some.ensures.cases.0 in
    store-adds_one c.args.graph.now c.halves.new.graph c.store.new.graph _ _ double (pow_pos (length c.in-Some.rest.now))
    c.halves.ensures.adds c.store.ensures.adds

pub store-requires-2 : goal.store-requires-2
store-requires-2 t c =
    let split = c.in-Some.ensures.cases in
    let double = power-opened c.args.bits.now c.in-Some.top.now c.in-Some.rest.now split.0 in
    let positive = pow_pos (length c.in-Some.rest.now) in
    let are = subst (AreAddressBits c.args.graph.now) split.0 c.requires.bits in
    let grown = c.halves.ensures.grown ▸ c.store.ensures.grown in (
      search rules,
      (
        omega (arith, double, c.split_at.ensures.back_len, c.split_at.ensures.front_len, c.requires.len),
        (
          subst (HasWords c.store.new.graph) (sym c.split_at.ensures.back)
              (HasWords-kept c.args.graph.now c.store.new.graph grown _ (HasWords-drop c.args.graph.now c.args.words.now _ c.requires.words)),
          (
            AreAddressBits-kept c.args.graph.now c.store.new.graph grown c.in-Some.rest.now are.1,
            (
              c.store.ensures.grown.bits c.in_ok-low.high c.in_ok-low.ensures.high.there,
              (
                grown.words c.args.value c.requires.value,
                omega (arith, double, positive, c.halves.ensures.adds.longer_by, c.store.ensures.adds.longer_by, c.requires.room),
              ),
            ),
          ),
        ),
      ),
    )

pub returns-clause-stored : goal.returns-clause-stored
returns-clause-stored t c =
    let split = c.in-Some.ensures.cases in
    let double = power-opened c.args.bits.now c.in-Some.top.now c.in-Some.rest.now split.0 in
    OnOk-map _ _ (λ second.
    Appends-halves c.args.graph.now c.halves.new.graph c.store.new.graph c.store-2.new.graph
    c.halves.ensures.grown c.store.ensures.grown c.store-2.ensures.grown
    c.args.words.now c.split_at.result.0.now c.split_at.result.1.now c.args.bits.now c.in-Some.top.now c.in-Some.rest.now
    c.args.here c.in_ok-low.low c.in_ok-low.high c.args.value
    c.args.out.now.items c.store.new.out.items c.store-2.new.out.items _
    c.split_at.ensures.front c.split_at.ensures.back split.0 (omega (arith, double, c.requires.len)) c.requires.len
    c.requires.words c.requires.bits c.requires.here c.requires.value
    c.in_ok-low.ensures.low c.in_ok-low.ensures.high c.in_ok-low.ensures.inputs c.in_ok-store.ensures.stored second)
    c.store-2.result c.store-2.ensures.stored

pub returns-clause-grown : goal.returns-clause-grown
returns-clause-grown t c = c.halves.ensures.grown ▸ c.store.ensures.grown ▸ c.store-2.ensures.grown

pub returns-clause-adds : goal.returns-clause-adds
returns-clause-adds t c =
    let double = power-opened c.args.bits.now c.in-Some.top.now c.in-Some.rest.now c.in-Some.ensures.cases.0 in
    store-adds_two c.args.graph.now c.halves.new.graph c.store.new.graph c.store-2.new.graph _ _ double (pow_pos (length c.in-Some.rest.now))
    c.halves.ensures.adds c.store.ensures.adds c.store-2.ensures.adds
