use Rattle.std.proofs.Common.{length, sym, subst, arith, rules}
use Rattle.std.proofs.lemmas.Nat.{pow_pos}
use Rattle.wb_fold.specs.Ram.{HasWords, AreAddressBits}
use Rattle.wb_fold.proofs.RamLaws.{HasWords-drop, HasWords-kept, AreAddressBits-kept, IfOk-map, selected-halves, selected-inputs, selected-adds, power-opened}
use Rattle.wb_fold.proofs.select.+select.Goals as goal

pub select-requires-2 : goal.select-requires-2
select-requires-2 t c =
    let split = c.in-Some.ensures.cases in
    let double = power-opened c.args.bits.now c.in-Some.top.now c.in-Some.rest.now split.0 in
    let positive = pow_pos (length c.in-Some.rest.now) in
    let are = subst (AreAddressBits c.args.graph.now) split.0 c.requires.bits in (
      search rules,
      (
        omega (arith, double, c.split_at.ensures.back_len, c.split_at.ensures.front_len, c.requires.len),
        (
          subst (HasWords c.select.new.graph) (sym c.split_at.ensures.back)
              (HasWords-kept c.args.graph.now c.select.new.graph c.select.ensures.grown _ (HasWords-drop c.args.graph.now c.args.words.now _ c.requires.words)),
          (
            AreAddressBits-kept c.args.graph.now c.select.new.graph c.select.ensures.grown c.in-Some.rest.now are.1,
            omega (arith, double, positive, c.select.ensures.adds.longer_by, c.requires.room),
          ),
        ),
      ),
    )

pub mk_ite-requires-clause-room : goal.mk_ite-requires-clause-room
mk_ite-requires-clause-room t c =
    let split = c.in-Some.ensures.cases in
    let double = power-opened c.args.bits.now c.in-Some.top.now c.in-Some.rest.now split.0 in
    let positive = pow_pos (length c.in-Some.rest.now) in
    omega (arith, double, positive, c.select.ensures.adds.longer_by, c.select-2.ensures.adds.longer_by, c.requires.room)

pub returns-clause-value : goal.returns-clause-value
returns-clause-value t c =
    let split = c.in-Some.ensures.cases in
    let double = power-opened c.args.bits.now c.in-Some.top.now c.in-Some.rest.now split.0 in
    IfOk-map _ _ (λ id is_id.
    selected-halves c.args.graph.now c.select.new.graph c.select-2.new.graph c.mk_ite.new.graph c.select.ensures.grown c.select-2.ensures.grown
    c.args.words.now c.split_at.result.0.now c.split_at.result.1.now c.args.bits.now c.in-Some.top.now c.in-Some.rest.now
    c.in_ok-low.low c.in_ok-high.high id _ c.split_at.ensures.front c.split_at.ensures.back split.0
    (omega (arith, double, c.requires.len)) c.requires.len c.requires.words c.requires.bits
    c.in_ok-low.ensures.value c.in_ok-high.ensures.value is_id)
    c.mk_ite.result c.mk_ite.ensures.value

pub returns-clause-inputs : goal.returns-clause-inputs
returns-clause-inputs t c =
    let split = c.in-Some.ensures.cases in
    IfOk-map _ _ (λ id in_id.
    selected-inputs c.args.graph.now c.select.new.graph c.select-2.new.graph c.mk_ite.new.graph c.select.ensures.grown c.select-2.ensures.grown
    c.args.words.now c.split_at.result.0.now c.split_at.result.1.now c.args.bits.now c.in-Some.top.now c.in-Some.rest.now
    c.in_ok-low.low c.in_ok-high.high id _ c.split_at.ensures.front c.split_at.ensures.back split.0
    c.requires.words c.requires.bits c.in_ok-low.ensures.value.there
    c.in_ok-low.ensures.inputs c.in_ok-high.ensures.inputs in_id)
    c.mk_ite.result c.mk_ite.ensures.inputs

pub returns-clause-adds : goal.returns-clause-adds
returns-clause-adds t c =
    let split = c.in-Some.ensures.cases in
    let double = power-opened c.args.bits.now c.in-Some.top.now c.in-Some.rest.now split.0 in
    selected-adds c.args.graph.now c.select.new.graph c.select-2.new.graph c.mk_ite.new.graph _ _ double (pow_pos (length c.in-Some.rest.now))
    c.select.ensures.adds c.select-2.ensures.adds c.mk_ite.ensures.adds
