use Rattle.std.proofs.Common.{◌<◌, ◌+◌, List, ℕ, length, take, get_or, set, sym, subst}
use Rattle.std.proofs.lemmas.List.{take_more}
use Rattle.wb_blast.specs.Walk.{Marks}
use Rattle.wb_blast.proofs.Lists.{Each-index}
use Rattle.wb_blast.proofs.Walk.{Marks-more}
use Rattle.wb_blast.proofs.number.mark.Goals as goal

pub loop-number-preserved : goal.loop-number-preserved
loop-number-preserved c =
    let ns = c.args.numbers.now in
    let i = c.loop-number.number-index in
    let old = c.args.scratch.now in
    let number = get_or ns i 0 in
    let step = Marks-more old c.loop-number.scratch (take i ns) number
    (Each-index (λ k. k < length old) ns i c.requires c.loop-number-test.true) c.loop-number.invariant in
    subst (λ (s : List ℕ). Marks old s (take (i + 1) ns)) (sym c.set_slot.ensures)
    (subst (λ (ks : List ℕ). Marks old (set c.loop-number.scratch number 1) ks) (sym (take_more ns i 0 c.loop-number-test.true)) step)
