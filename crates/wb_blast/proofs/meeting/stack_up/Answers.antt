use Rattle.std.proofs.Common.{◌≡◌, ◌-◌, ◌++◌, [], ◌∷◌, List, ℕ, suc, drop, get_or, arith, ap, sym, ◌∙◌, subst, drop-cons}
use Rattle.wb_blast.specs.Meeting.{Stacks}
use Rattle.wb_blast.proofs.Meets.{stacks_more}
use Rattle.wb_blast.proofs.meeting.stack_up.Goals as goal

pub loop-at-preserved : goal.loop-at-preserved
loop-at-preserved c =
    let some = c.loop-at-test.true in
    let is = c.loop-at.invariant in
    let within = is.within in
    let ns = c.args.numbers.now in
    let at = c.loop-at.at in
    let k = get_or ns (at - 1) 0 in
    let next : suc (at - 1) ≡ at = omega (arith, some) in
    let split : drop (at - 1) ns ≡ k ∷ drop at ns = drop-cons ns (at - 1) 0 (omega (arith, some, within)) ∙ ap (λ i. k ∷ drop i ns) next in
    record {
      within = omega (arith, within);
      stacks = subst (λ (s : List ℕ). Stacks c.args.stack.now.items s (drop (at - 1) ns)) (sym c.in_ok-push.ensures.items)
          (subst (λ (s : List ℕ). Stacks c.args.stack.now.items (c.loop-at.stack.items ++ k ∷ []) s) (sym split)
          (stacks_more c.args.stack.now.items c.loop-at.stack.items (drop at ns) k is.stacks));
    }
