use Rattle.std.proofs.Common.{◌≡◌, ◌-◌, ◌++◌, [], ◌∷◌, List, ℕ, suc, drop, get_or, arith, ap, sym, ◌∙◌, subst, drop-cons}
use Rattle.wb_term.specs.declared.nodes.BitId.{BitId}
use Rattle.wb_blast.specs.Meeting.{StacksBits}
use Rattle.wb_blast.proofs.Meets.{stacks_bits_more}
use Rattle.wb_blast.proofs.meeting.stack_bits.Goals as goal

pub loop-at-preserved : goal.loop-at-preserved
loop-at-preserved c =
    let some = c.loop-at-test.true in
    let is = c.loop-at.invariant in
    let within = is.within in
    let bits = c.args.bits.now in
    let at = c.loop-at.at in
    let none : BitId = record { number = 0 } in
    let b = get_or bits (at - 1) none in
    let next : suc (at - 1) ≡ at = omega (arith, some) in
    let split : drop (at - 1) bits ≡ b ∷ drop at bits = drop-cons bits (at - 1) none (omega (arith, some, within)) ∙ ap (λ i. b ∷ drop i bits) next in
    record {
      within = omega (arith, within);
      stacks = subst (λ (s : List ℕ). StacksBits (drop (at - 1) bits) s) (sym (c.in_ok-push.ensures.items ∙ ap (λ n. c.loop-at.stack.items ++ n ∷ []) c.number.ensures))
          (subst (λ (s : List BitId). StacksBits s (c.loop-at.stack.items ++ b.number ∷ [])) (sym split)
          (stacks_bits_more (drop at bits) c.loop-at.stack.items b is.stacks));
    }
