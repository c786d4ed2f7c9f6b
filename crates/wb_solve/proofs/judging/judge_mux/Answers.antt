use Rattle.std.proofs.Common.{[], ◌∷◌}
use Rattle.wb_gate.specs.Circuit.{minus}
use Rattle.wb_solve.specs.Judging.{IsFound}
use Rattle.wb_solve.proofs.Quiet.{none_quiet, same_four}
use Rattle.wb_solve.proofs.judging.judge_mux.Goals as goal

pub returns : goal.returns
returns c =
    λ p g s x y.
    let a = c.args.g.lit in
    let o = c.args.c.lit in
    let b = c.args.x.lit in
    let d = c.args.y.lit in
    let k = c.minus-not_g.result.lit in
    let l = c.minus-not_c.result.lit in
    let m = c.minus.result.lit in
    let n = c.minus-2.result.lit in
    let not_g = c.minus-not_g.ensures.seen p g in
    let not_s = c.minus-not_c.ensures.seen p s in
    let not_y = c.minus.ensures.seen p y in
    let not_x = c.minus-2.ensures.seen p x in
    let fourth = c.first-last.ensures p (a ∷ o ∷ m ∷ []) [] (c.three.ensures p g s not_y) (none_quiet p) in
    let third = c.first-third.ensures p (k ∷ o ∷ d ∷ []) ((a ∷ o ∷ m ∷ []) ∷ []) (c.three-2.ensures p not_g s y) fourth in
    let second = c.first-second.ensures p (a ∷ l ∷ n ∷ []) ((k ∷ o ∷ d ∷ []) ∷ (a ∷ o ∷ m ∷ []) ∷ []) (c.three-3.ensures p g not_s not_x) third in
    let whole = c.first.ensures p (k ∷ l ∷ b ∷ []) ((a ∷ l ∷ n ∷ []) ∷ (k ∷ o ∷ d ∷ []) ∷ (a ∷ o ∷ m ∷ []) ∷ []) (c.three-4.ensures p not_g not_s x) second in
    same_four (λ k l m n. IsFound p 0 ((k ∷ l ∷ b ∷ []) ∷ (a ∷ l ∷ n ∷ []) ∷ (k ∷ o ∷ d ∷ []) ∷ (a ∷ o ∷ m ∷ []) ∷ []) c.first.result) k l m n (minus a) (minus o) (minus d) (minus b) c.minus-not_g.ensures.lit c.minus-not_c.ensures.lit c.minus.ensures.lit c.minus-2.ensures.lit whole
