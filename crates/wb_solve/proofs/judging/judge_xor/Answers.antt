use Rattle.std.proofs.Common.{[], ◌∷◌}
use Rattle.wb_gate.specs.Circuit.{minus}
use Rattle.wb_solve.specs.Judging.{IsFound}
use Rattle.wb_solve.proofs.Quiet.{none_quiet, same_three}
use Rattle.wb_solve.proofs.judging.judge_xor.Goals as goal

pub returns : goal.returns
returns c =
    λ p g x y.
    let a = c.args.g.lit in
    let b = c.args.x.lit in
    let d = c.args.y.lit in
    let k = c.minus-not_g.result.lit in
    let l = c.minus-not_x.result.lit in
    let m = c.minus-not_y.result.lit in
    let not_g = c.minus-not_g.ensures.seen p g in
    let not_x = c.minus-not_x.ensures.seen p x in
    let not_y = c.minus-not_y.ensures.seen p y in
    let fourth = c.first-last.ensures p (a ∷ b ∷ m ∷ []) [] (c.three.ensures p g x not_y) (none_quiet p) in
    let third = c.first-third.ensures p (a ∷ l ∷ d ∷ []) ((a ∷ b ∷ m ∷ []) ∷ []) (c.three-2.ensures p g not_x y) fourth in
    let second = c.first-second.ensures p (k ∷ l ∷ m ∷ []) ((a ∷ l ∷ d ∷ []) ∷ (a ∷ b ∷ m ∷ []) ∷ []) (c.three-3.ensures p not_g not_x not_y) third in
    let whole = c.first.ensures p (k ∷ b ∷ d ∷ []) ((k ∷ l ∷ m ∷ []) ∷ (a ∷ l ∷ d ∷ []) ∷ (a ∷ b ∷ m ∷ []) ∷ []) (c.three-4.ensures p not_g x y) second in
    same_three (λ k l m. IsFound p 0 ((k ∷ b ∷ d ∷ []) ∷ (k ∷ l ∷ m ∷ []) ∷ (a ∷ l ∷ d ∷ []) ∷ (a ∷ b ∷ m ∷ []) ∷ []) c.first.result) k l m (minus a) (minus b) (minus d) c.minus-not_g.ensures.lit c.minus-not_x.ensures.lit c.minus-not_y.ensures.lit whole
