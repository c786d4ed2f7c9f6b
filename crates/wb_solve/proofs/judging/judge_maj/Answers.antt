use Rattle.std.proofs.Common.{[], ◌∷◌}
use Rattle.wb_gate.specs.Circuit.{minus}
use Rattle.wb_solve.specs.Judging.{IsFound}
use Rattle.wb_solve.proofs.Quiet.{none_quiet, same_four}
use Rattle.wb_solve.proofs.judging.judge_maj.Goals as goal

pub returns : goal.returns
returns c =
    λ p g x y z.
    let a = c.args.g.lit in
    let b = c.args.x.lit in
    let d = c.args.y.lit in
    let e = c.args.z.lit in
    let k = c.minus.result.lit in
    let l = c.minus-2.result.lit in
    let m = c.minus-3.result.lit in
    let n = c.minus-4.result.lit in
    let not_x = c.minus.ensures.seen p x in
    let not_y = c.minus-2.ensures.seen p y in
    let not_z = c.minus-3.ensures.seen p z in
    let not_g = c.minus-4.ensures.seen p g in
    let later = c.judge_pairs-later.ensures p [] g not_x not_y not_z (none_quiet p) in
    let whole = c.judge_pairs.ensures p ((a ∷ k ∷ l ∷ []) ∷ (a ∷ k ∷ m ∷ []) ∷ (a ∷ l ∷ m ∷ []) ∷ []) not_g x y z later in
    same_four (λ k l m n. IsFound p 0 ((n ∷ b ∷ d ∷ []) ∷ (n ∷ b ∷ e ∷ []) ∷ (n ∷ d ∷ e ∷ []) ∷ (a ∷ k ∷ l ∷ []) ∷ (a ∷ k ∷ m ∷ []) ∷ (a ∷ l ∷ m ∷ []) ∷ []) c.judge_pairs.result) k l m n (minus b) (minus d) (minus e) (minus a) c.minus.ensures.lit c.minus-2.ensures.lit c.minus-3.ensures.lit c.minus-4.ensures.lit whole
