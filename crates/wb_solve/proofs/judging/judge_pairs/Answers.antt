use Rattle.std.proofs.Common.{◌≡◌, ◌+◌, [], ◌∷◌, subst, arith}
use Rattle.wb_solve.specs.Judging.{IsFound}
use Rattle.wb_solve.proofs.judging.judge_pairs.Goals as goal

pub returns : goal.returns
returns c =
    λ p clauses g x y z later.
    let a = c.args.g.lit in
    let k = c.args.x.lit in
    let l = c.args.y.lit in
    let m = c.args.z.lit in
    let start = c.args.number in
    let one : start + 3 ≡ start + 2 + 1 = omega arith in
    let two : start + 2 ≡ start + 1 + 1 = omega arith in
    let third = c.first-last.ensures p (a ∷ l ∷ m ∷ []) clauses (c.three.ensures p g y z) (subst (λ n. IsFound p n clauses c.args.later) one later) in
    let second = c.first-second.ensures p (a ∷ k ∷ m ∷ []) ((a ∷ l ∷ m ∷ []) ∷ clauses) (c.three-2.ensures p g x z) (subst (λ n. IsFound p n ((a ∷ l ∷ m ∷ []) ∷ clauses) c.first-last.result) two third) in
    c.first.ensures p (a ∷ k ∷ l ∷ []) ((a ∷ k ∷ m ∷ []) ∷ (a ∷ l ∷ m ∷ []) ∷ clauses) (c.three-3.ensures p g x y) second
