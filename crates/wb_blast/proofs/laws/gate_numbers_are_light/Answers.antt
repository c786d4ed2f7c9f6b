use Rattle.std.proofs.Common.{ℕ, zero, suc, ◌+◌, ◌<◌, ◌≤◌, List, [], ◌∷◌, slice_get, take, inl, inr, arith}
use Rattle.std.proofs.lemmas.Bool.{cases_eq}
use Rattle.std.proofs.lemmas.List.Sums.{sum_by-cons, sum_by-take-le}
use Rattle.std.specs.List.{sum_by}
use Rattle.wb_term.specs.declared.nodes.Node.{Node}
use Rattle.wb_term.specs.Growth.{total_weight}
use Rattle.wb_term.specs.Nodes.{weight, IsAmong}
use Rattle.wb_term.specs.Terms.{Terms}
use Rattle.wb_blast.specs.Number.{weight_in, weight_at}
use Rattle.wb_blast.proofs.Lists.{sum_of_some}
use Rattle.wb_blast.proofs.laws.gate_numbers_are_light.Goals as goal

-- the numbers below an end
abbrev below : ℕ → List ℕ
below zero = []
below (suc n) = n ∷ below n

below_all : (n j : ℕ) → j < n → IsAmong j (below n)
below_all zero j h = absurd (omega (arith, h))
below_all (suc n) j h = elim (cases_eq j n) [ inl e ↦ inl e | inr ne ↦ inr (below_all n j (omega (arith, h, ne))) ]

-- an end above all numbers of a list
abbrev end_of : List ℕ → ℕ
end_of [] = 0
end_of (k ∷ ks) = suc k + end_of ks

below_end : (ks : List ℕ) (j : ℕ) → IsAmong j ks → j < end_of ks
below_end [] j among = absurd among
below_end (k ∷ ks) j (inl e) = omega (arith, e)
below_end (k ∷ ks) j (inr among) = let less = below_end ks j among in omega (arith, less)

one_more : (ns : List Node) (k : ℕ) → weight_in (slice_get ns k) + sum_by weight (take k ns) ≤ sum_by weight (take (suc k) ns)
one_more [] zero = omega arith
one_more [] (suc k) = omega arith
one_more (n ∷ ns) zero = let step = sum_by-cons weight n (take 0 ns) in omega (arith, step)
one_more (n ∷ ns) (suc k) =
    let before = one_more ns k in
    let step = sum_by-cons weight n (take k ns) in
    let next = sum_by-cons weight n (take (suc k) ns) in
    omega (arith, before, step, next)

sum_below : (g : Terms) (end : ℕ) → sum_by (weight_at g) (below end) ≤ sum_by weight (take end g.nodes)
sum_below g zero = omega arith
sum_below g (suc k) =
    let before = sum_below g k in
    let more = one_more g.nodes k in
    let step = sum_by-cons (weight_at g) k (below k) in
    omega (arith, before, more, step)

pub returns : goal.returns
unfolding total_weight
returns c g bits number is =
    let end = end_of is.ks in
    let some = sum_of_some (weight_at g) is.ks (below end) is.nodes.distinct (λ j among. below_all end j (below_end is.ks j among)) in
    let below_it = sum_below g end in
    let all = sum_by-take-le weight g.nodes end in
    let total = is.total in
    omega (arith, some, below_it, all, total)
