use Rattle.std.proofs.Common.{◌≤◌, ℕ, List, arith}
use Rattle.wb_term.specs.declared.nodes.BitId.{BitId}
use Rattle.wb_term.specs.Terms.{Terms}
use Rattle.wb_blast.specs.Number.{IsGateNumber, weight_at}
use Rattle.wb_blast.proofs.Lists.{sum_of_some}
use Rattle.wb_blast.proofs.laws.gate_numbers_agree.Goals as goal

no_more : (g : Terms) (bits : List BitId) (one other : ℕ) → IsGateNumber g bits one → IsGateNumber g bits other → one ≤ other
no_more g bits one other is too =
    let some = sum_of_some (weight_at g) is.ks too.ks is.nodes.distinct (λ j among. too.nodes.all j (is.nodes.each j among)) in
    let total = is.total in let sum = too.total in omega (arith, some, total, sum)

pub returns : goal.returns
returns c g bits one other is too =
    let less = no_more g bits one other is too in
    let more = no_more g bits other one too is in
    omega (arith, less, more)
