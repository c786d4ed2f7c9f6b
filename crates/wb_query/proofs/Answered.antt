-- What a sound answer says.
use Rattle.std.proofs.Common.{◌≡◌, ℕ, zero, suc, ◌<◌, Bool, false, List, [], ◌∷◌, length, Some, slice_get, get_or, refl, subst, arith}
use Rattle.wb_gate.specs.Circuit.{Circuit}
use Rattle.wb_solve.specs.declared.search.Answer.{Answer}
use Rattle.wb_solve.specs.declared.search.Answer.TheVariants.{Sat}
use Rattle.wb_solve.specs.Answers.{IsAnswer, IsSat, HasValues}
use Rattle.wb_query.specs.Asking.{AreSatisfying}
use Rattle.wb_query.specs.Oracles.{assigned}

value_there : (values : List Bool) (x : ℕ) → x < length values → slice_get values x ≡ Some (assigned values x)
value_there [] x h = absurd (omega (arith, h))
value_there (b ∷ values) zero h = refl
value_there (b ∷ values) (suc x) h = value_there values x (omega (arith, h))

pub satisfying : (c : Circuit) (limit : ℕ) (answer : Answer) (values : List Bool) → answer ≡ Sat values → IsAnswer c limit answer → AreSatisfying c values
satisfying c limit answer values same is = by (subst (λ (a : Answer). IsAnswer c limit a) same is) where
  by : IsSat c limit values → AreSatisfying c values
  by sat = record {
    count = sat.covers;
    satisfied = sat.satisfied (assigned values) (λ x h. value_there values x (let covers = sat.covers in omega (arith, h, covers)));
  }
