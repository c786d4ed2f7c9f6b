use Rattle.std.proofs.Common.{List, length, ap, subst, arith}
use Rattle.wb_explore.specs.declared.reached.ReachedPoint.{ReachedPoint}
use Rattle.std.specs.Prelude.{Contains}
use Rattle.wb_compare.proofs.Replying.{tables_of, no_weight, nothing_kept}
use Rattle.wb_compare.proofs.Lists.{listed_none}
use Rattle.wb_compare.proofs.comparing.new_work.Goals as goal

pub returns-clause-work : goal.returns-clause-work
returns-clause-work c = record { words = tables_of c.args.a.now c.args.b.now c.in_ok-graph.graph.tables c.in_ok-graph.ensures.one c.in_ok-graph.ensures.two; budget = c.new-purse.ensures.budget; reached = λ x h. absurd (listed_none x (subst (λ (rs : List ReachedPoint). Contains rs x) c.new-purse.ensures.empty h)); kept = nothing_kept c.args.a.now c.args.b.now c.args.question.now c.in_ok-graph.graph c.new-purse.result }

pub returns-clause-spare : goal.returns-clause-spare
returns-clause-spare c = let n = ap length c.in_ok-graph.ensures.empty in let w = no_weight c.in_ok-graph.graph c.in_ok-graph.ensures.empty in record { few = omega arith; light = omega arith }
