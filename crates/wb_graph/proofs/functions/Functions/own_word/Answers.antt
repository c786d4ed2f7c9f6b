use Rattle.std.proofs.Common.{rules, ◌≡◌, arith, subst}
use Rattle.wb_graph.specs.Worlds.{own_variable}
use Rattle.wb_graph.proofs.Boards.{keeps}
use Rattle.wb_graph.proofs.Names.{Naming, naming_more, own_is}
use Rattle.wb_graph.proofs.functions.Functions.own_word.Goals as goal

pub loop-at-preserved : goal.loop-at-preserved
loop-at-preserved c =
    naming_more c.loop-at.names 16 c.loop-at.at c.from.result c.in_ok-names.field-0 (λ k x. x ≡ own_variable c.args.number k) c.loop-at.invariant
    c.loop-at-test.true (search rules) c.in_ok-names.ensures.0 c.in_ok-names.ensures.1

pub returns-clause-function : goal.returns-clause-function
returns-clause-function c =
    let end : c.loop-at.at ≡ 16 = omega (arith, c.loop-at-test.false, c.loop-at.auto.at-end) in
    own_is c.variables.new.diagrams c.args.number c.loop-at.names c.ok.result
    (subst (λ n. Naming c.loop-at.names 16 n (λ k x. x ≡ own_variable c.args.number k)) end c.loop-at.invariant) (search rules)

pub returns-clause-keeps : goal.returns-clause-keeps
returns-clause-keeps c = keeps c.args.self.now c.self.inside.diagrams c.variables.new.diagrams c.self.inside.summaries.items c.self.view_is c.variables.ensures.grown
