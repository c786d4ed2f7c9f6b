use Rattle.std.proofs.Common.{inl, inr, ap, sym, subst, ◌∙◌}
use Rattle.std.proofs.Common.{List}
use Rattle.wb_port.specs.declared.accesses.Kind.{Kind}
use Rattle.wb_explore.specs.declared.plan.Plan.{Plan}
use Rattle.wb_compare.specs.Telling.{AreCircuits, IsTelling}
use Rattle.wb_compare.proofs.Growth.{◌▸◌}
use Rattle.wb_compare.proofs.Replying.{alike_silent, alike_none}
use Rattle.wb_compare.proofs.settling.settle.Goals.{then-len-eq0-via-then-len-eq0, then-len-eq0-via-else-len-eq0+then-len-eq0-2}
use Rattle.wb_compare.proofs.settling.settle.Goals as goal

pub returns-then-len-eq0-clause-alike : goal.returns-then-len-eq0-clause-alike
returns-then-len-eq0-clause-alike g c = alike_silent c.args.a.now c.args.b.now c.args.question.now c.args.pair.now.first.plan.kinds c.args.graph.now c.args.pair.now c.requires.layers (elim c.then-len-eq0.branch [ then-len-eq0-via-then-len-eq0 w ↦ inl (sym c.len.ensures ∙ w.if-len-eq0.true) | then-len-eq0-via-else-len-eq0+then-len-eq0-2 w ↦ inr (sym w.len-else-len-eq0.ensures ∙ w.if-len-eq0-2.true) ])

pub returns-in-None-clause-alike : goal.returns-in-None-clause-alike
returns-in-None-clause-alike g c = alike_none c.args.a.now c.args.b.now c.args.question.now c.args.pair.now.first.plan.kinds c.differences_are_of_replies.ensures c.telling.new.graph c.in_ok-circuits.circuits (subst (λ (ks : List Kind). AreCircuits c.telling.new.graph c.args.a.now c.args.b.now c.args.question.now ks c.in_ok-circuits.circuits) (ap (λ (p : Plan). p.kinds) c.plan.ensures) c.telling.ensures.circuits) c.in_ok-telling.field-0 c.in-None.is (subst (λ (ks : List Kind). IsTelling c.telling.new.graph c.args.question.now ks c.in_ok-circuits.circuits c.in_ok-telling.field-0) (ap (λ (p : Plan). p.kinds) c.plan.ensures) c.in_ok-telling.ensures.telling)

pub returns-in-Some-clause-grown : goal.returns-in-Some-clause-grown
returns-in-Some-clause-grown g c = c.circuits_of.ensures.grown ▸ c.telling.ensures.grown
