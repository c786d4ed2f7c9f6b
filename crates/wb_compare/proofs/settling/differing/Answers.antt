use Rattle.std.proofs.Common.{sym, subst, arith}
use Rattle.wb_compare.proofs.Replying.{shows_different, differing_same}
use Rattle.wb_compare.proofs.Talks.{allowed_few}
use Rattle.wb_port.specs.Talk.{Talk}
use Rattle.wb_compare.specs.Verdicts.{IsVerdict}
use Rattle.wb_compare.specs.declared.verdicts.Verdict.TheVariants as verdict
use Rattle.wb_compare.proofs.settling.differing.Goals as goal

pub dialogue_of-requires : goal.dialogue_of-requires
dialogue_of-requires c = record { few = (let n = allowed_few c.run_laws.ensures c.args.question.now c.requires.question c.args.kinds.now c.requires.allowed in let m = c.requires.question.few in omega arith) }

pub returns : goal.returns
returns c = subst (λ (d : Talk). IsVerdict c.args.a.now c.args.b.now c.args.question.now (verdict.Different d)) (sym (differing_same c.push.new.self c.in_ok-dialogue.dialogue c.differing_access-access.result _ _ c.in_ok-push.ensures.ok c.in_ok-dialogue.ensures c.differing_access-access.ensures.value)) (shows_different c.args.a.now c.args.b.now c.args.question.now c.args.kinds.now c.run_laws.ensures c.requires.question c.requires.allowed c.args.graph.now c.args.circuits.now c.requires.circuits c.differences_are_shown.ensures c.requires.below c.args.inputs.now c.requires.apart)
