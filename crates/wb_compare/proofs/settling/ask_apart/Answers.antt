use Rattle.wb_compare.proofs.Replying.{ended_through}
use Rattle.std.proofs.Common.{◌∙◌, arith}
use Rattle.wb_replies.specs.Differences.{question_of_replies}
use Rattle.std.proofs.Common.{ap, List}
use Rattle.wb_port.specs.declared.accesses.Kind.{Kind}
use Rattle.wb_port.specs.declared.accesses.Kind.TheVariants as kind
use Rattle.wb_compare.specs.Growing.{allows_next}
use Rattle.wb_compare.proofs.settling.ask_apart.Goals as goal

pub ask-found-requires-clause-light : goal.ask-found-requires-clause-light
ask-found-requires-clause-light g c = λ number is. let n = c.gate_numbers_are_light.ensures c.args.graph.now _ number is in let m = c.requires.light in omega arith

pub returns-clause-ended : goal.returns-clause-ended
returns-clause-ended g c = ended_through c.args.a.now c.args.b.now c.args.question.now c.args.kinds.now c.run_laws.ensures c.requires.question c.requires.allowed c.args.graph.now c.args.circuits.now c.requires.circuits c.differences_say_questions.ensures c.args.bit c.requires.telling c.len-nodes.ensures.graph c.different_values_are_no_more.ensures (g.O.Oracle.is_sound c.args.oracle.now) (g.O.Oracle.limit_of c.args.oracle.now) c.requires.limit c.in_ok-query.query c.ask-found.result c.answer_of.result (c.in_ok-query.ensures ∙ ap (question_of_replies c.args.kinds.now) (c.allows_next-wants_read.ensures ∙ ap (λ (ks : List Kind). allows_next c.args.question.now.shape ks kind.Read) c.list.ensures)) c.answer_of.ensures c.ask-found.ensures.fault
