use Rattle.std.proofs.Common.{List, length, sym, subst}
use Rattle.wb_port.specs.declared.accesses.Kind.{Kind}
use Rattle.wb_port.specs.declared.accesses.Kind.TheVariants as kind
use Rattle.wb_compare.specs.Growing.{kinds_of, next_if}
use Rattle.wb_compare.specs.Working.{Visits}
use Rattle.wb_compare.proofs.Joints.{on_ok, fresh_read, fresh_write, nexts_open, silent_here}
use Rattle.wb_compare.proofs.Going.{pair_later}
use Rattle.wb_compare.proofs.Deeper.{visits_on}
use Rattle.wb_compare.proofs.levels.visit.Goals as goal

pub visit_next-requires-clause-fresh : goal.visit_next-requires-clause-fresh
visit_next-requires-clause-fresh g c = fresh_read c.args.question.now.shape c.args.pair.now c.args.work.now.purse.reached (silent_here c.args.pair.now c.is_silent.result c.is_silent.ensures c.if-is_silent.false) c.requires.fresh

pub visit_next-requires-2-clause-pair : goal.visit_next-requires-2-clause-pair
visit_next-requires-2-clause-pair g c = pair_later c.args.a.now c.args.b.now c.args.question.now c.layers_stay.ensures c.args.work.now c.visit_next.new.work c.in_ok-visit_next.ensures.visits.later (kinds_of c.args.pair.now) c.args.pair.now c.requires.pair

pub visit_next-requires-2-clause-fresh : goal.visit_next-requires-2-clause-fresh
visit_next-requires-2-clause-fresh g c = fresh_write c.args.a.now c.args.b.now c.args.question.now c.args.pair.now c.args.work.now c.visit_next.new.work c.args.next.now.items c.visit_next.new.next.items (silent_here c.args.pair.now c.is_silent.result c.is_silent.ensures c.if-is_silent.false) c.requires.fresh c.in_ok-visit_next.ensures.visits

pub returns-clause-visits : goal.returns-clause-visits
returns-clause-visits g c = on_ok c.visit_next-2.result (λ h. subst (λ (cs : List (List Kind)). Visits c.args.a.now c.args.b.now c.args.question.now (length (kinds_of c.args.pair.now)) cs c.args.work.now c.visit_next-2.new.work c.args.next.now.items c.visit_next-2.new.next.items) (sym (nexts_open c.args.question.now.shape c.args.pair.now (silent_here c.args.pair.now c.is_silent.result c.is_silent.ensures c.if-is_silent.false))) (visits_on c.args.a.now c.args.b.now c.args.question.now c.layers_stay.ensures (length (kinds_of c.args.pair.now)) (next_if c.args.question.now.shape (kinds_of c.args.pair.now) kind.Read) (next_if c.args.question.now.shape (kinds_of c.args.pair.now) kind.Write) c.args.work.now c.visit_next.new.work c.visit_next-2.new.work c.args.next.now.items c.visit_next.new.next.items c.visit_next-2.new.next.items c.in_ok-visit_next.ensures.visits h)) c.visit_next-2.ensures.visits
