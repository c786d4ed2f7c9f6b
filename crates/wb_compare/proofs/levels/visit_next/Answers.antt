use Rattle.std.proofs.Common.{List, length, [], ◌∷◌, ◌++◌, sym, subst}
use Rattle.wb_port.specs.declared.accesses.Kind.{Kind}
use Rattle.std.proofs.lemmas.List.{length-append}
use Rattle.wb_compare.specs.Growing.{kinds_of}
use Rattle.wb_compare.specs.Working.{Visits}
use Rattle.wb_compare.specs.declared.pairs.Pair.{Pair}
use Rattle.wb_compare.proofs.Joints.{fresh_if, if_yes, allowed_here}
use Rattle.wb_compare.proofs.Lists.{allowed_next}
use Rattle.wb_compare.proofs.Deeper.{visits_one}
use Rattle.wb_compare.proofs.levels.visit_next.Goals as goal

pub grow-requires-clause-allowed : goal.grow-requires-clause-allowed
grow-requires-clause-allowed g c = allowed_next c.args.question.now.shape (kinds_of c.args.pair.now) c.args.kind c.requires.pair.allowed (allowed_here c.args.question.now.shape (kinds_of c.args.pair.now) c.args.kind c.kinds.result.now c.allows_next.result c.kinds.ensures c.allows_next.ensures c.if-not-allows_next.false)

pub grow-requires-clause-fresh : goal.grow-requires-clause-fresh
grow-requires-clause-fresh g c = fresh_if c.args.question.now.shape (kinds_of c.args.pair.now) c.args.kind c.args.work.now.purse.reached (allowed_here c.args.question.now.shape (kinds_of c.args.pair.now) c.args.kind c.kinds.result.now c.allows_next.result c.kinds.ensures c.allows_next.ensures c.if-not-allows_next.false) c.requires.fresh

pub returns-clause-visits : goal.returns-clause-visits
returns-clause-visits g c = subst (λ (cs : List (List Kind)). Visits c.args.a.now c.args.b.now c.args.question.now (length (kinds_of c.args.pair.now)) cs c.args.work.now c.grow.new.work c.args.next.now.items c.push.new.self.items) (sym (if_yes c.args.question.now.shape (kinds_of c.args.pair.now) c.args.kind (allowed_here c.args.question.now.shape (kinds_of c.args.pair.now) c.args.kind c.kinds.result.now c.allows_next.result c.kinds.ensures c.allows_next.ensures c.if-not-allows_next.false))) (subst (λ (ps : List Pair). Visits c.args.a.now c.args.b.now c.args.question.now (length (kinds_of c.args.pair.now)) ((kinds_of c.args.pair.now ++ c.args.kind ∷ []) ∷ []) c.args.work.now c.grow.new.work c.args.next.now.items ps) (sym c.in_ok-push.ensures.items) (visits_one c.args.a.now c.args.b.now c.args.question.now (length (kinds_of c.args.pair.now)) (kinds_of c.args.pair.now ++ c.args.kind ∷ []) c.args.work.now c.grow.new.work c.args.next.now.items c.in_ok-longer.longer (length-append (kinds_of c.args.pair.now) (c.args.kind ∷ [])) c.in_ok-longer.ensures.settles))
