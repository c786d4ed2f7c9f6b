use Rattle.wb_compare.proofs.Deeper.{first_level}
use Rattle.std.proofs.Common.{[], ◌∷◌, ap, ◌++◌, List, ◌∙◌}
use Rattle.wb_compare.specs.declared.pairs.Pair.{Pair}
use Rattle.wb_compare.proofs.levels.first_level.Goals as goal

pub returns-clause-level : goal.returns-clause-level
returns-clause-level g c = first_level c.args.a.now c.args.b.now c.args.question.now c.args.work.now c.begin.new.work c.in_ok-pair.pair c.push.new.self (c.in_ok-push.ensures.items ∙ ap (λ (ps : List Pair). ps ++ c.in_ok-pair.pair ∷ []) c.new-pairs.ensures.items) c.requires.fresh c.in_ok-pair.ensures.settles
