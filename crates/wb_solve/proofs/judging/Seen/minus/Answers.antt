use Rattle.wb_solve.proofs.judging.Seen.minus.Goals as goal

pub returns-clause-seen : goal.returns-clause-seen
returns-clause-seen c = λ p seen. c.opposite.ensures p c.args.self.lit seen
