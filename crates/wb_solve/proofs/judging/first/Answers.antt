use Rattle.std.proofs.Common.{subst}
use Rattle.wb_solve.specs.Judging.{IsNext}
use Rattle.wb_solve.proofs.Quiet.{first_stays}
use Rattle.wb_solve.proofs.judging.first.Goals as goal

pub returns-in-Stays : goal.returns-in-Stays
returns-in-Stays c = λ p clause clauses next later. first_stays p c.args.number clause clauses c.args.later (subst (IsNext p clause) c.in-Stays.is next) later
