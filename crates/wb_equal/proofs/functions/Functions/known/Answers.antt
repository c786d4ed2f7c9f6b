use Rattle.wb_equal.proofs.Boards.{known_is}
use Rattle.wb_equal.proofs.functions.Functions.known.Goals as goal

pub returns-clause-known : goal.returns-clause-known
returns-clause-known c = known_is c.args.self.now c.args.var c.in_ok-known.known c.known_at.ensures.board c.in_ok-known.ensures.at
