use Rattle.std.proofs.Common.{refl}
use Rattle.wb_solve.specs.Search.{clauses_in}
use Rattle.wb_solve.specs.declared.decisions.Descents.{Descents}
use Rattle.wb_solve.proofs.Halts.{assumed_ready}
use Rattle.wb_solve.proofs.decisions.Descents.assume.Goals as goal

pub returns : goal.returns
returns c =
    let old = c.args.self.now in
    let new : Descents = record { propagation = record { links = old.propagation.links; trail = c.push-2.new.self }; marks = old.marks; hints = old.hints; assumed = c.push.new.self; next = c.args.var } in
    assumed_ready c.args.formula.now (clauses_in c.args.steps.now) old new c.args.var c.requires.ready c.requires.first refl c.in_ok-push-2.ensures.entries c.in_ok-push-2.ensures.variables c.in_ok-push.ensures.items refl refl c.in_ok-push-2.ensures.few
