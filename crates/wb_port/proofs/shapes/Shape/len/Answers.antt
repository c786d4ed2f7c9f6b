use Rattle.std.proofs.Common.{◌≤◌, length, sym, ap, ◌∙◌, arith}
use Rattle.std.proofs.lemmas.List.{length-take-le}
use Rattle.wb_port.proofs.shapes.Shape.len.Goals as goal

pub returns-clause-value : goal.returns-clause-value
returns-clause-value c =
    let i = c.self.invariant in
    let small : c.self.inside.len ≤ length c.self.inside.letters = let l = i.0 in let n = i.1 in omega arith in
    sym (ap length (sym c.self.view_is) ∙ length-take-le c.self.inside.len c.self.inside.letters small)
