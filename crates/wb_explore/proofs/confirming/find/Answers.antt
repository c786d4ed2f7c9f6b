use Rattle.std.proofs.Common.{[], ◌∷◌, sym, arith, rules}
use Rattle.wb_explore.proofs.confirming.find.Goals as goal

pub ask_point-requires-clause-light : goal.ask_point-requires-clause-light
ask_point-requires-clause-light g c = λ n h. let l = c.gate_numbers_are_light.ensures c.args.graph.now (c.args.entry.cond ∷ []) n h in let m = c.requires.light in omega arith

pub returns-in_err-ask_point-clause-cause : goal.returns-in_err-ask_point-clause-cause
returns-in_err-ask_point-clause-cause g c = let u = c.in_err-ask_point.ensures.fault c.args.purse.now (sym c.requires.limit) in search rules
