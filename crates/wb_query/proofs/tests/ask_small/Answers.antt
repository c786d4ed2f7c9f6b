use Rattle.std.proofs.Common.{arith}
use Rattle.wb_query.proofs.tests.ask_small.Goals as goal

pub ask-requires-clause-light : goal.ask-requires-clause-light
ask-requires-clause-light g c number is =
    let same = c.gate_numbers_agree.ensures c.args.graph.now _ number c.count_gates.result is c.count_gates.ensures.number in
    let few = c.if-count_gates-gt8000.false in
    omega (arith, same, few)
